-- What is left where an item goes.
use Rattle.std.proofs.Common.{◌≡◌, ◌∙◌, ◌-◌, ℕ, suc, arith, length, take, Bool, true, false, cond, ◌&&◌, ◌||◌, List, [], ◌∷◌, ◌++◌, refl, ap, sym}
use Rattle.toml_layout.specs.declared.tree.GapPart.{GapPart}
use Rattle.toml_layout.specs.Gaps.{Beside, SplitsLast, begins_line, ends_container, is_comment, is_newline}
use Rattle.toml_layout.specs.Leaving.{ends_in_comment, left_of_last_line, left_with_comma, lines_of, own_left, without_last}

pub ends_is : (ps : List GapPart) (p : GapPart) → ends_in_comment (ps ++ p ∷ []) ≡ is_comment p
ends_is [] p = refl
ends_is (q ∷ []) p = refl
ends_is (q ∷ r ∷ ps) p = ends_is (r ∷ ps) p

-- a newline stands in it
pub newline_in : (ps : List GapPart) (p : GapPart) (rest : List GapPart) → is_newline p ≡ true → begins_line ((ps ++ p ∷ []) ++ rest) ≡ true
newline_in [] p rest one = ap (λ b. b || begins_line rest) one
newline_in (q ∷ ps) p rest one = ap (λ b. is_newline q || b) (newline_in ps p rest one) ∙ by (is_newline q)
  where
    by : (b : Bool) → (b || true) ≡ true
    by true = refl
    by false = refl

no_lines : (ps : List GapPart) → begins_line ps ≡ false → lines_of ps ≡ []
no_lines [] none = refl
no_lines (p ∷ ps) none = ap (λ b. cond b (p ∷ lines_of ps) []) none

up_to : (ps : List GapPart) (p : GapPart) (rest : List GapPart) → is_newline p ≡ true → begins_line rest ≡ false → lines_of ((ps ++ p ∷ []) ++ rest) ≡ ps ++ p ∷ []
up_to [] p rest one none =
    ap (λ b. cond b (p ∷ lines_of rest) []) (ap (λ b. b || begins_line rest) one) ∙ ap (λ t. p ∷ t) (no_lines rest none)
up_to (q ∷ ps) p rest one none =
    ap (λ b. cond b (q ∷ lines_of ((ps ++ p ∷ []) ++ rest)) []) (newline_in (q ∷ ps) p rest one) ∙ ap (λ t. q ∷ t) (up_to ps p rest one none)

pub lines_are : (all lines indent : List GapPart) → SplitsLast all lines indent → lines ≡ lines_of all
lines_are all lines indent split =
    split.ends
    ∙ sym (ap lines_of (split.is ∙ ap (λ l. l ++ indent) split.ends) ∙ up_to split.more split.newline indent split.is_one split.last)

pub begins_so : (all lines indent : List GapPart) → SplitsLast all lines indent → begins_line all ≡ true
begins_so all lines indent split =
    ap begins_line (split.is ∙ ap (λ l. l ++ indent) split.ends) ∙ newline_in split.more split.newline indent split.is_one

pub without_last_cut : (ps : List GapPart) → take (length ps - 1) ps ≡ without_last ps
without_last_cut [] = refl
without_last_cut (p ∷ ps) = ap (λ n. take n (p ∷ ps)) (by (length ps)) ∙ cut p ps
  where
    by : (n : ℕ) → suc n - 1 ≡ n
    by n = omega arith

    cut : (p : GapPart) (ps : List GapPart) → take (length ps) (p ∷ ps) ≡ without_last (p ∷ ps)
    cut p [] = refl
    cut p (q ∷ ps) = ap (λ t. p ∷ t) (cut q ps)

-- ---- what an item leaves by itself

and_false : (a b : Bool) → b ≡ false → (a && b) ≡ false
and_false true b none = none
and_false false b none = refl

pub own_itself : (b : Beside) → ends_container b ≡ false → left_with_comma b ≡ own_left b
own_itself b none =
    sym (ap (λ t. cond t (left_of_last_line (lines_of b.before) b) (left_with_comma b)) (and_false (begins_line b.before) (ends_container b) none))

pub own_no_line : (b : Beside) → begins_line b.before ≡ false → left_with_comma b ≡ own_left b
own_no_line b none =
    sym (ap (λ t. cond (t && ends_container b) (left_of_last_line (lines_of b.before) b) (left_with_comma b)) none)

pub own_line : (b : Beside) (lines indent : List GapPart) → ends_container b ≡ true → SplitsLast b.before lines indent → left_of_last_line lines b ≡ own_left b
own_line b lines indent ends split =
    ap (λ l. left_of_last_line l b) (lines_are b.before lines indent split)
    ∙ sym (ap (λ t. cond (t && ends_container b) (left_of_last_line (lines_of b.before) b) (left_with_comma b)) (begins_so b.before lines indent split)
    ∙ ap (λ t. cond t (left_of_last_line (lines_of b.before) b) (left_with_comma b)) ends)
