-- Comments without a mark, as units of a document and as the code has them.
use Rattle.std.proofs.Common.{◌≡◌, ℕ, suc, ◌+◌, ◌<◌, ◌≤◌, ◌&&◌, ◌↔◌, inl, inr, Bool, true, false, not, if◌then◌else◌, nat_le, List, [], ◌∷◌, length, map, refl, ap, subst, ◌∙◌, arith, add-zero}
use Rattle.std.specs.List.{filter}
use Rattle.std.proofs.lemmas.Bool.Decides.{nat_tests}
use Rattle.toml_tree.specs.Spells.{EachIs, SpellsValue}
use Rattle.toml_tree.specs.Tree.{Value}
use Rattle.toml_units.specs.Blocks.{end}
use Rattle.toml_units.specs.Plain.{Spanned, spanned}
use Rattle.toml_units.specs.Texts.{ReadsIn}
use Rattle.toml_units.specs.Units.{TextUnit, inside}
use Rattle.toml_units.proofs.Proved.{inside_reads_the_text}
use Rattle.toml_checker.specs.Comments.{is_comment, texts, AreCommentsOf, IsCovered, IsNewComment, AreNewFrom}
use Rattle.toml_checker.specs.Marks.{IsSet}
use Rattle.toml_checker.specs.UnmarkedComments.{text_at, unmarked}

-- the comments among units that are not marked
abbrev pub news : List Bool → List TextUnit → List TextUnit
news (m ∷ marks) (u ∷ us) = if is_comment u.kind && not m then u ∷ news marks us else news marks us
news _ _ = []

image : (b : Bool) (u : TextUnit) (us vs : List TextUnit) → map spanned us ≡ map spanned vs → (if b then spanned u ∷ map spanned us else map spanned vs) ≡ map spanned (if b then u ∷ us else vs)
image true u us vs e = refl
image false u us vs e = refl

pub images : (marks : List Bool) (us : List TextUnit) → unmarked marks (map spanned us) ≡ map spanned (news marks us)
images [] us = refl
images (m ∷ marks) [] = refl
images (m ∷ marks) (u ∷ us) = ap (λ xs. if is_comment u.kind && not m then spanned u ∷ xs else xs) (images marks us) ∙ image (is_comment u.kind && not m) u (news marks us) (news marks us) refl

kept_if : (P : TextUnit → Type 0) (b : Bool) (u : TextUnit) (us : List TextUnit) → P u → EachIs P us → EachIs P (if b then u ∷ us else us)
kept_if P true u us h hs = (h, hs)
kept_if P false u us h hs = hs

pub each_new : (P : TextUnit → Type 0) (marks : List Bool) (us : List TextUnit) → EachIs P us → EachIs P (news marks us)
each_new P [] us h = tt
each_new P (m ∷ marks) [] h = tt
each_new P (m ∷ marks) (u ∷ us) h = kept_if P (is_comment u.kind && not m) u (news marks us) h.0 (each_new P marks us h.1)

pub read_at : (text : List ℕ) (u : TextUnit) → ReadsIn text u → text_at text (spanned u) ≡ u.piece.text
read_at text u h =
    let first : nat_le u.piece.start (end u) ≡ true = grind (arith, nat_tests) in
    let low : end u ≤ length text = h.0 in
    let second : nat_le (end u) (length text) ≡ true = grind (arith, nat_tests) in
    rw (first, second) h.1

pub all_read : (text : List ℕ) (us : List TextUnit) → EachIs (ReadsIn text) us → map (text_at text) (map spanned us) ≡ texts us
all_read text [] h = refl
all_read text (u ∷ us) h = let first = read_at text u h.0 in let rest = all_read text us h.1 in λ i. first i ∷ rest i

-- without marks these are all comments
none_marked : (marks : List Bool) (us : List TextUnit) → length marks ≡ length us → ((i : ℕ) → ¬ (IsSet marks i)) → news marks us ≡ filter (λ (u : TextUnit). is_comment u.kind) us
none_marked [] [] long none = refl
none_marked [] (u ∷ us) long none = absurd (omega arith)
none_marked (m ∷ marks) [] long none = absurd (omega arith)
none_marked (true ∷ marks) (u ∷ us) long none = absurd (none 0 refl)
none_marked (false ∷ marks) (u ∷ us) long none = by (is_comment u.kind) (none_marked marks us (omega arith) (λ i s. none (suc i) s))
  where
    by : (b : Bool) → news marks us ≡ filter (λ (x : TextUnit). is_comment x.kind) us → (if b && true then u ∷ news marks us else news marks us) ≡ (if b then u ∷ filter (λ (x : TextUnit). is_comment x.kind) us else filter (λ (x : TextUnit). is_comment x.kind) us)
    by true e = ap (λ xs. u ∷ xs) e
    by false e = e

pub comments_are : (text : List ℕ) (v : Value) → SpellsValue v 0 text → (ss : List Spanned) → ss ≡ map spanned (inside [] v) → (marks : List Bool) → length marks ≡ length (inside [] v) → ((i : ℕ) → ¬ (IsSet marks i))
    → (found : List Spanned) → found ≡ unmarked marks ss → (ts : List (List ℕ)) → ts ≡ map (text_at text) found → AreCommentsOf text ts
comments_are text v spells ss is marks long none found these ts read =
    let us = inside [] v in
    let e : found ≡ map spanned (news marks us) = these ∙ ap (unmarked marks) is ∙ images marks us in
    (v, spells, read ∙ ap (map (text_at text)) e ∙ all_read text (news marks us) (each_new (ReadsIn text) marks us (inside_reads_the_text v [] text spells)) ∙ ap texts (none_marked marks us long none))

is_new : (ps : List (ℕ × ℕ)) (us : List TextUnit) (k : ℕ) (w : TextUnit) (c m : Bool) → is_comment w.kind ≡ c → (m ≡ true) ↔ IsCovered ps us k → c && not m ≡ true → IsNewComment ps us k w
is_new ps us k w true true e h t = cc
is_new ps us k w true false e h t = (e, λ covered. let b = h.1 covered in cc)
is_new ps us k w false m e h t = cc

not_new : (ps : List (ℕ × ℕ)) (us : List TextUnit) (k : ℕ) (w : TextUnit) (c m : Bool) → is_comment w.kind ≡ c → (m ≡ true) ↔ IsCovered ps us k → c && not m ≡ false → ¬ (IsNewComment ps us k w)
not_new ps us k w true true e h t new = new.1 (h.0 refl)
not_new ps us k w true false e h t new = cc
not_new ps us k w false m e h t new = let a = new.0 in cc

-- The definition's list of new comments is this one.
module _ (ps : List (ℕ × ℕ)) (us : List TextUnit) where
  step : (k : ℕ) (w : TextUnit) (ws xs rest : List TextUnit) (m : Bool) → (m ≡ true) ↔ IsCovered ps us k → ((ys : List TextUnit) → AreNewFrom ps us (k + 1) ws ys ↔ (ys ≡ rest))
      → (b : Bool) → is_comment w.kind && not m ≡ b → AreNewFrom ps us k (w ∷ ws) xs ↔ (xs ≡ (if b then w ∷ rest else rest))
  step k w ws xs rest m mark next true t = (to, λ e. inl (new, rest, e, (next rest).1 refl))
    where
      new : IsNewComment ps us k w
      new = is_new ps us k w (is_comment w.kind) m refl mark t

      to : AreNewFrom ps us k (w ∷ ws) xs → xs ≡ w ∷ rest
      to (inl (n, more, e, h)) = e ∙ ap (λ ys. w ∷ ys) ((next more).0 h)
      to (inr (n, h)) = absurd (n new)
  step k w ws xs rest m mark next false t = (to, λ e. inr (old, (next xs).1 e))
    where
      old : ¬ (IsNewComment ps us k w)
      old = not_new ps us k w (is_comment w.kind) m refl mark t

      to : AreNewFrom ps us k (w ∷ ws) xs → xs ≡ rest
      to (inl (n, more, e, h)) = absurd (old n)
      to (inr (n, h)) = (next xs).0 h

  pub new_from : (ws : List TextUnit) (marks : List Bool) (k : ℕ) → length marks ≡ length ws → ((j : ℕ) → j < length ws → IsSet marks j ↔ IsCovered ps us (k + j)) → (xs : List TextUnit) → AreNewFrom ps us k ws xs ↔ (xs ≡ news marks ws)
  new_from [] [] k long h xs = ((λ e. e), (λ e. e))
  new_from [] (m ∷ marks) k long h xs = absurd (omega arith)
  new_from (w ∷ ws) [] k long h xs = absurd (omega arith)
  new_from (w ∷ ws) (m ∷ marks) k long h xs =
      step k w ws xs (news marks ws) m (subst (λ n. (m ≡ true) ↔ IsCovered ps us n) (add-zero k) (h 0 (omega arith)))
      (new_from ws marks (k + 1) (omega arith) (λ j low. let e : k + suc j ≡ (k + 1) + j = omega arith in subst (λ n. IsSet marks j ↔ IsCovered ps us n) e (h (suc j) (omega arith)))) (is_comment w.kind && not m) refl
