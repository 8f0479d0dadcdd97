-- What is noted of an edit is what it names.
use Rattle.std.proofs.Common.{◌≡◌, ℕ, ◌<◌, ◌≤◌, List, length, Option, Some, None, Bool, true, false, cond, refl, sym, ap, ◌∙◌, arith}
use Rattle.std.specs.Prelude.{max, not, ◌&&◌, ◌||◌}
use Rattle.std.specs.Bool.{nat_lt}
use Rattle.std.proofs.lemmas.Bool.Decides.{nat_tests}
use Rattle.toml_names.specs.model.Addresses.{Address}
use Rattle.toml_edits.specs.Edits.{Change, set, insert, rename, remove, new_section, new_element, place}
use Rattle.toml_edits.specs.declared.side.Side.{Side}
use Rattle.toml_edits.specs.declared.side.Side.TheVariants.{Above, At}
use Rattle.toml_checker.specs.declared.tables.Part.{Part}
use Rattle.toml_checker.specs.declared.tables.Part.TheVariants as parts
use Rattle.toml_edits.specs.Fitting.{takes_away}
use Rattle.toml_edits.specs.Notes.{deepest, sort, with_side}
use Rattle.toml_edits.specs.Sides.{is_at, is_at_or_above, is_below}
use Rattle.toml_edits.specs.Trees.{Seen}
use Rattle.toml_checker.specs.Plain.{is_named}
use Rattle.toml_checker.specs.Sights.{more_than, stands_by}

-- what an edit carries away it names, whatever is asked for
gone_set : (part : Part) (base : Option ℕ) (at : Address) (v : List ℕ) → is_named part (set at v) base Above ≡ true
gone_set parts.Line None at v = refl
gone_set parts.Line (Some n) at v = refl
gone_set parts.Home None at v = refl
gone_set parts.Home (Some n) at v = refl
gone_set parts.Element base at v = refl
gone_set parts.Comment base at v = refl

gone_at : (part : Part) (base : Option ℕ) (at : Address) → is_named part (remove at) base At ≡ true
gone_at parts.Line None at = refl
gone_at parts.Line (Some n) at = refl
gone_at parts.Home None at = refl
gone_at parts.Home (Some n) at = refl
gone_at parts.Element base at = refl
gone_at parts.Comment base at = refl

gone_above : (part : Part) (base : Option ℕ) (at : Address) → is_named part (remove at) base Above ≡ true
gone_above parts.Line None at = refl
gone_above parts.Line (Some n) at = refl
gone_above parts.Home None at = refl
gone_above parts.Home (Some n) at = refl
gone_above parts.Element base at = refl
gone_above parts.Comment base at = refl

pub named_away : (part : Part) (base : Option ℕ) (c : Change) (x : Side) → takes_away c x ≡ true → is_named part c base x ≡ true
named_away part base (set at v) Above h = gone_set part base at v
named_away part base (remove at) At h = gone_at part base at
named_away part base (remove at) Above h = gone_above part base at
named_away part base (insert at v) At h = cc
named_away part base (rename at to) At h = cc
named_away part base (new_section at) At h = cc
named_away part base (new_element at) At h = cc
named_away part base _ _ h = cc

-- of what an edit carries on: whether it sets it, has its place below it, renames at it or above it
abbrev pub hit : Change → Side → Bool
hit c x = is_at x && (sort c).sets

abbrev pub lifted : Change → Side → Bool
lifted c x = is_at_or_above x && (sort c).renames

line_header : (c : Change) (x : Side) → takes_away c x ≡ false → is_named parts.Line c None x ≡ hit c x || lifted c x
line_header (set at v) Above h = cc
line_header (remove at) At h = cc
line_header (remove at) Above h = cc
line_header (insert at v) At h = refl
line_header (rename at to) At h = refl
line_header (new_section at) At h = refl
line_header (new_element at) At h = refl
line_header _ _ h = refl

line_pair : (n : ℕ) (c : Change) (x : Side) → takes_away c x ≡ false → is_named parts.Line c (Some n) x ≡ hit c x || (is_below x || (lifted c x && nat_lt n (length (place c))))
line_pair n (set at v) Above h = cc
line_pair n (remove at) At h = cc
line_pair n (remove at) Above h = cc
line_pair n (insert at v) At h = refl
line_pair n (rename at to) At h = refl
line_pair n (new_section at) At h = refl
line_pair n (new_element at) At h = refl
line_pair n _ _ h = refl

home_header : (c : Change) (x : Side) → takes_away c x ≡ false → is_named parts.Home c None x ≡ hit c x
home_header (set at v) Above h = cc
home_header (remove at) At h = cc
home_header (remove at) Above h = cc
home_header (insert at v) At h = refl
home_header (rename at to) At h = refl
home_header (new_section at) At h = refl
home_header (new_element at) At h = refl
home_header _ _ h = refl

home_pair : (n : ℕ) (c : Change) (x : Side) → takes_away c x ≡ false → is_named parts.Home c (Some n) x ≡ false
home_pair n (set at v) Above h = cc
home_pair n (remove at) At h = cc
home_pair n (remove at) Above h = cc
home_pair n (insert at v) At h = refl
home_pair n (rename at to) At h = refl
home_pair n (new_section at) At h = refl
home_pair n (new_element at) At h = refl
home_pair n _ _ h = refl

element_part : (base : Option ℕ) (c : Change) (x : Side) → takes_away c x ≡ false → is_named parts.Element c base x ≡ hit c x || is_below x
element_part base (set at v) Above h = cc
element_part base (remove at) At h = cc
element_part base (remove at) Above h = cc
element_part base (insert at v) At h = refl
element_part base (rename at to) At h = refl
element_part base (new_section at) At h = refl
element_part base (new_element at) At h = refl
element_part base _ _ h = refl

comment_part : (base : Option ℕ) (c : Change) (x : Side) → takes_away c x ≡ false → is_named parts.Comment c base x ≡ hit c x
comment_part base (set at v) Above h = cc
comment_part base (remove at) At h = cc
comment_part base (remove at) Above h = cc
comment_part base (insert at v) At h = refl
comment_part base (rename at to) At h = refl
comment_part base (new_section at) At h = refl
comment_part base (new_element at) At h = refl
comment_part base _ _ h = refl

-- ---- the depth

more_deep : (k n : ℕ) (r : Option ℕ) → more_than k (deepest (Some n) r) ≡ nat_lt k n || more_than k r
more_deep k n None = by (nat_lt k n)
  where
    by : (b : Bool) → b ≡ b || false
    by true = refl
    by false = refl
more_deep k n (Some m) = by (nat_lt k n) refl (nat_lt k m) refl
  where
    by : (b : Bool) → nat_lt k n ≡ b → (d : Bool) → nat_lt k m ≡ d → nat_lt k (max n m) ≡ b || d
    by true e d f = let l : k < n = grind (arith, nat_tests) in let g : k < max n m = omega arith in grind (arith, nat_tests)
    by false e true f = let l : k < m = grind (arith, nat_tests) in let g : k < max n m = omega arith in grind (arith, nat_tests)
    by false e false f =
        let l : n ≤ k = grind (arith, nat_tests) in
        let m' : m ≤ k = grind (arith, nat_tests) in
        let g : max n m ≤ k = omega arith in grind (arith, nat_tests)

more_if : (b : Bool) (k n : ℕ) (r : Option ℕ) → more_than k (cond b (deepest (Some n) r) r) ≡ (b && nat_lt k n) || more_than k r
more_if false k n r = refl
more_if true k n r = more_deep k n r

-- ---- the tests joined

not_or : (b d : Bool) → not (b || d) ≡ not b && not d
not_or true d = refl
not_or false d = refl

mix_two : (h l s m : Bool) → not ((h || s) || (l || m)) ≡ not (h || l) && not (s || m)
mix_two true l s m = refl
mix_two false true true m = refl
mix_two false true false m = refl
mix_two false false s m = refl

mix_three : (h b l s d m : Bool) → not ((h || s) || ((b || d) || (l || m))) ≡ not (h || (b || l)) && not (s || (d || m))
mix_three true b l s d m = refl
mix_three false true l true d m = refl
mix_three false true l false d m = refl
mix_three false false true true d m = refl
mix_three false false true false true m = refl
mix_three false false true false false m = refl
mix_three false false false s d m = refl

placed : (n : ℕ) → 0 < n → nat_lt 0 n ≡ true
placed n h = grind (arith, nat_tests)

and_true : (b : Bool) → b && true ≡ b
and_true true = refl
and_true false = refl

-- what an edit that carries the thing on adds, and whether it names the part
pub noted_tells : (part : Part) (base : Option ℕ) (c : Change) (x : Side) (n : ℕ) → n ≡ length (place c) → 0 < n → takes_away c x ≡ false → (s : Seen)
    → stands_by part base (with_side (sort c) n x s) ≡ not (is_named part c base x) && stands_by part base s
noted_tells parts.Line None c x n is some h s =
    let m : more_than 0 (cond (lifted c x) (deepest (Some n) s.renamed) s.renamed) ≡ lifted c x || more_than 0 s.renamed =
    more_if (lifted c x) 0 n s.renamed ∙ ap (λ (b : Bool). (lifted c x && b) || more_than 0 s.renamed) (placed n some) ∙ ap (λ (b : Bool). b || more_than 0 s.renamed) (and_true (lifted c x)) in
    ap (λ (b : Bool). not ((hit c x || s.set) || b)) m ∙ mix_two (hit c x) (lifted c x) s.set (more_than 0 s.renamed) ∙ sym (ap (λ (b : Bool). not b && not (s.set || more_than 0 s.renamed)) (line_header c x h))
noted_tells parts.Line (Some k) c x n is some h s =
    let m : more_than k (cond (lifted c x) (deepest (Some n) s.renamed) s.renamed) ≡ (lifted c x && nat_lt k n) || more_than k s.renamed = more_if (lifted c x) k n s.renamed in
    let p : is_named parts.Line c (Some k) x ≡ hit c x || (is_below x || (lifted c x && nat_lt k n)) = line_pair k c x h ∙ ap (λ (j : ℕ). hit c x || (is_below x || (lifted c x && nat_lt k j))) (sym is) in
    ap (λ (b : Bool). not ((hit c x || s.set) || ((is_below x || s.below) || b))) m
    ∙ mix_three (hit c x) (is_below x) (lifted c x && nat_lt k n) s.set s.below (more_than k s.renamed)
    ∙ sym (ap (λ (b : Bool). not b && not (s.set || (s.below || more_than k s.renamed))) p)
noted_tells parts.Home None c x n is some h s = not_or (hit c x) s.set ∙ sym (ap (λ (b : Bool). not b && not s.set) (home_header c x h))
noted_tells parts.Home (Some k) c x n is some h s = sym (ap (λ (b : Bool). not b && true) (home_pair k c x h))
noted_tells parts.Element base c x n is some h s = mix_two (hit c x) (is_below x) s.set s.below ∙ sym (ap (λ (b : Bool). not b && not (s.set || s.below)) (element_part base c x h))
noted_tells parts.Comment base c x n is some h s = not_or (hit c x) s.set ∙ sym (ap (λ (b : Bool). not b && not s.set) (comment_part base c x h))
