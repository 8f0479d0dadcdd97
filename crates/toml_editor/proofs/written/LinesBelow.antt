-- Lines at a table or below it are header lines there, lines whose dotted key makes it, or lines in the sections of such headers.
use Rattle.std.proofs.Common.{◌≡◌, ◌∙◌, ◌⊎◌, inl, inr, ℕ, ◌==◌, ◌<◌, ◌≤◌, Bool, true, false, ◌&&◌, ◌||◌, Option, Some, None, List, [], ◌∷◌, ◌++◌, length, refl, sym, ap, ap₂, true≢false, append_assoc, arith}
use Rattle.std.specs.Bool.{nat_lt}
use Rattle.std.specs.List.{list_any}
use Rattle.std.proofs.lemmas.Bool.{and_parts, eqb-true, or_cases, or_parts}
use Rattle.std.proofs.lemmas.Bool.Decides.{nat_tests}
use Rattle.toml_names.specs.model.Addresses.{Address, IsAbove, is_above, same_step}
use Rattle.toml_names.proofs.Proved.{above_is_above, same_step-equal}
use Rattle.toml_layout.specs.Beginnings.{begins}
use Rattle.toml_working.specs.declared.lines.Sought.TheVariants as sought
use Rattle.toml_working.specs.Headers.{has_below}
use Rattle.toml_working.specs.Sections.{stands_in}
use Rattle.toml_working.specs.Seeing.{heads_below, is_dotted, is_sought_line}
use Rattle.toml_working.specs.Standing.{Standing, holds, is_below, leads_to, lies_below}
use Rattle.toml_editor.proofs.written.Clear.{above_true}
use Rattle.toml_editor.proofs.written.DocumentSections.{begins_longer}
use Rattle.toml_editor.proofs.written.HeadersAlone.{is_less}
use Rattle.toml_editor.proofs.written.OneSection.{AreSectioned, section_behind}
use Rattle.toml_editor.proofs.written.StandingOrder.{begins_is}
use Rattle.toml_editor.proofs.written.TablesStay.{begins_self}

-- ---- addresses

-- what begins an address begins each other that does, if this is no shorter
pub begins_shorter : (p v a : Address) → begins p a ≡ true → begins v a ≡ true → length p ≤ length v → begins p v ≡ true
begins_shorter [] v a h k long = refl
begins_shorter (s ∷ p) [] a h k long = absurd (omega (arith, long))
begins_shorter (s ∷ p) (t ∷ v) [] h k long = absurd (true≢false (sym h))
begins_shorter (s ∷ p) (t ∷ v) (u ∷ a) h k long =
    let (hs, hp) = and_parts (same_step s u) (begins p a) h in
    let (kt, kv) = and_parts (same_step t u) (begins v a) k in
    ap₂ (λ x y. x && y) (ap (same_step s) (same_step-equal t u kt) ∙ hs) (begins_shorter p v a hp kv (omega (arith, long)))

above_begins : (p a : Address) → IsAbove p a → begins p a ≡ true
above_begins p a (t, rest, is) = ap (begins p) is ∙ begins_longer p (t ∷ rest)

-- what begins an address above another is above that
begins_above : (v p a : Address) → begins v p ≡ true → IsAbove p a → IsAbove v a
begins_above v p a is (u, more, at) = elim (begins_is v p is) [
  | inl same ↦ (u, more, at ∙ ap (λ x. x ++ u ∷ more) (sym same))
  | inr (t, rest, split) ↦ (t, rest ++ u ∷ more, at ∙ ap (λ x. x ++ u ∷ more) split ∙ append_assoc v (t ∷ rest) (u ∷ more))
]

-- the root does not lie below a table
pub root_not_below : (p : Address) → ¬ (p ≡ []) → begins p [] ≡ false
root_not_below [] some = absurd (some refl)
root_not_below (s ∷ p) some = refl

-- ---- dotted keys

-- a line whose dotted key makes a table stands in a section above that
pub section_above : (w p : Address) (base : Option ℕ) (own : Option Address) → stands_in w base own ≡ true → is_dotted p base own ≡ true
    → (begins w p ≡ true) × (length w < length p)
section_above w p None own stands makes = absurd (true≢false (sym stands))
section_above w p (Some n) None stands makes = absurd (true≢false (sym stands))
section_above w p (Some n) (Some a) stands makes =
    let (long, begun) = and_parts (n == length w) (begins w a) stands in
    let (low, above) = and_parts (nat_lt n (length p)) (is_above p a) makes in
    let n_is = eqb-true n (length w) long in
    let shorter = is_less n (length p) low in
    let lower : length w < length p = omega (arith, n_is, shorter) in
    (begins_shorter w p a begun (above_begins p a ((above_is_above p a).0 above)) (omega (arith, lower)), lower)

-- and makes each table between
pub made_between : (w v p : Address) (base : Option ℕ) (own : Option Address) → stands_in w base own ≡ true → is_dotted p base own ≡ true
    → begins v p ≡ true → length w < length v → is_dotted v base own ≡ true
made_between w v p None own stands makes between longer = absurd (true≢false (sym stands))
made_between w v p (Some n) None stands makes between longer = absurd (true≢false (sym stands))
made_between w v p (Some n) (Some a) stands makes between longer =
    let (long, begun) = and_parts (n == length w) (begins w a) stands in
    let (low, above) = and_parts (nat_lt n (length p)) (is_above p a) makes in
    let n_is = eqb-true n (length w) long in
    let shorter : nat_lt n (length v) ≡ true = grind (arith, nat_tests, n_is, longer) in
    ap₂ (λ x y. x && y) shorter (above_true v a (begins_above v p a between ((above_is_above p a).0 above)))

pub dotted_pair : (p : Address) (base : Option ℕ) (own : Option Address) → is_dotted p base own ≡ true → (n : ℕ) × (base ≡ Some n)
dotted_pair p None own makes = absurd (true≢false (sym makes))
dotted_pair p (Some n) own makes = (n, refl)

-- ---- lines

module _ (p : Address) where
  -- what a line is that lies below a table, by the section in which it stands
  of_three : (base : Option ℕ) (own : Option Address) (v : Address) → ((n : ℕ) → base ≡ Some n → stands_in v base own ≡ true) → leads_to p base own ≡ false
      → lies_below p own ≡ true → (heads_below p base own ≡ true) ⊎ (is_dotted p base own ≡ true) ⊎ (begins p v ≡ true)
  of_three None own v stands out is = inl is
  of_three (Some n) None v stands out is = absurd (true≢false (sym is))
  of_three (Some n) (Some a) v stands out is =
      let (long, begun) = and_parts (n == length v) (begins v a) (stands n refl) in
      by (nat_lt n (length p)) refl (begins_is p a is) (eqb-true n (length v) long) begun
    where
      by : (b : Bool) → nat_lt n (length p) ≡ b → (p ≡ a) ⊎ IsAbove p a → n ≡ length v → begins v a ≡ true
          → (heads_below p (Some n) (Some a) ≡ true) ⊎ (is_dotted p (Some n) (Some a) ≡ true) ⊎ (begins p v ≡ true)
      by b low (inl same) n_is begun = absurd (true≢false (sym (begins_self a) ∙ ap (begins a) (sym same) ∙ out))
      by true low (inr above) n_is begun = inr (inl (ap₂ (λ x y. x && y) low (above_true p a above)))
      by false low (inr above) n_is begun =
          let long : length p ≤ length v = grind (arith, nat_tests, low, n_is) in inr (inr (begins_shorter p v a is begun long))

  behind_away : (r : Address) (base : Option ℕ) (own : Option Address) → heads_below p base own ≡ false → begins p r ≡ false
      → begins p (section_behind r base own) ≡ false
  behind_away r (Some n) own none away = away
  behind_away r None None none away = away
  behind_away r None (Some a) none away = none

  -- So of lines behind a section that does not lie below the table, if some lie below it, one is a header line there, or makes the table.
  pub below_has : (ss : List Standing) (r : Address) → begins p r ≡ false → AreSectioned r ss → list_any (holds p) ss ≡ false → list_any (is_below p) ss ≡ true
      → (has_below p ss ≡ true) ⊎ (list_any (is_sought_line sought.Dotted p) ss ≡ true)
  below_has [] r away are none there = absurd (true≢false (sym there))
  below_has (s ∷ ss) r away are none there =
      let (out, rest) = or_parts (holds p s) (list_any (holds p) ss) none in
      by (heads_below p s.base s.address) refl (is_dotted p s.base s.address) refl out
      (λ behind more. below_has ss (section_behind r s.base s.address) behind are.1 rest more)
    where
      by : (h : Bool) → heads_below p s.base s.address ≡ h → (d : Bool) → is_dotted p s.base s.address ≡ d → holds p s ≡ false
          → (begins p (section_behind r s.base s.address) ≡ false → list_any (is_below p) ss ≡ true → (has_below p ss ≡ true) ⊎ (list_any (is_sought_line sought.Dotted p) ss ≡ true))
          → (has_below p (s ∷ ss) ≡ true) ⊎ (list_any (is_sought_line sought.Dotted p) (s ∷ ss) ≡ true)
      by true h d e out more = inl (ap (λ b. b || has_below p ss) h)
      by false h true e out more = inr (ap (λ b. b || list_any (is_sought_line sought.Dotted p) ss) e)
      by false h false e out more =
          let later : list_any (is_below p) ss ≡ true = elim (or_cases (is_below p s) (list_any (is_below p) ss) there) [
            | inl here ↦ elim (of_three s.base s.address r (λ n is. are.0 (n, is)) out here) [
              | inl x ↦ absurd (true≢false (sym x ∙ h))
              | inr (inl x) ↦ absurd (true≢false (sym x ∙ e))
              | inr (inr x) ↦ absurd (true≢false (sym x ∙ away))
            ]
            | inr rest ↦ rest
          ] in
          elim (more (behind_away r s.base s.address h away) later) [
            | inl x ↦ inl (ap₂ (λ a b. a || b) h x)
            | inr x ↦ inr (ap₂ (λ a b. a || b) e x)
          ]
