-- The section from which a dotted key makes a table is one under the table rules.
use Rattle.std.proofs.Common.{◌≡◌, ◌∙◌, inl, inr, ℕ, ◌==◌, ◌<◌, Bool, true, false, ◌&&◌, Option, Some, None, List, [], ◌∷◌, ◌++◌, map, length, refl, sym, ap, ap₂, subst, true≢false, append_assoc, arith}
use Rattle.std.specs.Bool.{nat_lt}
use Rattle.std.specs.List.{list_any}
use Rattle.std.proofs.lemmas.Bool.{and_parts, eqb-true}
use Rattle.std.proofs.lemmas.Bool.Decides.{nat_tests}
use Rattle.toml_tree.specs.Tree.{Line}
use Rattle.toml_names.specs.declared.model.address.Step.{Step}
use Rattle.toml_names.specs.declared.model.address.Step.TheVariants.{Name}
use Rattle.toml_names.specs.mentions.Keys.{Key}
use Rattle.toml_names.specs.mentions.Mentions.{named}
use Rattle.toml_names.specs.mentions.Rules.{KeepsRules}
use Rattle.toml_names.specs.model.Addresses.{Address, IsAbove, below, child, is_above}
use Rattle.toml_names.proofs.Proved.{above_is_above}
use Rattle.toml_layout.specs.Beginnings.{begins}
use Rattle.toml_working.specs.declared.lines.Sought.TheVariants as sought
use Rattle.toml_working.specs.DottedTables.{is_maker, makes_from}
use Rattle.toml_working.specs.InsertingInTables.{key_behind}
use Rattle.toml_working.specs.Sections.{stands_in}
use Rattle.toml_working.specs.Seeing.{is_dotted, is_sought_line}
use Rattle.toml_working.specs.Standing.{Standing, standing}
use Rattle.toml_editor.proofs.written.Clear.{above_true}
use Rattle.toml_editor.proofs.written.DocumentSections.{begins_longer, document_sectioned}
use Rattle.toml_editor.proofs.written.DottedKeys.{key_behind_is}
use Rattle.toml_editor.proofs.written.HeadersAlone.{header_is_alone, is_less}
use Rattle.toml_editor.proofs.written.OneSection.{Heads, AreSectioned, among_before, among_of, heads_within, same_begin, section_over, sectioned_back}
use Rattle.toml_editor.proofs.written.TablesStay.{any_at}

-- ---- addresses

-- what begins an address of a step more, and is shorter, begins the address
front_of : (s rest q : Address) (t : Step) → q ++ t ∷ [] ≡ s ++ rest → length s < length q → (u : Step) × (more : Address) × (q ≡ s ++ u ∷ more)
front_of [] rest [] t is low = absurd (omega (arith, low))
front_of [] rest (u ∷ q) t is low = (u, q, refl)
front_of (w ∷ s) rest [] t is low = absurd (omega (arith, low))
front_of (w ∷ s) rest (u ∷ q) t is low =
    let head : u ≡ w = cc in
    let tail : q ++ t ∷ [] ≡ s ++ rest = cc in
    from head (front_of s rest q t tail (omega (arith, low)))
  where
    from : u ≡ w → (v : Step) × (more : Address) × (q ≡ s ++ v ∷ more) → (v : Step) × (more : Address) × (u ∷ q ≡ w ∷ (s ++ v ∷ more))
    from head (v, more, is) = (v, more, ap (λ x. x ∷ q) head ∙ ap (λ r. w ∷ r) is)

above_on : (s q a : Address) (u : Step) (more : Address) → q ≡ s ++ u ∷ more → IsAbove q a → IsAbove s a
above_on s q a u more is (t, rest, at) = (u, more ++ t ∷ rest, at ∙ ap (λ x. x ++ t ∷ rest) is ∙ append_assoc s (u ∷ more) (t ∷ rest))

-- ---- the line that makes the table

less_is : (m n : ℕ) → m < n → nat_lt m n ≡ true
less_is m n is = let e : nat_lt m n ≡ true = grind (arith, nat_tests, is) in e

module _ (q : Address) (name : List ℕ) (section : Address) (key : Key) (same : child q name ≡ below section key) where
  -- one of the lines, and it stands in that section
  pub record IsMadeBy (ss : List Standing) : Type 0 where
    pub front : List Standing
    pub line : Standing
    pub back : List Standing
    pub was : ss ≡ front ++ line ∷ back
    pub over : section_over [] front ≡ section
    pub at : Address
    pub base : line.base ≡ Some (length section)
    pub own : line.address ≡ Some at
    pub above : IsAbove q at
    pub step : Step
    pub more : Address
    pub begun : q ≡ section ++ step ∷ more

  -- what a test of the line tells
  record IsMaker (base : Option ℕ) (own : Option Address) : Type 0 where
    at : Address
    base_is : base ≡ Some (length section)
    own_is : own ≡ Some at
    low : length section < length q
    above : IsAbove q at

  maker_is : (base : Option ℕ) (own : Option Address) → makes_from section q base own ≡ true → IsMaker base own
  maker_is None own is = absurd (true≢false (sym is))
  maker_is (Some n) None is =
      let (long, dotted) = and_parts (n == length section) false is in absurd (true≢false (sym dotted))
  maker_is (Some n) (Some a) is =
      let (long, dotted) = and_parts (n == length section) (is_dotted q (Some n) (Some a)) is in
      let (low, above) = and_parts (nat_lt n (length q)) (is_above q a) dotted in
      let n_is = eqb-true n (length section) long in
      record {
        at = a;
        base_is = ap Some n_is;
        own_is = refl;
        low = subst (λ k. k < length q) n_is (is_less n (length q) low);
        above = (above_is_above q a).0 above;
      }

  -- the section is the one in which the line stands
  its_section : (r : Address) (at : Address) → stands_in r (Some (length section)) (Some at) ≡ true → begins section at ≡ true → r ≡ section
  its_section r at is begun =
      let (long, begin) = and_parts (length section == length r) (begins r at) is in
      same_begin r section at begin begun (sym (eqb-true (length section) (length r) long))

  pub made_by : (ss : List Standing) → AreSectioned [] ss → list_any (is_maker section q) ss ≡ true → IsMadeBy ss
  made_by ss are made =
      let one = among_of (is_maker section q) ss made in
      let it = maker_is one.line.base one.line.address one.holds in
      let (u, more, begun) = front_of section (map Name key) q (Name name) same it.low in
      let (t, rest, below) = above_on section q it.at u more begun it.above in
      let stands = (sectioned_back one.front (one.line ∷ one.back) [] (subst (AreSectioned []) one.is are)).0 (length section, it.base_is) in
      record {
        front = one.front;
        line = one.line;
        back = one.back;
        was = one.is;
        over =
            its_section (section_over [] one.front) it.at
            (sym (ap₂ (stands_in (section_over [] one.front)) it.base_is it.own_is) ∙ stands)
            (ap (begins section) below ∙ begins_longer section (t ∷ rest));
        at = it.at;
        base = it.base_is;
        own = it.own_is;
        above = it.above;
        step = u;
        more = more;
        begun = begun;
      }

-- ---- two of them

module _ (lines : List Line) (keeps : KeepsRules (named lines)) (q : Address) (name : List ℕ) where
  abbrev ss : List Standing
  ss = standing lines

  -- no section is longer than another
  not_longer : (r s : Address) (k l : Key) (at_r : child q name ≡ below r k) (at_s : child q name ≡ below s l) → IsMadeBy q name r k at_r ss
      → IsMadeBy q name s l at_s ss → ¬ (length r < length s)
  not_longer r s k l at_r at_s first second longer =
      let dotted : is_sought_line sought.Dotted s first.line ≡ true =
      ap₂ (is_dotted s) first.base first.own
      ∙ ap₂ (λ a b. a && b) (less_is (length r) (length s) longer)
      (above_true s first.at (above_on s q first.at second.step second.more second.begun first.above)) in
      let makes : list_any (is_sought_line sought.Dotted s) ss ≡ true =
      ap (list_any (is_sought_line sought.Dotted s)) first.was ∙ any_at (is_sought_line sought.Dotted s) first.front first.line first.back dotted in
      elim (heads_within second.front [] s second.over) [
        | inl root ↦ let e : 0 ≡ length s = ap length root in absurd (omega (arith, e, longer))
        | inr header ↦
            let one = among_before (Heads s) second.front (second.line ∷ second.back) header in
            let there : list_any (is_sought_line sought.Header s) ss ≡ true =
            ap (list_any (is_sought_line sought.Header s)) (second.was ∙ one.is) ∙ any_at (is_sought_line sought.Header s) one.front one.line one.back one.holds in
            true≢false (sym makes ∙ (header_is_alone s lines keeps there).no_dotted)
      ]

  -- so there is one
  pub one_maker : (r s : Address) (k l : Key) → child q name ≡ below r k → child q name ≡ below s l → list_any (is_maker r q) ss ≡ true
      → list_any (is_maker s q) ss ≡ true → r ≡ s
  one_maker r s k l at_r at_s first second =
      let one = made_by q name r k at_r ss (document_sectioned lines) first in
      let two = made_by q name s l at_s ss (document_sectioned lines) second in
      let low = not_longer r s k l at_r at_s one two in
      let high = not_longer s r l k at_s at_r two one in
      same_begin r s q (ap (begins r) one.begun ∙ begins_longer r (one.step ∷ one.more)) (ap (begins s) two.begun ∙ begins_longer s (two.step ∷ two.more))
      (by (nat_lt (length r) (length s)) refl (nat_lt (length s) (length r)) refl low high)
    where
      by : (a : Bool) → nat_lt (length r) (length s) ≡ a → (b : Bool) → nat_lt (length s) (length r) ≡ b → ¬ (length r < length s) → ¬ (length s < length r)
          → length r ≡ length s
      by true less b more low high = absurd (low (is_less (length r) (length s) less))
      by false less true more low high = absurd (high (is_less (length s) (length r) more))
      by false less false more low high = let e : length r ≡ length s = grind (arith, nat_tests, less, more) in e

-- and one key from there
pub one_key : (q : Address) (name : List ℕ) (s : Address) (k l : Key) → child q name ≡ below s k → child q name ≡ below s l → k ≡ l
one_key q name s k l at_k at_l = sym (key_behind_is s k) ∙ ap (key_behind (length s)) (sym at_k ∙ at_l) ∙ key_behind_is s l
