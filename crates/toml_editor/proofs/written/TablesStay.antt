-- Where the table right above a value stays without the line of the value, so do the tables that the line's key makes.
use Rattle.std.proofs.Common.{◌≡◌, ◌∙◌, ◌⊎◌, inl, inr, ℕ, suc, ◌+◌, ◌-◌, ◌==◌, ◌<◌, ◌≤◌, Bool, true, false, cond, ◌&&◌, ◌||◌, Option, Some, None, List, [], ◌∷◌, ◌++◌, map, length, length-append, take, refl, sym, ap, ap₂, subst, append_assoc, append-nil, true≢false, arith}
use Rattle.std.proofs.Math.Bool.{and-false}
use Rattle.std.specs.Bool.{nat_lt}
use Rattle.std.specs.List.{list_any}
use Rattle.std.specs.Prelude.{flat_map, not, IfSome, IsSome}
use Rattle.std.proofs.lemmas.Bool.{and_parts, eqb-true, or_cases}
use Rattle.std.proofs.lemmas.Bool.Decides.{nat_tests}
use Rattle.std.proofs.lemmas.List.{take-append-le, take_all}
use Rattle.std.proofs.lemmas.Option.{same_Some}
use Rattle.std.proofs.lemmas.List.Folds.{list_any-append}
use Rattle.toml_tree.specs.Spells.{EachIs}
use Rattle.toml_tree.specs.Tree.{Expr, BlankLine, KeyValLine, TableLine, ArrayTableLine, Line}
use Rattle.toml_names.specs.declared.model.address.Step.{Step}
use Rattle.toml_names.specs.declared.model.address.Step.TheVariants.{Name}
use Rattle.toml_names.specs.model.Addresses.{Address, IsAbove, below, child, is_above, same_address}
use Rattle.toml_names.specs.model.Data.{Kinds, IsClosed, IsDataOf}
use Rattle.toml_names.specs.mentions.Keys.{Key, key_names, part_name, rest_names}
use Rattle.toml_names.specs.mentions.Mentions.{Kind, Named, a_table, fronts, named, section}
use Rattle.toml_names.specs.mentions.Rules.{KeepsRules}
use Rattle.toml_names.specs.reader.Names.{own_address}
use Rattle.toml_names.proofs.Proved.{above_is_above, lines_are_closed, own_address_has_fact, same_step-self}
use Rattle.toml_units.specs.Units.{line_base}
use Rattle.toml_layout.specs.Beginnings.{begins}
use Rattle.toml_working.specs.RemoveStanding.{is_pair, is_undotted_at, is_undotted_pair, is_value_at, left_standing, makes, makes_beside, removed_one}
use Rattle.toml_layout.specs.Holders.{parent_of}
use Rattle.toml_editor.specs.RemoveLaws.{LeavesTable}
use Rattle.toml_working.specs.Seeing.{heads, heads_below, is_dotted}
use Rattle.toml_working.specs.Sections.{stands_in}
use Rattle.toml_working.specs.Standing.{Standing, is_below, lies_below, line_stands, standing}
use Rattle.toml_editor.proofs.written.Clear.{IsUnder, below-cons, same_is}
use Rattle.toml_editor.proofs.written.DocumentSections.{begins_longer, document_sectioned, headed_at, line_of}
use Rattle.toml_editor.proofs.written.Members.{above_member}
use Rattle.toml_editor.proofs.written.OneSection.{AreSectioned, Heads, among_of, heads_within, same_begin, section_over, sectioned_back}
use Rattle.toml_editor.proofs.written.Plain.{plain_is}
use Rattle.toml_editor.proofs.written.Pairwise.{Has, any_of_has}
use Rattle.toml_editor.proofs.written.RemoveNamed.{taken_lines}
use Rattle.toml_editor.proofs.written.RemoveStanding.{taken_stands}
use Rattle.toml_editor.proofs.written.StandingOrder.{begins_is}
use Rattle.toml_editor.proofs.written.Unplain.{plain_has}

or_true : (b : Bool) → (b || true) ≡ true
or_true true = refl
or_true false = refl

pub begins_self : (a : Address) → begins a a ≡ true
begins_self a = ap (begins a) (sym (append-nil a)) ∙ begins_longer a []

-- what lies at an address or below it begins with it
pub under_begins : (q a : Address) → IsUnder q a → begins q a ≡ true
under_begins q a (rest, is) = ap (begins q) is ∙ begins_longer q rest

-- the line of a value stands at its address
pub value_below : (p : Address) (base : Option ℕ) (own : Option Address) → is_value_at p base own ≡ true → lies_below p own ≡ true
value_below p None own is = cc
value_below p (Some n) None is = cc
value_below p (Some n) (Some a) is = subst (λ x. begins x a ≡ true) (same_is a p is) (begins_self a)

module _ (p q : Address) where
  -- a line that makes the table beside the value stays
  gone_makes_none : (s : Standing) → is_pair p s ≡ true → makes_beside q p s ≡ false
  gone_makes_none s is = ap (λ b. makes q s.base s.address && not b) (value_below p s.base s.address is) ∙ and-false (makes q s.base s.address)

  makers_stay : (ss : List Standing) → list_any (makes_beside q p) ss ≡ true
      → list_any (makes_beside q p) (flat_map (removed_one p true) ss) ≡ true
  makers_stay [] there = there
  makers_stay (s ∷ ss) there = by (is_pair p s) refl (makers_stay ss)
    where
      later : Bool
      later = list_any (makes_beside q p) (flat_map (removed_one p true) ss)

      by : (b : Bool) → is_pair p s ≡ b → (list_any (makes_beside q p) ss ≡ true → later ≡ true)
          → list_any (makes_beside q p) (cond b (left_standing s) (s ∷ []) ++ flat_map (removed_one p true) ss) ≡ true
      by true is more =
          list_any-append (makes_beside q p) (left_standing s) (flat_map (removed_one p true) ss)
          ∙ ap (λ b. list_any (makes_beside q p) (left_standing s) || b)
          (more (ap (λ b. b || list_any (makes_beside q p) ss) (sym (gone_makes_none s is)) ∙ there))
          ∙ or_true (list_any (makes_beside q p) (left_standing s))
      by false is more =
          elim (or_cases (makes_beside q p s) (list_any (makes_beside q p) ss) there) [
            | inl here ↦ ap (λ b. b || later) here
            | inr k ↦ ap (λ b. makes_beside q p s || b) (more k) ∙ or_true (makes_beside q p s)
          ]

  -- such a line stands at the table or below it
  pub begins_under : (a : Address) → begins q a ≡ true → IsUnder q a
  begins_under a is = elim (begins_is q a is) [
    | inl same ↦ ([], sym same ∙ sym (append-nil q))
    | inr above ↦ (above.0 ∷ above.1, above.2)
  ]

  dotted_under : (base : Option ℕ) (own : Option Address) → is_dotted q base own ≡ true → (a : Address) × (own ≡ Some a) × IsUnder q a
  dotted_under None own is = cc
  dotted_under (Some n) None is = cc
  dotted_under (Some n) (Some a) is =
      let above = (above_is_above q a).0 (and_parts (nat_lt n (length q)) (is_above q a) is).1 in
      (a, refl, (above.0 ∷ above.1, above.2))

  headed_under : (base : Option ℕ) (own : Option Address) → heads_below q base own ≡ true → (a : Address) × (own ≡ Some a) × IsUnder q a
  headed_under (Some n) own is = cc
  headed_under None None is = cc
  headed_under None (Some a) is = (a, refl, begins_under a is)

  maker_under : (s : Standing) → makes_beside q p s ≡ true → (a : Address) × (s.address ≡ Some a) × IsUnder q a
  maker_under s is =
      elim (or_cases (is_dotted q s.base s.address) (heads_below q s.base s.address) (and_parts (makes q s.base s.address) (not (is_below p s)) is).0) [
        | inl h ↦ dotted_under s.base s.address h
        | inr h ↦ headed_under s.base s.address h
      ]

  -- so something stands there in the data
  made_has_fact : (lines : List Line) (kinds : Kinds) → IsDataOf (named lines) kinds → list_any (makes_beside q p) (standing lines) ≡ true
      → (r : Address) × IsSome (kinds (q ++ r))
  made_has_fact lines kinds is there =
      let found = among_of (makes_beside q p) (standing lines) there in
      let at = line_of found.front lines [] found.line found.back found.is in
      let (a, own, under) = maker_under found.line found.holds in
      let fact = own_address_has_fact at.first at.rest at.line kinds (subst (λ ls. IsDataOf (named ls) kinds) at.lines_are is) in
      (under.0, subst (λ x. IsSome (kinds x)) under.1 (subst (λ o. IfSome o (λ x. IsSome (kinds x))) (ap (λ (t : Standing). t.address) (sym at.is) ∙ own) fact))

-- ---- the table right above a value

pub parent_is : (q : Address) (last : Step) → parent_of (q ++ last ∷ []) ≡ q
parent_is q last =
    let long : length (q ++ last ∷ []) ≡ length q + 1 = length-append q (last ∷ []) in
    let less : length (q ++ last ∷ []) - 1 ≡ length q = omega (arith, long) in
    ap (λ n. take n (q ++ last ∷ [])) less ∙ take-append-le (length q) q (last ∷ []) (omega arith) ∙ take_all (length q) q (omega arith)

not_over : (q : Address) (last : Step) → begins (q ++ last ∷ []) q ≡ false
not_over [] last = refl
not_over (s ∷ q) last = ap (λ b. b && begins (q ++ last ∷ []) q) (same_step-self s) ∙ not_over q last

-- its header makes it
header_makes : (q : Address) (last : Step) (s : Standing) → Heads q s → makes_beside q (q ++ last ∷ []) s ≡ true
header_makes q last s is = by s.base s.address is (headed_at q s.base s.address is)
  where
    by : (base : Option ℕ) (own : Option Address) → heads q base own ≡ true → own ≡ Some q
        → (makes q base own && not (lies_below (q ++ last ∷ []) own)) ≡ true
    by (Some n) own h at = cc
    by None own h at =
        ap (λ o. lies_below q o && not (lies_below (q ++ last ∷ []) o)) at ∙ ap₂ (λ a b. a && not b) (begins_self q) (not_over q last)

pub any_at : (test : Standing → Bool) (front : List Standing) (s : Standing) (back : List Standing) → test s ≡ true → list_any test (front ++ s ∷ back) ≡ true
any_at test [] s back is = ap (λ b. b || list_any test back) is
any_at test (x ∷ front) s back is = ap (λ b. test x || b) (any_at test front s back is) ∙ or_true (test x)

-- a key has a part
base_low : (xs : List Named) (l : Line) (n : ℕ) (a : Address) → (line_stands xs l).base ≡ Some n → (line_stands xs l).address ≡ Some a → n < length a
base_low xs l n a base own = by l.expr refl
  where
    by : (e : Expr) → l.expr ≡ e → n < length a
    by (BlankLine b) is = none (sym (ap (line_base xs) is) ∙ base)
      where
        none : None ≡ Some n → n < length a
        none e = cc
    by (TableLine ws h tail) is = none (sym (ap (line_base xs) is) ∙ base)
      where
        none : None ≡ Some n → n < length a
        none e = cc
    by (ArrayTableLine ws h tail) is = none (sym (ap (line_base xs) is) ∙ base)
      where
        none : None ≡ Some n → n < length a
        none e = cc
    by (KeyValLine ws pair tail) is =
        let n_is : length (section xs) ≡ n = same_Some _ n (sym (ap (line_base xs) is) ∙ base) in
        let a_is : below (section xs) (key_names pair.assign.key) ≡ a = same_Some _ a (sym (ap (own_address xs) is) ∙ own) in
        let names = map Name (rest_names pair.assign.key.rest) in
        let long : length (section xs ++ Name (part_name pair.assign.key.first) ∷ names) ≡ length (section xs) + suc (length names) =
        length-append (section xs) (Name (part_name pair.assign.key.first) ∷ names) in
        let whole : length (section xs ++ Name (part_name pair.assign.key.first) ∷ names) ≡ length a = ap length a_is in
        omega (arith, n_is, long, whole)

-- the section of a line whose key is not dotted is the table right above its value
own_section : (q at : Address) (last : Step) (base : Option ℕ) (own : Option Address) → is_undotted_at (q ++ last ∷ []) base own ≡ true
    → ((n : ℕ) → base ≡ Some n → stands_in at base own ≡ true) → ((n : ℕ) (a : Address) → base ≡ Some n → own ≡ Some a → n < length a) → at ≡ q
own_section q at last None own is stands low = cc
own_section q at last (Some n) None is stands low = cc
own_section q at last (Some n) (Some a) is stands low =
    let p = q ++ last ∷ [] in
    let (same, few) = and_parts (same_address a p) (not (nat_lt n (length p - 1))) is in
    let (counts, begun) = and_parts (n == length at) (begins at a) (stands n refl) in
    let one : length p ≡ length q + 1 = length-append q (last ∷ []) in
    let two : n < length p = subst (λ x. n < length x) (same_is a p same) (low n a refl refl) in
    let three : n ≡ length at = eqb-true n (length at) counts in
    let four : length p - 1 ≤ n = not_less n (length p - 1) few in
    same_begin at q p (subst (λ x. begins at x ≡ true) (same_is a p same) begun) (begins_longer q (last ∷ []))
    (omega (arith, one, two, three, four))
  where
    not_less : (x y : ℕ) → not (nat_lt x y) ≡ true → y ≤ x
    not_less x y h = let e : y ≤ x = grind (arith, nat_tests, h) in e

-- where the table stays it is the root, or another line makes it
parent_made : (q : Address) (last : Step) (lines : List Line) → LeavesTable lines (q ++ last ∷ [])
    → (q ≡ []) ⊎ (list_any (makes_beside q (q ++ last ∷ [])) (standing lines) ≡ true)
parent_made q last lines there =
    let p = q ++ last ∷ [] in
    elim (or_cases (list_any (is_undotted_pair p) (standing lines)) (list_any (makes_beside (parent_of p) p) (standing lines)) there.1) [
      | inr made ↦ inr (subst (λ x. list_any (makes_beside x p) (standing lines) ≡ true) (parent_is q last) made)
      | inl undotted ↦ headed undotted
    ]
  where
    headed : list_any (is_undotted_pair (q ++ last ∷ [])) (standing lines) ≡ true
        → (q ≡ []) ⊎ (list_any (makes_beside q (q ++ last ∷ [])) (standing lines) ≡ true)
    headed undotted =
        let p = q ++ last ∷ [] in
        let found = among_of (is_undotted_pair p) (standing lines) undotted in
        let at = line_of found.front lines [] found.line found.back found.is in
        let low : (n : ℕ) (a : Address) → found.line.base ≡ Some n → found.line.address ≡ Some a → n < length a = λ n a base own. base_low (named at.first) at.line n a (ap (λ (t : Standing). t.base) (sym at.is) ∙ base) (ap (λ (t : Standing). t.address) (sym at.is) ∙ own) in
        let sectioned = sectioned_back found.front (found.line ∷ found.back) [] (subst (AreSectioned []) found.is (document_sectioned lines)) in
        let is_section = own_section q (section_over [] found.front) last found.line.base found.line.address found.holds (λ n is. sectioned.0 (n, is)) low in
        elim (heads_within found.front [] q is_section) [
          | inl root_is ↦ inl (sym root_is)
          | inr header ↦ inr
              (ap (list_any (makes_beside q p)) (found.is ∙ ap (λ f. f ++ found.line ∷ found.back) header.is
              ∙ append_assoc header.front (header.line ∷ header.back) (found.line ∷ found.back))
              ∙ any_at (makes_beside q p) header.front header.line (header.back ++ found.line ∷ found.back) (header_makes q last header.line header.holds))
        ]

-- ---- all above it

-- where nothing stands, nothing stands at any depth below
pub closed_down : (kinds : Kinds) → IsClosed kinds → (r x : Address) → kinds x ≡ None → kinds (x ++ r) ≡ None
closed_down kinds closed [] x none = ap kinds (append-nil x) ∙ none
closed_down kinds closed (s ∷ r) x none = ap kinds (sym (append_assoc x (s ∷ []) r)) ∙ closed_down kinds closed r (x ++ s ∷ []) (closed x s none)

-- something stands above what stands
stands_up : (kinds : Kinds) → IsClosed kinds → (x r : Address) → IsSome (kinds (x ++ r)) → (k : Kind) × (kinds x ≡ Some k)
stands_up kinds closed x r some = by (kinds x) refl
  where
    by : (o : Option Kind) → kinds x ≡ o → (k : Kind) × (kinds x ≡ Some k)
    by (Some k) is = (k, is)
    by None is = absurd (true≢false (sym (subst IsSome (closed_down kinds closed r x is) some)))

root_stands : (lines : List Line) (kinds : Kinds) → IsDataOf (named lines) kinds → kinds [] ≡ Some a_table
root_stands lines kinds is =
    (is [] a_table).1 (any_of_has _ (named lines) (plain_has lines (λ m. (m.address ≡ []) × (m.kind ≡ a_table)) (subst (Has (λ m. (m.address ≡ []) × (m.kind ≡ a_table))) (sym (plain_is lines)) (inl (refl, refl)))))

-- what stands above the value still does
pub above_stays : (q : Address) (name : List ℕ) (lines : List Line) (after : Kinds) → LeavesTable lines (child q name)
    → KeepsRules (named (taken_lines (child q name) lines)) → IsDataOf (named (taken_lines (child q name) lines)) after
    → (x : Address) → IsAbove x (child q name) → (k : Kind) × (after x ≡ Some k)
above_stays q name lines after leaves keeps is x above =
    let p = child q name in
    let lines' = taken_lines p lines in
    let (r, q_is) = above_member q name x above in
    by (parent_made q (Name name) lines leaves) r q_is
  where
    closed : IsClosed after
    closed = lines_are_closed (taken_lines (child q name) lines) after keeps is

    none_above : (x r : Address) → [] ≡ x ++ r → x ≡ []
    none_above [] r is = refl
    none_above (s ∷ x) r is = cc

    by : (q ≡ []) ⊎ (list_any (makes_beside q (child q name)) (standing lines) ≡ true) → (r : Address) → q ≡ x ++ r → (k : Kind) × (after x ≡ Some k)
    by (inl root_is) r q_is =
        (a_table, ap after (none_above x r (sym root_is ∙ q_is)) ∙ root_stands (taken_lines (child q name) lines) after is)
    by (inr made) r q_is =
        let stays = ap (list_any (makes_beside q (child q name))) (taken_stands (child q name) lines) ∙ makers_stay (child q name) q (standing lines) made in
        let (down, some) = made_has_fact (child q name) q (taken_lines (child q name) lines) after is stays in
        stands_up after closed x (r ++ down) (subst (λ a. IsSome (after a)) (ap (λ a. a ++ down) q_is ∙ append_assoc x r down) some)

-- the tables that a key makes stand above its value
pub fronts_above : (s : Address) (key : Key) → EachIs (λ m. IsAbove m.address (below s key) × (m.kind ≡ a_table)) (fronts 0 s key)
fronts_above s [] = tt
fronts_above s (n ∷ []) = tt
fronts_above s (n ∷ m ∷ more) = (
  ((Name m, map Name more, sym (below-cons s n (m ∷ more))), refl),
  subst (λ to. EachIs (λ x. IsAbove x.address to × (x.kind ≡ a_table)) (fronts 0 (child s n) (m ∷ more))) (below-cons s n (m ∷ more))
      (fronts_above (child s n) (m ∷ more)),
)
