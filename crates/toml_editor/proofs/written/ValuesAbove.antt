-- The place of what a line's value is, or holds.
use Rattle.std.proofs.Common.{◌≡◌, ◌⊎◌, inl, inr, ℕ, ◌+◌, Bool, true, false, ◌&&◌, ◌||◌, cond, Option, Some, None, List, [], ◌∷◌, ◌++◌, refl, sym, ap, ◌∙◌, subst, true≢false}
use Rattle.std.specs.List.{list_any}
use Rattle.std.proofs.lemmas.Bool.{cond-true, cond-false}
use Rattle.toml_tree.specs.Tree.{Expr, BlankLine, KeyValLine, TableLine, ArrayTableLine, Line}
use Rattle.toml_names.specs.declared.mentions.mention.Role.TheVariants.{Dotted, Element, Header, Passed, Tables, Valued}
use Rattle.toml_names.specs.declared.model.address.Step.{Step}
use Rattle.toml_names.specs.declared.model.place.Place.{Place}
use Rattle.toml_names.specs.declared.model.place.Place.TheVariants as places
use Rattle.toml_names.specs.mentions.Joining.{is_lone}
use Rattle.toml_names.specs.mentions.Keys.{Key, key_names}
use Rattle.toml_names.specs.mentions.Mentions.{Named, fronts, inside, named, named_by, named_from, root, section, value_named}
use Rattle.toml_names.specs.model.Addresses.{Address, IsAbove, below, is_above, same_address}
use Rattle.toml_names.specs.model.Places.{first_line, in_value, inside as inside_place, line_above, or_else, place, same_role}
use Rattle.toml_names.specs.reader.Names.{own_address}
use Rattle.toml_names.proofs.Proved.{above_is_above, same_address-decides}
use Rattle.toml_units.specs.Units.{line_base}
use Rattle.toml_working.specs.Premises.{HasValue}
use Rattle.toml_working.specs.Standing.{holds, leads_to, line_stands, standing, standing_from}
use Rattle.toml_editor.specs.HeaderLaws.{IsInValue}
use Rattle.toml_editor.proofs.written.Pairwise.{Has, any_of_has, has_append_left, has_append_right, has_weaker}
use Rattle.toml_editor.proofs.written.StandingOrder.{begins_is}

-- a mention of a line's value, which stands at the address or above it
pub record IsOver (q : Address) (m : Named) : Type 0 where
  pub valued : m.role ≡ Valued
  pub not_root : ¬ (m.address ≡ [])
  pub over : (m.address ≡ q) ⊎ IsAbove m.address q

key_not_root : (at : Address) (key : Key) (n : List ℕ) → ¬ (below at (n ∷ key) ≡ [])
key_not_root [] key n is = cc
key_not_root (s ∷ at) key n is = cc

module _ (q : Address) where
  line_over : (xs : List Named) (n : ℕ) (l : Line) → holds q (line_stands xs l) ≡ true → Has (IsOver q) (named_by xs n l.expr)
  line_over xs n l found = by l.expr refl
    where
      at_line : (x : Expr) → l.expr ≡ x → leads_to q (line_base xs x) (own_address xs x) ≡ true
      at_line x is = ap (λ e. leads_to q (line_base xs e) (own_address xs e)) (sym is) ∙ found

      by : (x : Expr) → l.expr ≡ x → Has (IsOver q) (named_by xs n l.expr)
      by (BlankLine b) is = absurd (true≢false (sym (at_line (BlankLine b) is)))
      by (TableLine ws header tail) is = absurd (true≢false (sym (at_line (TableLine ws header tail) is)))
      by (ArrayTableLine ws header tail) is = absurd (true≢false (sym (at_line (ArrayTableLine ws header tail) is)))
      by (KeyValLine ws pair tail) is =
          let to = below (section xs) (key_names pair.assign.key) in
          subst (λ e. Has (IsOver q) (named_by xs n e)) (sym is)
          (has_append_right (IsOver q) (fronts n (section xs) (key_names pair.assign.key)) (value_named n Valued to pair.value ∷ inside n to pair.value)
          (inl (record { valued = refl; not_root = key_not_root (section xs) _ _; over = begins_is to q (at_line (KeyValLine ws pair tail) is) })))

  from_over : (ls : List Line) (xs : List Named) (n : ℕ) → list_any (holds q) (standing_from xs n ls) ≡ true → Has (IsOver q) (named_from xs n ls)
  from_over [] xs n there = absurd (true≢false (sym there))
  from_over (l ∷ ls) xs n there = by (holds q (line_stands xs l)) refl there (λ more. from_over ls (xs ++ named_by xs n l.expr) (n + 1) more)
    where
      up : (ms : List Line) (ys : List Named) (k : ℕ) → Has (IsOver q) ys → Has (IsOver q) (named_from ys k ms)
      up [] ys k h = h
      up (m ∷ ms) ys k h = up ms (ys ++ named_by ys k m.expr) (k + 1) (has_append_left (IsOver q) ys (named_by ys k m.expr) h)

      by : (b : Bool) → holds q (line_stands xs l) ≡ b → (b || list_any (holds q) (standing_from (xs ++ named_by xs n l.expr) (n + 1) ls)) ≡ true
          → (list_any (holds q) (standing_from (xs ++ named_by xs n l.expr) (n + 1) ls) ≡ true → Has (IsOver q) (named_from xs n (l ∷ ls)))
          → Has (IsOver q) (named_from xs n (l ∷ ls))
      by true is h more = up ls (xs ++ named_by xs n l.expr) (n + 1) (has_append_right (IsOver q) xs (named_by xs n l.expr) (line_over xs n l is))
      by false is h more = more h

  -- what a line's value is or holds has a mention of that value over it
  pub value_over : (lines : List Line) → list_any (holds q) (standing lines) ≡ true → Has (IsOver q) (named lines)
  value_over lines there = from_over lines (root ∷ []) 0 there

  -- ---- its place

  -- if none stands above, the value is its own
  first_found : (ms : List Named) → line_above ms q ≡ None → Has (IsOver q) ms → (line : ℕ) × (first_line ms q Valued ≡ Some line)
  first_found [] none h = absurd h
  first_found (m ∷ ms) none h = by (is_above m.address q && same_role m.role Valued) refl none (λ rest more. first_found ms rest more)
    where
      at_test : (b : Bool) → (same_address m.address q && same_role m.role Valued) ≡ b → Has (IsOver q) (m ∷ ms)
          → (is_above m.address q && same_role m.role Valued) ≡ false → (Has (IsOver q) ms → (line : ℕ) × (first_line ms q Valued ≡ Some line))
          → (line : ℕ) × (first_line (m ∷ ms) q Valued ≡ Some line)
      at_test true is there apart further = (m.line, cond-true _ _ _ is)
      at_test false is (inr more) apart further = let found = further more in (found.0, cond-false _ _ _ is ∙ found.1)
      at_test false is (inl it) apart further = elim it.over [
        | inl same ↦ absurd (true≢false (sym (both (same_address m.address q) ((same_address-decides m.address q).1 same) it.valued) ∙ is))
        | inr above ↦ absurd (true≢false (sym (both (is_above m.address q) ((above_is_above m.address q).1 above) it.valued) ∙ apart))
      ]
        where
          both : (b : Bool) → b ≡ true → m.role ≡ Valued → (b && same_role m.role Valued) ≡ true
          both b one role = ap (λ x. x && same_role m.role Valued) one ∙ ap (λ r. same_role r Valued) role

      by : (b : Bool) → (is_above m.address q && same_role m.role Valued) ≡ b → cond b (Some m.line) (line_above ms q) ≡ None
          → (line_above ms q ≡ None → Has (IsOver q) ms → (line : ℕ) × (first_line ms q Valued ≡ Some line))
          → (line : ℕ) × (first_line (m ∷ ms) q Valued ≡ Some line)
      by true is rest further = cc
      by false is rest further = at_test (same_address m.address q && same_role m.role Valued) refl h is (further rest)

  -- else it is inside, if it is named
  inside_found : (ms : List Named) (line : ℕ) → Has (λ m. m.address ≡ q) ms → inside_place ms q line ≡ Some (places.Inside line)
  inside_found [] line h = absurd h
  inside_found (m ∷ ms) line h = by (same_address m.address q) refl h (λ more. inside_found ms line more)
    where
      by : (b : Bool) → same_address m.address q ≡ b → Has (λ x. x.address ≡ q) (m ∷ ms)
          → (Has (λ x. x.address ≡ q) ms → inside_place ms q line ≡ Some (places.Inside line)) → inside_place (m ∷ ms) q line ≡ Some (places.Inside line)
      by true is there further = cond-true _ _ _ is
      by false is (inl same) further = absurd (true≢false (sym ((same_address-decides m.address q).1 same) ∙ is))
      by false is (inr more) further = cond-false _ _ _ is ∙ further more

-- what is named stands in a value, where a value's mention is over it
pub stands_in_value : (q : Address) (ms : List Named) → Has (IsOver q) ms → Has (λ m. m.address ≡ q) ms → IsInValue (place ms q)
stands_in_value [] ms over there = absurd (none ms over)
  where
    none : (xs : List Named) → ¬ Has (IsOver []) xs
    none [] h = h
    none (x ∷ xs) (inr h) = none xs h
    none (x ∷ xs) (inl it) = elim it.over [
      | inl same ↦ it.not_root same
      | inr above ↦ not_above x.address above.0 above.1 above.2
    ]
      where
        not_above : (a : Address) (s : Step) (rest : Address) → ¬ ([] ≡ a ++ s ∷ rest)
        not_above [] s rest is = cc
        not_above (t ∷ a) s rest is = cc
stands_in_value (s ∷ q) ms over there = by (line_above ms (s ∷ q)) refl
  where
    by : (o : Option ℕ) → line_above ms (s ∷ q) ≡ o → IsInValue (place ms (s ∷ q))
    by None is =
        let (line, first) = first_found (s ∷ q) ms is over in
        subst IsInValue (sym (ap (λ o. in_value o ms (s ∷ q)) is ∙ ap (λ o. or_else o places.KeyVal (rest_of ms)) first)) tt
      where
        rest_of : List Named → Option Place
        rest_of xs =
            or_else (first_line xs (s ∷ q) Header) places.Header
            (or_else (first_line xs (s ∷ q) Element) places.Header
            (or_else (first_line xs (s ∷ q) Dotted) places.Dotted
            (or_else (first_line xs (s ∷ q) Tables) places.Tables
            (or_else (first_line xs (s ∷ q) Passed) places.Implicit None))))
    by (Some line) is = subst IsInValue (sym (ap (λ o. in_value o ms (s ∷ q)) is ∙ inside_found (s ∷ q) ms line there)) tt

-- what a mention over an address says: a value stands there
pub value_there : (q : Address) (lines : List Line) (v : Named) → Has (λ y. y ≡ v) (named lines) → IsOver q v → HasValue lines v.address
value_there q lines v among over =
    any_of_has _ (named lines)
    (has_weaker (λ y. y ≡ v) (λ m. (m.address ≡ v.address) × (is_lone m.role ≡ true))
    (λ y is. (ap (λ m. m.address) is, ap (λ m. is_lone m.role) is ∙ ap is_lone over.valued)) (named lines) among)
