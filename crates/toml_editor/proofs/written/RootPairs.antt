-- The value of a key at the root is that of a line whose key is not dotted.
use Rattle.std.proofs.Common.{◌≡◌, ℕ, ◌+◌, ◌-◌, ◌&&◌, ◌⊎◌, inl, inr, Bool, true, false, ◌||◌, Option, Some, None, List, [], ◌∷◌, ◌++◌, length, refl, sym, ap, ap₂, ◌∙◌, subst}
use Rattle.std.specs.List.{list_any}
use Rattle.toml_tree.specs.Tree.{Value, Expr, BlankLine, KeyValLine, TableLine, ArrayTableLine, Line}
use Rattle.toml_names.specs.declared.model.address.Step.TheVariants.{Name}
use Rattle.toml_names.specs.declared.mentions.mention.Role.TheVariants.{Valued}
use Rattle.toml_names.specs.model.Addresses.{Address, IsAbove, same_address, child, below}
use Rattle.toml_names.specs.mentions.Keys.{Key, key_names, part_name, rest_names}
use Rattle.toml_names.specs.mentions.Mentions.{Named, named, named_by, named_from, root, fronts, value_named, inside, section, followed, entered, ends_table, ends_tables}
use Rattle.toml_names.proofs.Proved.{inside_is_below}
use Rattle.toml_working.specs.RemoveStanding.{is_pair, is_undotted_at, is_undotted_pair, is_value_at}
use Rattle.std.specs.Bool.{nat_lt}
use Rattle.std.specs.Prelude.{not}
use Rattle.std.proofs.lemmas.Bool.{and_parts}
use Rattle.toml_working.specs.Standing.{Standing, line_stands, standing, standing_from}
use Rattle.toml_editor.specs.StandingLaws.{RootPairIsLine}
use Rattle.toml_editor.proofs.Each.{each_append, each_weaker}
use Rattle.toml_editor.proofs.written.Clear.{same_is, self}
use Rattle.toml_editor.proofs.written.Pairwise.{Has, from_has, has_of_any, has_parts}
use Rattle.toml_editor.proofs.written.RemoveNamed.{NoPair}
use Rattle.toml_editor.proofs.written.StandingHas.{or_left, or_right}

module _ (name : List ℕ) where
  abbrev p : Address
  p = Name name ∷ []

  abbrev IsPair : Named → Type 0
  IsPair m = (m.address ≡ p) × (m.role ≡ Valued)

  -- a key that leads there stands in the root
  in_root : (s : Address) (n : List ℕ) (ns : Key) → below s (n ∷ ns) ≡ p → s ≡ []
  in_root [] n ns is = refl
  in_root (t ∷ []) n ns is = cc
  in_root (t ∷ u ∷ s) n ns is = cc

  not_above : (a : Address) → ¬ (a ≡ []) → ¬ IsAbove a p
  not_above [] some above = some refl
  not_above (s ∷ []) some (t, r, is) = cc
  not_above (s ∷ u ∷ a) some (t, r, is) = cc

  below_some : (s : Address) (n : List ℕ) (ns : Key) → ¬ (below s (n ∷ ns) ≡ [])
  below_some [] n ns is = cc
  below_some (t ∷ s) n ns is = cc

  fronts_none : (line : ℕ) (key : Key) (at : Address) → NoPair p (fronts line at key)
  fronts_none line [] at = tt
  fronts_none line (n ∷ []) at = tt
  fronts_none line (n ∷ m ∷ more) at = ((λ here role. cc), fronts_none line (m ∷ more) (child at n))

  inside_none : (line : ℕ) (to : Address) (v : Value) → ¬ (to ≡ []) → NoPair p (inside line to v)
  inside_none line to v some =
      each_weaker (λ m. IsAbove to m.address) (λ m. m.address ≡ p → ¬ (m.role ≡ Valued)) (λ m above here role. not_above to some (subst (IsAbove to) here above)) (inside line to v)
      (inside_is_below line v to)

  followed_none : (ns : Key) (n : List ℕ) (line : ℕ) (ms : List Named) (end : Address → List Named) (at : Address) → ((here : Address) → NoPair p (end here)) → NoPair p (followed line ms end at (n ∷ ns))
  followed_none [] n line ms end at ends = ends (child at n)
  followed_none (m ∷ ns) n line ms end at ends = ((λ here role. cc), followed_none ns m line ms end (entered ms (child at n)) ends)

  none_of : (ms : List Named) → NoPair p ms → Has IsPair ms → ⊥
  none_of = from_has (λ m. m.address ≡ p → ¬ (m.role ≡ Valued)) IsPair ⊥ (λ m not is. not is.0 is.1)

  -- the line that names it
  on_line : (xs : List Named) (n : ℕ) (l : Line) → Has IsPair (named_by xs n l.expr) → is_undotted_pair p (line_stands xs l) ≡ true
  on_line xs n l there = by l.expr refl
    where
      by : (e : Expr) → l.expr ≡ e → is_undotted_pair p (line_stands xs l) ≡ true
      by (BlankLine b) is = absurd (subst (λ e. Has IsPair (named_by xs n e)) is there)
      by (TableLine ws header tail) is =
          absurd (none_of (named_by xs n (TableLine ws header tail))
          (followed_none (rest_names header.key.rest) (part_name header.key.first) n xs (ends_table n) [] (λ here. ((λ h role. cc), tt)))
          (subst (λ e. Has IsPair (named_by xs n e)) is there))
      by (ArrayTableLine ws header tail) is =
          absurd (none_of (named_by xs n (ArrayTableLine ws header tail))
          (followed_none (rest_names header.key.rest) (part_name header.key.first) n xs (ends_tables n xs) [] (λ here. ((λ h role. cc), ((λ h role. cc), tt))))
          (subst (λ e. Has IsPair (named_by xs n e)) is there))
      by (KeyValLine ws pair tail) is = at_test (same_address to p) refl
        where
          to : Address
          to = below (section xs) (key_names pair.assign.key)

          undotted : is_undotted_pair p (line_stands xs l) ≡ (same_address to p && not (nat_lt (length (section xs)) 0))
          undotted = rw is refl

          at_test : (b : Bool) → same_address to p ≡ b → is_undotted_pair p (line_stands xs l) ≡ true
          at_test true same =
              undotted
              ∙ ap₂ (λ b (s : Address). b && not (nat_lt (length s) 0)) same (in_root (section xs) (part_name pair.assign.key.first) (rest_names pair.assign.key.rest) (same_is to p same))
          at_test false other =
              absurd (none_of (named_by xs n (KeyValLine ws pair tail))
              (each_append _ (fronts n (section xs) (key_names pair.assign.key)) (value_named n Valued to pair.value ∷ inside n to pair.value) (fronts_none n (key_names pair.assign.key) (section xs))
              ((λ here role. apart here), inside_none n to pair.value (below_some (section xs) (part_name pair.assign.key.first) (rest_names pair.assign.key.rest))))
              (subst (λ e. Has IsPair (named_by xs n e)) is there))
            where
              apart : ¬ (to ≡ p)
              apart here = let e : false ≡ true = sym other ∙ subst (λ a. same_address a p ≡ true) (sym here) (self p) in cc

  on_lines : (ls : List Line) (xs : List Named) (n : ℕ) → Has IsPair (named_from xs n ls) → Has IsPair xs ⊎ (list_any (is_undotted_pair p) (standing_from xs n ls) ≡ true)
  on_lines [] xs n there = inl there
  on_lines (l ∷ ls) xs n there = elim (on_lines ls (xs ++ named_by xs n l.expr) (n + 1) there) [
    | inr later ↦ inr (or_right (is_undotted_pair p (line_stands xs l)) _ later)
    | inl before ↦ elim (has_parts IsPair xs (named_by xs n l.expr) before) [
      | inl old ↦ inl old
      | inr here ↦ inr (or_left _ _ (on_line xs n l here))
    ]
  ]

  pub root_pair_is_line : (lines : List Line) → Has IsPair (named lines) → list_any (is_undotted_pair p) (standing_from (root ∷ []) 0 lines) ≡ true
  root_pair_is_line lines there = elim (on_lines lines (root ∷ []) 0 there) [
    | inr found ↦ found
    | inl (inl here) ↦ let e = here.0 in cc
    | inl (inr none) ↦ absurd none
  ]

-- what has a key that is not dotted is a value of a line
some_pair : (p : Address) (ss : List Standing) → list_any (is_undotted_pair p) ss ≡ true → list_any (is_pair p) ss ≡ true
some_pair p [] there = there
some_pair p (s ∷ ss) there = by (is_undotted_pair p s) refl there (some_pair p ss)
  where
    one : (base : Option ℕ) (own : Option Address) → is_undotted_at p base own ≡ true → is_value_at p base own ≡ true
    one None own is = cc
    one (Some n) own is = (and_parts (is_value_at p (Some n) own) (not (nat_lt n (length p - 1))) is).0

    by : (b : Bool) → is_undotted_pair p s ≡ b → (b || list_any (is_undotted_pair p) ss) ≡ true
        → (list_any (is_undotted_pair p) ss ≡ true → list_any (is_pair p) ss ≡ true) → (is_pair p s || list_any (is_pair p) ss) ≡ true
    by true is h more = ap (λ b. b || list_any (is_pair p) ss) (one s.base s.address is)
    by false is h more = or_right (is_pair p s) (list_any (is_pair p) ss) (more h)

pub root_pairs : RootPairIsLine
root_pairs name lines there =
    some_pair (Name name ∷ []) (standing lines) (root_pair_is_line name lines (has_of_any _ (named lines) there))
