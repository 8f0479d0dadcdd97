-- `rename` in the key of a header, read off the header's own address.
use Rattle.std.proofs.Common.{◌≡◌, ℕ, ◌-◌, Bool, true, false, cond, List, [], ◌∷◌, ◌++◌, refl, sym, ap, ◌∙◌, append-nil, append_assoc}
use Rattle.std.specs.Prelude.{◌==◌}
use Rattle.toml_tree.specs.Tree.{Dotted, Key}
use Rattle.toml_names.specs.declared.model.address.Step.TheVariants.{Name, Index}
use Rattle.toml_names.specs.mentions.Keys.{part_name, rest_names, key_names}
use Rattle.toml_names.specs.mentions.Keys as keys
use Rattle.toml_names.specs.mentions.Mentions.{Named, entered, count_tables}
use Rattle.toml_names.specs.model.Addresses.{Address, child, element}
use Rattle.toml_names.specs.reader.Names.{header_end}
use Rattle.toml_editor.specs.RenamedHeaders.{rename_rest_along, rename_along, RenameAlong, RenameAlongElement}
use Rattle.toml_working.specs.Renaming.{rename_part, rename_rest, rename_key}

module _ (xs : List Named) where
  -- the step that a header puts on where it passes through an array of tables
  abbrev step_in : Address → Address
  step_in here = cond (count_tables xs here == 0) [] (Index (count_tables xs here - 1) ∷ [])

  -- the steps behind a part that led to `here`
  abbrev steps_on : Address → keys.Key → Address
  steps_on here [] = []
  steps_on here (m ∷ ms) = step_in here ++ Name m ∷ steps_on (child (entered xs here) m) ms

  entered_on : (here : Address) → entered xs here ≡ here ++ step_in here
  entered_on here = by (count_tables xs here == 0)
    where
      by : (b : Bool) → cond b here (element here (count_tables xs here - 1)) ≡ here ++ cond b [] (Index (count_tables xs here - 1) ∷ [])
      by true = sym (append-nil here)
      by false = refl

  end_on : (ms : keys.Key) (n : List ℕ) (at : Address) → header_end xs at (n ∷ ms) ≡ child at n ++ steps_on (child at n) ms
  end_on [] n at = sym (append-nil (child at n))
  end_on (m ∷ ms) n at =
      let here = child at n in
      let next = child (entered xs here) m in
      end_on ms m (entered xs here)
      ∙ append_assoc (entered xs here) (Name m ∷ []) (steps_on next ms)
      ∙ ap (λ a. a ++ Name m ∷ steps_on next ms) (entered_on here)
      ∙ append_assoc here (step_in here) (Name m ∷ steps_on next ms)

  module _ (p : Address) (to : List ℕ) where
    -- where a header goes on from a part, and how, with more behind
    abbrev entering : Address → Bool → Address
    entering here b = cond b here (element here (count_tables xs here - 1))

    abbrev behind : Address → Address → Bool → Dotted → List Dotted → Address
    behind here more b d ds = steps_on (child (entering here b) (part_name d.part)) (rest_names ds) ++ more

    abbrev renamed : Address → Dotted → Dotted
    renamed here d = record { before_dot = d.before_dot; after_dot = d.after_dot; part = rename_part p to here d.part }

    rest_along : (ds : List Dotted) (here more : Address)
        → rename_rest p to (entered xs) here ds ≡ rename_rest_along p to here (steps_on here (rest_names ds) ++ more) ds
    rest_along [] here more = sym (none more here)
      where
        none : (steps here : Address) → rename_rest_along p to here steps [] ≡ []
        none [] here = refl
        none (Index i ∷ steps) here = none steps (element here i)
        none (Name n ∷ steps) here = refl
    rest_along (d ∷ ds) here more =
        by (count_tables xs here == 0) (rest_along ds (child (entered xs here) (part_name d.part)) more)
        ∙ ap (λ steps. rename_rest_along p to here steps (d ∷ ds))
        (sym (append_assoc (step_in here)
        (Name (part_name d.part) ∷ steps_on (child (entered xs here) (part_name d.part)) (rest_names ds)) more))
      where
        by : (b : Bool) → rename_rest p to (entered xs) (child (entering here b) (part_name d.part)) ds ≡ rename_rest_along p to
            (child (entering here b) (part_name d.part)) (behind here more b d ds) ds
            → renamed (child (entering here b) (part_name d.part)) d ∷ rename_rest p to (entered xs)
            (child (entering here b) (part_name d.part)) ds
            ≡ rename_rest_along p to here
            (cond b [] (Index (count_tables xs here - 1) ∷ []) ++ (Name (part_name d.part) ∷ behind here more b d ds)) (d ∷ ds)
        by true more_are = ap (λ r. renamed (child here (part_name d.part)) d ∷ r) more_are
        by false more_are = ap (λ r. renamed (child (entering here false) (part_name d.part)) d ∷ r) more_are

    key_along : (k : Key) (more : Address)
        → rename_key p to (entered xs) [] k ≡ rename_along p to [] (header_end xs [] (key_names k) ++ more) k
    key_along k more =
        let n = part_name k.first in
        let here = child [] n in
        ap (λ ds. record { first = rename_part p to here k.first; rest = ds }) (rest_along k.rest here more)
        ∙ ap (λ (steps : Address). rename_along p to [] (steps ++ more) k) (sym (end_on (rest_names k.rest) n []))

pub rename_along_header : RenameAlong
rename_along_header xs k p to =
    key_along xs p to k [] ∙ ap (λ (steps : Address). rename_along p to [] steps k) (append-nil (header_end xs [] (key_names k)))

pub rename_along_element : RenameAlongElement
rename_along_element xs k p to i = key_along xs p to k (Index i ∷ [])
