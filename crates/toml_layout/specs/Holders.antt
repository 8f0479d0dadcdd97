-- Whether an array or an inline table of a value holds what steps name, or would hold it.
use Rattle.std.specs.Prelude.{ℕ, zero, suc, ◌-◌, Bool, true, false, [], ◌∷◌, Some, None, drop, length, take, if◌then◌else◌}
use Rattle.std.specs.List.{list_all}
use Rattle.toml_names.specs.declared.model.address.Step.{Step}
use Rattle.toml_names.specs.declared.model.address.Step.TheVariants.{Name, Index}
use Rattle.toml_names.specs.model.Addresses.{Address}
use Rattle.toml_layout.specs.Leading.{leads}
use Rattle.toml_layout.specs.Outlines.{ValueOutline, Token, Listed, Braced, EntriesOutline, End, Entry}
use Rattle.toml_layout.specs.SetOutlines.{outlined_names}

abbrev pub is_name : Step → Bool
is_name (Name n) = true
is_name (Index i) = false

-- the steps to the table or the array in which the last one names something
abbrev pub parent_of : Address → Address
parent_of steps = take (length steps - 1) steps

-- An array holds what an index names, and an inline table what names lead to, where no pair of it leads on to their parent; else what the
-- element with the index holds, or that pair.
abbrev mutual
  pub has_holder : ValueOutline → Address → Bool
  has_holder (Token text) steps = false
  has_holder (Listed opening es) [] = false
  has_holder (Listed opening es) (Name n ∷ steps) = false
  has_holder (Listed opening es) (Index i ∷ []) = true
  has_holder (Listed opening es) (Index i ∷ s ∷ steps) = element_holds es i (s ∷ steps)
  has_holder (Braced opening es) [] = false
  has_holder (Braced opening es) (s ∷ steps) = pair_holds es (s ∷ steps)

  pub element_holds : EntriesOutline → ℕ → Address → Bool
  element_holds (End gap) i steps = false
  element_holds (Entry before a v after es) zero steps = has_holder v steps
  element_holds (Entry before a v after es) (suc i) steps = element_holds es i steps

  pub pair_holds : EntriesOutline → Address → Bool
  pair_holds (End gap) steps = list_all is_name steps
  pair_holds (Entry before None v after es) steps = pair_holds es steps
  pair_holds (Entry before (Some a) v after es) steps =
      if leads (outlined_names a) (parent_of steps) then has_holder v (drop (length (outlined_names a)) steps) else pair_holds es steps
