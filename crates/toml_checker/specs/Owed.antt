-- Which addresses edits owe.
use Rattle.std.specs.Prelude.{◌≡◌, ◌⊎◌, List, [], ◌∷◌, Option, Some, option_map}
use Rattle.toml_names.specs.model.Addresses.{Address, child}
use Rattle.toml_edits.specs.Carry.{parted}
use Rattle.toml_edits.specs.Edits.{Change, set, insert, rename, remove, new_section, new_element}
use Rattle.toml_edits.specs.Lists.{carried}
use Rattle.toml_checker.specs.CarriedTo.{IsAtOrAbove}

-- where the result of an edit stands right behind it: the address itself, that with the new name, or what the removed stood in
abbrev pub result : Change → Option Address
result (set at value) = Some at
result (insert at value) = Some at
result (rename at to) = option_map (λ w. child w.0 to) (parted at)
result (remove at) = option_map (λ w. w.0) (parted at)
result (new_section at) = Some at
result (new_element at) = Some at

-- what an edit owes at its result: all at it and above it, and, but for a removal, all below it
abbrev pub Owes : Change → Address → Address → Type 0
Owes (remove at) r a = IsAtOrAbove a r
Owes _ r a = IsAtOrAbove a r ⊎ IsAtOrAbove r a

-- some edit owes the address at its result, carried through the edits that follow; a result that is carried nowhere owes nothing
abbrev pub IsOwed : List Change → Address → Type 0
IsOwed [] a = ⊥
IsOwed (c ∷ cs) a = ((r to : Address) × (result c ≡ Some r) × (carried cs r ≡ Some to) × Owes c to a) ⊎ IsOwed cs a
