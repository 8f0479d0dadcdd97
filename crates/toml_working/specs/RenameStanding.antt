-- `rename` on lines, by what finds them: a line at the address or below it gets the new name in its own address and, where a part of its
-- key stands for the address, the new spelling there; on the line whose value holds what stands at the address that part of a key in
-- the value gets it.
use Rattle.std.specs.Prelude.{ℕ, suc, ◌+◌, ◌-◌, List, [], ◌∷◌, length, set, Option, Some, None, option_map, if◌then◌else◌}
use Rattle.toml_names.specs.declared.model.address.Step.TheVariants.{Name, Index}
use Rattle.toml_names.specs.model.Addresses.{Address}
use Rattle.toml_layout.specs.Outlines.{LineOutline}
use Rattle.toml_layout.specs.RenameOutlines.{rename_outline}
use Rattle.toml_layout.specs.RenamedPairs.{minus, own_part_with}
use Rattle.toml_working.specs.Standing.{Standing, is_below, with_value_outline}

-- how many of the steps are names
abbrev pub names_in : Address → ℕ
names_in [] = 0
names_in (Name n ∷ steps) = suc (names_in steps)
names_in (Index i ∷ steps) = names_in steps

-- which part of a key stands for an address at its own or above it, from 0 on, if one does: of a line with a base the names of its key are
-- the steps behind the base, and of a header the names of its own address
abbrev pub part_number : Address → Option ℕ → Option ℕ
part_number p None = minus (names_in p) 1
part_number p (Some base) = minus (length p) (base + 1)

-- the address with the last name of the first another one
abbrev pub renamed_address : Address → List ℕ → Address → Address
renamed_address p to a = set a (length p - 1) (Name to)

-- a line at the address or below it
abbrev pub rename_own : Address → List ℕ → List ℕ → Standing → Standing
rename_own p to text s = record {
  address = option_map (renamed_address p to) s.address;
  base = s.base;
  outline = record s.outline { expr = own_part_with (part_number p s.base) text s.outline.expr };
}

-- what stands in the value of a line, where the value stands at `at`
abbrev pub rename_line_outline : Address → List ℕ → Address → LineOutline → LineOutline
rename_line_outline p text at l = record l { expr = with_value_outline (rename_outline p text at) l.expr }

-- of a line with this base and address
abbrev pub rename_outline_of : Address → List ℕ → Option ℕ → Option Address → LineOutline → LineOutline
rename_outline_of p text None own l = l
rename_outline_of p text (Some n) None l = l
rename_outline_of p text (Some n) (Some a) l = rename_line_outline p text a l

abbrev pub rename_inside : Address → List ℕ → Standing → Standing
rename_inside p text s = record s { outline = rename_outline_of p text s.base s.address s.outline }

-- a line, where the new name is spelled by the text
abbrev pub rename_standing : Address → List ℕ → List ℕ → Standing → Standing
rename_standing p to text s = if is_below p s then rename_own p to text s else rename_inside p text s

-- a line at the address or below it alone
abbrev pub rename_below : Address → List ℕ → List ℕ → Standing → Standing
rename_below p to text s = if is_below p s then rename_own p to text s else s
