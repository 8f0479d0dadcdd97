-- `remove` of a value of a line, on lines by what finds them: the line goes, and a last line leaves one of no bytes. Where the table right
-- above the value would go with it, the line comes to stand for that table, which is empty.
use Rattle.std.specs.Prelude.{ℕ, ◌-◌, Bool, true, false, ◌&&◌, ◌||◌, not, List, [], ◌∷◌, length, flat_map, ◌==◌, if◌then◌else◌, Option, Some, None}
use Rattle.std.specs.Bool.{nat_lt}
use Rattle.std.specs.List.{list_any}
use Rattle.toml_names.specs.model.Addresses.{Address, same_address}
use Rattle.toml_layout.specs.Emptying.{line_emptied}
use Rattle.toml_layout.specs.Holders.{parent_of}
use Rattle.toml_layout.specs.Outlines.{no_line}
use Rattle.toml_working.specs.RenameStanding.{names_in}
use Rattle.toml_working.specs.Seeing.{is_dotted, heads_below}
use Rattle.toml_working.specs.Standing.{Standing, lies_below}

-- a line of no bytes
abbrev pub empty_standing : Standing
empty_standing = record { address = None; base = None; outline = no_line }

-- what is left where a line goes
abbrev pub left_standing : Standing → List Standing
left_standing s = if length s.outline.newline == 0 then empty_standing ∷ [] else []

-- whether a line with this base and address has a key and a value, and the value is what stands at the other address
abbrev pub is_value_at : Address → Option ℕ → Option Address → Bool
is_value_at p None own = false
is_value_at p (Some n) None = false
is_value_at p (Some n) (Some a) = same_address a p

abbrev pub is_pair : Address → Standing → Bool
is_pair p s = is_value_at p s.base s.address

-- whether the value of a line with this base and address stands at the other, by a key that is not dotted: the address has no more than one
-- step more than that of the table in which the line stands
abbrev pub is_undotted_at : Address → Option ℕ → Option Address → Bool
is_undotted_at p None own = false
is_undotted_at p (Some n) own = is_value_at p (Some n) own && not (nat_lt n (length p - 1))

abbrev pub is_undotted_pair : Address → Standing → Bool
is_undotted_pair p s = is_undotted_at p s.base s.address

-- whether the dotted key of a line with this base and address makes the table at the other, or the line is a header there or below
abbrev pub makes : Address → Option ℕ → Option Address → Bool
makes q base own = is_dotted q base own || heads_below q base own

-- whether such a line stands beside another address: neither there nor below
abbrev pub makes_apart : Address → Address → Option ℕ → Option Address → Bool
makes_apart q p base own = makes q base own && not (lies_below p own)

abbrev pub makes_beside : Address → Address → Standing → Bool
makes_beside q p s = makes_apart q p s.base s.address

-- whether the table right above the value stays without the line of the value: the line stands in it, since the key is not dotted, or another
-- line makes it
abbrev pub leaves_parent : Address → List Standing → Bool
leaves_parent p ss = list_any (is_undotted_pair p) ss || list_any (makes_beside (parent_of p) p) ss

-- how many parts of its key lead from a line with this base to the address: the steps behind the base, or the names of a header
abbrev pub parts_to : Address → Option ℕ → ℕ
parts_to q None = names_in q
parts_to q (Some n) = length q - n

-- a line that comes to stand for the table at the address, which is empty
abbrev pub standing_emptied : Address → Standing → Standing
standing_emptied q s = record { address = Some q; base = s.base; outline = line_emptied (parts_to q s.base) s.outline }

-- what is left of a line, where the table at the address stays without it, or does not
abbrev pub left_of_pair : Address → Bool → Standing → List Standing
left_of_pair q true s = left_standing s
left_of_pair q false s = standing_emptied q s ∷ []

-- the line of the value, or another one
abbrev pub removed_one : Address → Bool → Standing → List Standing
removed_one p stays s = if is_pair p s then left_of_pair (parent_of p) stays s else s ∷ []

abbrev pub remove_standing : Address → List Standing → List Standing
remove_standing p ss = flat_map (removed_one p (leaves_parent p ss)) ss
