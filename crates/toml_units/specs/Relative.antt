-- What lies in a value goes with the value's place and with its address.
use Rattle.std.specs.Prelude.{◌≡◌, ℕ, ◌+◌, ◌++◌, [], map, Option, Some, None, option_map}
use Rattle.toml_tree.specs.Moved.{moved_piece, moved}
use Rattle.toml_tree.specs.Tree.{Value}
use Rattle.toml_names.specs.model.Addresses.{Address}
use Rattle.toml_units.specs.Alike.{steps}
use Rattle.toml_units.specs.Units.{TextUnit, inside}

-- an address, the root where there is none
abbrev pub own : Option Address → Address
own None = []
own (Some a) = a

-- a unit with its own address, and its base, below this one
abbrev pub under : Option Address → TextUnit → TextUnit
under at u = record { kind = u.kind; piece = u.piece; address = option_map (λ a. a ++ own u.address) at; base = option_map (λ n. steps at + n) u.base }

-- a unit that stands further behind by some bytes
abbrev pub shifted : ℕ → TextUnit → TextUnit
shifted n u = record { kind = u.kind; piece = moved_piece n u.piece; address = u.address; base = u.base }

-- Laws: a value that has its address below another has the same in it, below that other;
abbrev pub InsideIsUnder : Type 0
InsideIsUnder = (v : Value) (a b : Address) → inside (a ++ b) v ≡ map (under (Some a)) (inside b v)

-- and a value that stands further behind has the same in it, further behind.
abbrev pub InsideMoves : Type 0
InsideMoves = (v : Value) (n : ℕ) (at : Address) → inside at (moved n v) ≡ map (shifted n) (inside at v)
