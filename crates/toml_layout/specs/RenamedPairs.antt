-- `rename` on the key and the value of a line.
use Rattle.std.specs.Prelude.{◌≡◌, ℕ, ◌+◌, ◌-◌, List, length, Option, Some, None, if◌then◌else◌}
use Rattle.std.specs.Bool.{nat_lt}
use Rattle.toml_names.specs.model.Addresses.{Address, below}
use Rattle.toml_layout.specs.Beginnings.{begins}
use Rattle.toml_layout.specs.Outlines.{AssignOutline, ExprOutline, LineOutline, ValueOutline, Nothing, Pair, Header}
use Rattle.toml_layout.specs.RenameOutlines.{rename_outline, rename_outlined}
use Rattle.toml_layout.specs.RenamingIn.{first_with, rest_with, part_with}
use Rattle.toml_layout.specs.SetOutlines.{outlined_names}

-- the difference, where it is no negative number
abbrev pub minus : ℕ → ℕ → Option ℕ
minus n m = if nat_lt n m then None else Some (n - m)

-- the part of the key with this number has the text
abbrev pub key_part_with : ℕ → List ℕ → ExprOutline → ExprOutline
key_part_with i text Nothing = Nothing
key_part_with i text (Pair a v) = Pair (part_with i text a) v
key_part_with i text (Header opening before first rest after closing) =
    Header opening before (first_with i text first) (rest_with i text rest) after closing

abbrev pub own_part_with : Option ℕ → List ℕ → ExprOutline → ExprOutline
own_part_with None text e = e
own_part_with (Some i) text e = key_part_with i text e

-- a line with another text in a part of its key
abbrev pub line_part_with : Option ℕ → List ℕ → LineOutline → LineOutline
line_part_with number text l = record l { expr = own_part_with number text l.expr }

-- Law: a pair whose key stands in the table at the second address, its key and its value renamed, is the pair with one part of its key
-- renamed where the first address is at its own or above it, else with its value renamed alone.
abbrev pub PairIsRenamed : Type 0
PairIsRenamed = (p at : Address) (text : List ℕ) (a : AssignOutline) (v : ValueOutline)
    → Pair (rename_outlined p text at a) (rename_outline p text (below at (outlined_names a)) v)
    ≡ (if begins p (below at (outlined_names a)) then own_part_with (minus (length p) (length at + 1)) text (Pair a v)
    else Pair a (rename_outline p text (below at (outlined_names a)) v))
