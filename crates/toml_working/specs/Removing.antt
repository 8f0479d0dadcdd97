-- `remove` of a value of a line: the line goes with its newline, and a last line leaves one of no bytes. Where the table right above the value
-- would go with it, the line keeps the front of its key up to that table, which is empty.
use Rattle.std.specs.Prelude.{ℕ, ◌-◌, Bool, true, false, List, [], ◌∷◌, length, take, ◌==◌, if◌then◌else◌, None}
use Rattle.toml_tree.specs.Bare.{fresh}
use Rattle.toml_tree.specs.Tree.{Assign, Blank, Key, Value, ClosePairs, Expr, BlankLine, KeyValLine, TableLine, ArrayTableLine, Line}
use Rattle.toml_names.specs.model.Addresses.{Address, same_address, below}
use Rattle.toml_names.specs.mentions.Keys.{key_names}
use Rattle.toml_names.specs.mentions.Mentions.{Named, section}
use Rattle.toml_working.specs.Lines.{each_line, inline_of}
use Rattle.toml_working.specs.RemoveStanding.{leaves_parent}
use Rattle.toml_layout.specs.Holders.{parent_of}
use Rattle.toml_working.specs.Standing.{standing}

-- no whitespace, and no comment
abbrev pub no_blank : Blank
no_blank = record { ws = fresh []; comment = None }

abbrev pub empty_line : Line
empty_line = record { expr = BlankLine no_blank; newline = fresh [] }

abbrev pub left_behind : Line → List Line
left_behind l = if length l.newline.text == 0 then empty_line ∷ [] else []

-- the first so many parts of a key, at least one, and ` = `
abbrev pub key_cut : ℕ → Key → Key
key_cut parts k = record { first = k.first; rest = take (parts - 1) k.rest }

abbrev pub assign_cut : ℕ → Assign → Assign
assign_cut parts a = record { key = key_cut parts a.key; before_equals = fresh (0x20 ∷ []); after_equals = fresh (0x20 ∷ []) }

-- `{}`
abbrev pub empty_table : Value
empty_table = inline_of (ClosePairs (record { lines = []; ws = fresh [] }))

-- a pair whose key has so many parts left, with an empty table
abbrev pub emptied_expr : ℕ → Expr → Expr
emptied_expr parts (BlankLine b) = BlankLine b
emptied_expr parts (KeyValLine ws pair tail) = KeyValLine ws (record { assign = assign_cut parts pair.assign; value = empty_table }) no_blank
emptied_expr parts (TableLine ws header tail) = TableLine ws header tail
emptied_expr parts (ArrayTableLine ws header tail) = ArrayTableLine ws header tail

abbrev pub emptied_line : ℕ → Line → Line
emptied_line parts l = record { expr = emptied_expr parts l.expr; newline = l.newline }

-- what is left of the line of the value, in a table of so many steps; the table right above the value stays without it, or does not
abbrev pub left_of_line : Address → Bool → ℕ → Line → List Line
left_of_line p true base l = left_behind l
left_of_line p false base l = emptied_line (length (parent_of p) - base) l ∷ []

abbrev pub remove_line : Address → Bool → List Named → Line → List Line
remove_line p stays earlier l = elim l.expr [
  | BlankLine b ↦ l ∷ []
  | KeyValLine ws pair tail ↦ if same_address (below (section earlier) (key_names pair.assign.key)) p then left_of_line p stays (length (section earlier)) l else l ∷ []
  | TableLine ws header tail ↦ l ∷ []
  | ArrayTableLine ws header tail ↦ l ∷ []
]

abbrev pub lines_left : Address → Bool → List Line → List Line
lines_left p stays = each_line (remove_line p stays)

abbrev pub remove_lines : Address → List Line → List Line
remove_lines p lines = lines_left p (leaves_parent p (standing lines)) lines
