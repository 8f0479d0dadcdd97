-- What a line is made that comes to stand for an empty table.
use Rattle.std.specs.Prelude.{ℕ, ◌-◌, List, [], ◌∷◌, Some, None, take}
use Rattle.toml_layout.specs.Outlines.{DottedOutline, AssignOutline, ValueOutline, EntriesOutline, ExprOutline, LineOutline, Braced, End, Nothing, Pair, Header}

-- the parts behind the first one, of a key that is cut to so many parts, at least one
abbrev pub rest_cut : ℕ → List DottedOutline → List DottedOutline
rest_cut parts rest = take (parts - 1) rest

-- a key that is cut so, and ` = `
abbrev pub assign_cut : ℕ → AssignOutline → AssignOutline
assign_cut parts a = record { first = a.first; rest = rest_cut parts a.rest; before_equals = 0x20 ∷ []; after_equals = 0x20 ∷ [] }

-- what stands in `{}`, and `{}`
abbrev pub no_entries : EntriesOutline
no_entries = End (Some [])

abbrev pub no_pairs : ValueOutline
no_pairs = Braced (0x7B ∷ []) no_entries

-- a pair keeps the front of its key, and a header the front of its key between single brackets
abbrev pub expr_emptied : ℕ → ExprOutline → ExprOutline
expr_emptied parts Nothing = Nothing
expr_emptied parts (Pair a v) = Pair (assign_cut parts a) no_pairs
expr_emptied parts (Header opening before first rest after closing) = Header (0x5B ∷ []) [] first (rest_cut parts rest) [] (0x5D ∷ [])

-- and nothing stands behind that but the newline
abbrev pub line_emptied : ℕ → LineOutline → LineOutline
line_emptied parts l = record { ws = l.ws; expr = expr_emptied parts l.expr; tail = []; comment = None; newline = l.newline }
