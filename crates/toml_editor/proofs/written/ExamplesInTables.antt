-- Examples, computed: an `insert` in a table that dotted keys make, and in one that longer headers imply. Each text was written by hand.
use Rattle.std.proofs.Common.{◌≡◌, ℕ, Some, List, [], ◌∷◌, ◌++◌, refl}
use Rattle.toml_scalar.specs.Values.{name_of}
use Rattle.toml_tree.specs.Bare.{fresh}
use Rattle.toml_tree.specs.Tree.{ArrayTableLine, BlankLine, Key, TableLine, Line}
use Rattle.toml_names.specs.declared.model.address.Step.TheVariants.{Name}
use Rattle.toml_names.specs.model.Addresses.{Address, child}
use Rattle.toml_working.specs.InsertingInTables.{insert_in}
use Rattle.toml_working.specs.Manners.{Manner}
use Rattle.toml_editor.proofs.written.Examples.{array, digit, dotted, empty, ended, follow, header, key, keyval, nine, no_tail, plain, table, text, third}
use Rattle.toml_editor.proofs.written.ExamplesBelow.{elements, no_bytes, t, u}

-- the table `a`, and lines with `f` in a table
abbrev a : Address
a = Name (0x61 ∷ []) ∷ []

abbrev put_in : Address → Manner → List Line → List ℕ
put_in q manner lines = text (insert_in q (0x66 ∷ []) nine manner lines)

abbrev by_plain : Manner
by_plain = plain (0x0A ∷ [])

-- `a.b = 1`, `c = 3`, `[t]`, `[a.b]`
abbrev dotted_line : Line
dotted_line = ended (keyval (dotted 0x61 0x62) (digit 0x31))

abbrev pair_line : Line
pair_line = ended (keyval (key 0x63) (digit 0x33))

abbrev table_line : Line
table_line = ended (TableLine empty (header (key 0x74)) no_tail)

abbrev longer_line : List ℕ → Line
longer_line ws = ended (TableLine (fresh ws) (header (dotted 0x61 0x62)) no_tail)

-- their texts, that of `a.f = 9`, and of `[a]`
abbrev made : List ℕ
made = 0x61 ∷ 0x2E ∷ 0x62 ∷ 0x20 ∷ 0x3D ∷ 0x20 ∷ 0x31 ∷ 0x0A ∷ []

abbrev put : List ℕ
put = 0x61 ∷ 0x2E ∷ 0x66 ∷ 0x20 ∷ 0x3D ∷ 0x20 ∷ 0x39 ∷ 0x0A ∷ []

abbrev longer : List ℕ
longer = 0x5B ∷ 0x61 ∷ 0x2E ∷ 0x62 ∷ 0x5D ∷ 0x0A ∷ []

abbrev own : List ℕ
own = 0x5B ∷ 0x61 ∷ 0x5D ∷ 0x0A ∷ []

abbrev below_own : List ℕ
below_own = 0x66 ∷ 0x20 ∷ 0x3D ∷ 0x20 ∷ 0x39 ∷ 0x0A ∷ []

-- ---- in layout `Plain`

-- behind the last line of the section, by a dotted key: `a.b = 1`, `c = 3`, `a.f = 9`, `[t]`
among_root : put_in a by_plain (dotted_line ∷ pair_line ∷ table_line ∷ no_bytes ∷ []) ≡ made ++ third ++ put ++ table
unfolding name_of
among_root = refl

-- in a section that has a header: `[t]`, `a.b = 1`, `a.f = 9`, `[[u]]`, ..
among_section : put_in (child t (0x61 ∷ [])) by_plain (table_line ∷ dotted_line ∷ elements) ≡ table ++ made ++ put ++ text elements
unfolding name_of
among_section = refl

-- before the first longer header: `[t]`, `[a]`, `f = 9`, `[a.b]`
ahead_of_longer : put_in a by_plain (table_line ∷ longer_line [] ∷ no_bytes ∷ []) ≡ table ++ own ++ below_own ++ longer
unfolding name_of
ahead_of_longer = refl

-- behind a last line, which gets the newline: `a.b = 1`, `a.f = 9`
abbrev last_line : Line
last_line = record { expr = keyval (dotted 0x61 0x62) (digit 0x31); newline = empty }

among_last : put_in a by_plain (last_line ∷ []) ≡ made ++ 0x61 ∷ 0x2E ∷ 0x66 ∷ 0x20 ∷ 0x3D ∷ 0x20 ∷ 0x39 ∷ []
unfolding name_of
among_last = refl

-- a name that is no bare key: `a.b = 1`, `a." " = 9`
among_quoted : text (insert_in a (0x20 ∷ []) nine by_plain (dotted_line ∷ no_bytes ∷ []))
    ≡ made ++ 0x61 ∷ 0x2E ∷ 0x22 ∷ 0x20 ∷ 0x22 ∷ 0x20 ∷ 0x3D ∷ 0x20 ∷ 0x39 ∷ 0x0A ∷ []
unfolding name_of
among_quoted = refl

-- in an element of an array of tables, the index left out: `[[u]]`, `[u.a]`, `f = 9`, `[u.a.b]`
abbrev array_line : Line
array_line = ended (ArrayTableLine empty (header (key 0x75)) no_tail)

abbrev deep_key : Key
deep_key = record (key 0x75) { rest = (dotted 0x75 0x61).rest ++ (dotted 0x61 0x62).rest }

ahead_in_element : put_in (child u (0x61 ∷ [])) by_plain (array_line ∷ ended (TableLine empty (header deep_key) no_tail) ∷ no_bytes ∷ [])
    ≡ array ++ 0x5B ∷ 0x75 ∷ 0x2E ∷ 0x61 ∷ 0x5D ∷ 0x0A ∷ (below_own ++ 0x5B ∷ 0x75 ∷ 0x2E ∷ 0x61 ∷ 0x2E ∷ 0x62 ∷ 0x5D ∷ 0x0A ∷ [])
unfolding name_of
ahead_in_element = refl

-- ---- in layout `Follow`

-- behind the last line of the table: `a.b = 1`, `a.f = 9`, `c = 3`
followed_among : put_in a follow (dotted_line ∷ pair_line ∷ no_bytes ∷ []) ≡ made ++ put ++ third
unfolding name_of
followed_among = refl

-- above the comment lines of the longer header, and as far in: `  [a]`, `  f = 9`, `#c`, `  [a.b]`
abbrev comment_line : Line
comment_line = ended (BlankLine (record { ws = empty; comment = Some (fresh (0x23 ∷ 0x63 ∷ [])) }))

followed_ahead : put_in a follow (comment_line ∷ longer_line (0x20 ∷ 0x20 ∷ []) ∷ no_bytes ∷ [])
    ≡ 0x20 ∷ 0x20 ∷ (own ++ 0x20 ∷ 0x20 ∷ (below_own ++ 0x23 ∷ 0x63 ∷ 0x0A ∷ 0x20 ∷ 0x20 ∷ longer))
unfolding name_of
followed_ahead = refl
