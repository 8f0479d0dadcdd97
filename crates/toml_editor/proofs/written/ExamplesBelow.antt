-- Examples, computed: an `insert` below a header, and a `remove` there. Each text was written by hand.
use Rattle.std.proofs.Common.{◌≡◌, ℕ, List, [], ◌∷◌, ◌++◌, Some, refl}
use Rattle.toml_scalar.specs.Values.{name_of}
use Rattle.toml_tree.specs.Bare.{fresh}
use Rattle.toml_tree.specs.Tree.{BlankLine, KeyValLine, TableLine, ArrayTableLine, Line}
use Rattle.toml_names.specs.declared.model.address.Step.TheVariants.{Name, Index}
use Rattle.toml_names.specs.model.Addresses.{Address}
use Rattle.toml_working.specs.InsertingInTables.{insert_in}
use Rattle.toml_working.specs.Removing.{remove_lines}
use Rattle.toml_editor.proofs.written.Examples.{array, digit, document, dotted, ended, empty, first, follow, fourth, header, key, keyval, last, last_header, nine, no_tail, plain, spaced_pair, table, text, third}

-- `f = 9`
abbrev put : List ℕ
put = 0x66 ∷ 0x20 ∷ 0x3D ∷ 0x20 ∷ 0x39 ∷ 0x0A ∷ []

-- the addresses of the tables `[t]`, the first `[[u]]` and `[u.v]`
abbrev pub t : Address
t = Name (0x74 ∷ []) ∷ []

abbrev pub u : Address
u = Name (0x75 ∷ []) ∷ Index 0 ∷ []

abbrev v : Address
v = Name (0x75 ∷ []) ∷ Index 0 ∷ Name (0x76 ∷ []) ∷ []

-- ---- insert

-- behind the last keyval line of a section that others follow
inserted_below : text (insert_in t (0x66 ∷ []) nine (plain (0x0A ∷ [])) document) ≡ first ++ table ++ third ++ put ++ array ++ fourth ++ last
unfolding name_of
inserted_below = refl

-- in an element of an array of tables
inserted_in_element : text (insert_in u (0x66 ∷ []) nine (plain (0x0A ∷ [])) document) ≡ first ++ table ++ third ++ array ++ fourth ++ put ++ last
unfolding name_of
inserted_in_element = refl

-- behind the last line, a header: it gets the newline
inserted_below_last : text (insert_in v (0x66 ∷ []) nine (plain (0x0D ∷ 0x0A ∷ [])) document) ≡ first ++ table ++ third ++ array ++ fourth ++ last ++ 0x0D ∷ 0x0A ∷ 0x66 ∷ 0x20 ∷ 0x3D ∷ 0x20 ∷ 0x39 ∷ []
unfolding name_of
inserted_below_last = refl

-- a last line of no bytes
abbrev pub no_bytes : Line
no_bytes = record { expr = BlankLine no_tail; newline = empty }

-- in the second of two elements, of which the first has a key: `[[u]]`, `c = 3`, `[[u]]`
abbrev pub elements : List Line
elements = ended (ArrayTableLine empty (header (key 0x75)) no_tail) ∷ ended (keyval (key 0x63) (digit 0x33)) ∷ ended (ArrayTableLine empty (header (key 0x75)) no_tail) ∷ no_bytes ∷ []

inserted_in_second : text (insert_in (Name (0x75 ∷ []) ∷ Index 1 ∷ []) (0x66 ∷ []) nine (plain (0x0A ∷ [])) elements) ≡ array ++ third ++ array ++ put
unfolding name_of
inserted_in_second = refl

-- ---- insert as the neighbours are written

abbrev below_all : List Line → List ℕ
below_all lines = text (insert_in t (0x66 ∷ []) nine follow lines)

-- as the last keyval line of the section: `[t]`, `  d=1`, `  f=9`
followed_below : below_all (ended (TableLine empty (header (key 0x74)) no_tail) ∷ spaced_pair (0x20 ∷ 0x20 ∷ []) [] [] ∷ no_bytes ∷ []) ≡ table ++ 0x20 ∷ 0x20 ∷ 0x64 ∷ 0x3D ∷ 0x31 ∷ 0x0A ∷ 0x20 ∷ 0x20 ∷ 0x66 ∷ 0x3D ∷ 0x39 ∷ 0x0A ∷ []
unfolding name_of
followed_below = refl

-- none there, and the header is not in, as the root's: as the root's last one: `d=1`, `[t]`, `f=9`
followed_root : below_all (spaced_pair [] [] [] ∷ last_header ∷ []) ≡ 0x64 ∷ 0x3D ∷ 0x31 ∷ 0x0A ∷ 0x5B ∷ 0x74 ∷ 0x5D ∷ 0x0A ∷ 0x66 ∷ 0x3D ∷ 0x39 ∷ []
unfolding name_of
followed_root = refl

-- a header that is one space in
abbrev spaced_header : ℕ → Line
spaced_header letter = ended (TableLine (fresh (0x20 ∷ [])) (header (key letter)) no_tail)

-- as the last one of a section whose header is as far in: ` [a]`, `  d=1`, ` [t]`, `  f=9`
followed_section : below_all (spaced_header 0x61 ∷ spaced_pair (0x20 ∷ 0x20 ∷ []) [] [] ∷ spaced_header 0x74 ∷ no_bytes ∷ []) ≡ 0x20 ∷ 0x5B ∷ 0x61 ∷ 0x5D ∷ 0x0A ∷ 0x20 ∷ 0x20 ∷ 0x64 ∷ 0x3D ∷ 0x31 ∷ 0x0A ∷ 0x20 ∷ 0x5B ∷ 0x74 ∷ 0x5D ∷ 0x0A ∷ 0x20 ∷ 0x20 ∷ 0x66 ∷ 0x3D ∷ 0x39 ∷ 0x0A ∷ []
unfolding name_of
followed_section = refl

-- none: as the header: `d=1`, ` [t]`, ` f = 9`
followed_header : below_all (spaced_pair [] [] [] ∷ spaced_header 0x74 ∷ no_bytes ∷ []) ≡ 0x64 ∷ 0x3D ∷ 0x31 ∷ 0x0A ∷ 0x20 ∷ 0x5B ∷ 0x74 ∷ 0x5D ∷ 0x0A ∷ 0x20 ∷ 0x66 ∷ 0x20 ∷ 0x3D ∷ 0x20 ∷ 0x39 ∷ 0x0A ∷ []
unfolding name_of
followed_header = refl

-- ---- remove

removed_below : text (remove_lines (Name (0x74 ∷ []) ∷ Name (0x63 ∷ []) ∷ []) document) ≡ first ++ table ++ array ++ fourth ++ last
unfolding name_of
removed_below = refl

-- a line with a dotted key of two parts, and one that is not dotted
abbrev dotted_line : ℕ → ℕ → Line
dotted_line one two = ended (keyval (dotted one two) (digit 0x31))

abbrev p : Address
p = Name (0x61 ∷ []) ∷ Name (0x62 ∷ []) ∷ []

-- another line makes the table: `a.b = 1`, `a.c = 1`, without the first `a.c = 1`
removed_beside : text (remove_lines p (dotted_line 0x61 0x62 ∷ dotted_line 0x61 0x63 ∷ no_bytes ∷ [])) ≡ text (dotted_line 0x61 0x63 ∷ no_bytes ∷ [])
unfolding name_of
removed_beside = refl

-- so does a header below it: `a.b = 1`, `[a.c]`
removed_above_header : text (remove_lines p (dotted_line 0x61 0x62 ∷ ended (TableLine empty (header (dotted 0x61 0x63)) no_tail) ∷ no_bytes ∷ []))
    ≡ 0x5B ∷ 0x61 ∷ 0x2E ∷ 0x63 ∷ 0x5D ∷ 0x0A ∷ []
unfolding name_of
removed_above_header = refl

-- no line does: `  a . b=1 #c` at the end of a text becomes `  a = {}`
abbrev lone_line : Line
lone_line = record {
  expr = KeyValLine (fresh (0x20 ∷ 0x20 ∷ []))
      (record {
        assign = record {
          key = record { first = fresh (0x61 ∷ []); rest = record { before_dot = fresh (0x20 ∷ []); after_dot = fresh (0x20 ∷ []); part = fresh (0x62 ∷ []) } ∷ [] };
          before_equals = empty;
          after_equals = empty;
        };
        value = digit 0x31;
      })
      (record { ws = fresh (0x20 ∷ []); comment = Some (fresh (0x23 ∷ 0x63 ∷ [])) });
  newline = empty;
}

removed_alone : text (remove_lines p (lone_line ∷ [])) ≡ 0x20 ∷ 0x20 ∷ 0x61 ∷ 0x20 ∷ 0x3D ∷ 0x20 ∷ 0x7B ∷ 0x7D ∷ []
unfolding name_of
removed_alone = refl
