-- What the lines of a document name, in text order.
use Rattle.std.specs.Prelude.{ℕ, ◌+◌, ◌-◌, ◌==◌, Bool, true, false, ◌&&◌, if◌then◌else◌, List, [], ◌∷◌, ◌++◌, filter, count_by, Option, Some, None}
use Rattle.toml_scalar.specs.Values.{ScalarValue, Text, scalar_of}
use Rattle.toml_scalar.specs.declared.kind.ScalarKind.{ScalarKind}
use Rattle.toml_tree.specs.Tree.{Assign, Value, Scalar, Array, Inline, Items, Close, Last, More, Pairs, ClosePairs, LastPair, MorePairs, Expr, BlankLine, KeyValLine, TableLine, ArrayTableLine, Line}
use Rattle.toml_names.specs.declared.mentions.mention.Role.{Role}
use Rattle.toml_names.specs.declared.mentions.mention.Role.TheVariants.{Passed, Header, Dotted, Valued, Tables, Element, Bare}
use Rattle.toml_names.specs.model.Addresses.{Address, same_address, child, element, below}
use Rattle.toml_names.specs.mentions.Keys.{Key, key_names}

-- what stands at an address
pub data Kind : Type 0 where
  a_table : Kind
  an_array : Kind
  a_scalar : ScalarValue → Kind

-- an address that a line names, in a role, and what stands there
pub record Named : Type 0 where
  pub address : Address
  pub role : Role
  pub kind : Kind
  pub line : ℕ

-- the value of a token; each token of a tree has one (the law `TokenHasValue`)
abbrev pub value_or_empty : Option ScalarValue → ScalarValue
value_or_empty None = Text []
value_or_empty (Some v) = v

-- the value that a token spells, the empty text where it spells none
abbrev pub token_value : ScalarKind → List ℕ → ScalarValue
token_value kind text = value_or_empty (scalar_of kind text)

abbrev pub token_kind : ScalarKind → List ℕ → Kind
token_kind kind text = a_scalar (token_value kind text)

abbrev pub kind_of : Value → Kind
kind_of (Scalar kind p) = token_kind kind p.text
kind_of (Array whole items) = an_array
kind_of (Inline whole pairs) = a_table

abbrev pub table_at : ℕ → Role → Address → Named
table_at line role at = record { address = at; role = role; kind = a_table; line = line }

-- a value in a role
abbrev pub value_named : ℕ → Role → Address → Value → Named
value_named line role at v = record { address = at; role = role; kind = kind_of v; line = line }

-- each proper front of a key in the table at the address is a table of dotted keys
abbrev pub fronts : ℕ → Address → Key → List Named
fronts line at [] = []
fronts line at (n ∷ []) = []
fronts line at (n ∷ m ∷ more) = table_at line Dotted (child at n) ∷ fronts line (child at n) (m ∷ more)

-- What a value at the address names inside it. An element of an array is no mention of its own.
abbrev mutual
  pub inside : ℕ → Address → Value → List Named
  inside line at (Scalar kind p) = []
  inside line at (Array whole items) = elements line at 0 items
  inside line at (Inline whole pairs) = members line at pairs

  -- the elements of an array, from the index on
  pub elements : ℕ → Address → ℕ → Items → List Named
  elements line at i (Close g) = []
  elements line at i (Last g v h) = value_named line Bare (element at i) v ∷ inside line (element at i) v
  elements line at i (More g v h is) = value_named line Bare (element at i) v ∷ (inside line (element at i) v ++ elements line at (i + 1) is)

  -- the pairs of an inline table
  pub members : ℕ → Address → Pairs → List Named
  members line at (ClosePairs g) = []
  members line at (LastPair g a v h) = fronts line at (key_names a.key) ++ (value_named line Valued (below at (key_names a.key)) v ∷ inside line (below at (key_names a.key)) v)
  members line at (MorePairs g a v h ps) = (fronts line at (key_names a.key) ++ (value_named line Valued (below at (key_names a.key)) v ∷ inside line (below at (key_names a.key)) v)) ++ members line at ps

-- what a pair names in the table at the address
abbrev pub pair_named : ℕ → Address → Assign → Value → List Named
pair_named line at a v = fronts line at (key_names a.key) ++ (value_named line Valued (below at (key_names a.key)) v ∷ inside line (below at (key_names a.key)) v)

abbrev pub is_tables : Role → Bool
is_tables Tables = true
is_tables _ = false

abbrev pub is_tables_at : Address → Named → Bool
is_tables_at at m = same_address m.address at && is_tables m.role

-- how many tables the array at the address has so far
abbrev pub count_tables : List Named → Address → ℕ
count_tables earlier at = count_by (is_tables_at at) earlier

-- where a header goes on after a front: in the last table of an array, or in the table itself
abbrev pub entered : List Named → Address → Address
entered earlier at = if count_tables earlier at == 0 then at else element at (count_tables earlier at - 1)

-- a header's key, followed from the address to its end
abbrev pub followed : ℕ → List Named → (Address → List Named) → Address → Key → List Named
followed line earlier end at [] = []
followed line earlier end at (n ∷ []) = end (child at n)
followed line earlier end at (n ∷ m ∷ more) =
    table_at line Passed (entered earlier (child at n)) ∷ followed line earlier end (entered earlier (child at n)) (m ∷ more)

abbrev pub ends_table : ℕ → Address → List Named
ends_table line at = table_at line Header at ∷ []

-- an array of tables, and its next element
abbrev pub ends_tables : ℕ → List Named → Address → List Named
ends_tables line earlier at =
    record { address = at; role = Tables; kind = an_array; line = line } ∷ table_at line Element (element at (count_tables earlier at)) ∷ []

abbrev pub is_section : Role → Bool
is_section Header = true
is_section Element = true
is_section _ = false

-- the table of the last header, or the root
abbrev pub section_from : Address → List Named → Address
section_from at [] = at
section_from at (m ∷ ms) = section_from (if is_section m.role then m.address else at) ms

abbrev pub section : List Named → Address
section = section_from []

-- what a line names, after the lines before it
abbrev pub named_by : List Named → ℕ → Expr → List Named
named_by earlier line (BlankLine b) = []
named_by earlier line (KeyValLine ws pair tail) = pair_named line (section earlier) pair.assign pair.value
named_by earlier line (TableLine ws header tail) = followed line earlier (ends_table line) [] (key_names header.key)
named_by earlier line (ArrayTableLine ws header tail) = followed line earlier (ends_tables line earlier) [] (key_names header.key)

-- what lines name from one on, and what was named before them
abbrev pub named_from : List Named → ℕ → List Line → List Named
named_from earlier line [] = earlier
named_from earlier line (l ∷ ls) = named_from (earlier ++ named_by earlier line l.expr) (line + 1) ls

-- the root, a table that no line mentions
abbrev pub root : Named
root = table_at 0 Bare []

-- what the lines of a document name
abbrev pub named : List Line → List Named
named = named_from (root ∷ []) 0

-- what a value alone names: itself, at the root, and what stands in it
abbrev pub value_facts : Value → List Named
value_facts v = value_named 0 Valued [] v ∷ inside 0 [] v

-- whether a thing in the role is a mention
abbrev pub is_mentioned : Role → Bool
is_mentioned r = elim r [ Bare ↦ false | _ ↦ true ]

abbrev pub is_mention : Named → Bool
is_mention m = is_mentioned m.role

-- the mentions of the lines
abbrev pub mentions : List Line → List Named
mentions lines = filter is_mention (named lines)
