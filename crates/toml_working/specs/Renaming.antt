-- `rename`: every key part that stands for the address gets the new spelling. A part stands for the address that its key reaches
-- with it, before an element's index is put on.
use Rattle.std.specs.Prelude.{◌≡◌, ℕ, ◌+◌, List, [], ◌∷◌, if◌then◌else◌}
use Rattle.toml_scalar.specs.Spelling.{spelled}
use Rattle.toml_tree.specs.Bare.{fresh}
use Rattle.toml_tree.specs.Tree.{Piece, Dotted, Key, Assign, Value, Scalar, Array, Inline, Items, Close, Last, More, Pairs, ClosePairs, LastPair, MorePairs, Header, Expr, BlankLine, KeyValLine, TableLine, ArrayTableLine, Line}
use Rattle.toml_names.specs.model.Addresses.{Address, same_address, child, element, below}
use Rattle.toml_names.specs.mentions.Keys.{part_name, key_names}
use Rattle.toml_names.specs.mentions.Mentions.{Named, section, entered}
use Rattle.toml_layout.specs.RenameOutlines.{rename_outline}
use Rattle.toml_layout.specs.TreeOutlines.{value_outline}
use Rattle.toml_working.specs.Lines.{array_of, inline_of, each_line}

-- a part that stands for `here`
abbrev pub rename_part : Address → List ℕ → Address → Piece → Piece
rename_part p to here part = if same_address here p then fresh (spelled to) else part

-- the parts behind one that led to `here`
abbrev pub rename_rest : Address → List ℕ → (Address → Address) → Address → List Dotted → List Dotted
rename_rest p to enter here [] = []
rename_rest p to enter here (d ∷ ds) =
    let next = child (enter here) (part_name d.part) in
    record { before_dot = d.before_dot; after_dot = d.after_dot; part = rename_part p to next d.part } ∷ rename_rest p to enter next ds

abbrev pub rename_key : Address → List ℕ → (Address → Address) → Address → Key → Key
rename_key p to enter at k =
    let here = child at (part_name k.first) in
    record { first = rename_part p to here k.first; rest = rename_rest p to enter here k.rest }

-- a pair in the table at `at`
abbrev pub rename_assign : Address → List ℕ → Address → Assign → Assign
rename_assign p to at a = record { key = rename_key p to (λ here. here) at a.key; before_equals = a.before_equals; after_equals = a.after_equals }

abbrev mutual
  pub rename_value : Address → List ℕ → Address → Value → Value
  rename_value p to at (Scalar kind text) = Scalar kind text
  rename_value p to at (Array whole items) = array_of (rename_items p to at 0 items)
  rename_value p to at (Inline whole pairs) = inline_of (rename_pairs p to at pairs)

  pub rename_items : Address → List ℕ → Address → ℕ → Items → Items
  rename_items p to at i (Close g) = Close g
  rename_items p to at i (Last g v h) = Last g (rename_value p to (element at i) v) h
  rename_items p to at i (More g v h is) = More g (rename_value p to (element at i) v) h (rename_items p to at (i + 1) is)

  pub rename_pairs : Address → List ℕ → Address → Pairs → Pairs
  rename_pairs p to at (ClosePairs g) = ClosePairs g
  rename_pairs p to at (LastPair g a v h) = LastPair g (rename_assign p to at a) (rename_value p to (below at (key_names a.key)) v) h
  rename_pairs p to at (MorePairs g a v h ps) = MorePairs g (rename_assign p to at a) (rename_value p to (below at (key_names a.key)) v) h (rename_pairs p to at ps)

abbrev pub rename_header : Address → List ℕ → List Named → Header → Header
rename_header p to earlier h = record { before = h.before; key = rename_key p to (entered earlier) [] h.key; after = h.after }

abbrev pub rename_expr : Address → List ℕ → List Named → Expr → Expr
rename_expr p to earlier (BlankLine b) = BlankLine b
rename_expr p to earlier (KeyValLine ws pair tail) =
    KeyValLine ws (record { assign = rename_assign p to (section earlier) pair.assign; value = rename_value p to (below (section earlier) (key_names pair.assign.key)) pair.value }) tail
rename_expr p to earlier (TableLine ws header tail) = TableLine ws (rename_header p to earlier header) tail
rename_expr p to earlier (ArrayTableLine ws header tail) = ArrayTableLine ws (rename_header p to earlier header) tail

abbrev pub rename_line : Address → List ℕ → List Named → Line → List Line
rename_line p to earlier l = record { expr = rename_expr p to earlier l.expr; newline = l.newline } ∷ []

abbrev pub rename_lines : Address → List ℕ → List Line → List Line
rename_lines p to = each_line (rename_line p to)

-- Law: the outline of the tree after a `rename` is what the `rename` makes of the outline.
abbrev pub RenameIsOutlined : Type 0
RenameIsOutlined = (p : Address) (to : List ℕ) (at : Address) (v : Value)
    → value_outline (rename_value p to at v) ≡ rename_outline p (spelled to) at (value_outline v)
