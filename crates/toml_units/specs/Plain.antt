-- The plain function of units: spans, read off the pieces.
use Rattle.std.specs.Prelude.{◌≡◌, ◌+◌, ◌-◌, ℕ, List, [], ◌∷◌, ◌++◌, length, map, Option, Some, None}
use Rattle.toml_tree.specs.Spells.{Spells, SpellsValue}
use Rattle.toml_tree.specs.Tree.{Piece, Gap, Value, Scalar, Array, Inline, Items, Close, Last, More, Pairs, ClosePairs, LastPair, MorePairs, KeyVal, Expr, BlankLine, KeyValLine, TableLine, ArrayTableLine, Line, Doc}
use Rattle.toml_tree.specs.ReadingValues.{Element as ArrayElement, Member}
use Rattle.toml_tree.specs.Pieces.{piece_of, expr_start}
use Rattle.toml_names.specs.model.Addresses.{Address, element}
use Rattle.toml_names.specs.mentions.Keys.{key_names}
use Rattle.toml_names.specs.mentions.Mentions.{Named, root, named_by}
use Rattle.toml_names.specs.reader.Names.{own_address}
use Rattle.toml_units.specs.declared.unit.Unit.{Unit as Made}
use Rattle.toml_units.specs.declared.unit.UnitKind.{UnitKind}
use Rattle.toml_units.specs.declared.unit.UnitKind.TheVariants as kinds
use Rattle.toml_units.specs.Ends.{piece_end, expr_end}
use Rattle.toml_text.specs.declared.span.Span.{Span}
use Rattle.toml_units.specs.Units.{comment_units, gap_units, element_unit, pair_address, tail_units, inside, units}
use Rattle.toml_units.specs.View.{all_units}
pub use Rattle.toml_units.specs.View.{Spanned, spanned}

-- a pair goes as far as its value
abbrev pub pair_span : Address → KeyVal → Spanned
pair_span at k = record { kind = kinds.Pair; start = k.assign.key.first.start; stop = piece_end (piece_of k.value); address = Some (pair_address at k.assign); base = Some (length at) }

abbrev mutual
  pub plain_inside : Address → Value → List Spanned
  plain_inside at (Scalar kind p) = []
  plain_inside at (Array whole items) = plain_elements at 0 items
  plain_inside at (Inline whole pairs) = plain_members at pairs

  pub plain_elements : Address → ℕ → Items → List Spanned
  plain_elements at i (Close g) = map spanned (gap_units at g)
  plain_elements at i (Last g v h) = map spanned (gap_units at g) ++ ((spanned (element_unit (element at i) v) ∷ plain_inside (element at i) v) ++ map spanned (gap_units at h))
  plain_elements at i (More g v h is) = map spanned (gap_units at g) ++ ((spanned (element_unit (element at i) v) ∷ plain_inside (element at i) v) ++ (map spanned (gap_units at h) ++ plain_elements at (i + 1) is))

  pub plain_members : Address → Pairs → List Spanned
  plain_members at (ClosePairs g) = map spanned (gap_units at g)
  plain_members at (LastPair g a v h) = map spanned (gap_units at g) ++ ((pair_span at (record { assign = a; value = v }) ∷ plain_inside (pair_address at a) v) ++ map spanned (gap_units at h))
  plain_members at (MorePairs g a v h ps) = map spanned (gap_units at g) ++ ((pair_span at (record { assign = a; value = v }) ∷ plain_inside (pair_address at a) v) ++ (map spanned (gap_units at h) ++ plain_members at ps))

-- what lies in a value, where it has an address
abbrev pub plain_value : Option Address → Value → List Spanned
plain_value None v = []
plain_value (Some at) v = plain_inside at v

-- what lies in an expression whose value, table or element is at the address
abbrev pub plain_line : Option Address → Expr → List Spanned
plain_line at (BlankLine b) = map spanned (tail_units at b)
plain_line at (KeyValLine ws k b) = plain_value at k.value ++ map spanned (tail_units at b)
plain_line at (TableLine ws h b) = map spanned (tail_units at b)
plain_line at (ArrayTableLine ws h b) = map spanned (tail_units at b)

-- the steps of a keyval line's address less the parts of its key
abbrev pub own_base : Option Address → Expr → Option ℕ
own_base (Some at) (KeyValLine ws k b) = Some (length at - length (key_names k.assign.key))
own_base _ _ = None

abbrev pub line_span : Option Address → Expr → Spanned
line_span at e = record { kind = kinds.Line; start = expr_start e; stop = expr_end e; address = at; base = own_base at e }

-- the units of a line at the address
abbrev pub line_spans : Option Address → Expr → List Spanned
line_spans at e = line_span at e ∷ plain_line at e

abbrev pub plain_from : List Named → ℕ → List Line → List Spanned
plain_from earlier n [] = []
plain_from earlier n (l ∷ ls) = line_spans (own_address earlier l.expr) l.expr ++ plain_from (earlier ++ named_by earlier n l.expr) (n + 1) ls

abbrev pub plain_units : List Line → List Spanned
plain_units = plain_from (root ∷ []) 0

-- an element at its own address, here, with what lies in it, between the gaps of the array
abbrev pub element_units_at : Address → Address → ArrayElement → List Spanned
element_units_at at here e = map spanned (gap_units at e.before) ++ ((spanned (element_unit here e.value) ∷ plain_inside here e.value) ++ map spanned (gap_units at e.after))

-- the element with the index
abbrev pub element_units : Address → ℕ → ArrayElement → List Spanned
element_units at i e = element_units_at at (element at i) e

-- elements from the index on
abbrev pub items_of : Address → ℕ → List ArrayElement → List Spanned
items_of at i [] = []
items_of at i (e ∷ es) = element_units at i e ++ items_of at (i + 1) es

-- a pair between its gaps, with what lies in it
abbrev pub pair_units : Address → Member → List Spanned
pair_units at m = map spanned (gap_units at m.before) ++ ((pair_span at m.pair ∷ plain_inside (pair_address at m.pair.assign) m.pair.value) ++ map spanned (gap_units at m.after))

-- a comment, if there is one
abbrev pub comment_spans : UnitKind → Option Address → Option Piece → List Spanned
comment_spans kind at comment = map spanned (comment_units kind at comment)

-- a unit that has a value, at the value's address, and what lies in the value
abbrev pub valued_units : UnitKind → Span → Option ℕ → Address → Value → List Spanned
valued_units kind span base here v = record { kind = kind; start = span.start; stop = span.end; address = Some here; base = base } ∷ plain_inside here v

-- the gap behind a last comma
abbrev pub end_units : Address → Option Gap → List Spanned
end_units at None = []
end_units at (Some g) = map spanned (gap_units at g)

-- the code's units are those that lie in the value alone, if it spells a text
abbrev pub AreInside : Value → List Made → Type 0
AreInside v us = (n : ℕ) (text : List ℕ) → SpellsValue v n text → all_units us ≡ map spanned (inside [] v)

-- Law: of a document these are the units.
abbrev pub PlainIsUnits : Type 0
PlainIsUnits = (d : Doc) (text : List ℕ) → Spells d text → plain_units d.lines ≡ map spanned (units d.lines)

-- Law: so it is with what lies in a value that spells a text.
abbrev pub PlainIsInside : Type 0
PlainIsInside = (v : Value) (at : Address) (n : ℕ) (text : List ℕ) → SpellsValue v n text → plain_inside at v ≡ map spanned (inside at v)
