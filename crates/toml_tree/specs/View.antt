-- What the code's tree is as a tree of the definitions: all but where it lies in memory.
use Rattle.std.specs.Prelude.{◌≡◌, ◌⊎◌, List, [], ◌∷◌, map, Option, Some, None, option_map, Result}
use Rattle.std.specs.declared.vec.Vec.{Vec}
use Rattle.std.specs.declared.alloc.Global.{Global}
use Rattle.toml_scalar.specs.declared.fault.SyntaxFault.{SyntaxFault}
use Rattle.toml_text.specs.Forms.{IsNewline}
use Rattle.toml_tree.specs.Spells.{IsExpr}
use Rattle.toml_tree.specs.declared.piece.Piece.{Piece}
use Rattle.toml_tree.specs.declared.piece.Blank.{Blank}
use Rattle.toml_tree.specs.declared.tree.Dotted.{Dotted}
use Rattle.toml_tree.specs.declared.tree.Key.{Key}
use Rattle.toml_tree.specs.declared.tree.Assign.{Assign}
use Rattle.toml_tree.specs.declared.piece.GapLine.{GapLine}
use Rattle.toml_tree.specs.declared.piece.Gap.{Gap}
use Rattle.toml_tree.specs.declared.piece.Gap.TheVariants as gaps
use Rattle.toml_tree.specs.declared.tree.Value.{Value}
use Rattle.toml_tree.specs.declared.tree.Value.TheOpen as layer
use Rattle.toml_tree.specs.declared.tree.Value.TheOpen.{Value-F, Array-F, Item-F, InlineTable-F, Pair-F, KeyVal-F}
use Rattle.toml_tree.specs.declared.tree.Value.TheFolds.{fold-Value, fold-Item, fold-Pair, fold-KeyVal}
use Rattle.toml_tree.specs.declared.tree.Item.{Item}
use Rattle.toml_tree.specs.declared.tree.Pair.{Pair}
use Rattle.toml_tree.specs.declared.tree.KeyVal.{KeyVal}
use Rattle.toml_tree.specs.declared.tree.Header.{Header}
use Rattle.toml_tree.specs.declared.step.Step.{Step}
use Rattle.toml_tree.specs.Reading.{Cursor}
use Rattle.toml_tree.specs.ReadingValues.{Element, Member, before_end, pairs_before_end}
use Rattle.toml_tree.specs.Reads.{step, behind, ReadsAs}
use Rattle.toml_tree.specs.declared.reader.Reader.{Reader}
use Rattle.toml_tree.specs.declared.tree.Expr.{Expr}
use Rattle.toml_tree.specs.declared.tree.Expr.TheVariants as exprs
use Rattle.toml_tree.specs.Tree as tree

abbrev pub piece : Piece → tree.Piece
piece p = record { start = p.start; text = p.text.now }

abbrev pub blank : Blank → tree.Blank
blank b = record { ws = piece b.ws; comment = option_map piece b.comment }

abbrev pub dotted : Dotted → tree.Dotted
dotted d = record { before_dot = piece d.before_dot; after_dot = piece d.after_dot; part = piece d.part }

abbrev pub key : Key → tree.Key
key k = record { first = piece k.first; rest = map dotted k.rest.items }

abbrev pub assign : Assign → tree.Assign
assign a = record { key = key a.key; before_equals = piece a.before_equals; after_equals = piece a.after_equals }

abbrev pub gap_line : GapLine → tree.GapLine
gap_line l = record { blank = blank l.blank; newline = piece l.newline }

-- lines, and the whitespace behind the last newline
abbrev pub lines_before : List tree.GapLine → tree.Piece → tree.Gap
lines_before ls ws = record { lines = ls; ws = ws }

abbrev pub gap : Gap → tree.Gap
gap (gaps.Ws p) = lines_before [] (piece p)
gap (gaps.Line b) = lines_before (gap_line b.value.line ∷ []) (piece b.value.ws)
gap (gaps.Lines b) = lines_before (map gap_line b.value.lines.items) (piece b.value.ws)

-- The items of an array with no comma behind the last. With no item and no gap it is none that stands in a text: there a gap's
-- place is behind `[`.
abbrev pub last_ends : List Element → tree.Items
last_ends [] = tree.Close (record { lines = []; ws = record { start = 0; text = [] } })
last_ends (e ∷ []) = tree.Last e.before e.value e.after
last_ends (e ∷ f ∷ es) = tree.More e.before e.value e.after (last_ends (f ∷ es))

-- the items of an array: the gap behind a last comma, or of an array of no item, is its end
abbrev pub array_items : List Element → Option Gap → tree.Items
array_items es (Some g) = before_end es (tree.Close (gap g))
array_items es None = last_ends es

-- the same of the pairs of an inline table
abbrev pub last_pairs : List Member → tree.Pairs
last_pairs [] = tree.ClosePairs (record { lines = []; ws = record { start = 0; text = [] } })
last_pairs (m ∷ []) = tree.LastPair m.before m.pair.assign m.pair.value m.after
last_pairs (m ∷ n ∷ ms) = tree.MorePairs m.before m.pair.assign m.pair.value m.after (last_pairs (n ∷ ms))

abbrev pub table_pairs : List Member → Option Gap → tree.Pairs
table_pairs ms (Some g) = pairs_before_end ms (tree.ClosePairs (gap g))
table_pairs ms None = last_pairs ms

-- one level of a value, the levels below it being trees already
abbrev pub array_step : Array-F tree.Value tree.Value tree.Value Element tree.KeyVal Member → tree.Value
array_step a = tree.Array (piece a.whole) (array_items a.items.items a.end)

abbrev pub item_step : Item-F tree.Value tree.Value tree.Value Element tree.KeyVal Member → Element
item_step i = record { before = gap i.before; value = i.value; after = gap i.after }

abbrev pub inline_step : InlineTable-F tree.Value tree.Value tree.Value Element tree.KeyVal Member → tree.Value
inline_step t = tree.Inline (piece t.whole) (table_pairs t.pairs.items t.end)

abbrev pub pair_step : Pair-F tree.Value tree.Value tree.Value Element tree.KeyVal Member → Member
pair_step p = record { before = gap p.before; pair = p.keyval; after = gap p.after }

abbrev pub keyval_step : KeyVal-F tree.Value tree.Value tree.Value Element tree.KeyVal Member → tree.KeyVal
keyval_step k = record { assign = assign k.assign; value = k.value }

abbrev pub value_step : Value-F tree.Value tree.Value tree.Value Element tree.KeyVal Member → tree.Value
value_step (layer.Scalar kind p) = tree.Scalar kind (piece p)
value_step (layer.Array a) = a.value
value_step (layer.Inline t) = t.value

abbrev pub value : Value → tree.Value
value = fold-Value tree.Value tree.Value tree.Value Element tree.KeyVal Member value_step array_step inline_step item_step keyval_step pair_step

abbrev pub element : Item → Element
element = fold-Item tree.Value tree.Value tree.Value Element tree.KeyVal Member value_step array_step inline_step item_step keyval_step pair_step

abbrev pub member : Pair → Member
member = fold-Pair tree.Value tree.Value tree.Value Element tree.KeyVal Member value_step array_step inline_step item_step keyval_step pair_step

abbrev pub keyval : KeyVal → tree.KeyVal
keyval = fold-KeyVal tree.Value tree.Value tree.Value Element tree.KeyVal Member value_step array_step inline_step item_step keyval_step pair_step

-- the items of an array, as they were read with the gap behind a last comma
abbrev pub all_items : Vec Item Global × Option Gap → tree.Items
all_items r = array_items (map element r.0.items) r.1

-- the items so far, behind a step that adds to them: a comma follows, or the array ends
abbrev pub items_so_far : List Item → Step (Unit {0}) (Option Gap) → Step (List Element) tree.Items
items_so_far is = step (λ u. map element is) (array_items (map element is))

-- a step of the reader adds to the items what the plain step reads behind them
abbrev pub AddsItem : Vec Item Global → Vec Item Global → Reader → Reader → Result (Step (Unit {0}) (Option Gap)) SyntaxFault → (Cursor → Option (Step Element tree.Items × Cursor)) → Type 0
AddsItem items all old new result plain = ReadsAs (items_so_far all.items) old new result (λ c. behind before_end (map element items.items) (plain c))

-- the same of an inline table
abbrev pub all_pairs : Vec Pair Global × Option Gap → tree.Pairs
all_pairs r = table_pairs (map member r.0.items) r.1

abbrev pub pairs_so_far : List Pair → Step (Unit {0}) (Option Gap) → Step (List Member) tree.Pairs
pairs_so_far ps = step (λ u. map member ps) (table_pairs (map member ps))

abbrev pub AddsPair : Vec Pair Global → Vec Pair Global → Reader → Reader → Result (Step (Unit {0}) (Option Gap)) SyntaxFault → (Cursor → Option (Step Member tree.Pairs × Cursor)) → Type 0
AddsPair pairs all old new result plain = ReadsAs (pairs_so_far all.items) old new result (λ c. behind pairs_before_end (map member pairs.items) (plain c))

abbrev pub header : Header → tree.Header
header h = record { before = piece h.before; key = key h.key; after = piece h.after }

abbrev pub expr : Expr → tree.Expr
expr (exprs.Blank b) = tree.BlankLine (blank b)
expr (exprs.KeyVal ws k tail) = tree.KeyValLine (piece ws) (keyval k) (blank tail)
expr (exprs.Std ws h tail) = tree.TableLine (piece ws) (header h) (blank tail)
expr (exprs.Array ws h tail) = tree.ArrayTableLine (piece ws) (header h) (blank tail)

-- an expression in its form, and a newline or, at the last line, none
abbrev pub IsLine : Expr → Piece → Type 0
IsLine e newline = IsExpr (expr e) × ((newline.text.now ≡ []) ⊎ IsNewline newline.text.now)
