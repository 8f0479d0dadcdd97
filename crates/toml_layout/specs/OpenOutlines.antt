-- The outlines of what is opened.
use Rattle.std.specs.Prelude.{ℕ, List, [], ◌∷◌, ◌++◌, map, Option, option_map}
use Rattle.toml_lists.specs.Gaps.{items}
use Rattle.toml_layout.specs.declared.tree.Leaf.{Leaf}
use Rattle.toml_layout.specs.declared.tree.Leaf.TheVariants as leaves
use Rattle.toml_layout.specs.declared.tree.Blank.{Blank}
use Rattle.toml_layout.specs.declared.tree.Gap.{Gap}
use Rattle.toml_layout.specs.declared.tree.GapPart.{GapPart}
use Rattle.toml_layout.specs.declared.tree.GapPart.TheVariants as parts
use Rattle.toml_layout.specs.declared.tree.Dotted.{Dotted}
use Rattle.toml_layout.specs.declared.tree.Key.{Key}
use Rattle.toml_layout.specs.declared.tree.Assign.{Assign}
use Rattle.toml_layout.specs.declared.tree.Brackets.{Brackets}
use Rattle.toml_layout.specs.declared.tree.Brackets.TheVariants.{One, Two}
use Rattle.toml_layout.specs.declared.tree.Header.{Header}
use Rattle.toml_layout.specs.declared.tree.Value.{Value}
use Rattle.toml_layout.specs.declared.tree.Value.TheOpen as layer
use Rattle.toml_layout.specs.declared.tree.Value.TheOpen.{Value-F, Entries-F, Entry-F}
use Rattle.toml_layout.specs.declared.tree.Value.TheFolds.{fold-Value, fold-Entries, fold-Entry}
use Rattle.toml_layout.specs.declared.tree.Entries.{Entries}
use Rattle.toml_layout.specs.declared.tree.Entry.{Entry}
use Rattle.toml_layout.specs.declared.tree.Expr.{Expr}
use Rattle.toml_layout.specs.declared.tree.Expr.TheVariants as exprs
use Rattle.toml_layout.specs.declared.tree.OpenLine.{OpenLine}
use Rattle.toml_layout.specs.Parts.{PartOutline, Ws, Comment, Newline, lines_apart, parts_outlined}
use Rattle.toml_layout.specs.Outlines as outline
use Rattle.toml_layout.specs.Outlines.{DottedOutline, AssignOutline, ValueOutline, EntriesOutline, ExprOutline, LineOutline, dotted_outlined, own_assign_outlined, comment_outlined, value_outlined}

abbrev pub leaf_text : Leaf → List ℕ
leaf_text (leaves.Kept start text) = text.now
leaf_text (leaves.New text) = text.now

abbrev pub gap_part_text : GapPart → List ℕ
gap_part_text (parts.Ws ws) = leaf_text ws
gap_part_text (parts.Comment comment) = leaf_text comment
gap_part_text (parts.Newline newline) = leaf_text newline
gap_part_text (parts.Lines lines) = leaf_text lines

-- the texts of the parts, one behind the other
abbrev pub gap_parts_text : List GapPart → List ℕ
gap_parts_text [] = []
gap_parts_text (p ∷ ps) = gap_part_text p ++ gap_parts_text ps

-- the parts of a gap as they read, whether or not an edit has taken its lines apart
abbrev pub part_read : GapPart → List PartOutline
part_read (parts.Ws ws) = Ws (leaf_text ws) ∷ []
part_read (parts.Comment comment) = Comment (leaf_text comment) ∷ []
part_read (parts.Newline newline) = Newline (leaf_text newline) ∷ []
part_read (parts.Lines lines) = lines_apart (leaf_text lines)

abbrev pub parts_read : List GapPart → List PartOutline
parts_read [] = []
parts_read (p ∷ ps) = part_read p ++ parts_read ps

abbrev pub gap_read : Gap → List PartOutline
gap_read g = parts_read g.parts.items

abbrev pub dotted : Dotted → DottedOutline
dotted d = record { before_dot = leaf_text d.before_dot; after_dot = leaf_text d.after_dot; part = leaf_text d.part }

abbrev pub assign : Assign → AssignOutline
assign a = record { first = leaf_text a.key.first; rest = map dotted a.key.rest.items; before_equals = leaf_text a.before_equals; after_equals = leaf_text a.after_equals }

-- the text of a key, and that of a blank
abbrev pub key_text : Key → List ℕ
key_text k = leaf_text k.first ++ dotted_outlined (map dotted k.rest.items)

-- a comment, where there is one
abbrev pub comment_text : Option Leaf → List ℕ
comment_text c = comment_outlined (option_map leaf_text c)

abbrev pub blank_text : Blank → List ℕ
blank_text b = leaf_text b.ws ++ comment_text b.comment

-- an entry, and the parts of the gaps around it
pub record EntryOutline : Type 0 where
  pub before : List PartOutline
  pub assign : Option AssignOutline
  pub value : ValueOutline
  pub after : List PartOutline

-- its text
abbrev pub entry_outlined : EntryOutline → List ℕ
entry_outlined e = parts_outlined e.before ++ (own_assign_outlined e.assign ++ (value_outlined e.value ++ parts_outlined e.after))

-- entries, and what stands behind the last comma
abbrev pub entries_of : List EntryOutline → Option (List PartOutline) → EntriesOutline
entries_of [] end = outline.End end
entries_of (e ∷ es) end = outline.Entry e.before e.assign e.value e.after (entries_of es end)

-- what stands between the brackets or the braces, and the first of these
pub record Enclosed : Type 0 where
  pub opening : List ℕ
  pub entries : EntriesOutline

-- one level of a value, the levels below it being outlines already
abbrev pub value_step : Value-F ValueOutline Enclosed EntryOutline → ValueOutline
value_step (layer.Scalar token) = outline.Token (leaf_text token)
value_step (layer.Array entries) = outline.Listed entries.value.opening entries.value.entries
value_step (layer.Inline entries) = outline.Braced entries.value.opening entries.value.entries

abbrev pub entries_step : Entries-F ValueOutline Enclosed EntryOutline → Enclosed
entries_step e = record { opening = leaf_text e.opening; entries = entries_of (items e.list) (option_map gap_read e.end) }

abbrev pub entry_step : Entry-F ValueOutline Enclosed EntryOutline → EntryOutline
entry_step e = record {
  before = gap_read e.before;
  assign = option_map (λ a. assign a.value) e.assign;
  value = e.value;
  after = gap_read e.after;
}

abbrev pub value : Value → ValueOutline
value = fold-Value ValueOutline Enclosed EntryOutline value_step entries_step entry_step

abbrev pub entries : Entries → Enclosed
entries = fold-Entries ValueOutline Enclosed EntryOutline value_step entries_step entry_step

abbrev pub entry : Entry → EntryOutline
entry = fold-Entry ValueOutline Enclosed EntryOutline value_step entries_step entry_step

-- the brackets before a header's key, and those behind it
abbrev pub opening_brackets : Brackets → List ℕ
opening_brackets One = 0x5B ∷ []
opening_brackets Two = 0x5B ∷ 0x5B ∷ []

abbrev pub closing_brackets : Brackets → List ℕ
closing_brackets One = 0x5D ∷ []
closing_brackets Two = 0x5D ∷ 0x5D ∷ []

abbrev pub header : Header → ExprOutline
header h = outline.Header (opening_brackets h.brackets) (leaf_text h.before) (leaf_text h.key.first) (map dotted h.key.rest.items) (leaf_text h.after) (closing_brackets h.brackets)

abbrev pub expr : Expr → ExprOutline
expr exprs.Blank = outline.Nothing
expr (exprs.Pair pair) = outline.Pair (assign pair.assign) (value pair.value)
expr (exprs.Header h) = header h

abbrev pub line : OpenLine → LineOutline
line l = record {
  ws = leaf_text l.ws;
  expr = expr l.expr;
  tail = leaf_text l.tail.ws;
  comment = option_map leaf_text l.tail.comment;
  newline = leaf_text l.newline;
}
