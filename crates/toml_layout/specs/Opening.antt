-- What opening makes of trees: what is opened has the outline of the tree, where the tree's parts stand in the text.
use Rattle.std.specs.Prelude.{◌≡◌, ◌+◌, ℕ, List, ◌++◌, map, length, slice_range, Option, MatchOption, Result, IfOk}
use Rattle.std.specs.declared.alloc.AllocError.{AllocError}
use Rattle.toml_text.specs.Source.{text_of}
use Rattle.toml_text.specs.Limit.{IsText}
use Rattle.toml_tree.specs.Parts.{size}
use Rattle.toml_tree.specs.Profiles.{IsNoValue, IsValueIn}
use Rattle.toml_tree.specs.Spells.{Part, Placed, IsExpr, IsGap, IsValue, joined, gap_parts, value_parts, keyval_parts, line_parts}
use Rattle.toml_tree.specs.Tree as tree
use Rattle.toml_tree.specs.View.{piece, element, member, array_items, table_pairs}
use Rattle.toml_tree.specs.declared.profile.Profile.{Profile}
use Rattle.toml_tree.specs.declared.tree.Array.{Array}
use Rattle.toml_tree.specs.declared.tree.InlineTable.{InlineTable}
use Rattle.toml_tree.specs.declared.tree.Value.TheViews.{out-Array, out-InlineTable}
use Rattle.toml_layout.specs.declared.texts.Texts.{Texts}
use Rattle.toml_layout.specs.declared.tree.Entries.{Entries}
use Rattle.toml_layout.specs.declared.tree.Gap.{Gap}
use Rattle.toml_layout.specs.declared.tree.Key.{Key}
use Rattle.toml_layout.specs.declared.tree.KeyVal.{KeyVal}
use Rattle.toml_layout.specs.declared.tree.OpenLine.{OpenLine}
use Rattle.toml_layout.specs.declared.tree.Value.{Value}
use Rattle.toml_layout.specs.OpenOutlines.{leaf_text, gap_read, dotted, assign, value, entries, line}
use Rattle.toml_layout.specs.Outlines as outline
use Rattle.toml_layout.specs.Outlines.{AssignOutline, ValueOutline}
use Rattle.toml_layout.specs.TreeOutlines.{gap_outline, dotted_outline, assign_outline, value_outline, line_outline}

-- the parts stand in the text, from the place on
pub record LieAt (text : List ℕ) (at : ℕ) (ps : List Part) : Type 0 where
  pub placed : Placed at ps
  pub front : List ℕ
  pub back : List ℕ
  pub split : text ≡ front ++ (joined ps ++ back)
  pub begins : length front ≡ at

-- somewhere in it
abbrev pub Lie : List ℕ → List Part → Type 0
Lie text ps = (at : ℕ) × LieAt text at ps

-- a gap, a value, a pair and a line stand so in it, in their forms
abbrev pub GapStands : List ℕ → tree.Gap → Type 0
GapStands text g = IsGap g × Lie text (gap_parts g)

abbrev pub ValueStands : List ℕ → tree.Value → Type 0
ValueStands text v = IsValue v × Lie text (value_parts v)

abbrev pub PairStands : List ℕ → tree.KeyVal → Type 0
PairStands text k = IsValue k.value × Lie text (keyval_parts k)

abbrev pub LineStands : List ℕ → tree.Line → Type 0
LineStands text l = IsExpr l.expr × Lie text (line_parts l)

-- What is opened has the outline where it stands in the text: a gap with newlines is one piece, read from the text itself.
abbrev pub OpensAs : {A : Type 0} → {B : Type 0} → Type 0 → (A → B) → B → Result A AllocError → Type 0
OpensAs Stands outlined is result = IfOk result (λ a. Stands → outlined a ≡ is)

abbrev pub OpensGap : Texts → tree.Gap → Result Gap AllocError → Type 0
OpensGap texts g = OpensAs (GapStands (text_of texts.source) g) gap_read (gap_outline g)

abbrev pub OpensValue : Texts → tree.Value → Result Value AllocError → Type 0
OpensValue texts v = OpensAs (ValueStands (text_of texts.source) v) value (value_outline v)

-- The text of a value that an edit brings: it is a value of the profile, and what is opened has its outline; within the limit of a text
-- there is none only where it is no value of the profile.
abbrev pub OpensText : Profile → List ℕ → Option Value → Type 0
OpensText profile text found =
    MatchOption found (IsText text → IsNoValue profile text)
    (λ opened. (v : tree.Value) × IsValueIn profile v text × (value opened ≡ value_outline v))

-- what stands between the brackets of an array, or the braces of an inline table
abbrev pub OpensArray : Texts → tree.Value → Result Entries AllocError → Type 0
OpensArray texts v =
    OpensAs (ValueStands (text_of texts.source) v) (λ e. outline.Listed (entries e).opening (entries e).entries) (value_outline v)

abbrev pub OpensInline : Texts → tree.Value → Result Entries AllocError → Type 0
OpensInline texts v =
    OpensAs (ValueStands (text_of texts.source) v) (λ e. outline.Braced (entries e).opening (entries e).entries) (value_outline v)

abbrev pub OpensKeyVal : Texts → tree.KeyVal → Result KeyVal AllocError → Type 0
OpensKeyVal texts k =
    OpensAs {B = AssignOutline × ValueOutline} (PairStands (text_of texts.source) k) (λ p. (assign p.assign, value p.value))
    (assign_outline k.assign, value_outline k.value)

abbrev pub OpensLine : Texts → tree.Line → Result OpenLine AllocError → Type 0
OpensLine texts l = OpensAs (LineStands (text_of texts.source) l) line (line_outline l)

-- the parts of the key, and what stands between them
abbrev pub IsKeyOpened : tree.Key → Key → Type 0
IsKeyOpened k opened = (leaf_text opened.first ≡ k.first.text) × (map dotted opened.rest.items ≡ map dotted_outline k.rest)

-- the trees of an array and of an inline table
abbrev pub array_tree : Array → tree.Value
array_tree a = tree.Array (piece (out-Array a).whole) (array_items (map element (out-Array a).items.items) (out-Array a).end)

abbrev pub inline_tree : InlineTable → tree.Value
inline_tree t = tree.Inline (piece (out-InlineTable t).whole) (table_pairs (map member (out-InlineTable t).pairs.items) (out-InlineTable t).end)

-- Laws: of parts that stand in a text the first ones do, and the others behind them; and the text there is theirs.
abbrev pub FrontLies : Type 0
FrontLies = (text : List ℕ) (at : ℕ) (ps qs : List Part) → LieAt text at (ps ++ qs) → LieAt text at ps

abbrev pub BackLies : Type 0
BackLies = (text : List ℕ) (at : ℕ) (ps qs : List Part) → LieAt text at (ps ++ qs) → LieAt text (at + size ps) qs

abbrev pub TextIsTheirs : Type 0
TextIsTheirs = (text : List ℕ) (at : ℕ) (ps : List Part) → LieAt text at ps → slice_range text at (at + size ps) ≡ joined ps
