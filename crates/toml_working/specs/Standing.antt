-- What stands on lines, by what finds it: its address, and its outline. So lines of the working tree are what lines of a text are.
use Rattle.std.specs.Prelude.{◌≡◌, ℕ, ◌+◌, Bool, false, List, [], ◌∷◌, ◌++◌, map, All, AllPairs, Option, Some, None, option_and_then, slice_get}
use Rattle.toml_names.specs.model.Addresses.{Address}
use Rattle.toml_names.specs.mentions.Mentions.{Named, root, named_by}
use Rattle.toml_names.specs.reader.Names.{own_address}
use Rattle.toml_tree.specs.Tree as tree
use Rattle.toml_units.specs.declared.unit.Unit.{Unit as ReadUnit}
use Rattle.toml_units.specs.Units.{line_base}
use Rattle.toml_layout.specs.Beginnings.{begins}
use Rattle.toml_working.specs.declared.lines.Body.{Body}
use Rattle.toml_working.specs.declared.lines.Body.TheVariants as bodies
use Rattle.toml_working.specs.declared.lines.Kept.{Kept}
use Rattle.toml_working.specs.declared.lines.Line.{Line}
use Rattle.toml_working.specs.declared.lines.Slot.{Slot}
use Rattle.toml_working.specs.declared.lines.Slot.TheVariants as slots
use Rattle.toml_layout.specs.Apart.{HasKeysApart}
use Rattle.toml_layout.specs.OpenOutlines.{line}
use Rattle.toml_layout.specs.Outlines as outline
use Rattle.toml_layout.specs.Outlines.{ValueOutline, ExprOutline, LineOutline, no_line}
use Rattle.toml_layout.specs.SetOutlines.{set_outline, has_outline}
use Rattle.toml_layout.specs.TreeOutlines.{line_outline}

-- A line: where its value, table or element stands, how many steps lead to the table in which a line with a key and a value stands,
-- and its texts.
pub record Standing : Type 0 where
  pub address : Option Address
  pub base : Option ℕ
  pub outline : LineOutline

-- a line of a text, and lines, after what was named before them
abbrev pub line_stands : List Named → tree.Line → Standing
line_stands earlier l = record { address = own_address earlier l.expr; base = line_base earlier l.expr; outline = line_outline l }

abbrev pub standing_from : List Named → ℕ → List tree.Line → List Standing
standing_from earlier n [] = []
standing_from earlier n (l ∷ ls) = line_stands earlier l ∷ standing_from (earlier ++ named_by earlier n l.expr) (n + 1) ls

abbrev pub standing : List tree.Line → List Standing
standing = standing_from (root ∷ []) 0

-- the document before the edits, by which the lines stand that are as they were: its units, and its lines
pub record Read : Type 0 where
  pub units : List ReadUnit
  pub lines : List tree.Line

-- for a line that the document does not have stands one without anything on it
abbrev pub outline_of : Option tree.Line → LineOutline
outline_of None = no_line
outline_of (Some l) = line_outline l

-- a line that is as it was
abbrev pub kept_outline : Read → Kept → LineOutline
kept_outline read kept = outline_of (slice_get read.lines kept.line)

abbrev pub kept_standing : Read → Kept → Standing
kept_standing read kept = record {
  address = option_and_then (λ (u : ReadUnit). u.address) (slice_get read.units kept.first);
  base = option_and_then (λ (u : ReadUnit). u.base) (slice_get read.units kept.first);
  outline = kept_outline read kept;
}

abbrev pub body_outline : Read → Body → LineOutline
body_outline read (bodies.Kept kept) = kept_outline read kept
body_outline read (bodies.Open opened) = line opened.value

abbrev pub line_standing : Read → Line → Standing
line_standing read l = record { address = l.address; base = l.base; outline = body_outline read l.body }

abbrev pub slot_standing : Read → Slot → List Standing
slot_standing read (slots.Kept kept) = kept_standing read kept ∷ []
slot_standing read (slots.Lines lines) = map (line_standing read) lines.items

abbrev pub slots_standing : Read → List Slot → List Standing
slots_standing read [] = []
slots_standing read (s ∷ ss) = slot_standing read s ++ slots_standing read ss

-- whether a line with this address stands at the other or below it
abbrev pub lies_below : Address → Option Address → Bool
lies_below p None = false
lies_below p (Some a) = begins p a

-- whether a line with this base and address has a key and a value, and that value is what stands at the other address, or holds it
abbrev pub leads_to : Address → Option ℕ → Option Address → Bool
leads_to p None own = false
leads_to p (Some n) None = false
leads_to p (Some n) (Some a) = begins a p

-- the same of what stands on a line
abbrev pub is_below : Address → Standing → Bool
is_below p s = lies_below p s.address

abbrev pub holds : Address → Standing → Bool
holds p s = leads_to p s.base s.address

-- whether the other stands at the value of a line with this base and address, or in it
abbrev pub covers_at : Option ℕ → Option Address → Standing → Bool
covers_at None own t = false
covers_at (Some n) None t = false
covers_at (Some n) (Some a) t = is_below a t

-- whether the other stands at the value of the first, or in it
abbrev pub covers : Standing → Standing → Bool
covers s t = covers_at s.base s.address t

-- no line stands at the value of another, or in it
abbrev pub StandAlone : List Standing → Type 0
StandAlone ss = AllPairs (λ s t. (covers s t ≡ false) × (covers t s ≡ false)) ss

-- the keys in the value of a line, if it has one, are apart
abbrev pub IsApart : ExprOutline → Type 0
IsApart outline.Nothing = Unit {0}
IsApart (outline.Pair a v) = HasKeysApart v
IsApart (outline.Header opening before first rest after closing) = Unit {0}

-- all is as the table rules have it
pub record AreOrdered (ss : List Standing) : Type 0 where
  pub alone : StandAlone ss
  pub apart : All (λ s. IsApart s.outline.expr) ss

-- the value of a line, if it has one, made another
abbrev pub with_value_outline : (ValueOutline → ValueOutline) → ExprOutline → ExprOutline
with_value_outline f outline.Nothing = outline.Nothing
with_value_outline f (outline.Pair a v) = outline.Pair a (f v)
with_value_outline f (outline.Header opening before first rest after closing) = outline.Header opening before first rest after closing

-- `set` on lines: the value of a line, which stands at `at`, or what stands in it
abbrev pub set_line_outline : Address → ValueOutline → Address → LineOutline → LineOutline
set_line_outline p new at l = record l { expr = with_value_outline (set_outline p new at) l.expr }

-- of a line with this base and address
abbrev pub set_outline_of : Address → ValueOutline → Option ℕ → Option Address → LineOutline → LineOutline
set_outline_of p new None own l = l
set_outline_of p new (Some n) None l = l
set_outline_of p new (Some n) (Some a) l = set_line_outline p new a l

abbrev pub set_standing : Address → ValueOutline → Standing → Standing
set_standing p new s = record s { outline = set_outline_of p new s.base s.address s.outline }

-- whether a value stands at the address, on the line or in its value
abbrev pub expr_has : Address → Address → ExprOutline → Bool
expr_has p at outline.Nothing = false
expr_has p at (outline.Pair a v) = has_outline p at v
expr_has p at (outline.Header opening before first rest after closing) = false

-- on a line with this base and address
abbrev pub outline_has : Address → Option ℕ → Option Address → ExprOutline → Bool
outline_has p None own e = false
outline_has p (Some n) None e = false
outline_has p (Some n) (Some a) e = expr_has p a e

abbrev pub has : Address → Standing → Bool
has p s = outline_has p s.base s.address s.outline.expr
