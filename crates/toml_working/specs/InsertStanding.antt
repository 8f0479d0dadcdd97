-- `insert` of a name at the root, on lines by what finds them, and a line that is put in behind another, in any table.
use Rattle.std.specs.Prelude.{◌≡◌, length, map, ℕ, Bool, true, false, ◌&&◌, not, is_some, List, [], ◌∷◌, ◌++◌, Option, Some, None, if◌then◌else◌}
use Rattle.std.specs.List.{list_any}
use Rattle.toml_scalar.specs.Spelling.{spelled}
use Rattle.toml_names.specs.mentions.Keys.{Key}
use Rattle.toml_names.specs.model.Addresses.{Address, below}
use Rattle.toml_tree.specs.Spells.{EachIs}
use Rattle.toml_layout.specs.declared.layout.Layout.{Layout}
use Rattle.toml_layout.specs.declared.layout.Layout.TheVariants as layouts
use Rattle.toml_layout.specs.Looks.{equals_in}
use Rattle.toml_layout.specs.NewKeys.{key_of}
use Rattle.toml_working.specs.Manners.{Manner}
use Rattle.toml_layout.specs.Outlines.{AssignOutline, LineOutline, Pair, ValueOutline}
use Rattle.toml_layout.specs.Spacings.{Spacing, laid_out, plain_spacing, spaced_as}
use Rattle.toml_working.specs.Standing.{Standing, holds}

-- the key, `=` and the value, with this whitespace
abbrev pub new_assign : Spacing → Key → AssignOutline
new_assign s key = record (key_of (map spelled key)) { before_equals = s.before_equals; after_equals = s.after_equals }

abbrev pub new_outline : Spacing → Key → ValueOutline → List ℕ → LineOutline
new_outline s key v newline = record { ws = s.ws; expr = Pair (new_assign s key) v; tail = []; comment = None; newline = newline }

-- the line with them, in the section of the table at the address, and that of a name at the root
abbrev pub new_standing_in : Address → Spacing → Key → ValueOutline → List ℕ → Standing
new_standing_in q s key v newline = record { address = Some (below q key); base = Some (length q); outline = new_outline s key v newline }

abbrev pub new_standing : Spacing → List ℕ → ValueOutline → List ℕ → Standing
new_standing s name = new_standing_in [] s (name ∷ [])

-- the line in another newline
abbrev pub end_in : List ℕ → Standing → Standing
end_in newline s = record s { outline = record (s.outline) { newline = newline } }

-- as far in as this, and around its `=` as it is there
abbrev pub spaced_by : List ℕ → Option (List ℕ × List ℕ) → Spacing
spaced_by ws None = record { ws = ws; before_equals = 0x20 ∷ []; after_equals = 0x20 ∷ [] }
spaced_by ws (Some (before, after)) = spaced_as ws before after

-- how a line begins that takes after one of this base and outline: as that one, where it has a key and a value, else plainly
abbrev pub spacing_of : Option ℕ → LineOutline → Spacing
spacing_of None l = plain_spacing
spacing_of (Some n) l = spaced_by l.ws (equals_in l.expr)

-- the same at the root, in a layout
abbrev pub spacing_behind : Manner → Standing → Spacing
spacing_behind manner s = laid_out manner.layout (spacing_of s.base s.outline)

-- Whether a line of this base and address has a key and a value, or one of the lines behind has, before the first header: a header has
-- an address without a base, and a blank line has neither.
abbrev pub pair_or : Option ℕ → Option Address → Bool → Bool
pair_or (Some n) own behind = true
pair_or None None behind = behind
pair_or None (Some a) behind = false

-- whether a line with a key and a value stands before the first header
abbrev pub has_pair : List Standing → Bool
has_pair [] = false
has_pair (s ∷ ss) = pair_or s.base s.address (has_pair ss)

-- whether a line of this base and address has neither a key nor a header
abbrev pub is_bare : Option ℕ → Option Address → Bool
is_bare (Some n) own = false
is_bare None None = true
is_bare None (Some a) = false

-- whether a comment stands on a line alone, and whether nothing does
abbrev pub is_comment : Standing → Bool
is_comment s = is_bare s.base s.address && is_some s.outline.comment

abbrev pub is_blank : Standing → Bool
is_blank s = is_bare s.base s.address && not (is_some s.outline.comment)

-- whether lines begin with a comment line
abbrev pub has_comment : List Standing → Bool
has_comment [] = false
has_comment (s ∷ ss) = is_comment s

-- whether a blank line, or the end, follows the comment lines with which lines begin
abbrev pub comments_end : List Standing → Bool
comments_end [] = true
comments_end (s ∷ ss) = if is_comment s then comments_end ss else is_blank s

-- whether the first line of the root goes below the comment lines with which the text begins
abbrev pub goes_below : Layout → List Standing → Bool
goes_below layouts.Plain ss = false
goes_below layouts.Follow ss = has_comment ss && comments_end ss

-- A line, by its newline, and the new one behind it, in the section of the table at the address and with this whitespace. What has no
-- newline is a former last line: it gets that of new lines, and the new one has none.
abbrev pub line_put : Address → Spacing → Key → ValueOutline → Manner → Standing → List ℕ → List Standing
line_put q spacing key v manner s [] = end_in manner.newline s ∷ new_standing_in q spacing key v [] ∷ []
line_put q spacing key v manner s (b ∷ bs) = s ∷ new_standing_in q spacing key v manner.newline ∷ []

-- at the root, with that of the line
abbrev pub line_behind : List ℕ → ValueOutline → Manner → Standing → List ℕ → List Standing
line_behind name v manner s = line_put [] (spacing_behind manner s) (name ∷ []) v manner s

-- behind the last one of some lines; `more` tells of the lines behind one whether another of them follows
abbrev pub insert_behind : (List Standing → Bool) → List ℕ → ValueOutline → Manner → List Standing → List Standing
insert_behind more name v manner [] = []
insert_behind more name v manner (s ∷ ss) =
    if more ss then s ∷ insert_behind more name v manner ss else line_behind name v manner s s.outline.newline ++ ss

-- the first line of the root: below the comment lines with which the text begins, or before all lines
abbrev pub insert_first : List ℕ → ValueOutline → Manner → List Standing → List Standing
insert_first name v manner ss =
    if goes_below manner.layout ss then insert_behind has_comment name v manner ss else new_standing plain_spacing name v manner.newline ∷ ss

-- behind the last line with a key and a value, or as the first line of the root
abbrev pub insert_standing : List ℕ → ValueOutline → Manner → List Standing → List Standing
insert_standing name v manner ss = if has_pair ss then insert_behind has_pair name v manner ss else insert_first name v manner ss

-- the lines behind a header stand in other tables than the root
abbrev pub LeavesRoot : Option ℕ → Option Address → List Standing → Type 0
LeavesRoot (Some n) own behind = Unit {0}
LeavesRoot None None behind = Unit {0}
LeavesRoot None (Some a) behind = EachIs (λ (t : Standing). ¬ (t.base ≡ Some 0)) behind

-- those of the root come first
abbrev pub RootIsFirst : List Standing → Type 0
RootIsFirst [] = Unit {0}
RootIsFirst (s ∷ ss) = LeavesRoot s.base s.address ss × RootIsFirst ss

-- there are lines, those of the root come first, and the root is no line's value
pub record AreRooted (ss : List Standing) : Type 0 where
  pub some : ¬ (ss ≡ [])
  pub first : RootIsFirst ss
  pub none : list_any (holds []) ss ≡ false
