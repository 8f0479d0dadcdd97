-- `section` and `element` on lines, by what finds them: the header line of a new table, or of a new element of an array of tables.
use Rattle.std.specs.Prelude.{◌≡◌, ◌&&◌, Bool, false, not, List, [], if◌then◌else◌}
use Rattle.std.specs.List.{list_any}
use Rattle.toml_names.specs.model.Addresses.{Address}
use Rattle.toml_layout.specs.declared.layout.Layout.{Layout}
use Rattle.toml_layout.specs.declared.layout.Layout.TheVariants as layouts
use Rattle.toml_layout.specs.declared.tree.Brackets.{Brackets}
use Rattle.toml_working.specs.FollowingHeaders.{put_following, writes_blank}
use Rattle.toml_working.specs.Headers.{ElementStands, innermost, new_header, put_plainly}
use Rattle.toml_working.specs.Manners.{Manner}
use Rattle.toml_working.specs.Standing.{Standing, holds}

-- the header line of what is to stand at `p`, right below `q`, put in among lines by a layout
abbrev pub header_laid_out : Layout → Address → Address → Brackets → Manner → List Standing → List Standing
header_laid_out layouts.Plain q p brackets manner ss = put_plainly (innermost q) (new_header p brackets []) manner.newline ss
header_laid_out layouts.Follow q p brackets manner ss = put_following q p brackets manner.newline manner.may_blank ss

-- it is put in where no line's value stands at `q` or above it
abbrev pub header_standing : Address → Address → Brackets → Manner → List Standing → List Standing
header_standing q p brackets manner ss = if list_any (holds q) ss then ss else header_laid_out manner.layout q p brackets manner ss

-- whether a blank line is written before it
abbrev pub blank_laid_out : Layout → Address → Address → Brackets → Manner → List Standing → Bool
blank_laid_out layouts.Plain q p brackets manner ss = false
blank_laid_out layouts.Follow q p brackets manner ss = writes_blank q p brackets manner.newline manner.may_blank ss

abbrev pub blank_standing : Address → Address → Brackets → Manner → List Standing → Bool
blank_standing q p brackets manner ss = not (list_any (holds q) ss) && blank_laid_out manner.layout q p brackets manner ss

-- in layout `Plain` the header lines of the innermost element there or above stand in turn
abbrev pub ElementIn : Layout → Address → List Standing → Type 0
ElementIn layouts.Plain q ss = ElementStands (innermost q) ss
ElementIn layouts.Follow q ss = Unit {0}

-- what lines need before a header line is put in, and documents have by the table rules: there are lines, the root is no line's value, and the
-- header lines of an element stand in turn
pub record AreReadyForHeader (layout : Layout) (q : Address) (ss : List Standing) : Type 0 where
  pub some : ¬ (ss ≡ [])
  pub root : list_any (holds []) ss ≡ false
  pub element : ElementIn layout q ss
