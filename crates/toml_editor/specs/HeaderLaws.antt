-- Laws of the header line of a new table, and of a new element, over the lines before and after it, in each layout; and of what lies in values.
use Rattle.std.specs.Prelude.{◌≡◌, ◌↔◌, ℕ, List, Any, Option, Some, None}
use Rattle.toml_tree.specs.Spells.{AreLines}
use Rattle.toml_tree.specs.Tree.{Line}
use Rattle.toml_tree.specs.declared.profile.Profile.{Profile}
use Rattle.toml_names.specs.declared.model.place.Place.{Place}
use Rattle.toml_names.specs.declared.model.place.Place.TheVariants as places
use Rattle.toml_names.specs.mentions.Mentions.{named}
use Rattle.toml_names.specs.mentions.Rules.{KeepsRules}
use Rattle.toml_names.specs.model.Addresses.{Address, child, element}
use Rattle.toml_names.specs.model.Data.{IsDataOf, Kinds}
use Rattle.toml_names.specs.model.Places.{place}
use Rattle.toml_edits.specs.Edits.{new_element, new_section}
use Rattle.toml_edits.specs.Faults.{IsFault}
use Rattle.toml_units.specs.Units.{units}
use Rattle.toml_layout.specs.declared.layout.Layout.{Layout}
use Rattle.toml_layout.specs.declared.tree.Brackets.TheVariants.{One, Two}
use Rattle.toml_working.specs.HeaderStanding.{AreReadyForHeader, header_laid_out}
use Rattle.toml_working.specs.Manners.{Manner}
use Rattle.toml_working.specs.Standing.{standing}
use Rattle.toml_editor.specs.Blocks.{IsPut, element_block, named_plain, section_block}
use Rattle.toml_working.specs.Premises.{IsInNoValue}
use Rattle.toml_editor.specs.EditedLines.{with_header}
use Rattle.toml_editor.specs.UnitBlocks.{IsHeaderUnitPut}

-- Laws: the lines after a `section` without a fault, above which no line's value stands, name what they named, and what the new header names;
abbrev pub SectionNames : Type 0
SectionNames = (profile : Profile) (q : Address) (name : List ℕ) (manner : Manner) (lines : List Line) (kinds : Kinds)
    → AreLines lines → KeepsRules (named lines) → IsDataOf (named lines) kinds → IsFault profile (new_section (child q name)) kinds None → IsInNoValue lines q
    → IsPut (named_plain lines) (section_block (child q name)) (named_plain (with_header manner.layout q One (child q name) manner lines))

-- so do those after such an `element`.
abbrev pub ElementNames : Type 0
ElementNames = (profile : Profile) (q : Address) (i : ℕ) (manner : Manner) (lines : List Line) (kinds : Kinds)
    → AreLines lines → KeepsRules (named lines) → IsDataOf (named lines) kinds → IsFault profile (new_element (element q i)) kinds None → IsInNoValue lines q
    → IsPut (named_plain lines) (element_block q i) (named_plain (with_header manner.layout q Two (element q i) manner lines))

-- Laws: by what finds them the lines after such a `section` are what the working tree makes of the lines before,
abbrev pub SectionIsLaidOut : Type 0
SectionIsLaidOut = (profile : Profile) (q : Address) (name : List ℕ) (manner : Manner) (lines : List Line) (kinds : Kinds)
    → AreLines lines → KeepsRules (named lines) → IsDataOf (named lines) kinds → IsFault profile (new_section (child q name)) kinds None → IsInNoValue lines q
    → standing (with_header manner.layout q One (child q name) manner lines)
    ≡ header_laid_out manner.layout q (child q name) One manner (standing lines)

-- and so are those after such an `element`.
abbrev pub ElementIsLaidOut : Type 0
ElementIsLaidOut = (profile : Profile) (q : Address) (i : ℕ) (manner : Manner) (lines : List Line) (kinds : Kinds)
    → AreLines lines → KeepsRules (named lines) → IsDataOf (named lines) kinds → IsFault profile (new_element (element q i)) kinds None → IsInNoValue lines q
    → standing (with_header manner.layout q Two (element q i) manner lines)
    ≡ header_laid_out manner.layout q (element q i) Two manner (standing lines)

-- Laws: the units of the lines after such a `section` are those of before and its header line's, which begins with some text,
abbrev pub SectionUnits : Type 0
SectionUnits = (profile : Profile) (q : Address) (name : List ℕ) (manner : Manner) (lines : List Line) (kinds : Kinds)
    → AreLines lines → KeepsRules (named lines) → IsDataOf (named lines) kinds → IsFault profile (new_section (child q name)) kinds None → IsInNoValue lines q
    → (ws : List ℕ) × IsHeaderUnitPut One (child q name) ws (units lines) (units (with_header manner.layout q One (child q name) manner lines))

-- and so are those after such an `element`.
abbrev pub ElementUnits : Type 0
ElementUnits = (profile : Profile) (q : Address) (i : ℕ) (manner : Manner) (lines : List Line) (kinds : Kinds)
    → AreLines lines → KeepsRules (named lines) → IsDataOf (named lines) kinds → IsFault profile (new_element (element q i)) kinds None → IsInNoValue lines q
    → (ws : List ℕ) × IsHeaderUnitPut Two (element q i) ws (units lines) (units (with_header manner.layout q Two (element q i) manner lines))

-- Law: the lines of each document are ready for a header line: there are lines, the root is no line's value, and the header lines of the
-- innermost element stand in turn.
abbrev pub DocumentsAreReady : Type 0
DocumentsAreReady = (layout : Layout) (q : Address) (lines : List Line) → AreLines lines → KeepsRules (named lines) → AreReadyForHeader layout q (standing lines)

-- it is the value of a line, or stands in one
abbrev pub IsInValue : Option Place → Type 0
IsInValue (Some (places.KeyVal line)) = Unit {0}
IsInValue (Some (places.Inside line)) = Unit {0}
IsInValue _ = ⊥

-- Law: where a thing stands tells whether a line's value stands at it or above it: the places of the names say the same as what stands on
-- the lines.
abbrev pub ValueIsPlace : Type 0
ValueIsPlace = (q : Address) (lines : List Line) → Any (λ m. m.address ≡ q) (named lines) → (¬ IsInNoValue lines q) ↔ IsInValue (place (named lines) q)
