-- The laws of the header line of a new table, and of a new element.
use Rattle.std.proofs.Common.{ℕ, List, None, inl, inr}
use Rattle.toml_tree.specs.Spells.{AreLines}
use Rattle.toml_tree.specs.Tree.{Line}
use Rattle.toml_tree.specs.declared.profile.Profile.{Profile}
use Rattle.toml_names.specs.mentions.Mentions.{named}
use Rattle.toml_names.specs.mentions.Rules.{KeepsRules}
use Rattle.toml_names.specs.model.Addresses.{Address, child, element}
use Rattle.toml_names.specs.model.Data.{IsDataOf, Kinds}
use Rattle.toml_names.proofs.Proved.{lines_are_closed}
use Rattle.toml_edits.specs.Edits.{new_element, new_section}
use Rattle.toml_edits.specs.Faults.{IsFault}
use Rattle.toml_units.specs.Units.{units}
use Rattle.toml_layout.specs.declared.tree.Brackets.{Brackets}
use Rattle.toml_layout.specs.declared.tree.Brackets.TheVariants.{One, Two}
use Rattle.toml_working.specs.Manners.{Manner}
use Rattle.toml_working.specs.Premises.{IsInNoValue}
use Rattle.toml_editor.specs.HeaderLaws.{ElementIsLaidOut, ElementNames, ElementUnits, SectionIsLaidOut, SectionNames, SectionUnits}
use Rattle.toml_editor.specs.UnitBlocks.{IsHeaderUnitPut}
use Rattle.toml_editor.proofs.written.ElementNamed.{element_is_put}
use Rattle.toml_editor.proofs.written.HeaderFacts.{element_room, section_room}
use Rattle.toml_editor.proofs.written.HeaderLaidOut.{StandsInLayout, element_laid_out, section_laid_out}
use Rattle.toml_editor.proofs.written.SectionNamed.{section_is_put}
use Rattle.toml_editor.proofs.written.HeaderPut.{IsHeaderPut}
use Rattle.toml_editor.proofs.written.UnitsHeaded.{header_units}

module _ (profile : Profile) (q : Address) (manner : Manner) (lines : List Line) (kinds : Kinds) (forms : AreLines lines) (keeps : KeepsRules (named lines))
    (facts : IsDataOf (named lines) kinds) (outside : IsInNoValue lines q) where
  section_placed : (name : List ℕ) → IsFault profile (new_section (child q name)) kinds None
      → StandsInLayout manner.layout q One (child q name) manner lines
  section_placed name none = section_laid_out q name manner lines kinds forms keeps facts (section_room profile q name kinds none) outside

  element_placed : (i : ℕ) → IsFault profile (new_element (element q i)) kinds None → StandsInLayout manner.layout q Two (element q i) manner lines
  element_placed i none =
      element_laid_out q i manner lines kinds forms keeps facts (element_room profile q i kinds (lines_are_closed lines kinds keeps facts) none) outside

pub section_names : SectionNames
section_names profile q name manner lines kinds forms keeps facts none outside =
    section_is_put q name manner.newline lines _ (section_placed profile q manner lines kinds forms keeps facts outside name none).header

pub element_names : ElementNames
element_names profile q i manner lines kinds forms keeps facts none outside =
    element_is_put q i manner.newline lines _ (element_placed profile q manner lines kinds forms keeps facts outside i none).header

pub section_is_laid_out : SectionIsLaidOut
section_is_laid_out profile q name manner lines kinds forms keeps facts none outside =
    (section_placed profile q manner lines kinds forms keeps facts outside name none).stands

pub element_is_laid_out : ElementIsLaidOut
element_is_laid_out profile q i manner lines kinds forms keeps facts none outside =
    (element_placed profile q manner lines kinds forms keeps facts outside i none).stands

-- how it is put in tells its units
unit_put : (brackets : Brackets) (p : Address) (style : List ℕ) (old new : List Line) → IsHeaderPut brackets p style old new
    → (ws : List ℕ) × IsHeaderUnitPut brackets p ws (units old) (units new)
unit_put brackets p style old new put = (put.ws, elim (header_units brackets p style old new put) [ inl alone ↦ inl alone.put | inr parted ↦ inr parted.0.put ])

pub section_units : SectionUnits
section_units profile q name manner lines kinds forms keeps facts none outside =
    unit_put One (child q name) manner.newline lines _ (section_placed profile q manner lines kinds forms keeps facts outside name none).header

pub element_units : ElementUnits
element_units profile q i manner lines kinds forms keeps facts none outside =
    unit_put Two (element q i) manner.newline lines _ (element_placed profile q manner lines kinds forms keeps facts outside i none).header
