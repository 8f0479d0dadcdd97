-- Where a header line goes in either layout: it may stand there, and what then stands on the lines is what is laid out.
use Rattle.std.proofs.Common.{ℕ, List, true, false, ◌≡◌}
use Rattle.toml_tree.specs.Spells.{AreLines}
use Rattle.toml_tree.specs.Tree.{Line}
use Rattle.toml_names.specs.mentions.Mentions.{named}
use Rattle.toml_names.specs.mentions.Rules.{KeepsRules}
use Rattle.toml_names.specs.model.Addresses.{Address, child, element}
use Rattle.toml_names.specs.model.Data.{IsDataOf, Kinds}
use Rattle.toml_layout.specs.declared.layout.Layout.{Layout}
use Rattle.toml_layout.specs.declared.layout.Layout.TheVariants as layouts
use Rattle.toml_layout.specs.declared.tree.Brackets.TheVariants.{One, Two}
use Rattle.toml_layout.specs.declared.tree.Brackets.{Brackets}
use Rattle.toml_working.specs.HeaderStanding.{blank_laid_out, header_laid_out}
use Rattle.toml_working.specs.Manners.{Manner}
use Rattle.toml_working.specs.Standing.{standing}
use Rattle.toml_working.specs.Premises.{IsInNoValue}
use Rattle.toml_editor.specs.EditedLines.{with_header}
use Rattle.toml_editor.proofs.written.FollowedFacts.{element_put_following, section_put_following}
use Rattle.toml_editor.proofs.written.HeaderFacts.{IsNextElement, IsRoom}
use Rattle.toml_editor.proofs.written.HeaderThere.{StandsWithHeader}
use Rattle.toml_editor.proofs.written.PlainFacts.{element_put_plainly, section_put_plainly}

-- The lines with the header line of what is to stand at `p`, right below `q`, and what stands on them, in a layout: they are one more, where no
-- blank line is written before it.
abbrev pub StandsInLayout : Layout → Address → Brackets → Address → Manner → List Line → Type 0
StandsInLayout layout q brackets p manner lines =
    StandsWithHeader brackets p manner.newline lines (blank_laid_out layout q p brackets manner (standing lines) ≡ true)
    (with_header layout q brackets p manner lines) (header_laid_out layout q p brackets manner (standing lines))

module _ (manner : Manner) (lines : List Line) (kinds : Kinds) (forms : AreLines lines) (keeps : KeepsRules (named lines)) (facts : IsDataOf (named lines) kinds) where
  section_by_layout : (layout : Layout) (q : Address) (name : List ℕ) → IsRoom q name kinds → IsInNoValue lines q
      → StandsInLayout layout q One (child q name) manner lines
  section_by_layout layouts.Plain q name room outside = section_put_plainly q name manner.newline lines (false ≡ true) kinds forms keeps facts room outside
  section_by_layout layouts.Follow q name room outside =
      section_put_following q name manner.newline manner.may_blank lines kinds forms keeps facts room outside

  element_by_layout : (layout : Layout) (q : Address) (i : ℕ) → IsNextElement q i kinds → IsInNoValue lines q
      → StandsInLayout layout q Two (element q i) manner lines
  element_by_layout layouts.Plain q i room outside = element_put_plainly q i manner.newline lines (false ≡ true) kinds forms keeps facts room outside
  element_by_layout layouts.Follow q i room outside = element_put_following q i manner.newline manner.may_blank lines kinds forms keeps facts room outside

-- in the layout that is written by
pub section_laid_out : (q : Address) (name : List ℕ) (manner : Manner) (lines : List Line) (kinds : Kinds) → AreLines lines → KeepsRules (named lines)
    → IsDataOf (named lines) kinds → IsRoom q name kinds → IsInNoValue lines q → StandsInLayout manner.layout q One (child q name) manner lines
section_laid_out q name manner lines kinds forms keeps facts room outside =
    section_by_layout manner lines kinds forms keeps facts manner.layout q name room outside

-- and so of an element
pub element_laid_out : (q : Address) (i : ℕ) (manner : Manner) (lines : List Line) (kinds : Kinds) → AreLines lines → KeepsRules (named lines)
    → IsDataOf (named lines) kinds → IsNextElement q i kinds → IsInNoValue lines q → StandsInLayout manner.layout q Two (element q i) manner lines
element_laid_out q i manner lines kinds forms keeps facts room outside =
    element_by_layout manner lines kinds forms keeps facts manner.layout q i room outside
