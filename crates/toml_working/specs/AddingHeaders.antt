-- What the call that puts a header line in makes of the lines of a tree.
use Rattle.std.specs.Prelude.{◌≡◌, ◌||◌, Bool, true, not, List, [], ◌∷◌, ◌++◌, map, Option, string_bytes}
use Rattle.std.specs.List.{list_any}
use Rattle.std.specs.declared.alloc.Global.{Global}
use Rattle.std.specs.declared.string.String.{String}
use Rattle.toml_names.specs.declared.model.address.Step.{Step}
use Rattle.toml_names.specs.model.Addresses.{Address}
use Rattle.toml_text.specs.Source.{text_of}
use Rattle.toml_layout.specs.declared.tree.Brackets.{Brackets}
use Rattle.toml_working.specs.declared.working.Tree.{Tree}
use Rattle.toml_working.specs.Following.{ArrayIsNotRoot}
use Rattle.toml_working.specs.HeaderStanding.{ElementIn, AreReadyForHeader, blank_laid_out, blank_standing, header_laid_out, header_standing}
use Rattle.toml_working.specs.Headers.{innermost}
use Rattle.toml_working.specs.Putting.{manner}
use Rattle.toml_working.specs.PuttingHeaders.{AreSpellings}
use Rattle.toml_working.specs.Standing.{Standing, Read, AreOrdered, holds}
use Rattle.toml_working.specs.Stands.{Stands}

-- What is asked: the header line of what is to stand at `p`, one step below `q`. The element is the innermost one at `q` or above, an array is
-- not the root, and the steps are spelled so.
pub record IsAsked (q p : Address) (element : Option Address) (steps : List (String Global)) : Type 0 where
  pub right : (s : Step) × (p ≡ q ++ s ∷ [])
  pub inner : element ≡ innermost q
  pub array : ArrayIsNotRoot q p
  pub spells : AreSpellings p (map string_bytes steps)

-- by the layout of the tree, where no line's value stands above: the header line is put in, and what is remembered of a blank line
abbrev pub LaysOutHeader : Address → Option Address → Address → Brackets → List (String Global) → Read → Tree → Tree → Bool → Type 0
LaysOutHeader q element p brackets steps read old now done = IsAsked q p element steps → (ss : List Standing)
    → Stands (text_of old.texts.source) read old.slots.items ss → ¬ (ss ≡ []) → ElementIn old.texts.layout q ss
    → Stands (text_of old.texts.source) read now.slots.items (header_laid_out old.texts.layout q p brackets (manner old) ss) × (done ≡ true)
    × (now.has_written_blank ≡ (old.has_written_blank || blank_laid_out old.texts.layout q p brackets (manner old) ss))

-- Of lines as the table rules have them: it is put in, and refused just where a line's value stands above it. It is remembered whether a blank
-- line is written before it.
abbrev pub TreeAddsHeader : Address → Option Address → Address → Brackets → List (String Global) → Read → Tree → Tree → Bool → Type 0
TreeAddsHeader q element p brackets steps read old now done = IsAsked q p element steps → (ss : List Standing)
    → Stands (text_of old.texts.source) read old.slots.items ss → AreOrdered ss → AreReadyForHeader old.texts.layout q ss
    → Stands (text_of old.texts.source) read now.slots.items (header_standing q p brackets (manner old) ss)
    × (done ≡ not (list_any (holds q) ss))
    × (now.has_written_blank ≡ (old.has_written_blank || blank_standing q p brackets (manner old) ss))
