-- The text after one plain edit.
use Rattle.std.specs.Prelude.{◌≡◌, ◌&&◌, not, ℕ, List, ◌++◌}
use Rattle.toml_tree.specs.Profiles.{SpellsIn, IsValueIn}
use Rattle.toml_tree.specs.Spells.{joined, lines_parts}
use Rattle.toml_tree.specs.Tree.{Value, Line, Doc}
use Rattle.toml_tree.specs.declared.profile.Profile.{Profile}
use Rattle.toml_names.specs.model.Addresses.{Address, child, element}
use Rattle.toml_edits.specs.Edits.{Change, set, insert, rename, remove, new_section, new_element}
use Rattle.toml_layout.specs.declared.layout.Layout.{Layout}
use Rattle.toml_layout.specs.declared.layout.Layout.TheVariants as layouts
use Rattle.toml_layout.specs.declared.tree.Brackets.{Brackets}
use Rattle.toml_layout.specs.declared.tree.Brackets.TheVariants.{One, Two}
use Rattle.toml_layout.specs.Holders.{parent_of}
use Rattle.toml_working.specs.Heading.{with_header_plainly}
use Rattle.toml_working.specs.HeadingFollowed.{with_header_following}
use Rattle.toml_working.specs.HeaderStanding.{blank_standing}
use Rattle.toml_working.specs.InsertingInTables.{insert_in}
use Rattle.toml_working.specs.Manners.{Manner}
use Rattle.toml_working.specs.Removing.{remove_lines}
use Rattle.toml_working.specs.Renaming.{rename_lines}
use Rattle.toml_working.specs.Setting.{set_lines}
use Rattle.toml_working.specs.Standing.{standing}
use Rattle.toml_working.specs.Premises.{HasLine, HasTable, HasValue, IsInNoValue}

-- the header line of what is to stand at `p`, right below `q`, put in among lines
abbrev pub with_header : Layout → Address → Brackets → Address → Manner → List Line → List Line
with_header layouts.Plain q brackets p manner lines = with_header_plainly q brackets p manner.newline lines
with_header layouts.Follow q brackets p manner lines = with_header_following q brackets p manner.newline manner.may_blank lines

-- the lines after a plain edit
abbrev pub AreEdited : Profile → Change → Manner → List Line → List Line → Type 0
AreEdited profile (set p text) manner old new = (v : Value) × IsValueIn profile v text × HasValue old p × (new ≡ set_lines p v old)
AreEdited profile (insert p text) manner old new =
    (v : Value) × IsValueIn profile v text × (q : Address) × (name : List ℕ) × (p ≡ child q name) × HasTable old q × (new ≡ insert_in q name v manner old)
AreEdited profile (rename p to) manner old new = new ≡ rename_lines p to old
AreEdited profile (remove p) manner old new = HasLine old p × (new ≡ remove_lines p old)
AreEdited profile (new_section p) manner old new =
    (q : Address) × (name : List ℕ) × (p ≡ child q name) × IsInNoValue old q × (new ≡ with_header manner.layout q One p manner old)
AreEdited profile (new_element p) manner old new =
    (q : Address) × (i : ℕ) × (p ≡ element q i) × IsInNoValue old q × (new ≡ with_header manner.layout q Two p manner old)

-- the text after it, the mark kept
abbrev pub IsWritten : Profile → Change → Manner → List ℕ → List ℕ → Type 0
IsWritten profile c manner before after =
    (d : Doc) × SpellsIn profile d before × (new : List Line) × AreEdited profile c manner d.lines new
    × (after ≡ d.mark.text ++ joined (lines_parts new))

-- what is written by behind a header line at the address: once a blank line is written before one, none may be again
abbrev pub manner_behind : Brackets → Address → Manner → List Line → Manner
manner_behind brackets p manner lines =
    record manner { may_blank = manner.may_blank && not (blank_standing (parent_of p) p brackets manner (standing lines)) }

-- what is written by after an edit of these lines
abbrev pub manner_after : Change → Manner → List Line → Manner
manner_after (new_section p) manner lines = manner_behind One p manner lines
manner_after (new_element p) manner lines = manner_behind Two p manner lines
manner_after _ manner lines = manner
