-- Laws of `insert` of a name in a table that is no value and lies in none, over the lines before and after it.
use Rattle.std.specs.Prelude.{◌≡◌, ℕ, List, [], ◌∷◌, ◌++◌, ◌≤◌, ◌+◌, length, All}
use Rattle.toml_text.specs.Forms.{IsNewline}
use Rattle.toml_tree.specs.Profiles.{IsValueIn, IsValueOfProfile, AreLinesOfProfile}
use Rattle.toml_tree.specs.Spells.{IsValue, AreLines, depth, max_depth}
use Rattle.toml_tree.specs.Tree.{Value, Line}
use Rattle.toml_tree.specs.declared.profile.Profile.{Profile}
use Rattle.toml_names.specs.mentions.Keys.{Key}
use Rattle.toml_names.specs.mentions.Mentions.{Named, named, value_facts}
use Rattle.toml_names.specs.mentions.Rules.{KeepsRules, IsShort, max_steps}
use Rattle.toml_names.specs.model.Addresses.{Address, below, child}
use Rattle.toml_names.specs.model.Data.{Kinds, IsDataOf}
use Rattle.toml_names.specs.model.Places.{IsNamed}
use Rattle.toml_edits.specs.After.{IsAfter}
use Rattle.toml_edits.specs.Edits.{insert}
use Rattle.toml_edits.specs.ValueTexts.{IsGoodValue}
use Rattle.toml_editor.specs.Blocks.{AreTablesAgain, IsPut, value_block, named_plain}
use Rattle.toml_layout.specs.declared.tree.Brackets.TheVariants.{One}
use Rattle.toml_working.specs.Heading.{header_line}
use Rattle.toml_working.specs.Inserting.{new_line, line_put}
use Rattle.toml_working.specs.InsertingInTables.{insert_in}
use Rattle.toml_working.specs.Manners.{Manner}
use Rattle.toml_working.specs.Premises.{HasImplied, HasSection, HasTable}
use Rattle.toml_layout.specs.declared.layout.Layout.TheVariants as layouts
use Rattle.toml_layout.specs.Spacings.{Spacing, plain_spacing}

-- Law: the new lines name what the old ones did, some tables at the parent or above it once more, and the name's value in the parent. In the
-- root, and in a table that has a header, no table is named once more.
abbrev pub InsertNames : Type 0
InsertNames = (q : Address) (name : List ℕ) (v : Value) (manner : Manner) (lines : List Line) → HasTable lines q
    → (tables mid : List Named) × AreTablesAgain q (named_plain lines) tables × IsPut (named_plain lines) tables mid
    × IsPut mid (value_block (child q name) v) (named_plain (insert_in q name v manner lines)) × (HasSection lines q → tables ≡ [])

-- Laws: the table rules are kept, where the table has no such name and the value keeps them;
abbrev pub InsertRules : Type 0
InsertRules = (q : Address) (name : List ℕ) (v : Value) (manner : Manner) (lines : List Line) → HasTable lines q
    → ¬ IsNamed (named lines) (child q name) → KeepsRules (named lines) → KeepsRules (value_facts v)
    → KeepsRules (named (insert_in q name v manner lines))

-- the bound on addresses is kept, where each address in the value keeps it below the name.
abbrev pub InsertShort : Type 0
InsertShort = (q : Address) (name : List ℕ) (v : Value) (manner : Manner) (lines : List Line) → HasTable lines q → IsShort (named lines)
    → All (λ m. length (child q name) + length m.address ≤ max_steps) (value_facts v) → IsShort (named (insert_in q name v manner lines))

-- Law: the new lines have the data that the edit makes of those of the old.
abbrev pub InsertData : Type 0
InsertData = (profile : Profile) (q : Address) (name text : List ℕ) (new : Value) (manner : Manner) (lines : List Line) (v old after : Kinds)
    → HasTable lines q → IsValueIn profile new text → IsGoodValue profile text v
    → IsDataOf (named lines) old → IsDataOf (named (insert_in q name new manner lines)) after
    → IsAfter profile (insert (child q name) text) old after

-- Law: the lines are in the forms, where new lines end in a newline.
abbrev pub InsertForms : Type 0
InsertForms = (q : Address) (name : List ℕ) (v : Value) (manner : Manner) (lines : List Line) → HasTable lines q
    → AreLines lines → IsNewline manner.newline → IsValue v → depth v ≤ max_depth → AreLines (insert_in q name v manner lines)

-- Law: they are of each profile of which the old ones and the value are.
abbrev pub InsertOfProfile : Type 0
InsertOfProfile = (profile : Profile) (q : Address) (name : List ℕ) (v : Value) (manner : Manner) (lines : List Line) → HasTable lines q
    → AreLinesOfProfile profile lines → IsValueOfProfile profile v → AreLinesOfProfile profile (insert_in q name v manner lines)

-- A new line with the value is put in as the first line of the root; behind another line, which stays but for a last line's newline, by a key
-- that has the names behind the address of a section; or, where longer headers alone imply the table, behind a new header of it, both before
-- other lines. In layout `Plain` the line has a space on each side of its `=`, and neither line has one before it.
pub data IsInsertedInto (q : Address) (name : List ℕ) (v : Value) (manner : Manner) (old new : List Line) : Type 0 where
  First : q ≡ [] → new ≡ new_line plain_spacing (name ∷ []) v manner.newline ∷ old → IsInsertedInto q name v manner old new
  Behind : (section : Address) → (key : Key) → ¬ (key ≡ []) → child q name ≡ below section key → (front : List Line) → (l : Line) → (back : List Line)
      → (s : Spacing) → (manner.layout ≡ layouts.Plain → s ≡ plain_spacing) → old ≡ front ++ l ∷ back → new ≡ front ++ line_put s key v manner l back
      → IsInsertedInto q name v manner old new
  Ahead : HasImplied old q → ¬ (q ≡ []) → (front back : List Line) → (ws : List ℕ) → (s : Spacing) → (manner.layout ≡ layouts.Plain → (ws ≡ []) × (s ≡ plain_spacing))
      → old ≡ front ++ back → new ≡ front ++ header_line One q ws manner.newline ∷ new_line s (name ∷ []) v manner.newline ∷ back → IsInsertedInto q name v manner old new

-- Law: so it is after an `insert`; all other lines stay what they are.
abbrev pub InsertKeepsLines : Type 0
InsertKeepsLines = (q : Address) (name : List ℕ) (v : Value) (manner : Manner) (lines : List Line) → HasTable lines q
    → IsInsertedInto q name v manner lines (insert_in q name v manner lines)
