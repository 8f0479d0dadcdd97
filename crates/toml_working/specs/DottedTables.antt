-- A line with a key and a value that is put in for a table which dotted keys make: in the section whose lines make it.
use Rattle.std.specs.Prelude.{◌≡◌, ◌⊎◌, ◌==◌, ◌&&◌, ℕ, Bool, true, false, not, List, [], ◌∷◌, ◌++◌, length, Option, Some, None, if◌then◌else◌}
use Rattle.std.specs.List.{list_any}
use Rattle.std.specs.declared.alloc.Global.{Global}
use Rattle.std.specs.declared.string.String.{String}
use Rattle.toml_names.specs.mentions.Keys.{Key}
use Rattle.toml_names.specs.model.Addresses.{Address, below, child, is_above}
use Rattle.toml_text.specs.Source.{text_of}
use Rattle.toml_tree.specs.Spells.{EachIs}
use Rattle.toml_layout.specs.declared.layout.Layout.{Layout}
use Rattle.toml_layout.specs.declared.layout.Layout.TheVariants as layouts
use Rattle.toml_layout.specs.Outlines.{ValueOutline}
use Rattle.toml_working.specs.declared.lines.Sought.TheVariants as sought
use Rattle.toml_working.specs.declared.working.Tree.{Tree}
use Rattle.toml_working.specs.FirstKeys.{spacing_put}
use Rattle.toml_working.specs.InsertStanding.{has_pair, line_put}
use Rattle.toml_working.specs.Manners.{Manner}
use Rattle.toml_working.specs.Placing.{IsNoHeader, IsPair, is_header}
use Rattle.toml_working.specs.Putting.{manner}
use Rattle.toml_working.specs.Sections.{is_of_section}
use Rattle.toml_working.specs.Seeing.{is_dotted, is_sought_line}
use Rattle.toml_working.specs.Spellings.{AreSteps}
use Rattle.toml_working.specs.Standing.{Standing, Read, AreOrdered}
use Rattle.toml_working.specs.Stands.{Stands}

-- whether a line with this base and address has a key and a value, and stands below the table
abbrev pub stands_in_table : Address → Option ℕ → Option Address → Bool
stands_in_table q None own = false
stands_in_table q (Some n) None = false
stands_in_table q (Some n) (Some a) = is_above q a

abbrev pub is_in_table : Address → Standing → Bool
is_in_table q s = stands_in_table q s.base s.address

-- whether such a line stands before the first header
abbrev pub has_in_table : Address → List Standing → Bool
has_in_table q [] = false
has_in_table q (s ∷ ss) = if is_in_table q s then true else not (is_header s.base s.address) && has_in_table q ss

-- whether one more of the lines follows behind the last of which a new one goes: of those with a key and a value, by layout `Follow` of those
-- below the table
abbrev pub has_more : Layout → Address → List Standing → Bool
has_more layouts.Plain q ss = has_pair ss
has_more layouts.Follow q ss = has_in_table q ss

-- whether so many steps lead to the table in which a line with this base and address stands as to this section's, and its dotted key makes the
-- other table
abbrev pub makes_from : Address → Address → Option ℕ → Option Address → Bool
makes_from section q None own = false
makes_from section q (Some n) own = (n == length section) && is_dotted q (Some n) own

abbrev pub is_maker : Address → Address → Standing → Bool
is_maker section q s = makes_from section q s.base s.address

-- the last key line of these lines stands in the section, and no header follows it
abbrev pub IsBehindEntry : Address → List Standing → Type 0
IsBehindEntry section front = (before : List Standing) × (s : Standing) × (between : List Standing) × (front ≡ before ++ s ∷ between)
    × (is_of_section section s ≡ true) × EachIs IsNoHeader between

-- the line has a key and a value, and stands in the section
abbrev pub StandsAmong : Address → List Standing → Standing → Type 0
StandsAmong section front s = (is_of_section section s ≡ true) ⊎ (IsPair s × IsBehindEntry section front)

-- by layout `Follow` it stands below the table too
abbrev pub StandsInTable : Layout → Address → Standing → Type 0
StandsInTable layouts.Plain q s = Unit {0}
StandsInTable layouts.Follow q s = is_in_table q s ≡ true

-- The new line stands in a section of which a line's dotted key makes the table, behind the last one with a key and a value, by layout `Follow`
-- behind the last one of the table. Its key is the names behind the section's address.
pub record PutsDotted (q : Address) (name : List ℕ) (v : ValueOutline) (manner : Manner) (old now : List Standing) : Type 0 where
  pub section : Address
  pub key : Key
  pub same : child q name ≡ below section key
  pub made : list_any (is_maker section q) old ≡ true
  pub front : List Standing
  pub line : Standing
  pub back : List Standing
  pub was : old ≡ front ++ line ∷ back
  pub among : StandsAmong section front line
  pub in_table : StandsInTable manner.layout q line
  pub last : has_more manner.layout q back ≡ false
  pub is : now ≡ front ++ (line_put section (spacing_put manner front line) key v manner line line.outline.newline ++ back)

-- names alone lead from the section of a line that makes the table to the table
abbrev pub IsKeyed : Address → Standing → Type 0
IsKeyed q s = is_sought_line sought.Dotted q s ≡ true → (section : Address) × (key : Key) × (s.base ≡ Some (length section)) × (q ≡ below section key)

-- a line's dotted key makes the table, and no line is a header of it
pub record AreDotted (q : Address) (ss : List Standing) : Type 0 where
  pub dotted : list_any (is_sought_line sought.Dotted q) ss ≡ true
  pub keyed : EachIs (IsKeyed q) ss
  pub no_header : list_any (is_sought_line sought.Header q) ss ≡ false

-- so it is put in on lines of a tree, which are as the table rules have them
abbrev pub TreePutsDotted : Address → Address → List (String Global) → ValueOutline → Read → Tree → Tree → Type 0
TreePutsDotted q at steps v read old now = (name : List ℕ) → at ≡ child q name → AreSteps at steps → (ss : List Standing)
    → Stands (text_of old.texts.source) read old.slots.items ss → AreOrdered ss → AreDotted q ss
    → (ts : List Standing) × Stands (text_of old.texts.source) read now.slots.items ts × PutsDotted q name v (manner old) ss ts
