-- What the reading of a document's names answers.
use Rattle.std.specs.Prelude.{◌≡◌, ◌<◌, ◌≤◌, ◌+◌, ◌++◌, ℕ, Bool, true, false, ◌&&◌, ◌==◌, if◌then◌else◌, List, [], ◌∷◌, length, take, slice_index_or, Option, Some, None}
use Rattle.toml_tree.specs.Tree.{Expr, BlankLine, KeyValLine, TableLine, ArrayTableLine, Line}
use Rattle.toml_names.specs.declared.fault.NameFault.{NameFault}
use Rattle.toml_names.specs.declared.fault.NameFault.TheVariants as faults
use Rattle.toml_names.specs.declared.mentions.mention.Role.{Role}
use Rattle.toml_names.specs.declared.mentions.mention.Role.TheVariants.{Header, Valued, Element}
use Rattle.toml_names.specs.model.Addresses.{Address, child, element, below}
use Rattle.toml_names.specs.mentions.Keys.{Key, key_names}
use Rattle.toml_names.specs.mentions.Mentions.{Named, named, section, entered, count_tables}
use Rattle.toml_names.specs.mentions.Rules.{KeepsRules, IsShort, IsFirstOffence}

-- the mentions of lines keep the table rules, and no address has more than 100 steps
abbrev pub AreGood : List Line → Type 0
AreGood lines = KeepsRules (named lines) × IsShort (named lines)

-- all lines before this one are good, and it breaks the rules: its first mention that does is at the address
pub record IsRedefined (lines : List Line) (line : ℕ) (at : Address) : Type 0 where
  pub there : line < length lines
  pub good : AreGood (take line lines)
  pub new : List Named
  pub is : named (take (line + 1) lines) ≡ named (take line lines) ++ new
  pub offence : IsFirstOffence (named (take line lines)) new at

-- all lines before this one are good, and it keeps the rules and has a longer address
pub record IsLong (lines : List Line) (line : ℕ) : Type 0 where
  pub there : line < length lines
  pub good : AreGood (take line lines)
  pub keeps : KeepsRules (named (take (line + 1) lines))
  pub long : ¬ IsShort (named (take (line + 1) lines))

-- why names are refused; want of memory says nothing of them
abbrev pub RefusesNames : List Line → NameFault → Type 0
RefusesNames lines (faults.Redefined line at) = IsRedefined lines line at
RefusesNames lines (faults.LongAddress line) = IsLong lines line
RefusesNames lines faults.NoMemory = Unit {0}

-- where a header's key ends, followed from the address
abbrev pub header_end : List Named → Address → Key → Address
header_end earlier at [] = at
header_end earlier at (n ∷ []) = child at n
header_end earlier at (n ∷ m ∷ more) = header_end earlier (entered earlier (child at n)) (m ∷ more)

-- the address of what an expression stands for, after the lines before it: its value, its table, its element; a blank line has none
abbrev pub own_address : List Named → Expr → Option Address
own_address earlier (BlankLine b) = None
own_address earlier (KeyValLine ws pair tail) = Some (below (section earlier) (key_names pair.assign.key))
own_address earlier (TableLine ws header tail) = Some (header_end earlier [] (key_names header.key))
own_address earlier (ArrayTableLine ws header tail) =
    let at = header_end earlier [] (key_names header.key) in Some (element at (count_tables earlier at))

-- the role in which a line mentions what it stands for
abbrev pub is_own : Role → Bool
is_own Header = true
is_own Valued = true
is_own Element = true
is_own _ = false

-- the plain function: the address of the line's first mention in such a role
abbrev pub line_address : List Named → ℕ → Option Address
line_address [] line = None
line_address (m ∷ ms) line = if m.line == line && is_own m.role then Some m.address else line_address ms line

-- the list has that of each line
pub record AreOwnAddresses (lines : List Line) (list : List (Option Address)) : Type 0 where
  pub count : length list ≡ length lines
  pub each : (l : ℕ) (d : Option Address) → l < length list → slice_index_or list l d ≡ line_address (named lines) l

-- Laws: it is that of what the line's expression stands for, and there is none behind the last line.
abbrev pub LineAddresses : Type 0
LineAddresses = (before behind : List Line) (l : Line) → line_address (named (before ++ l ∷ behind)) (length before) ≡ own_address (named before) l.expr

abbrev pub NoLineAddress : Type 0
NoLineAddress = (lines : List Line) (line : ℕ) → length lines ≤ line → line_address (named lines) line ≡ None

-- Law: lines of which the names are refused, memory aside, are not good.
abbrev pub RefusedAreBad : Type 0
RefusedAreBad = (lines : List Line) (fault : NameFault) → RefusesNames lines fault → (fault ≡ faults.NoMemory → ⊥) → ¬ AreGood lines

-- Law: why the names of lines are refused, memory aside, is one fault.
abbrev pub OneRefusal : Type 0
OneRefusal = (lines : List Line) (f g : NameFault) → RefusesNames lines f → RefusesNames lines g → (f ≡ faults.NoMemory → ⊥) → (g ≡ faults.NoMemory → ⊥) → f ≡ g

-- Law: the lines before a line are good if they are with it.
abbrev pub FrontsAreGood : Type 0
FrontsAreGood = (lines : List Line) (l : Line) → AreGood (lines ++ l ∷ []) → AreGood lines
