-- What the names of lines that are let go stand for, and what they answer to one more line.
use Rattle.std.specs.Prelude.{◌≡◌, ◌↔◌, ◌∷◌, ◌++◌, ℕ, Bool, true, false, IsTrue, List, [], length, Option, Some, None, option_map, Result, Ok, Err}
use Rattle.toml_tree.specs.Tree.{Line}
use Rattle.toml_names.specs.declared.fault.NameFault.{NameFault}
use Rattle.toml_names.specs.declared.line_names.LineNames.{LineNames as Names}
use Rattle.toml_names.specs.mentions.Mentions.{named}
use Rattle.toml_names.specs.model.Addresses.{Address}
use Rattle.toml_names.specs.model.Data.{Kinds, IsDataOf}
use Rattle.toml_names.specs.model.Hidden.{Cover, beside, near}
use Rattle.toml_names.specs.reader.Names.{AreGood, RefusesNames, own_address}
use Rattle.toml_names.specs.reader.Reading.{IsReader}
use Rattle.toml_names.specs.tree.EnteringLines.{IsWithin}
use Rattle.toml_names.specs.tree.Nodes.{address_at}

-- the names stand for what these lines name, of which each has its own node, and all changes are settled
pub record Keeps (names : Names) (lines : List Line) (own : List (Option ℕ)) : Type 0 where
  pub reads : IsReader names.tree.nodes.items lines own names.section
  pub counted : names.count ≡ length lines
  pub settled : names.tree.changes.items ≡ []

-- the names stand for what these lines name
pub record StandFor (names : Names) (lines : List Line) : Type 0 where
  pub own : List (Option ℕ)
  pub keeps : Keeps names lines own

-- they do for some lines
abbrev pub Stand : Names → Type 0
Stand names = (lines : List Line) × StandFor names lines

-- one line more was taken, or the lines with it are refused
abbrev pub Takes : List Line → Line → Names → Result (Unit {0}) NameFault → Type 0
Takes lines l names (Ok _) = StandFor names (lines ++ l ∷ [])
Takes lines l names (Err fault) = RefusesNames (lines ++ l ∷ []) fault

-- the address is that of what the line stands for, if it has one, and else it stays
abbrev pub IsTold : Option Address → Address → Address → Bool → Type 0
IsTold own old here true = own ≡ Some here
IsTold own old here false = (own ≡ None) × (here ≡ old)

-- the same as taken, and the address is told
abbrev pub TakesAt : List Line → Line → Address → Names → Address → Result Bool NameFault → Type 0
TakesAt lines l old names here (Ok told) = StandFor names (lines ++ l ∷ []) × IsTold (own_address (named lines) l.expr) old here told
TakesAt lines l old names here (Err fault) = RefusesNames (lines ++ l ∷ []) fault

-- the line was entered, and this is the node of what it stands for
pub record IsEntered (lines : List Line) (l : Line) (names : Names) (node : Option ℕ) : Type 0 where
  pub stands : StandFor names (lines ++ l ∷ [])
  pub within : IsWithin node names.tree.nodes.items
  pub own : option_map (address_at names.tree.nodes.items) node ≡ own_address (named lines) l.expr

abbrev pub Enters : List Line → Line → Names → Result (Option ℕ) NameFault → Type 0
Enters lines l names (Ok node) = IsEntered lines l names node
Enters lines l names (Err fault) = RefusesNames (lines ++ l ∷ []) fault

-- the data are those of the lines, where nothing is hidden
abbrev pub AreDataNear : Names → Cover → Kinds → Type 0
AreDataNear names hidden found = (lines : List Line) → StandFor names lines → (kinds : Kinds) → IsDataOf (named lines) kinds
    → (at : Address) → found at ≡ near hidden kinds at

-- the answer is yes exactly where the lines have these data where nothing is hidden, and elsewhere what the other lines have
abbrev pub TellsDataBeside : Names → Names → Cover → Kinds → Bool → Type 0
TellsDataBeside names other hidden new answer = (lines others : List Line) → StandFor names lines → StandFor other others
    → (old : Kinds) → IsDataOf (named others) old → (IsTrue answer ↔ IsDataOf (named lines) (beside hidden old new))

-- Law: lines for which names stand are good.
abbrev pub TakenAreGood : Type 0
TakenAreGood = (names : Names) (lines : List Line) → StandFor names lines → AreGood lines
