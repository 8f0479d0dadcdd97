-- What is found of the units of the second text that were walked past.
use Rattle.std.specs.Prelude.{◌≡◌, ◌↔◌, ◌&&◌, not, ℕ, Bool, true, false, if◌then◌else◌, IsTrue, List, [], ◌∷◌, ◌++◌, map, Option, None}
use Rattle.toml_tree.specs.Spells.{EachIs}
use Rattle.toml_tree.specs.declared.profile.Profile.{Profile}
use Rattle.toml_names.specs.model.Addresses.{Address}
use Rattle.toml_edits.specs.Edits.{Change}
use Rattle.toml_units.specs.declared.unit.UnitKind.TheVariants as kinds
use Rattle.toml_units.specs.declared.unit.Unit.{Unit as Made}
use Rattle.toml_units.specs.View.{Spanned, unit}
use Rattle.toml_checker.specs.declared.added.Added.{Added}
use Rattle.toml_checker.specs.declared.added.Asked.{Asked}
use Rattle.toml_checker.specs.Comments.{is_comment}
use Rattle.toml_checker.specs.Counts.{plain}
use Rattle.toml_checker.specs.Debts.{IsAsked, IsCovered}
use Rattle.toml_checker.specs.Marks.{reach_with, reaches}
use Rattle.toml_checker.specs.Owed.{IsOwed}
use Rattle.toml_checker.specs.Traces.{Met}
use Rattle.toml_checker.specs.UnmarkedComments.{text_at}
use Rattle.toml_checker.specs.WrittenComments.{AreWrittenBy, HaveValues, IsAllowed}

-- what the edits ask for: the addresses that they owe, the comments that they write where their values are of the profile, and whether there are any
pub record Asks (profile : Profile) (cs : List Change) (asked : Asked) : Type 0 where
  pub debts : (a : Address) → IsCovered asked.debts a ↔ IsOwed cs a
  pub written : HaveValues profile cs → AreWrittenBy cs asked.written.items
  pub edited : (asked.edited ≡ true) ↔ ¬ (cs ≡ [])

-- the text is empty
abbrev pub has_no_bytes : List ℕ → Bool
has_no_bytes [] = true
has_no_bytes (b ∷ bs) = false

-- a unit of the code that was met
abbrev pub met_of : Made → List ℕ → Bool → Met
met_of u newline paired = record { lined = record { unit = unit u; newline = newline }; paired = paired }

-- a line is asked for; only the last of a text has no newline
abbrev pub IsLineAsked : Asked → Met → Type 0
IsLineAsked asked m = m.lined.unit.kind ≡ kinds.Line → IsAsked asked.debts m.paired (asked.edited && has_no_bytes m.lined.newline) m.lined.unit

-- the furthest end of paired units
abbrev pub reach_from : Option ℕ → List Met → Option ℕ
reach_from reach [] = reach
reach_from reach (m ∷ ms) = reach_from (reach_with reach m.paired m.lined.unit.stop) ms

-- a comment that is not paired, and ends further than each paired unit before it
abbrev pub is_new : Option ℕ → Met → Bool
is_new reach m = is_comment m.lined.unit.kind && not (reaches (reach_with reach m.paired m.lined.unit.stop) m.lined.unit.stop)

-- these comments, in order
abbrev pub new_from : Option ℕ → List Met → List Spanned
new_from reach [] = []
new_from reach (m ∷ ms) = if is_new reach m then m.lined.unit ∷ new_from (reach_with reach m.paired m.lined.unit.stop) ms else new_from (reach_with reach m.paired m.lined.unit.stop) ms

-- whether each line was asked for, how far paired units reach, whether each new comment is allowed, and the texts of these
pub record HasAdded (asked : Asked) (text : List ℕ) (ms : List Met) (added : Added) : Type 0 where
  pub lines : (added.lines ≡ true) ↔ EachIs (IsLineAsked asked) ms
  pub reach : added.reach ≡ reach_from None ms
  pub allowed : (added.allowed ≡ true) ↔ EachIs (IsAllowed asked.written.items text) (new_from None ms)
  pub texts : plain added.texts.items ≡ map (text_at text) (new_from None ms)

-- each new comment is one that an edit writes, with this one
abbrev pub AreAllowedWith : Asked → List ℕ → Spanned → Added → Added → Type 0
AreAllowedWith asked text comment old new = IsTrue new.allowed ↔ (IsTrue old.allowed × IsAllowed asked.written.items text comment)

-- the texts of the new comments, and this one
abbrev pub AddsText : List ℕ → Added → Added → Type 0
AddsText t old new = plain new.texts.items ≡ plain old.texts.items ++ t ∷ []
