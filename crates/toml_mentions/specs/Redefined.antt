-- What is found of a name that is defined again.
use Rattle.std.specs.Prelude.{◌≡◌, ℕ, List, Option, Some, None, option_map}
use Rattle.toml_text.specs.Limit.{IsText}
use Rattle.toml_tree.specs.HandedOut.{AreLinesIn}
use Rattle.toml_tree.specs.Tree.{Piece, Line}
use Rattle.toml_tree.specs.declared.profile.Profile.{Profile}
use Rattle.toml_names.specs.declared.fault.NameFault.TheVariants as names
use Rattle.toml_names.specs.declared.fault.ReadFault.{ReadFault}
use Rattle.toml_names.specs.declared.fault.ReadFault.TheVariants as faults
use Rattle.toml_names.specs.model.Addresses.{Address}
use Rattle.toml_names.specs.reader.Names.{IsRedefined}
use Rattle.toml_mentions.specs.Mentioned.{StandsForOffence}
use Rattle.toml_mentions.specs.Sought.{Sight, all_parts, first_clash, seen_clash, sights}
use Rattle.toml_mentions.specs.declared.redefined.Redefined.{Redefined}
use Rattle.toml_mentions.specs.declared.seeker.Clash.{Clash}

-- where the key part begins of the mention that may not be, if one was found
abbrev pub again_start : Option Redefined → Option ℕ
again_start None = None
again_start (Some r) = option_map (λ (c : Clash). c.again.span.start) r.clash

-- it is the start of the key part that stands for the first mention which breaks the rules
abbrev pub FindsOffence : Profile → List ℕ → Option Redefined → Type 0
FindsOffence profile bytes found = (number : ℕ) (p : Piece) → StandsForOffence profile bytes number p → again_start found ≡ Some p.start

-- the two mentions are the first that may not follow an earlier one, and the earliest that forbids it
abbrev pub FindsClash : Profile → List ℕ → Option Redefined → Type 0
FindsClash profile bytes None = Unit {0}
FindsClash profile bytes (Some r) = (lines : List Line) → AreLinesIn profile bytes lines → seen_clash r.clash ≡ first_clash (sights r.address (all_parts lines))

-- The names of the text are refused at the line with the number, from 0, since it breaks the table rules. Of the mentions of the address
-- at which it does, in text order, `again` is the first that may not follow an earlier one, and `first` the earliest that forbids it.
pub record AreClashing (profile : Profile) (bytes : List ℕ) (number : ℕ) (first again : Sight) : Type 0 where
  pub text : IsText bytes
  pub lines : List Line
  pub are : AreLinesIn profile bytes lines
  pub at : Address
  pub redefined : IsRedefined lines number at
  pub clash : first_clash (sights at (all_parts lines)) ≡ Some (first, again)

-- the two mentions, if they were found
abbrev pub found_clash : Option Redefined → Option (Sight × Sight)
found_clash None = None
found_clash (Some r) = seen_clash r.clash

-- they are those of the refusal
abbrev pub FindsBoth : Profile → List ℕ → Option Redefined → Type 0
FindsBoth profile bytes found = (number : ℕ) (first again : Sight) → AreClashing profile bytes number first again → found_clash found ≡ Some (first, again)

-- the address that is defined again in the text, if one is
abbrev pub JudgedAt : Profile → List ℕ → Option Address → Type 0
JudgedAt profile text found = (lines : List Line) (number : ℕ) (at : Address) → AreLinesIn profile text lines → IsRedefined lines number at → found ≡ Some at

-- the address that a fault tells
abbrev pub address_told : ReadFault → Option Address
address_told (faults.Names (names.Redefined line at)) = Some at
address_told _ = None

-- Laws: where the names of a text are refused since a line breaks the table rules, a key part stands for the mention that breaks them,
abbrev pub OffenceStands : Type 0
OffenceStands = (profile : Profile) (bytes : List ℕ) (lines : List Line) (number : ℕ) (at : Address) → IsText bytes → AreLinesIn profile bytes lines
    → IsRedefined lines number at → (p : Piece) × StandsForOffence profile bytes number p

-- and that mention clashes with an earlier one.
abbrev pub OffenceClashes : Type 0
OffenceClashes = (profile : Profile) (bytes : List ℕ) (lines : List Line) (number : ℕ) (at : Address) → IsText bytes → AreLinesIn profile bytes lines
    → IsRedefined lines number at → (first : Sight) × (again : Sight) × AreClashing profile bytes number first again
