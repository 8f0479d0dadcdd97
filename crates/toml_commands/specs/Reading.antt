-- What the reading of a document gives.
use Rattle.std.specs.Prelude.{◌≡◌, ◌<◌, ◌+◌, ◌⊎◌, ℕ, List, Option, Some, None, option_map, IfSome}
use Rattle.toml_text.specs.Limit.{max_len, IsText}
use Rattle.toml_text.specs.declared.fault.TextFault.{TextFault}
use Rattle.toml_text.specs.declared.fault.TextFault.TheVariants.{NotUtf8, TooLong}
use Rattle.toml_scalar.specs.Faults.{place_of}
use Rattle.toml_scalar.specs.declared.fault.SyntaxFault.{SyntaxFault}
use Rattle.toml_scalar.specs.declared.fault.SyntaxFault.TheVariants as faults
use Rattle.toml_tree.specs.Tree.{Line}
use Rattle.toml_tree.specs.declared.profile.Profile.{Profile}
use Rattle.toml_names.specs.model.Addresses.{Address}
use Rattle.toml_names.specs.reader.Names.{IsRedefined, IsLong}
use Rattle.toml_names.specs.declared.fault.NameFault.{NameFault}
use Rattle.toml_names.specs.declared.fault.NameFault.TheVariants as names
use Rattle.toml_names.specs.declared.fault.ReadFault.{ReadFault}
use Rattle.toml_names.specs.declared.fault.ReadFault.TheVariants as reads
use Rattle.toml_names.specs.reader.Texts.{GoodText}
use Rattle.toml_delivery.specs.declared.ending.Ending.{Ending}
use Rattle.toml_delivery.specs.declared.ending.Ending.TheVariants.{Refused, NoMemory}
use Rattle.toml_delivery.specs.declared.refusal.Refusal.{Refusal}

-- the bytes are a document of the profile, and it holds of its lines
abbrev pub IsGoodTextWith : Profile → List ℕ → (List Line → Type 0) → Type 0
IsGoodTextWith profile bytes P = IsText bytes × (it : GoodText profile bytes) × P it.lines

-- the refusal that stands for lines of which the names are refused
abbrev pub RefusesLines : List Line → Refusal → Type 0
RefusesLines lines r = ((r.code ≡ 201) × (line : ℕ) × (at : Address) × (r.place ≡ line + 1) × IsRedefined lines line at) ⊎ ((r.code ≡ 203) × (line : ℕ) × (r.place ≡ line + 1) × IsLong lines line)

-- the refusal that stands for a fault of the bytes as a text
abbrev pub IsTextRefusal : TextFault → Refusal → Type 0
IsTextRefusal (NotUtf8 at) r = (r.code ≡ 101) × (r.place ≡ at)
IsTextRefusal TooLong r = (r.code ≡ 102) × (r.place ≡ max_len)

-- the code of a fault of the syntax; want of memory has none
abbrev pub code_of : SyntaxFault → Option ℕ
code_of (faults.BadCharacter at) = Some 103
code_of (faults.Expected at) = Some 104
code_of (faults.BadString at) = Some 105
code_of (faults.BadNumber at) = Some 106
code_of (faults.IntegerRange at) = Some 107
code_of (faults.BadDate at) = Some 108
code_of (faults.TooDeep at) = Some 109
code_of faults.NoMemory = None

-- the refusal that stands for a fault of the syntax
abbrev pub IsSyntaxRefusal : SyntaxFault → Refusal → Type 0
IsSyntaxRefusal fault r = (code_of fault ≡ Some r.code) × (place_of fault ≡ Some r.place)

-- what it comes to
abbrev pub IsSyntaxEnding : SyntaxFault → Ending → Type 0
IsSyntaxEnding fault (Refused r) = IsSyntaxRefusal fault r
IsSyntaxEnding fault NoMemory = fault ≡ faults.NoMemory

-- the code of a fault of the names, and the line that it tells, from 0; want of memory has none
abbrev pub name_code : NameFault → Option ℕ
name_code (names.Redefined line at) = Some 201
name_code (names.LongAddress line) = Some 203
name_code names.NoMemory = None

abbrev pub name_line : NameFault → Option ℕ
name_line (names.Redefined line at) = Some line
name_line (names.LongAddress line) = Some line
name_line names.NoMemory = None

-- the line's number, from 1, is a machine number
abbrev pub HasNumber : NameFault → Type 0
HasNumber fault = IfSome (name_line fault) (λ line. line < 9223372036854775807)

-- the refusal that stands for a fault of the names
abbrev pub IsNameRefusal : NameFault → Refusal → Type 0
IsNameRefusal fault r = (name_code fault ≡ Some r.code) × (option_map (λ line. line + 1) (name_line fault) ≡ Some r.place)

-- what it comes to
abbrev pub IsNameEnding : NameFault → Ending → Type 0
IsNameEnding fault (Refused r) = IsNameRefusal fault r
IsNameEnding fault NoMemory = fault ≡ names.NoMemory

-- the same of a fault of the reading
abbrev pub IsReadEnding : ReadFault → Ending → Type 0
IsReadEnding (reads.Syntax fault) e = IsSyntaxEnding fault e
IsReadEnding (reads.Names fault) e = IsNameEnding fault e

abbrev pub IsNumbered : ReadFault → Type 0
IsNumbered (reads.Syntax fault) = Unit {0}
IsNumbered (reads.Names fault) = HasNumber fault
