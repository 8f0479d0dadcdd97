-- What the steps of a replacement are, by what they answer. Of a step's own contract.
use Rattle.std.specs.Prelude.{◌≡◌, ◌≢◌, ◌⊎◌, ℕ, Bool, true, false, List, [], ◌∷◌, ◌++◌, Option, Result, Ok, Err, String, string_bytes}
use Rattle.std.specs.List.{AllByRecursion}
use Rattle.std.specs.declared.alloc.Global.{Global}
use Rattle.std.specs.declared.io.Error.{Error}
use Rattle.toml_replace.specs.declared.fault.ReplaceFault.{ReplaceFault}
use Rattle.toml_replace.specs.declared.fault.ReplaceFault.TheVariants.{File, Certificate}
use Rattle.toml_replace.specs.declared.replacing.Place.{Place}
use Rattle.toml_replace.specs.Beside.{IsBeside}
use Rattle.toml_replace.specs.Calls.{Call, makes, compares, renames, SomeCall}
use Rattle.toml_replace.specs.Replacement.{IsTaken, begun, filled, certified, planned, IsApart, ChangesNothing, IsCutShort, IsWork, FailsFile, FailsCertificate, HasCause}

-- nothing was made, for a cause
abbrev pub MakesNothing : Error → List Call → Type 0
MakesNothing e calls = AllByRecursion ChangesNothing calls × HasCause (File e) calls

-- a new file is made beside the file, at the path that is answered
abbrev pub IsMaking : List ℕ → Result (String Global) Error → List Call → Type 0
IsMaking file (Ok new) calls =
    (taken : List Call) × IsBeside file (string_bytes new) × AllByRecursion (IsTaken file) taken × (calls ≡ taken ++ makes (string_bytes new) (Ok true) ∷ [])
IsMaking file (Err e) calls = MakesNothing e calls

abbrev pub IsBeginning : List ℕ → Result Place Error → List Call → Type 0
IsBeginning path (Ok place) calls =
    (taken : List Call) × IsBeside (string_bytes place.file) (string_bytes place.new) × AllByRecursion (IsTaken (string_bytes place.file)) taken
    × (calls ≡ begun path (string_bytes place.file) place.mode taken (string_bytes place.new))
IsBeginning path (Err e) calls = MakesNothing e calls

abbrev pub IsFilling : List ℕ → ℕ → Result (Unit {0}) Error → List Call → Type 0
IsFilling text mode (Ok u) calls = calls ≡ filled text mode
IsFilling text mode (Err e) calls =
    ((file new : List ℕ) (certificate : Option (List ℕ × List ℕ)) → AllByRecursion (IsWork file new certificate) calls) × IsCutShort (filled text mode) calls
    × SomeCall (FailsFile e) calls

abbrev pub IsComparing : List ℕ → List ℕ → Result (Unit {0}) Error → List Call → Type 0
IsComparing path other (Ok u) calls = (calls ≡ compares path other (Ok false) ∷ []) × (path ≢ other)
IsComparing path other (Err e) calls = (same : Result Bool Error) × (calls ≡ compares path other same ∷ []) × ((same ≡ Err e) ⊎ (same ≡ Ok true))

abbrev pub IsCertifying : List ℕ → List ℕ → Option (List ℕ × List ℕ) → Result (Unit {0}) Error → List Call → Type 0
IsCertifying file new certificate (Ok u) calls = (calls ≡ certified file new certificate) × IsApart file new certificate
IsCertifying file new certificate (Err e) calls =
    AllByRecursion (IsWork file new certificate) calls × IsCutShort (certified file new certificate) calls × SomeCall (FailsCertificate e) calls

-- the call is the fault's cause
abbrev pub Causes : ReplaceFault → Call → Type 0
Causes (File e) call = FailsFile e call
Causes (Certificate e) call = FailsCertificate e call

abbrev pub IsFinishing : List ℕ → List ℕ → List ℕ → ℕ → Option (List ℕ × List ℕ) → Result (Unit {0}) ReplaceFault → List Call → Type 0
IsFinishing file new text mode certificate (Ok u) calls =
    (calls ≡ planned file new text mode certificate) × IsApart file new certificate
IsFinishing file new text mode certificate (Err fault) calls =
    AllByRecursion (IsWork file new certificate) calls × IsCutShort (planned file new text mode certificate) calls × SomeCall (Causes fault) calls
