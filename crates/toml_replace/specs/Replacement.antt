-- Which calls give a file another text, or leave it as it was.
use Rattle.std.specs.Prelude.{◌≡◌, ◌≢◌, ◌⊎◌, ℕ, Bool, true, false, List, [], ◌∷◌, ◌++◌, length}
use Rattle.std.specs.Prelude.{Option, Some, None, Result, Ok, Err, IsErr, OnOk, OnErr, IfErr, option_map, ⊤}
use Rattle.std.specs.Borrow.{Bor}
use Rattle.std.specs.List.{AllByRecursion}
use Rattle.std.specs.declared.io.Error.{Error}
use Rattle.std.specs.declared.io.ErrorKind.TheVariants.{OutOfMemory}
use Rattle.std.specs.IoError.{error_kind}
use Rattle.toml_replace.specs.declared.fault.ReplaceFault.{ReplaceFault}
use Rattle.toml_replace.specs.declared.fault.ReplaceFault.TheVariants.{File, Certificate}
use Rattle.toml_replace.specs.declared.beside.TheConstants.{MOST_NAMES}
use Rattle.toml_replace.specs.Beside.{IsBeside}
use Rattle.toml_replace.specs.Calls.{Call, finds, reads_mode, makes, writes, syncs, sets_mode, compares, stores, renames, removes, SomeCall}

-- the certificate's path and bytes
abbrev pub pair_of : Option (Bor (List ℕ) × Bor (List ℕ)) → Option (List ℕ × List ℕ)
pair_of certificate = option_map (λ c. (c.0.now, c.1.now)) certificate

-- a path beside the file, at which something stood already
abbrev pub IsTaken : List ℕ → Call → Type 0
IsTaken file (makes path (Ok false)) = IsBeside file path
IsTaken file _ = ⊥

-- the file is found, its permissions are read, and a new file is made, behind tries of paths that were taken
abbrev pub begun : List ℕ → List ℕ → ℕ → List Call → List ℕ → List Call
begun path file mode taken new = finds path (Ok file) ∷ reads_mode file (Ok mode) ∷ (taken ++ makes new (Ok true) ∷ [])

-- the new file gets the text, is synced, and gets the permissions
abbrev pub filled : List ℕ → ℕ → List Call
filled text mode = writes text (Ok tt) ∷ syncs (Ok tt) ∷ sets_mode mode (Ok tt) ∷ []

-- the certificate is written where neither of the two stands
abbrev pub certified : List ℕ → List ℕ → Option (List ℕ × List ℕ) → List Call
certified file new None = []
certified file new (Some c) = compares c.0 file (Ok false) ∷ compares c.0 new (Ok false) ∷ stores c.0 c.1 (Ok tt) ∷ []

-- the certificate, if there is one, has a path of its own
abbrev pub IsApart : List ℕ → List ℕ → Option (List ℕ × List ℕ) → Type 0
IsApart file new None = ⊤
IsApart file new (Some c) = (c.0 ≢ file) × (c.0 ≢ new)

-- The call leaves what stands at the path as it was. Writes, syncs and permissions go to the file that was made last, and a rename
-- that failed changes nothing.
abbrev pub Spares : List ℕ → Call → Type 0
Spares file (makes path made) = path ≢ file
Spares file (stores path bytes done) = path ≢ file
Spares file (renames from to done) = IsErr done
Spares file (removes path done) = path ≢ file
Spares file _ = ⊤

-- The file got the text. The new file was written whole, synced and given the file's permissions, the certificate was written, and
-- the last call renamed the new file over the file. All before spared the file.
pub record IsDone (path text : List ℕ) (certificate : Option (List ℕ × List ℕ)) (calls : List Call) : Type 0 where
  pub file : List ℕ
  pub new : List ℕ
  pub mode : ℕ
  pub taken : List Call
  pub before : List Call
  pub beside : IsBeside file new
  pub tried : AllByRecursion (IsTaken file) taken
  pub apart : IsApart file new certificate
  pub order : before ≡ begun path file mode taken new ++ (filled text mode ++ certified file new certificate)
  pub spared : AllByRecursion (Spares file) before
  pub renamed : calls ≡ before ++ renames new file (Ok tt) ∷ []

-- a call that makes nothing and changes nothing
abbrev pub ChangesNothing : Call → Type 0
ChangesNothing (finds path found) = ⊤
ChangesNothing (reads_mode path mode) = ⊤
ChangesNothing (makes path (Ok true)) = ⊥
ChangesNothing (makes path _) = ⊤
ChangesNothing _ = ⊥

-- a call once the new file is made, which leaves the file as it was: on the new one; on the certificate, at a path of its own; a
-- rename that failed
abbrev pub IsWork : List ℕ → List ℕ → Option (List ℕ × List ℕ) → Call → Type 0
IsWork file new certificate (writes text done) = ⊤
IsWork file new certificate (syncs done) = ⊤
IsWork file new certificate (sets_mode mode done) = ⊤
IsWork file new certificate (compares path other same) = ⊤
IsWork file new certificate (stores path bytes done) = (certificate ≡ Some (path, bytes)) × (path ≢ file) × (path ≢ new)
IsWork file new certificate (renames from to done) = (from ≡ new) × (to ≡ file) × IsErr done
IsWork file new certificate _ = ⊥

-- the same call on the new file, on the certificate or between these, whatever the answers
abbrev pub AsksAs : Call → Call → Type 0
AsksAs (writes text done) (writes other did) = text ≡ other
AsksAs (syncs done) (syncs did) = ⊤
AsksAs (sets_mode mode done) (sets_mode other did) = mode ≡ other
AsksAs (compares path to same) (compares other at is) = (path ≡ other) × (to ≡ at)
AsksAs (stores path bytes done) (stores other others did) = (path ≡ other) × (bytes ≡ others)
AsksAs (renames from to done) (renames other at did) = (from ≡ other) × (to ≡ at)
AsksAs _ _ = ⊥

-- a path leads to a file of ours, or that is not known
abbrev pub IsRefusal : Result Bool Error → Type 0
IsRefusal (Ok false) = ⊥
IsRefusal _ = ⊤

-- the call failed
abbrev pub Stops : Call → Type 0
Stops (writes text done) = IsErr done
Stops (syncs done) = IsErr done
Stops (sets_mode mode done) = IsErr done
Stops (compares path other same) = IsRefusal same
Stops (stores path bytes done) = IsErr done
Stops (renames from to done) = IsErr done
Stops _ = ⊥

-- The calls are those of the plan, in their order, up to one that failed.
pub record IsCutShort (plan calls : List Call) : Type 0 where
  pub done : List Call
  pub next : Call
  pub left : List Call
  pub failed : Call
  pub order : plan ≡ done ++ next ∷ left
  pub asked : AsksAs next failed
  pub stopped : Stops failed
  pub are : calls ≡ done ++ failed ∷ []

-- what is done once the new file is made: it is filled, the certificate is written, and the new file takes the file's place
abbrev pub planned : List ℕ → List ℕ → List ℕ → ℕ → Option (List ℕ × List ℕ) → List Call
planned file new text mode certificate = filled text mode ++ (certified file new certificate ++ renames new file (Ok tt) ∷ [])

-- The new file was made, what was to be done with it went well up to a call that failed, and the last call takes it away. So a certificate
-- is written only behind answers that its path leads neither to the file nor to the new one. All calls spared the file.
pub record IsTakenAway (path text : List ℕ) (certificate : Option (List ℕ × List ℕ)) (calls : List Call) : Type 0 where
  pub file : List ℕ
  pub new : List ℕ
  pub mode : ℕ
  pub taken : List Call
  pub work : List Call
  pub removed : Result (Unit {0}) Error
  pub beside : IsBeside file new
  pub tried : AllByRecursion (IsTaken file) taken
  pub cut : IsCutShort (planned file new text mode certificate) work
  pub is_work : AllByRecursion (IsWork file new certificate) work
  pub spared : AllByRecursion (Spares file) calls
  pub order : calls ≡ begun path file mode taken new ++ (work ++ removes new removed ∷ [])

-- nothing was made, or it was taken away
abbrev pub IsUndone : List ℕ → List ℕ → Option (List ℕ × List ℕ) → List Call → Type 0
IsUndone path text certificate calls = AllByRecursion ChangesNothing calls ⊎ IsTakenAway path text certificate calls

-- the call, on the file or on the new one, answered this error
abbrev pub FailsFile : Error → Call → Type 0
FailsFile e (finds path found) = found ≡ Err e
FailsFile e (reads_mode path mode) = mode ≡ Err e
FailsFile e (makes path made) = made ≡ Err e
FailsFile e (writes text done) = done ≡ Err e
FailsFile e (syncs done) = done ≡ Err e
FailsFile e (sets_mode mode done) = done ≡ Err e
FailsFile e (renames from to done) = done ≡ Err e
FailsFile e _ = ⊥

-- the call, on the certificate, answered this error, or that the path leads to another file of ours
abbrev pub FailsCertificate : Error → Call → Type 0
FailsCertificate e (compares path other same) = (same ≡ Err e) ⊎ (same ≡ Ok true)
FailsCertificate e (stores path bytes done) = done ≡ Err e
FailsCertificate e _ = ⊥

-- the last calls were tries of paths, as many as there may be, and each was taken
pub record IsCrowded (calls : List Call) : Type 0 where
  pub front : List Call
  pub file : List ℕ
  pub taken : List Call
  pub tried : AllByRecursion (IsTaken file) taken
  pub count : length taken ≡ MOST_NAMES
  pub last : calls ≡ front ++ taken

-- A fault has a cause: a call failed with that error, there was no memory, or all paths were taken.
abbrev pub HasCause : ReplaceFault → List Call → Type 0
HasCause (File e) calls = SomeCall (FailsFile e) calls ⊎ ((error_kind e ≡ OutOfMemory) ⊎ IsCrowded calls)
HasCause (Certificate e) calls = SomeCall (FailsCertificate e) calls

-- The file at a path got the text, or it is as it was, for a cause.
pub record IsReplacement (path text : List ℕ) (certificate : Option (List ℕ × List ℕ)) (result : Result (Unit {0}) ReplaceFault)
    (calls : List Call) : Type 0 where
  pub done : OnOk result (IsDone path text certificate calls)
  pub undone : OnErr result (IsUndone path text certificate calls)
  pub cause : IfErr result (λ fault. HasCause fault calls)
