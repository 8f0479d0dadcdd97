-- What comes of an outcome that is handed to its writers. The writers have numbers in the order in which they are used:
-- the files from 0 on, then standard output, and standard error last.
use Rattle.std.specs.Prelude.{◌≡◌, ◌<◌, ◌≤◌, ◌+◌, ◌⊎◌, ℕ, List, length, take, slice_index_or, Option, Result, Ok, Err, ⊤, Vec}
use Rattle.std.specs.declared.alloc.Global.{Global}
use Rattle.std.specs.Io.KnownBytes.{Appends}
use Rattle.toml_delivery.specs.Counts.{Counted, one_more}
use Rattle.toml_delivery.specs.RunFaults.{told}
use Rattle.toml_delivery.specs.declared.fault.RunFault.TheVariants.{File}
use Rattle.toml_delivery.specs.declared.output.EmitFault.{EmitFault}
use Rattle.toml_delivery.specs.declared.outcome.Outcome.{Outcome}

-- the writer accepted just these bytes, and none of its writes failed
pub record IsWhole {W : Type 0} (contents : W → Option (List ℕ)) (old new : Counted W) (bytes : List ℕ) : Type 0 where
  pub accepted : Appends (contents old.device) (contents new.device) bytes
  pub count : new.failures ≡ old.failures

-- one write failed, and the writer accepted a beginning of these bytes that is shorter than they are
pub record IsPart {W : Type 0} (contents : W → Option (List ℕ)) (old new : Counted W) (bytes : List ℕ) : Type 0 where
  pub written : ℕ
  pub fewer : written < length bytes
  pub accepted : Appends (contents old.device) (contents new.device) (take written bytes)
  pub count : new.failures ≡ one_more old.failures

-- one try to write these bytes
abbrev pub IsTried : {W : Type 0} → (W → Option (List ℕ)) → Counted W → Counted W → List ℕ → Type 0
IsTried contents old new bytes = IsWhole contents old new bytes ⊎ IsPart contents old new bytes

-- what the writer with the number `n` is given, where the one with the number `stop` is the first that fails: all before
-- it have their bytes, it a beginning of its own, and nothing is done with those behind it. Of two files, where the second
-- fails: `stop` is 1, the first file is `before`, the second `here`, both outputs (2 and 3) are `behind`
pub record IsSent {W : Type 0} (contents : W → Option (List ℕ)) (stop n : ℕ) (old new : Counted W) (bytes : List ℕ) : Type 0 where
  pub before : n < stop → IsWhole contents old new bytes
  pub here : n ≡ stop → IsPart contents old new bytes
  pub behind : stop < n → new ≡ old

-- so of each of the files, whose numbers begin at 0
pub record AreSent {W : Type 0} (contents : W → Option (List ℕ)) (stop : ℕ) (old new : List (Counted W)) (texts : List (Vec ℕ Global)) : Type 0 where
  pub long : length new ≡ length old
  pub each : (n : ℕ) (d : Counted W) (t : Vec ℕ Global) → n < length old
      → IsSent contents stop n (slice_index_or old n d) (slice_index_or new n d) (slice_index_or texts n t).items

-- so of the last writer, with the number `n`; it is told the message, in one try, where it or one before it failed
pub record IsTold {W : Type 0} (contents : W → Option (List ℕ)) (stop n : ℕ) (old new : Counted W) (bytes message : List ℕ) : Type 0 where
  pub between : Counted W
  pub sent : IsSent contents stop n old between bytes
  pub silent : n < stop → new ≡ between
  pub tried : stop ≤ n → IsTried contents between new message

-- there was a fault exactly where the number of the writer that failed is below `n`
abbrev pub Stops : Result ⊤ EmitFault → ℕ → ℕ → Type 0
Stops (Ok done) stop n = n ≤ stop
Stops (Err fault) stop n = stop < n

-- so of the files alone
abbrev pub AreGiven : {W : Type 0} → (W → Option (List ℕ)) → List (Counted W) → List (Counted W) → List (Vec ℕ Global) → Result ⊤ EmitFault → Type 0
AreGiven contents old new texts result = (stop : ℕ) × AreSent contents stop old new texts × Stops result stop (length old)

-- so of the files and both outputs, as long as standard error is not told of a fault
pub record IsGiven {F O E : Type 0} (files-contents : F → Option (List ℕ)) (out-contents : O → Option (List ℕ)) (err-contents : E → Option (List ℕ))
    (files files' : List (Counted F)) (out out' : Counted O) (err err' : Counted E) (o : Outcome) (result : Result ⊤ EmitFault) : Type 0 where
  pub stop : ℕ
  pub files_sent : AreSent files-contents stop files files' o.files.items
  pub out_sent : IsSent out-contents stop (length files) out out' o.out.items
  pub err_sent : IsSent err-contents stop (length files + 1) err err' o.err.items
  pub stops : Stops result stop (length files + 2)

-- the files are written in order, then standard output and then standard error, up to the first fault; behind a fault
-- standard error is told so. The status is the outcome's where there was none, else that of a fault of a file
pub record IsDelivered {F O E : Type 0} (files-contents : F → Option (List ℕ)) (out-contents : O → Option (List ℕ)) (err-contents : E → Option (List ℕ))
    (files files' : List (Counted F)) (out out' : Counted O) (err err' : Counted E) (o : Outcome) (status : ℕ) : Type 0 where
  pub stop : ℕ
  pub files_sent : AreSent files-contents stop files files' o.files.items
  pub out_sent : IsSent out-contents stop (length files) out out' o.out.items
  pub err_told : IsTold err-contents stop (length files + 1) err err' o.err.items (told File)
  pub good : length files + 1 < stop → status ≡ o.status
  pub failed : stop ≤ length files + 1 → status ≡ 3
