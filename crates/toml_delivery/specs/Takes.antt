-- What reading a whole input takes from a reader.
use Rattle.std.specs.Prelude.{◌≡◌, ◌<◌, ◌≤◌, ℕ, List, length, Option, Result, Ok, Err, IsOk, Vec}
use Rattle.std.specs.declared.alloc.Global.{Global}
use Rattle.std.specs.Io.KnownBytes.{Consumes, IsAtEnd}
use Rattle.toml_delivery.specs.Counts.{Counted, one_more}
use Rattle.toml_delivery.specs.declared.input.TakeFault.{TakeFault}
use Rattle.toml_delivery.specs.declared.input.TakeFault.TheVariants.{Device, NoMemory}

-- the bytes that were read, in order: all up to the end, or the first `limit` ones
pub record IsTaken (limit : ℕ) (old new : Option (List ℕ)) (bytes : List ℕ) : Type 0 where
  pub read : Consumes old new bytes
  pub within : length bytes ≤ limit
  pub whole : length bytes < limit → IsAtEnd new

-- `limit` bytes at most were read before a fault, and are lost
pub record IsLost (limit : ℕ) (old new : Option (List ℕ)) : Type 0 where
  pub bytes : List ℕ
  pub read : Consumes old new bytes
  pub within : length bytes ≤ limit

-- the count of failed reads after that: only the read that stopped it failed
abbrev pub take_count : Result (Vec ℕ Global) TakeFault → ℕ → ℕ
take_count (Ok bytes) count = count
take_count (Err Device) count = one_more count
take_count (Err NoMemory) count = count

-- there is an answer, and nothing was asked of the reader
pub record ReadsNothing {R : Type 0} (old new : Counted R) (result : Result (Vec ℕ Global) TakeFault) : Type 0 where
  pub answered : IsOk result
  pub same : new ≡ old
