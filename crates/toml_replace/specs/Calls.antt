-- What a disk is asked, and what it answers.
use Rattle.std.specs.Prelude.{◌≡◌, ◌⊎◌, ℕ, Bool, List, [], ◌∷◌, ◌++◌, Option, Some, None, Result, Ok, Err, String, string_bytes, ⊤}
use Rattle.std.specs.declared.io.Error.{Error}

-- a call of a disk, and its answer
pub data Call : Type 0 where
  finds : (path : List ℕ) → Result (List ℕ) Error → Call
  reads_mode : (path : List ℕ) → Result ℕ Error → Call
  makes : (path : List ℕ) → Result Bool Error → Call
  writes : (text : List ℕ) → Result (Unit {0}) Error → Call
  syncs : Result (Unit {0}) Error → Call
  sets_mode : (mode : ℕ) → Result (Unit {0}) Error → Call
  compares : (path other : List ℕ) → Result Bool Error → Call
  stores : (path bytes : List ℕ) → Result (Unit {0}) Error → Call
  renames : (from to : List ℕ) → Result (Unit {0}) Error → Call
  removes : (path : List ℕ) → Result (Unit {0}) Error → Call

-- an answer, its text by bytes
abbrev pub as_text : {A E : Type 0} → Result (String A) E → Result (List ℕ) E
as_text (Ok text) = Ok (string_bytes text)
as_text (Err e) = Err e

-- The calls of a disk are those before, and then these. A disk that keeps no list claims nothing.
abbrev pub Adds : List Call → Option (List Call) → Option (List Call) → Type 0
Adds calls before None = ⊤
Adds calls None (Some all) = ⊥
Adds calls (Some earlier) (Some all) = all ≡ earlier ++ calls

-- between the two, a disk made calls of which P holds
pub record Made (before after : Option (List Call)) (P : List Call → Type 0) : Type 0 where
  pub calls : List Call
  pub added : Adds calls before after
  pub which : P calls

-- some call is one of which P holds
abbrev pub SomeCall : (Call → Type 0) → List Call → Type 0
SomeCall P [] = ⊥
SomeCall P (call ∷ calls) = P call ⊎ SomeCall P calls
