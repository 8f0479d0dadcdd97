-- The count of failed reads or writes, after a read or a write, and after writing a whole text.
use Rattle.std.specs.Prelude.{ℕ, Bool, true, ◌+◌, ◌-◌, ◌^◌, ◌==◌, ◌&&◌, nat_lt, min, List, length}
use Rattle.std.specs.Prelude.{take, if◌then◌else◌, Result, Ok, Err, ⊤}
use Rattle.std.specs.declared.io.Error.{Error}
use Rattle.toml_delivery.specs.declared.output.EmitFault.{EmitFault}

-- a reader or a writer, and how many of its reads or writes failed
pub record Counted (W : Type 0) : Type 0 where
  pub device : W
  pub failures : ℕ

-- one more, or the greatest u64
abbrev pub one_more : ℕ → ℕ
one_more count = min (count + 1) (2 ^ 64 - 1)

-- the write answered an error, or took no byte of a text that has one
abbrev pub is_failed_write : List ℕ → Result ℕ Error → Bool
is_failed_write bytes (Ok taken) = taken == 0 && nat_lt 0 (length bytes)
is_failed_write bytes (Err error) = true

-- the count of failed writes after a write
abbrev pub count_after : List ℕ → Result ℕ Error → ℕ → ℕ
count_after bytes answer count = if is_failed_write bytes answer then one_more count else count

-- the count of failed reads after a read; one that gives no byte did not fail
abbrev pub count_after_read : Result ℕ Error → ℕ → ℕ
count_after_read (Ok taken) count = count
count_after_read (Err error) count = one_more count

-- the bytes that were accepted of a text that was to be written whole
abbrev pub accepted_bytes : List ℕ → Result ⊤ EmitFault → List ℕ
accepted_bytes bytes (Ok done) = bytes
accepted_bytes bytes (Err fault) = take fault.written bytes

-- the count of failed writes after that: only the write that stopped it failed
abbrev pub emit_count : Result ⊤ EmitFault → ℕ → ℕ
emit_count (Ok done) count = count
emit_count (Err fault) count = one_more count
