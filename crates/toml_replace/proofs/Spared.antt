-- What leaves the file as it was.
use Rattle.std.proofs.Common.{ℕ, true, false, List, [], ◌∷◌, ◌++◌, Some, None, Ok, Err}
use Rattle.std.specs.Prelude.{Option, Result}
use Rattle.std.specs.List.{AllByRecursion}
use Rattle.std.specs.declared.io.Error.{Error}
use Rattle.toml_replace.specs.Beside.{IsBeside}
use Rattle.toml_replace.specs.Calls.{Call, finds, reads_mode, makes, writes, syncs, sets_mode, compares, stores, renames, removes}
use Rattle.toml_replace.specs.Replacement.{IsTaken, begun, filled, certified, IsApart, IsWork, Spares}
use Rattle.toml_replace.proofs.Joined.{all_joined, all_mapped}

taken_spares : (file : List ℕ) (call : Call) → IsTaken file call → Spares file call
taken_spares file (makes path (Ok false)) h = h.other
taken_spares file (makes path (Ok true)) h = absurd h
taken_spares file (makes path (Err e)) h = absurd h
taken_spares file (finds path r) h = tt
taken_spares file (reads_mode path r) h = tt
taken_spares file (writes text r) h = tt
taken_spares file (syncs r) h = tt
taken_spares file (sets_mode mode r) h = tt
taken_spares file (compares path other r) h = tt
taken_spares file (stores path bytes r) h = absurd h
taken_spares file (renames from to r) h = absurd h
taken_spares file (removes path r) h = absurd h

work_spares : (file new : List ℕ) (certificate : Option (List ℕ × List ℕ)) (call : Call) → IsWork file new certificate call → Spares file call
work_spares file new certificate (makes path r) h = absurd h
work_spares file new certificate (finds path r) h = tt
work_spares file new certificate (reads_mode path r) h = tt
work_spares file new certificate (writes text r) h = tt
work_spares file new certificate (syncs r) h = tt
work_spares file new certificate (sets_mode mode r) h = tt
work_spares file new certificate (compares path other r) h = tt
work_spares file new certificate (stores path bytes r) h = h.1
work_spares file new certificate (renames from to r) h = h.2
work_spares file new certificate (removes path r) h = absurd h

begun_spares : (path file new : List ℕ) (mode : ℕ) (taken : List Call) → IsBeside file new → AllByRecursion (IsTaken file) taken
    → AllByRecursion (Spares file) (begun path file mode taken new)
begun_spares path file new mode taken beside tried = (
  tt,
  (
    tt,
    all_joined (Spares file) taken (makes new (Ok true) ∷ []) (all_mapped (IsTaken file) (Spares file)
        (taken_spares file) taken tried) (beside.other, tt),
  ),
)

certified_spares : (file new : List ℕ) (k : Option (List ℕ × List ℕ)) → IsApart file new k → AllByRecursion (Spares file) (certified file new k)
certified_spares file new None apart = tt
certified_spares file new (Some k) apart = (tt, (tt, (apart.0, tt)))

-- all calls before the rename
pub done_spares : (path file new text : List ℕ) (mode : ℕ) (taken : List Call) (k : Option (List ℕ × List ℕ)) → IsBeside file new
    → AllByRecursion (IsTaken file) taken
    → IsApart file new k → AllByRecursion (Spares file) (begun path file mode taken new ++ (filled text mode ++ certified file new k))
done_spares path file new text mode taken k beside tried apart =
    all_joined (Spares file) (begun path file mode taken new) (filled text mode ++ certified file new k) (begun_spares path file new mode taken beside tried)
    (tt, (tt, (tt, certified_spares file new k apart)))

-- all calls where the new file is taken away
pub undone_spares : (path file new : List ℕ) (mode : ℕ) (taken work : List Call) (k : Option (List ℕ × List ℕ)) (r : Result (Unit {0}) Error)
    → IsBeside file new
    → AllByRecursion (IsTaken file) taken → AllByRecursion (IsWork file new k) work
    → AllByRecursion (Spares file) (begun path file mode taken new ++ (work ++ removes new r ∷ []))
undone_spares path file new mode taken work k r beside tried is_work =
    all_joined (Spares file) (begun path file mode taken new) (work ++ removes new r ∷ []) (begun_spares path file new mode taken beside tried)
    (all_joined (Spares file) work (removes new r ∷ []) (all_mapped (IsWork file new k) (Spares file) (work_spares file new k) work is_work)
    (beside.other, tt))
