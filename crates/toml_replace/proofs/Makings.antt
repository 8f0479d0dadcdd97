-- A new file is made, or nothing is.
use Rattle.std.proofs.Common.{◌≡◌, ◌+◌, ℕ, true, false, length, List, [], ◌∷◌, ◌++◌, Ok, Err, inl, inr, refl, sym, ap, ◌∙◌, append_assoc, length-append}
use Rattle.std.specs.Prelude.{Option, String, string_bytes}
use Rattle.std.specs.List.{AllByRecursion}
use Rattle.std.specs.declared.alloc.Global.{Global}
use Rattle.std.specs.declared.io.Error.{Error}
use Rattle.toml_replace.specs.declared.beside.TheConstants.{MOST_NAMES}
use Rattle.toml_replace.specs.declared.replacing.Place.{Place}
use Rattle.toml_replace.specs.Beside.{IsBeside}
use Rattle.toml_replace.specs.Calls.{Call, finds, reads_mode, makes, writes, syncs, sets_mode, compares, stores, renames, removes, Adds, Made}
use Rattle.toml_replace.specs.Replacement.{IsTaken, ChangesNothing, FailsFile, HasCause}
use Rattle.toml_replace.specs.Steps.{IsMaking, IsBeginning}
use Rattle.toml_replace.specs.declared.fault.ReplaceFault.TheVariants.{File}
use Rattle.toml_replace.proofs.Joined.{joined, all_joined, all_mapped, some_behind}

-- so many tries of paths that were taken
abbrev pub AreTries : List ℕ → ℕ → List Call → Type 0
AreTries file n calls = AllByRecursion (IsTaken file) calls × (length calls ≡ n)

taken_changes_nothing : (file : List ℕ) (call : Call) → IsTaken file call → ChangesNothing call
taken_changes_nothing file (makes path (Ok true)) h = h
taken_changes_nothing file (makes path (Ok false)) h = tt
taken_changes_nothing file (makes path (Err e)) h = tt
taken_changes_nothing file (finds path r) h = tt
taken_changes_nothing file (reads_mode path r) h = tt
taken_changes_nothing file (writes path r) h = h
taken_changes_nothing file (syncs r) h = h
taken_changes_nothing file (sets_mode mode r) h = h
taken_changes_nothing file (compares path other r) h = h
taken_changes_nothing file (stores path bytes r) h = h
taken_changes_nothing file (renames from to r) h = h
taken_changes_nothing file (removes path r) h = h

tries_change_nothing : (file : List ℕ) (calls : List Call) → AllByRecursion (IsTaken file) calls → AllByRecursion ChangesNothing calls
tries_change_nothing file calls h = all_mapped (IsTaken file) ChangesNothing (taken_changes_nothing file) calls h

-- the making of a file failed
pub making_failed : (file path : List ℕ) (n : ℕ) (e : Error) (a b c : Option (List Call)) → Made a b (AreTries file n) → Adds (makes path (Err e) ∷ []) b c
    → Made a c (IsMaking file (Err e))
making_failed file path n e a b c tries last = record {
  calls = tries.calls ++ makes path (Err e) ∷ [];
  added = joined tries.calls (makes path (Err e) ∷ []) a b c tries.added last;
  which = (
    all_joined ChangesNothing tries.calls (makes path (Err e) ∷ []) (tries_change_nothing file tries.calls tries.which.0) (tt, tt),
    inl (some_behind (FailsFile e) tries.calls (makes path (Err e) ∷ []) (inl refl)),
  );
}

-- it is made
pub making_done : (file path : List ℕ) (n : ℕ) (new : String Global) (a b c : Option (List Call)) → IsBeside file (string_bytes new) → path ≡ string_bytes new
    → Made a b (AreTries file n) → Adds (makes path (Ok true) ∷ []) b c → Made a c (IsMaking file (Ok new))
making_done file path n new a b c beside same tries last = record {
  calls = tries.calls ++ makes path (Ok true) ∷ [];
  added = joined tries.calls (makes path (Ok true) ∷ []) a b c tries.added last;
  which = (tries.calls, beside, tries.which.0, ap (λ p. tries.calls ++ makes p (Ok true) ∷ []) same);
}

-- the path is taken
pub one_more_taken : (file path : List ℕ) (n : ℕ) (a b c : Option (List Call)) → IsBeside file path → Made a b (AreTries file n)
    → Adds (makes path (Ok false) ∷ []) b c
    → Made a c (AreTries file (n + 1))
one_more_taken file path n a b c beside tries last = record {
  calls = tries.calls ++ makes path (Ok false) ∷ [];
  added = joined tries.calls (makes path (Ok false) ∷ []) a b c tries.added last;
  which = (
    all_joined (IsTaken file) tries.calls (makes path (Ok false) ∷ []) tries.which.0 (beside, tt),
    length-append tries.calls (makes path (Ok false) ∷ []) ∙ ap (λ k. k + 1) tries.which.1,
  );
}

-- all are taken
pub making_crowded : (file : List ℕ) (e : Error) (a b : Option (List Call)) → Made a b (AreTries file MOST_NAMES) → Made a b (IsMaking file (Err e))
making_crowded file e a b tries = record {
  calls = tries.calls;
  added = tries.added;
  which = (
    tries_change_nothing file tries.calls tries.which.0,
    inr (inr (record { front = []; file = file; taken = tries.calls; tried = tries.which.0; count = tries.which.1; last = refl })),
  );
}

-- the file is not found
pub no_file : (path : List ℕ) (e : Error) (a b : Option (List Call)) → Adds (finds path (Err e) ∷ []) a b → Made a b (IsBeginning path (Err e))
no_file path e a b found = record { calls = finds path (Err e) ∷ []; added = found; which = ((tt, tt), inl (inl refl)) }

-- its permissions can't be read
pub no_mode : (path file : List ℕ) (e : Error) (a b c : Option (List Call)) → Adds (finds path (Ok file) ∷ []) a b → Adds (reads_mode file (Err e) ∷ []) b c
    → Made a c (IsBeginning path (Err e))
no_mode path file e a b c found read = record {
  calls = finds path (Ok file) ∷ reads_mode file (Err e) ∷ [];
  added = joined (finds path (Ok file) ∷ []) (reads_mode file (Err e) ∷ []) a b c found read;
  which = ((tt, (tt, tt)), inl (inr (inl refl)));
}

cause_behind : (e : Error) (front calls : List Call) → HasCause (File e) calls → HasCause (File e) (front ++ calls)
cause_behind e front calls (inl some) = inl (some_behind (FailsFile e) front calls some)
cause_behind e front calls (inr (inl memory)) = inr (inl memory)
cause_behind e front calls (inr (inr crowd)) = inr (inr (record {
  front = front ++ crowd.front;
  file = crowd.file;
  taken = crowd.taken;
  tried = crowd.tried;
  count = crowd.count;
  last = ap (λ l. front ++ l) crowd.last ∙ sym (append_assoc front crowd.front crowd.taken);
}))

-- no new file is made
pub nothing_made : (path file : List ℕ) (mode : ℕ) (e : Error) (a b c d : Option (List Call)) → Adds (finds path (Ok file) ∷ []) a b
    → Adds (reads_mode file (Ok mode) ∷ []) b c
    → Made c d (IsMaking file (Err e)) → Made a d (IsBeginning path (Err e))
nothing_made path file mode e a b c d found read made =
    let front = finds path (Ok file) ∷ reads_mode file (Ok mode) ∷ [] in
    record {
      calls = front ++ made.calls;
      added = joined front made.calls a c d (joined (finds path (Ok file) ∷ []) (reads_mode file (Ok mode) ∷ []) a b c found read) made.added;
      which = ((tt, (tt, made.which.0)), cause_behind e front made.calls made.which.1);
    }

-- the file is found, and a new one made
pub all_begun : (path : List ℕ) (place : Place) (a b c d : Option (List Call)) → Adds (finds path (Ok (string_bytes place.file)) ∷ []) a b
    → Adds (reads_mode (string_bytes place.file) (Ok place.mode) ∷ []) b c → Made c d (IsMaking (string_bytes place.file) (Ok place.new))
    → Made a d (IsBeginning path (Ok place))
all_begun path place a b c d found read made =
    let file = string_bytes place.file in
    let front = finds path (Ok file) ∷ reads_mode file (Ok place.mode) ∷ [] in
    record {
      calls = front ++ made.calls;
      added = joined front made.calls a c d (joined (finds path (Ok file) ∷ []) (reads_mode file (Ok place.mode) ∷ []) a b c found read) made.added;
      which = (made.which.0, made.which.1, made.which.2, ap (λ l. front ++ l) made.which.3);
    }
