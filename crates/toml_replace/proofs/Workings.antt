-- The work on a new file, step by step.
use Rattle.std.proofs.Common.{◌≡◌, ◌≢◌, ℕ, true, false, List, [], ◌∷◌, ◌++◌, Some, None, Ok, Err, inl, inr, refl, ap, subst, append_assoc}
use Rattle.std.specs.Prelude.{Option, Result, Bool}
use Rattle.std.specs.List.{AllByRecursion}
use Rattle.std.specs.declared.io.Error.{Error}
use Rattle.toml_replace.specs.declared.fault.ReplaceFault.TheVariants.{File, Certificate}
use Rattle.toml_replace.specs.Calls.{Call, writes, syncs, sets_mode, compares, stores, renames, Adds, Made}
use Rattle.toml_replace.specs.Replacement.{filled, certified, IsApart, IsCutShort, IsRefusal, IsWork, FailsFile}
use Rattle.toml_replace.specs.Steps.{IsFilling, IsComparing, IsCertifying, IsFinishing, Causes}
use Rattle.toml_replace.proofs.Cuts.{cut_before, cut_behind, refusal}
use Rattle.toml_replace.proofs.Joined.{joined, all_joined, some_behind}

write_cut : (text : List ℕ) (mode : ℕ) (e : Error) → IsCutShort (filled text mode) (writes text (Err e) ∷ [])
write_cut text mode e = record {
  done = [];
  next = writes text (Ok tt);
  left = syncs (Ok tt) ∷ sets_mode mode (Ok tt) ∷ [];
  failed = writes text (Err e);
  order = refl;
  asked = refl;
  stopped = refl;
  are = refl;
}

sync_cut : (text : List ℕ) (mode : ℕ) (e : Error) → IsCutShort (filled text mode) (writes text (Ok tt) ∷ syncs (Err e) ∷ [])
sync_cut text mode e = record {
  done = writes text (Ok tt) ∷ [];
  next = syncs (Ok tt);
  left = sets_mode mode (Ok tt) ∷ [];
  failed = syncs (Err e);
  order = refl;
  asked = tt;
  stopped = refl;
  are = refl;
}

mode_cut : (text : List ℕ) (mode : ℕ) (e : Error) → IsCutShort (filled text mode) (writes text (Ok tt) ∷ syncs (Ok tt) ∷ sets_mode mode (Err e) ∷ [])
mode_cut text mode e = record {
  done = writes text (Ok tt) ∷ syncs (Ok tt) ∷ [];
  next = sets_mode mode (Ok tt);
  left = [];
  failed = sets_mode mode (Err e);
  order = refl;
  asked = refl;
  stopped = refl;
  are = refl;
}

pub write_failed : (text : List ℕ) (mode : ℕ) (e : Error) (a b : Option (List Call)) → Adds (writes text (Err e) ∷ []) a b
    → Made a b (IsFilling text mode (Err e))
write_failed text mode e a b written = record { calls = writes text (Err e) ∷ []; added = written; which = ((λ _ _ _. (tt, tt)), write_cut text mode e, inl refl) }

pub sync_failed : (text : List ℕ) (mode : ℕ) (e : Error) (a b c : Option (List Call)) → Adds (writes text (Ok tt) ∷ []) a b → Adds (syncs (Err e) ∷ []) b c
    → Made a c (IsFilling text mode (Err e))
sync_failed text mode e a b c written synced = record {
  calls = writes text (Ok tt) ∷ syncs (Err e) ∷ [];
  added = joined (writes text (Ok tt) ∷ []) (syncs (Err e) ∷ []) a b c written synced;
  which = ((λ _ _ _. (tt, (tt, tt))), sync_cut text mode e, inr (inl refl));
}

filling_which : (text : List ℕ) (mode : ℕ) (r : Result (Unit {0}) Error) → IsFilling text mode r (writes text (Ok tt) ∷ syncs (Ok tt) ∷ sets_mode mode r ∷ [])
filling_which text mode (Ok u) = refl
filling_which text mode (Err e) = ((λ _ _ _. (tt, (tt, (tt, tt)))), mode_cut text mode e, inr (inr (inl refl)))

pub filling : (text : List ℕ) (mode : ℕ) (r : Result (Unit {0}) Error) (a b c d : Option (List Call)) → Adds (writes text (Ok tt) ∷ []) a b
    → Adds (syncs (Ok tt) ∷ []) b c
    → Adds (sets_mode mode r ∷ []) c d → Made a d (IsFilling text mode r)
filling text mode r a b c d written synced set = record {
  calls = writes text (Ok tt) ∷ syncs (Ok tt) ∷ sets_mode mode r ∷ [];
  added = joined (writes text (Ok tt) ∷ syncs (Ok tt) ∷ []) (sets_mode mode r ∷ []) a c d
      (joined (writes text (Ok tt) ∷ []) (syncs (Ok tt) ∷ []) a b c written synced) set;
  which = filling_which text mode r;
}

pub compare_failed : (path other : List ℕ) (e : Error) (a b : Option (List Call)) → Adds (compares path other (Err e) ∷ []) a b
    → Made a b (IsComparing path other (Err e))
compare_failed path other e a b compared = record { calls = compares path other (Err e) ∷ []; added = compared; which = (Err e, refl, inl refl) }

pub is_other : (path other : List ℕ) (same : Bool) (e : Error) (a b : Option (List Call)) → same ≡ true → Adds (compares path other (Ok same) ∷ []) a b
    → Made a b (IsComparing path other (Err e))
is_other path other same e a b it_is compared = record {
  calls = compares path other (Ok same) ∷ [];
  added = compared;
  which =
      (Ok same, refl, inr (ap (λ x. Ok x) it_is));
}

-- the first comparison, the second, or the writing fails
first_cut : (file new : List ℕ) (k : List ℕ × List ℕ) (same : Result Bool Error) → IsRefusal same
    → IsCutShort (certified file new (Some k)) (compares k.0 file same ∷ [])
first_cut file new k same refused = record {
  done = [];
  next = compares k.0 file (Ok false);
  left = compares k.0 new (Ok false) ∷ stores k.0 k.1 (Ok tt) ∷ [];
  failed = compares k.0 file same;
  order = refl;
  asked = (refl, refl);
  stopped = refused;
  are = refl;
}

second_cut : (file new : List ℕ) (k : List ℕ × List ℕ) (same : Result Bool Error) → IsRefusal same
    → IsCutShort (certified file new (Some k)) (compares k.0 file (Ok false) ∷ compares k.0 new same ∷ [])
second_cut file new k same refused = record {
  done = compares k.0 file (Ok false) ∷ [];
  next = compares k.0 new (Ok false);
  left = stores k.0 k.1 (Ok tt) ∷ [];
  failed = compares k.0 new same;
  order = refl;
  asked = (refl, refl);
  stopped = refused;
  are = refl;
}

store_cut : (file new : List ℕ) (k : List ℕ × List ℕ) (e : Error)
    → IsCutShort (certified file new (Some k)) (compares k.0 file (Ok false) ∷ compares k.0 new (Ok false) ∷ stores k.0 k.1 (Err e) ∷ [])
store_cut file new k e = record {
  done = compares k.0 file (Ok false) ∷ compares k.0 new (Ok false) ∷ [];
  next = stores k.0 k.1 (Ok tt);
  left = [];
  failed = stores k.0 k.1 (Err e);
  order = refl;
  asked = (refl, refl);
  stopped = refl;
  are = refl;
}

-- the certificate would be the file, or that isn't known
pub first_refused : (file new : List ℕ) (k : List ℕ × List ℕ) (e : Error) (a b : Option (List Call)) → Made a b (IsComparing k.0 file (Err e))
    → Made a b (IsCertifying file new (Some k) (Err e))
first_refused file new k e a b first = record {
  calls = compares k.0 file first.which.0 ∷ [];
  added = subst (λ l. Adds l a b) first.which.1 first.added;
  which = ((tt, tt), first_cut file new k first.which.0 (refusal first.which.0 e first.which.2), inl first.which.2);
}

-- the certificate would be the new file, or that isn't known
pub second_refused : (file new : List ℕ) (k : List ℕ × List ℕ) (e : Error) (a b c : Option (List Call)) → Made a b (IsComparing k.0 file (Ok tt))
    → Made b c (IsComparing k.0 new (Err e)) → Made a c (IsCertifying file new (Some k) (Err e))
second_refused file new k e a b c first second = record {
  calls = compares k.0 file (Ok false) ∷ compares k.0 new second.which.0 ∷ [];
  added = joined (compares k.0 file (Ok false) ∷ []) (compares k.0 new second.which.0 ∷ []) a b c
      (subst (λ l. Adds l a b) first.which.0 first.added) (subst (λ l. Adds l b c) second.which.1 second.added);
  which = ((tt, (tt, tt)), second_cut file new k second.which.0 (refusal second.which.0 e second.which.2), inr (inl second.which.2));
}

certifying_which : (file new : List ℕ) (k : List ℕ × List ℕ) (r : Result (Unit {0}) Error) → k.0 ≢ file → k.0 ≢ new
    → IsCertifying file new (Some k) r (compares k.0 file (Ok false) ∷ compares k.0 new (Ok false) ∷ stores k.0 k.1 r ∷ [])
certifying_which file new k (Ok u) not_file not_new = (refl, (not_file, not_new))
certifying_which file new k (Err e) not_file not_new = ((tt, (tt, ((refl, not_file, not_new), tt))), store_cut file new k e, inr (inr (inl refl)))

-- both were compared, and the certificate is written or not
pub certifying : (file new : List ℕ) (k : List ℕ × List ℕ) (r : Result (Unit {0}) Error) (a b c d : Option (List Call))
    → Made a b (IsComparing k.0 file (Ok tt))
    → Made b c (IsComparing k.0 new (Ok tt)) → Adds (stores k.0 k.1 r ∷ []) c d → Made a d (IsCertifying file new (Some k) r)
certifying file new k r a b c d first second stored =
    let one = subst (λ l. Adds l a b) first.which.0 first.added in
    let two = subst (λ l. Adds l b c) second.which.0 second.added in
    record {
      calls = compares k.0 file (Ok false) ∷ compares k.0 new (Ok false) ∷ stores k.0 k.1 r ∷ [];
      added = joined (compares k.0 file (Ok false) ∷ compares k.0 new (Ok false) ∷ []) (stores k.0 k.1 r ∷ []) a c d
          (joined (compares k.0 file (Ok false) ∷ []) (compares k.0 new (Ok false) ∷ []) a b c one two) stored;
      which = certifying_which file new k r first.which.1 second.which.1;
    }

module _ (file new text : List ℕ) (mode : ℕ) (certificate : Option (List ℕ × List ℕ)) where
  -- the new file can't be written
  pub unfilled : (e : Error) (a b : Option (List Call)) → Made a b (IsFilling text mode (Err e))
      → Made a b (IsFinishing file new text mode certificate (Err (File e)))
  unfilled e a b stopped = record {
    calls = stopped.calls;
    added = stopped.added;
    which = (
      stopped.which.0 file new certificate,
      cut_before (filled text mode) (certified file new certificate ++ renames new file (Ok tt) ∷ []) stopped.calls stopped.which.1,
      stopped.which.2,
    );
  }

  filled_is_work : AllByRecursion (IsWork file new certificate) (filled text mode)
  filled_is_work = (tt, (tt, (tt, tt)))

  -- the certificate can't be written
  pub uncertified : (e : Error) (a b c : Option (List Call)) → Made a b (IsFilling text mode (Ok tt)) → Made b c (IsCertifying file new certificate (Err e))
      → Made a c (IsFinishing file new text mode certificate (Err (Certificate e)))
  uncertified e a b c done stopped = record {
    calls = filled text mode ++ stopped.calls;
    added = joined (filled text mode) stopped.calls a b c (subst (λ l. Adds l a b) done.which done.added) stopped.added;
    which = (
      all_joined (IsWork file new certificate) (filled text mode) stopped.calls filled_is_work stopped.which.0,
      cut_behind (filled text mode) (certified file new certificate ++ renames new file (Ok tt) ∷ []) stopped.calls
          (cut_before (certified file new certificate) (renames new file (Ok tt) ∷ []) stopped.calls stopped.which.1),
      some_behind (Causes (Certificate e)) (filled text mode) stopped.calls stopped.which.2,
    );
  }

  certified_is_work : (k : Option (List ℕ × List ℕ)) → certificate ≡ k → IsApart file new k
      → AllByRecursion (IsWork file new certificate) (certified file new k)
  certified_is_work None same apart = tt
  certified_is_work (Some k) same apart = (tt, (tt, ((same, apart.0, apart.1), tt)))

  module _ (a b c d : Option (List Call)) (done : Made a b (IsFilling text mode (Ok tt))) (written : Made b c
      (IsCertifying file new certificate (Ok tt))) where
    front_added : Adds (filled text mode ++ certified file new certificate) a c
    front_added = joined (filled text mode) (certified file new certificate) a b c (subst (λ l. Adds l a b) done.which done.added) (subst
        (λ l. Adds l b c) written.which.0 written.added)

    renamed_added : (r : Result (Unit {0}) Error) → Adds (renames new file r ∷ []) c d
        → Adds (filled text mode ++ (certified file new certificate ++ renames new file r ∷ [])) a d
    renamed_added r renamed = subst (λ l. Adds l a d) (append_assoc (filled text mode) (certified file new certificate) (renames new file r ∷ []))
        (joined (filled text mode ++ certified file new certificate) (renames new file r ∷ []) a c d front_added renamed)

    rename_cut : (e : Error) → IsCutShort (renames new file (Ok tt) ∷ []) (renames new file (Err e) ∷ [])
    rename_cut e = record {
      done = [];
      next = renames new file (Ok tt);
      left = [];
      failed = renames new file (Err e);
      order = refl;
      asked = (refl, refl);
      stopped = refl;
      are = refl;
    }

    -- the new file can't be renamed
    pub unrenamed : (e : Error) → Adds (renames new file (Err e) ∷ []) c d → Made a d (IsFinishing file new text mode certificate (Err (File e)))
    unrenamed e renamed = record {
      calls = filled text mode ++ (certified file new certificate ++ renames new file (Err e) ∷ []);
      added = renamed_added (Err e) renamed;
      which = (
        all_joined (IsWork file new certificate) (filled text mode) (certified file new certificate ++ renames new file (Err e) ∷ []) filled_is_work
            (all_joined (IsWork file new certificate) (certified file new certificate) (renames new file (Err e) ∷ [])
            (certified_is_work certificate refl written.which.1)
            ((refl, refl, refl), tt)),
        cut_behind (filled text mode) (certified file new certificate ++ renames new file (Ok tt) ∷ []) (certified file new certificate ++ renames new file (Err e) ∷ [])
            (cut_behind (certified file new certificate) (renames new file (Ok tt) ∷ []) (renames new file (Err e) ∷ []) (rename_cut e)),
        some_behind (FailsFile e) (filled text mode) (certified file new certificate ++ renames new file (Err e) ∷ [])
            (some_behind (FailsFile e) (certified file new certificate) (renames new file (Err e) ∷ []) (inl refl)),
      );
    }

    pub finished : Adds (renames new file (Ok tt) ∷ []) c d → Made a d (IsFinishing file new text mode certificate (Ok tt))
    finished renamed = record {
      calls = filled text mode ++ (certified file new certificate ++ renames new file (Ok tt) ∷ []);
      added = renamed_added (Ok tt) renamed;
      which = (refl, written.which.1);
    }
