-- A beginning and an end make a replacement.
use Rattle.std.proofs.Common.{◌≡◌, ℕ, List, [], ◌∷◌, ◌++◌, Ok, Err, inl, inr, refl, sym, ap, subst, ◌∙◌, append_assoc}
use Rattle.std.specs.Prelude.{Option, Result, string_bytes}
use Rattle.std.specs.declared.io.Error.{Error}
use Rattle.toml_replace.specs.declared.fault.ReplaceFault.{ReplaceFault}
use Rattle.toml_replace.specs.declared.fault.ReplaceFault.TheVariants.{File, Certificate}
use Rattle.toml_replace.specs.declared.replacing.Place.{Place}
use Rattle.toml_replace.specs.Calls.{Call, removes, renames, Adds, Made, SomeCall}
use Rattle.std.specs.List.{AllByRecursion}
use Rattle.toml_replace.specs.Replacement.{begun, filled, certified, FailsFile, FailsCertificate, HasCause, IsReplacement, Spares}
use Rattle.toml_replace.specs.Steps.{IsBeginning, IsFinishing, Causes}
use Rattle.toml_replace.proofs.Spared.{done_spares, undone_spares}
use Rattle.toml_replace.proofs.Joined.{joined, some_behind, some_before}

module _ (path text : List ℕ) (certificate : Option (List ℕ × List ℕ)) where
  -- nothing was made
  pub not_begun : (e : Error) (a b : Option (List Call)) → Made a b (IsBeginning path (Err e)) → Made a b (IsReplacement path text certificate (Err (File e)))
  not_begun e a b begin = record { calls = begin.calls; added = begin.added; which = record { done = tt; undone = inl begin.which.0; cause = begin.which.1 } }

  module _ (place : Place) (a b c : Option (List Call)) (begin : Made a b (IsBeginning path (Ok place))) where
    -- all went well
    pub replaced : Made b c (IsFinishing (string_bytes place.file) (string_bytes place.new) text place.mode certificate (Ok tt))
        → Made a c (IsReplacement path text certificate (Ok tt))
    replaced finish =
        let file = string_bytes place.file in
        let new = string_bytes place.new in
        let front = begun path file place.mode begin.which.0 new in
        let middle = filled text place.mode in
        let proof = certified file new certificate in
        let last = renames new file (Ok tt) ∷ [] in
        let order : begin.calls ++ finish.calls ≡ front ++ (middle ++ (proof ++ last)) =
        ap (λ l. l ++ finish.calls) begin.which.3 ∙ ap (λ l. front ++ l) finish.which.0 in
        let grouped : (front ++ (middle ++ proof)) ++ last ≡ front ++ (middle ++ (proof ++ last)) =
        append_assoc front (middle ++ proof) last ∙ ap (λ l. front ++ l) (append_assoc middle proof last) in
        record {
          calls = begin.calls ++ finish.calls;
          added = joined begin.calls finish.calls a b c begin.added finish.added;
          which = record {
            done = record {
              file = file;
              new = new;
              mode = place.mode;
              taken = begin.which.0;
              before = front ++ (middle ++ proof);
              beside = begin.which.1;
              tried = begin.which.2;
              apart = finish.which.1;
              order = refl;
              spared = done_spares path file new text place.mode begin.which.0 certificate begin.which.1 begin.which.2 finish.which.1;
              renamed = order ∙ sym grouped;
            };
            undone = tt;
            cause = tt;
          };
        }

    cause_in : (fault : ReplaceFault) (front work rest : List Call) → SomeCall (Causes fault) work → HasCause fault (front ++ (work ++ rest))
    cause_in (File e) front work rest some = inl (some_behind (FailsFile e) front (work ++ rest) (some_before (FailsFile e) work rest some))
    cause_in (Certificate e) front work rest some = some_behind (FailsCertificate e) front (work ++ rest) (some_before (FailsCertificate e) work rest some)

    -- the new file is taken away
    pub taken_away : (fault : ReplaceFault) (r : Result (Unit {0}) Error) (d : Option (List Call))
        → Made b c (IsFinishing (string_bytes place.file) (string_bytes place.new) text place.mode certificate (Err fault))
        → Adds (removes (string_bytes place.new) r ∷ []) c d → Made a d (IsReplacement path text certificate (Err fault))
    taken_away fault r d finish removed =
        let last = removes (string_bytes place.new) r ∷ [] in
        let order : begin.calls ++ (finish.calls ++ last) ≡ begun path (string_bytes place.file) place.mode begin.which.0
        (string_bytes place.new) ++ (finish.calls ++ last) =
        ap (λ l. l ++ (finish.calls ++ last)) begin.which.3 in
        record {
          calls = begin.calls ++ (finish.calls ++ last);
          added = joined begin.calls (finish.calls ++ last) a b d begin.added (joined finish.calls last b c d finish.added removed);
          which = record {
            done = tt;
            undone = inr (record {
              file = string_bytes place.file;
              new = string_bytes place.new;
              mode = place.mode;
              taken = begin.which.0;
              work = finish.calls;
              removed = r;
              beside = begin.which.1;
              tried = begin.which.2;
              cut = finish.which.1;
              is_work = finish.which.0;
              spared = subst (AllByRecursion (Spares (string_bytes place.file))) (sym order)
                  (undone_spares path (string_bytes place.file) (string_bytes place.new) place.mode begin.which.0 finish.calls certificate r
                  begin.which.1 begin.which.2 finish.which.0);
              order = order;
            });
            cause = cause_in fault begin.calls finish.calls last finish.which.2;
          };
        }
