-- What becomes of writers that are written to one after the other.
use Rattle.std.proofs.Common.{◌≡◌, ◌⊎◌, inl, inr, ℕ, ◌+◌, ◌<◌, ◌≤◌, List, length, take, slice_index_or, slice_set, Option, Vec, Result, Ok, Err, IfErr, refl, sym, subst, ◌∙◌, arith}
use Rattle.std.specs.Prelude.{⊤}
use Rattle.std.specs.declared.alloc.Global.{Global}
use Rattle.std.proofs.lemmas.Bool.{cases_lt}
use Rattle.std.proofs.lemmas.List.{get_or_default, get_or-set_same, get_or-set_other, length-set}
use Rattle.std.specs.Io.KnownBytes.{Appends}
use Rattle.toml_delivery.specs.Counts.{Counted, accepted_bytes, emit_count, one_more}
use Rattle.toml_delivery.specs.Delivery.{AreSent, IsGiven, IsPart, IsSent, IsWhole}
use Rattle.toml_delivery.specs.declared.outcome.Outcome.{Outcome}
use Rattle.toml_delivery.specs.declared.output.EmitFault.{EmitFault}

-- what stands at a place inside a list, whatever would stand past its end
pub at_place : {A : Type 0} (xs : List A) (i : ℕ) (x d : A) → i < length xs → x ≡ slice_index_or xs i x → slice_index_or xs i d ≡ x
at_place xs i x d low is = get_or_default xs i d x low ∙ sym is

module _ {W : Type 0} (contents : W → Option (List ℕ)) where
  -- each file before this number has all its bytes
  abbrev pub AllBefore : List (Counted W) → List (Counted W) → List (Vec ℕ Global) → ℕ → Type 0
  AllBefore old now texts at = (n : ℕ) (d : Counted W) (t : Vec ℕ Global) → n < at
      → IsWhole contents (slice_index_or old n d) (slice_index_or now n d) (slice_index_or texts n t).items

  -- nothing was done with the others
  abbrev pub AllBehind : List (Counted W) → List (Counted W) → ℕ → Type 0
  AllBehind old now at = (n : ℕ) (d : Counted W) → at ≤ n → slice_index_or now n d ≡ slice_index_or old n d

  -- one more
  pub before_more : (old now : List (Counted W)) (texts : List (Vec ℕ Global)) (at : ℕ) (new : Counted W)
      → at < length now → AllBefore old now texts at → AllBehind old now at
      → ((d : Counted W) (t : Vec ℕ Global) → IsWhole contents (slice_index_or now at d) new (slice_index_or texts at t).items)
      → AllBefore old (slice_set now at new) texts (at + 1)
  before_more old now texts at new low before behind whole n d t lt = by (cases_lt n at)
    where
      by : n < at ⊎ (at ≤ n) → IsWhole contents (slice_index_or old n d) (slice_index_or (slice_set now at new) n d) (slice_index_or texts n t).items
      by (inl lower) = subst (λ w. IsWhole contents (slice_index_or old n d) w (slice_index_or texts n t).items)
          (sym (get_or-set_other now at n new d (λ is. absurd (omega arith)))) (before n d t lower)
      by (inr high) =
          let same : at ≡ n = omega arith in
          subst (λ k. IsWhole contents (slice_index_or old k d) (slice_index_or (slice_set now at new) k d) (slice_index_or texts k t).items) same
          (subst (λ w. IsWhole contents (slice_index_or old at d) w (slice_index_or texts at t).items) (sym (get_or-set_same now at new d low))
          (subst (λ w. IsWhole contents w new (slice_index_or texts at t).items) (behind at d (omega arith)) (whole d t)))

  -- the others stay the others
  pub behind_more : (old now : List (Counted W)) (at : ℕ) (new : Counted W) → AllBehind old now at → AllBehind old (slice_set now at new) (at + 1)
  behind_more old now at new behind n d high = get_or-set_other now at n new d (λ is. absurd (omega arith)) ∙ behind n d (omega arith)

  -- the file with this number fails
  pub part_sent : (old now : List (Counted W)) (texts : List (Vec ℕ Global)) (at : ℕ) (new : Counted W)
      → length now ≡ length old → at < length now → AllBefore old now texts at → AllBehind old now at
      → ((d : Counted W) (t : Vec ℕ Global) → IsPart contents (slice_index_or now at d) new (slice_index_or texts at t).items)
      → AreSent contents at old (slice_set now at new) texts
  part_sent old now texts at new long low before behind part = record {
    long = length-set now at new ∙ long;
    each = λ n d t lt. record {
      before = λ lower. subst (λ w. IsWhole contents (slice_index_or old n d) w (slice_index_or texts n t).items)
          (sym (get_or-set_other now at n new d (λ is. absurd (omega arith)))) (before n d t lower);
      here = λ same. subst (λ k. IsPart contents (slice_index_or old k d) (slice_index_or (slice_set now at new) k d) (slice_index_or texts k t).items) (sym same)
          (subst (λ w. IsPart contents (slice_index_or old at d) w (slice_index_or texts at t).items) (sym (get_or-set_same now at new d low))
          (subst (λ w. IsPart contents w new (slice_index_or texts at t).items) (behind at d (omega arith)) (part d t)));
      behind = λ high. get_or-set_other now at n new d (λ is. absurd (omega arith)) ∙ behind n d (omega arith);
    };
  }

  -- what a write to the file at a place of the list comes to
  pub whole_at : (now : List (Counted W)) (texts : List (Vec ℕ Global)) (at : ℕ) (x new : Counted W) (v : Vec ℕ Global) (bytes : List ℕ)
      → at < length now → at < length texts → v ≡ slice_index_or texts at v → bytes ≡ v.items
      → Appends (contents (slice_index_or now at x).device) (contents new.device) bytes → new.failures ≡ (slice_index_or now at x).failures
      → (d : Counted W) (t : Vec ℕ Global) → IsWhole contents (slice_index_or now at d) new (slice_index_or texts at t).items
  whole_at now texts at x new v bytes low low' is read accepted count d t =
      subst (λ w. IsWhole contents w new (slice_index_or texts at t).items) (get_or_default now at x d low)
      (subst (λ u. IsWhole contents (slice_index_or now at x) new u.items) (sym (at_place texts at v t low' is))
      (subst (λ bs. IsWhole contents (slice_index_or now at x) new bs) read (record { accepted = accepted; count = count })))

  pub part_at : (now : List (Counted W)) (texts : List (Vec ℕ Global)) (at : ℕ) (x new : Counted W) (v : Vec ℕ Global) (bytes : List ℕ) (written : ℕ)
      → at < length now → at < length texts → v ≡ slice_index_or texts at v → bytes ≡ v.items → written < length bytes
      → Appends (contents (slice_index_or now at x).device) (contents new.device) (take written bytes) → new.failures ≡ one_more (slice_index_or now at x).failures
      → (d : Counted W) (t : Vec ℕ Global) → IsPart contents (slice_index_or now at d) new (slice_index_or texts at t).items
  part_at now texts at x new v bytes written low low' is read fewer accepted count d t =
      subst (λ w. IsPart contents w new (slice_index_or texts at t).items) (get_or_default now at x d low)
      (subst (λ u. IsPart contents (slice_index_or now at x) new u.items) (sym (at_place texts at v t low' is))
      (subst (λ bs. IsPart contents (slice_index_or now at x) new bs) read (record { written = written; fewer = fewer; accepted = accepted; count = count })))

  -- none fails
  pub all_sent : (old now : List (Counted W)) (texts : List (Vec ℕ Global)) (at stop : ℕ)
      → length now ≡ length old → length old ≤ at → length old ≤ stop → AllBefore old now texts at
      → AreSent contents stop old now texts
  all_sent old now texts at stop long all far before = record {
    long = long;
    each = λ n d t lt. record {
      before = λ lower. before n d t (omega arith);
      here = λ same. absurd (omega arith);
      behind = λ high. absurd (omega arith);
    };
  }

  -- where no file fails, it does not matter which writer behind them does
  pub sent_on : (old now : List (Counted W)) (texts : List (Vec ℕ Global)) (stop later : ℕ)
      → length old ≤ stop → length old ≤ later → AreSent contents stop old now texts → AreSent contents later old now texts
  sent_on old now texts stop later far far' sent = all_sent old now texts (length old) later sent.long (omega arith) far'
      (λ n d t low. (sent.each n d t low).before (omega arith))

  pub whole_sent : (stop n : ℕ) (old new : Counted W) (bytes : List ℕ) → n < stop → IsWhole contents old new bytes → IsSent contents stop n old new bytes
  whole_sent stop n old new bytes low whole = record {
    before = λ lt. whole;
    here = λ same. absurd (omega arith);
    behind = λ high. absurd (omega arith);
  }

  pub one_part : (n : ℕ) (old new : Counted W) (bytes : List ℕ) → IsPart contents old new bytes → IsSent contents n n old new bytes
  one_part n old new bytes part = record {
    before = λ lt. absurd (omega arith);
    here = λ same. part;
    behind = λ high. absurd (omega arith);
  }

  pub none_sent : (stop n : ℕ) (now : Counted W) (bytes : List ℕ) → stop < n → IsSent contents stop n now now bytes
  none_sent stop n now bytes far = record {
    before = λ lt. absurd (omega arith);
    here = λ same. absurd (omega arith);
    behind = λ high. refl;
  }

-- the files and standard output have their bytes, and so much has standard error
pub given : {F O E : Type 0} (fc : F → Option (List ℕ)) (oc : O → Option (List ℕ)) (ec : E → Option (List ℕ))
    (files files' : List (Counted F)) (out out' : Counted O) (err err' : Counted E) (o : Outcome) (result : Result ⊤ EmitFault) (stop : ℕ)
    → length files ≤ stop → AreSent fc stop files files' o.files.items → IsWhole oc out out' o.out.items
    → Appends (ec err.device) (ec err'.device) (accepted_bytes o.err.items result)
    → IfErr result (λ fault. fault.written < length o.err.items) → err'.failures ≡ emit_count result err.failures
    → IsGiven fc oc ec files files' out out' err err' o result
given fc oc ec files files' out out' err err' o (Ok done) stop far sent whole bytes fewer count = record {
  stop = length files + 2;
  files_sent = sent_on fc files files' o.files.items stop (length files + 2) far (omega arith) sent;
  out_sent = whole_sent oc (length files + 2) (length files) out out' o.out.items (omega arith) whole;
  err_sent = whole_sent ec (length files + 2) (length files + 1) err err' o.err.items (omega arith) (record { accepted = bytes; count = count });
  stops = omega arith;
}
given fc oc ec files files' out out' err err' o (Err fault) stop far sent whole bytes fewer count = record {
  stop = length files + 1;
  files_sent = sent_on fc files files' o.files.items stop (length files + 1) far (omega arith) sent;
  out_sent = whole_sent oc (length files + 1) (length files) out out' o.out.items (omega arith) whole;
  err_sent = one_part ec (length files + 1) err err' o.err.items (record { written = fault.written; fewer = fewer; accepted = bytes; count = count });
  stops = omega arith;
}
