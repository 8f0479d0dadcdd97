-- What a run comes to, one thing behind the other.
use Rattle.std.proofs.Common.{◌≡◌, ℕ, List, [], Option, Vec, Result, Ok, Err, length, inl, inr, refl, ap, ◌∙◌, subst}
use Rattle.std.specs.declared.alloc.Global.{Global}
use Rattle.toml_replace.specs.Calls.{Call, Made}
use Rattle.toml_words.specs.Marking.{marked_words}
use Rattle.toml_words.specs.Request.{IsFaultIn, IsRequestIn, asked_by}
use Rattle.toml_words.specs.declared.asking.WordsFault.{WordsFault}
use Rattle.toml_words.specs.declared.request.Request.{Request}
use Rattle.toml_commands.specs.Explaining.{explains}
use Rattle.toml_delivery.specs.Counts.{Counted}
use Rattle.toml_delivery.specs.Delivery.{IsDelivered, IsSent}
use Rattle.toml_delivery.specs.Delivery as delivery
use Rattle.toml_delivery.specs.RunFaults.{told}
use Rattle.toml_delivery.specs.declared.fault.RunFault.{RunFault}
use Rattle.toml_delivery.specs.declared.fault.RunFault.TheVariants as faults
use Rattle.toml_delivery.specs.declared.outcome.Outcome.{Outcome}
use Rattle.tomled.specs.Asking.{Asked}
use Rattle.tomled.specs.Ending.{RunEnd, IsGivenOut, IsObeyed, IsPrintedAlone, IsPrintedIfAny, IsServed, IsWrittenOut, TellsUnopened, TellsWords, IsEndOf, IsWholeRun}
use Rattle.tomled.specs.Finishing.{IsSettled, written}
use Rattle.tomled.specs.Opening.{AreOpened, Opening}
use Rattle.tomled.specs.Reads.{Read}
use Rattle.tomled.specs.Replies.{IsReply}
use Rattle.tomled.specs.Validating.{words_of}
use Rattle.tomled.specs.declared.finishing.Streams.{Streams}
use Rattle.tomled.specs.declared.reading.FileFault.{FileFault}
use Rattle.tomled.specs.declared.replying.Reply.{Reply}
use Rattle.tomled.proofs.Asking.{nothing, so}
use Rattle.tomled.proofs.Settled.{nothing_asked}

-- things are read, a disk is asked, and files are opened: what is known of all three
module _ {F : Type 0} (a b : Option (List Read)) (c d : Option (List Call)) (e f : Option (List (Opening F))) where
  abbrev pub Done : (List Read → List Call → List (Opening F) → Type 0) → Type 0
  Done P = Asked a b (λ reads. Made c d (λ calls. Asked e f (P reads calls)))

  pub all_done : (P : List Read → Type 0) (Q : List Call → Type 0) (R : List (Opening F) → Type 0) (S : List Read → List Call → List (Opening F) → Type 0) → Asked a b P → Made c d Q → Asked e f R
      → ((reads : List Read) (calls : List Call) (openings : List (Opening F)) → P reads → Q calls → R openings → S reads calls openings) → Done S
  all_done P Q R S read made opened all = record {
    new = read.new;
    added = read.added;
    which = record {
      calls = made.calls;
      added = made.added;
      which = record { new = opened.new; added = opened.added; which = all read.new made.calls opened.new read.which made.which opened.which };
    };
  }

  -- what is known is more than this
  pub so_done : (P Q : List Read → List Call → List (Opening F) → Type 0) → Done P → ((reads : List Read) (calls : List Call) (openings : List (Opening F)) → P reads calls openings → Q reads calls openings) → Done Q
  so_done P Q done more = record {
    new = done.new;
    added = done.added;
    which = record {
      calls = done.which.calls;
      added = done.which.added;
      which = record {
        new = done.which.which.new;
        added = done.which.which.added;
        which = more done.new done.which.calls done.which.which.new done.which.which.which;
      };
    };
  }

module _ {F O E : Type 0} (fc : F → Option (List ℕ)) (oc : O → Option (List ℕ)) (ec : E → Option (List ℕ)) (old new : Streams O E) where
  -- with no file
  pub printed_alone : (files files' : List (Counted F)) → files ≡ [] → (o bare : Outcome) → bare ≡ record o { files = bare.files } → (given : RunEnd F) → given.1.items ≡ []
      → IsDelivered fc oc ec files files' old.out new.out old.err new.err bare given.0 → IsPrintedAlone fc oc ec old new o given
  printed_alone files files' none o bare same given empty d =
      let alone = subst (λ l. IsDelivered fc oc ec l files' old.out new.out old.err new.err bare given.0) none d in
      record {
        stop = alone.stop;
        out_sent = subst (λ l. IsSent oc alone.stop 0 old.out new.out l) (ap (λ (x : Outcome). x.out.items) same) alone.out_sent;
        err_told = subst (λ l. delivery.IsTold ec alone.stop 1 old.err new.err l (told faults.File)) (ap (λ (x : Outcome). x.err.items) same) alone.err_told;
        good = λ h. alone.good h ∙ ap (λ (x : Outcome). x.status) same;
        failed = alone.failed;
        files = empty;
      }

  module _ (request : Request) where
    -- files are opened, and then all is written
    pub all_written : (o : Outcome) (v : Vec (Counted F) Global) (files : List (Counted F)) → files ≡ v.items → length v.items ≡ length o.files.items → (given : RunEnd F)
        → IsDelivered fc oc ec files given.1.items old.out new.out old.err new.err o given.0 → (a b : Option (List (Opening F))) → Asked a b (AreOpened (words_of (written request)) (length o.files.items) (Ok v))
        → Asked a b (IsWrittenOut fc oc ec old new request o (Ok given))
    all_written o v files are count given d a b asked =
        let d' = subst (λ l. IsDelivered fc oc ec l given.1.items old.out new.out old.err new.err o given.0) are d in
        so (AreOpened (words_of (written request)) (length o.files.items) (Ok v)) (IsWrittenOut fc oc ec old new request o (Ok given)) a b asked
        (λ xs h. record { files = v.items; count = count; opened = h; delivered = d' })

    pub is_given : (left : Outcome) (given : RunEnd F) (a b : Option (List (Opening F))) → Asked a b (IsWrittenOut fc oc ec old new request left (Ok given))
        → Asked a b (IsGivenOut fc oc ec old new request left (Ok given))
    is_given left given a b asked =
        so (IsWrittenOut fc oc ec old new request left (Ok given)) (IsGivenOut fc oc ec old new request left (Ok given)) a b asked (λ xs h. inl (given, refl, h))

    -- a file could not be opened, and that is told
    pub not_given : (between : Streams O E) (left : Outcome) (fault : FileFault) (o : Result Outcome RunFault) (result : Result (RunEnd F) RunFault)
        → TellsUnopened (explains (asked_by request)) fault o → IsPrintedIfAny fc oc ec between new o result
        → (a b : Option (List (Opening F))) → Asked a b (IsWrittenOut fc oc ec old between request left (Err fault)) → Asked a b (IsGivenOut fc oc ec old new request left result)
    not_given between left fault o result is printed a b asked =
        so (IsWrittenOut fc oc ec old between request left (Err fault)) (IsGivenOut fc oc ec old new request left result) a b asked
        (λ xs h. inr (record { fault = fault; why = h.0; told = o; tells = is; printed = subst (λ s. IsPrintedIfAny fc oc ec s new o result) h.1 printed }))

module _ {F O E : Type 0} (fc : F → Option (List ℕ)) (oc : O → Option (List ℕ)) (ec : E → Option (List ℕ)) (old : Streams O E) where
  module _ (request : Request) (a b : Option (List Read)) (c d : Option (List Call)) where
    -- there is no reply
    pub none_served : (fault : RunFault) (e : Option (List (Opening F))) → Asked a b (IsReply request (Err fault)) → Done a b c c e e (IsServed fc oc ec old old request (Err fault))
    none_served fault e asked =
        all_done a b c c e e (IsReply request (Err fault)) (λ calls. calls ≡ []) (λ openings. openings ≡ []) (IsServed fc oc ec old old request (Err fault)) asked
        (nothing_asked (λ calls. calls ≡ []) c refl) (nothing (λ openings. openings ≡ []) e refl)
        (λ reads calls openings h none nor. (Err fault, h, (none, nor, refl, refl)))

    -- nothing is left of the outcome of a reply
    pub none_left : (reply : Reply) (fault : RunFault) (e : Option (List (Opening F))) → Asked a b (IsReply request (Ok reply)) → Made c d (IsSettled request reply.inputs.items reply.outcome (Err fault))
        → Done a b c d e e (IsServed fc oc ec old old request (Err fault))
    none_left reply fault e asked made =
        all_done a b c d e e (IsReply request (Ok reply)) (IsSettled request reply.inputs.items reply.outcome (Err fault)) (λ openings. openings ≡ [])
        (IsServed fc oc ec old old request (Err fault)) asked made (nothing (λ openings. openings ≡ []) e refl)
        (λ reads calls openings h settled none. (Ok reply, h, (Err fault, settled, (none, refl, refl))))

    -- what is left is given out
    pub all_served : (new : Streams O E) (reply : Reply) (left : Outcome) (result : Result (RunEnd F) RunFault) (e f : Option (List (Opening F))) → Asked a b (IsReply request (Ok reply))
        → Made c d (IsSettled request reply.inputs.items reply.outcome (Ok left)) → Asked e f (IsGivenOut fc oc ec old new request left result) → Done a b c d e f (IsServed fc oc ec old new request result)
    all_served new reply left result e f asked made given =
        all_done a b c d e f (IsReply request (Ok reply)) (IsSettled request reply.inputs.items reply.outcome (Ok left)) (IsGivenOut fc oc ec old new request left result)
        (IsServed fc oc ec old new request result) asked made given (λ reads calls openings h settled given. (Ok reply, h, (Ok left, settled, given)))

  -- the words ask a request, or none
  pub obeyed_request : (new : Streams O E) (words marked : List (List ℕ)) → marked ≡ marked_words words → (request : Request) → IsRequestIn marked request → (result : Result (RunEnd F) RunFault)
      → (a b : Option (List Read)) (c d : Option (List Call)) (e f : Option (List (Opening F))) → Done a b c d e f (IsServed fc oc ec old new request result)
      → Done a b c d e f (IsObeyed fc oc ec old new words result)
  obeyed_request new words marked same request is result a b c d e f served =
      so_done a b c d e f (IsServed fc oc ec old new request result) (IsObeyed fc oc ec old new words result) served
      (λ reads calls openings h. inl (request, subst (λ w. IsRequestIn w request) same is, h))

  pub obeyed_none : (new : Streams O E) (words marked : List (List ℕ)) → marked ≡ marked_words words → (fault : WordsFault) → IsFaultIn marked fault → (result : Result (RunEnd F) RunFault)
      → TellsWords fc oc ec old new fault result → (a : Option (List Read)) (c : Option (List Call)) (e : Option (List (Opening F))) → Done a a c c e e (IsObeyed fc oc ec old new words result)
  obeyed_none new words marked same fault is result tells a c e =
      all_done a a c c e e (λ reads. reads ≡ []) (λ calls. calls ≡ []) (λ openings. openings ≡ []) (IsObeyed fc oc ec old new words result)
      (nothing (λ reads. reads ≡ []) a refl) (nothing_asked (λ calls. calls ≡ []) c refl) (nothing (λ openings. openings ≡ []) e refl)
      (λ reads calls openings no nor none. inr (fault, subst (λ w. IsFaultIn w fault) same is, no, nor, none, tells))

  -- what is obeyed ends
  pub whole_run : (between new : Streams O E) (words : List (List ℕ)) (result : Result (RunEnd F) RunFault) (end : RunEnd F) → IsEndOf ec between new result end → (a b : Option (List Read))
      (c d : Option (List Call)) (e f : Option (List (Opening F))) → Done a b c d e f (IsObeyed fc oc ec old between words result) → Done a b c d e f (IsWholeRun fc oc ec old new words end)
  whole_run between new words result end is a b c d e f done =
      so_done a b c d e f (IsObeyed fc oc ec old between words result) (IsWholeRun fc oc ec old new words end) done (λ reads calls openings h. (result, between, h, is))
