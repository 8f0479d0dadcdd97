-- What a request comes to, by what was read.
use Rattle.std.proofs.Common.{◌≡◌, ◌⊎◌, ℕ, List, [], Option, Vec, Result, Ok, Err, Bor, length, map, inl, inr, refl, sym, ap, ◌∙◌, subst}
use Rattle.std.proofs.lemmas.List.{length-map}
use Rattle.std.specs.declared.alloc.Global.{Global}
use Rattle.toml_tree.specs.declared.profile.Profile.{Profile}
use Rattle.toml_words.specs.Request.{asked_by}
use Rattle.toml_words.specs.declared.request.Request.{Request}
use Rattle.toml_words.specs.declared.request.Request.TheVariants as requests
use Rattle.toml_commands.specs.Answering.{IsAnswer, sought, words_read}
use Rattle.toml_commands.specs.Explaining.{IsExplained, explains}
use Rattle.toml_commands.specs.declared.answering.Source.{Source}
use Rattle.toml_delivery.specs.Outcomes.{texts_of}
use Rattle.toml_delivery.specs.declared.fault.RunFault.{RunFault}
use Rattle.toml_delivery.specs.declared.outcome.Outcome.{Outcome}
use Rattle.tomled.specs.Asking.{Asked}
use Rattle.tomled.specs.Reads.{AreRead, GaveAll, Read}
use Rattle.tomled.specs.Replies.{IsAnswered, IsReply, IsReplyBy, IsReplyFrom, StopsReading}
use Rattle.tomled.specs.Validating.{IsOutcomeOf, IsValidation, words_of}
use Rattle.tomled.specs.declared.reading.FileFault.{FileFault}
use Rattle.tomled.specs.declared.reading.FileFault.TheVariants.{Failed, NoMemory}
use Rattle.tomled.specs.declared.replying.Reply.{Reply}
use Rattle.tomled.proofs.Asking.{so}

abbrev ok_bytes : List ℕ → Result (List ℕ) FileFault
ok_bytes bytes = Ok bytes

-- as many texts as sources
same_count : (sources : List Source) (texts : List (List ℕ)) (reads : List Read) → GaveAll sources texts reads → length texts ≡ length sources
same_count sources texts reads h =
    sym (length-map texts ok_bytes) ∙ (sym (ap length h.gave) ∙ (length-map reads (λ (r : Read). r.gave)
    ∙ (sym (length-map reads (λ (r : Read). r.source)) ∙ ap length h.order)))

module _ (request : Request) (sources : List Source) (order : map sought sources ≡ words_read (asked_by request)) where
  enough : (texts : List (List ℕ)) (reads : List Read) → GaveAll sources texts reads → length texts ≡ length (words_read (asked_by request))
  enough texts reads h = same_count sources texts reads h ∙ (sym (length-map sources sought) ∙ ap length order)

  -- all were read
  answered : (inputs : List (Vec ℕ Global)) (reads : List Read) → GaveAll sources (texts_of inputs) reads → (result : Result Reply RunFault) → IsReplyBy request inputs result → IsReplyFrom request result reads
  answered inputs reads gave (Ok reply) h = inl (record {
    sources = sources;
    order = order;
    gave = subst (λ l. GaveAll sources (texts_of l) reads) (sym h.0) gave;
    plain = h.1;
    answer = subst (λ l. IsAnswer (asked_by request) (texts_of l) h.1) (sym h.0) h.2;
    said = subst (λ l. IsExplained request l h.1 reply.outcome) (sym h.0) h.3;
  })
  answered inputs reads gave (Err fault) (inl is) = inl is
  answered inputs reads gave (Err fault) (inr (is, inl other)) = absurd (other (enough (texts_of inputs) reads gave))
  answered inputs reads gave (Err fault) (inr (is, inr none)) = inr none

  pub all_read : (v : Vec (Vec ℕ Global) Global) (result : Result Reply RunFault) → IsReplyBy request v.items result → (a b : Option (List Read)) → Asked a b (AreRead sources (Ok v))
      → Asked a b (IsReplyFrom request result)
  all_read v result is a b asked = so (AreRead sources (Ok v)) (IsReplyFrom request result) a b asked (λ reads h. answered v.items reads h result is)

  -- one was not
  unread : (fault : FileFault) (o : Result Outcome RunFault) → IsOutcomeOf (explains (asked_by request)) fault o → (reads : List Read) → AreRead sources (Err fault) reads
      → (reply : Reply) → o ≡ Ok reply.outcome → IsReplyFrom request (Ok reply) reads
  unread (Failed word error) o told reads (inl lacks) reply is = let none : Failed word error ≡ NoMemory = lacks in cc
  unread (Failed word error) o told reads (inr stopped) reply is =
      inr (record {
        sources = sources;
        order = order;
        fault = Failed word error;
        stopped = stopped;
        told = subst (IsOutcomeOf (explains (asked_by request)) (Failed word error)) is told;
      })
  unread NoMemory o told reads h reply is = absurd (subst (IsOutcomeOf (explains (asked_by request)) NoMemory) is told)

  pub one_unread : (fault : FileFault) (reply : Reply) → IsOutcomeOf (explains (asked_by request)) fault (Ok reply.outcome) → (a b : Option (List Read)) → Asked a b (AreRead sources (Err fault))
      → Asked a b (IsReplyFrom request (Ok reply))
  one_unread fault reply told a b asked = so (AreRead sources (Err fault)) (IsReplyFrom request (Ok reply)) a b asked (λ reads h. unread fault (Ok reply.outcome) told reads h reply refl)

-- but for `validate` this is all
abbrev pub IsNoValidate : Request → Type 0
IsNoValidate request = (files : Vec (Bor (List ℕ)) Global) (profile : Profile) → ¬ (request ≡ requests.Validate files profile)

reads_some : (request : Request) → IsNoValidate request → ¬ (words_read (asked_by request) ≡ [])
reads_some (requests.Show file list explain profile) other none = cc
reads_some (requests.Check file explain profile) other none = cc
reads_some (requests.Edit file edits out cert explain profile) other none = cc
reads_some (requests.Verify before edits after cert explain profile) other none = cc
reads_some (requests.Certify before edits after cert profile) other none = cc
reads_some (requests.Get file place form default profile) other none = cc
reads_some (requests.One file place e destination layout profile) other none = cc
reads_some (requests.Apply file edits destination layout profile) other none = cc
reads_some (requests.Validate files profile) other none = other files profile refl

is_reply : (request : Request) → IsNoValidate request → (reply : Reply) (reads : List Read) → IsAnswered request reads reply ⊎ StopsReading request reads reply → IsReply request (Ok reply) reads
is_reply (requests.Show file list explain profile) other reply reads h = h
is_reply (requests.Check file explain profile) other reply reads h = h
is_reply (requests.Edit file edits out cert explain profile) other reply reads h = h
is_reply (requests.Verify before edits after cert explain profile) other reply reads h = h
is_reply (requests.Certify before edits after cert profile) other reply reads h = h
is_reply (requests.Get file place form default profile) other reply reads h = h
is_reply (requests.One file place e destination layout profile) other reply reads h = h
is_reply (requests.Apply file edits destination layout profile) other reply reads h = h
is_reply (requests.Validate files profile) other reply reads h = absurd (other files profile refl)

whole : (request : Request) → IsNoValidate request → (result : Result Reply RunFault) (reads : List Read) → IsReplyFrom request result reads → IsReply request result reads
whole request other (Ok reply) reads h = is_reply request other reply reads h
whole request other (Err fault) reads (inl is) = is
whole request other (Err fault) reads (inr none) = absurd (reads_some request other none)

pub read_whole : (request : Request) → IsNoValidate request → (result : Result Reply RunFault) (a b : Option (List Read)) → Asked a b (IsReplyFrom request result) → Asked a b (IsReply request result)
read_whole request other result a b asked = so (IsReplyFrom request result) (IsReply request result) a b asked (whole request other result)

-- `validate` reads one file after the other
pub file_by_file : (request : Request) (files : Vec (Bor (List ℕ)) Global) (profile : Profile) → request ≡ requests.Validate files profile → (reply : Reply)
    → (a b : Option (List Read)) → Asked a b (IsValidation profile (words_of files.items) (Ok reply.outcome)) → Asked a b (IsReply request (Ok reply))
file_by_file request files profile is reply a b asked =
    subst (λ r. Asked a b (IsReply r (Ok reply))) (sym is)
    (so (IsValidation profile (words_of files.items) (Ok reply.outcome)) (IsReply (requests.Validate files profile) (Ok reply)) a b asked (λ reads h. h))
