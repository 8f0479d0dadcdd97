-- What a request comes to, by what its reads gave.
use Rattle.std.specs.Prelude.{◌≡◌, ◌⊎◌, ℕ, List, [], map, None, Result, Ok, Err, Vec}
use Rattle.std.specs.declared.alloc.Global.{Global}
use Rattle.toml_words.specs.Request.{asked_by}
use Rattle.toml_words.specs.declared.request.Request.{Request}
use Rattle.toml_words.specs.declared.request.Request.TheVariants as requests
use Rattle.toml_commands.specs.Answering.{AnswersRequest, IsAnswer, sought, words_read}
use Rattle.toml_commands.specs.Explaining.{IsExplained, explains}
use Rattle.toml_commands.specs.declared.answering.Source.{Source}
use Rattle.toml_delivery.specs.Outcomes.{texts_of}
use Rattle.toml_delivery.specs.declared.fault.RunFault.{RunFault}
use Rattle.toml_delivery.specs.declared.fault.RunFault.TheVariants.{Memory, Words}
use Rattle.toml_delivery.specs.declared.outcome.Outcome.{Outcome}
use Rattle.tomled.specs.Reads.{GaveAll, Read, StoppedAt}
use Rattle.tomled.specs.Validating.{IsOutcomeOf, Validates, words_of}
use Rattle.tomled.specs.declared.reading.FileFault.{FileFault}
use Rattle.tomled.specs.declared.replying.Reply.{Reply}

-- All that the request reads was read, one after the other. The outcome is the answer to these bytes, with what is said of its refusal.
pub record IsAnswered (request : Request) (reads : List Read) (reply : Reply) : Type 0 where
  pub sources : List Source
  pub order : map sought sources ≡ words_read (asked_by request)
  pub gave : GaveAll sources (texts_of reply.inputs.items) reads
  pub plain : Outcome
  pub answer : IsAnswer (asked_by request) (texts_of reply.inputs.items) plain
  pub said : IsExplained request reply.inputs.items plain reply.outcome

-- One could not be read, and none behind it was: a file fault of its word.
pub record StopsReading (request : Request) (reads : List Read) (reply : Reply) : Type 0 where
  pub sources : List Source
  pub order : map sought sources ≡ words_read (asked_by request)
  pub fault : FileFault
  pub stopped : StoppedAt sources fault reads
  pub told : IsOutcomeOf (explains (asked_by request)) fault (Ok reply.outcome)

-- What a request comes to: `validate` reads one file after the other, the others all that they read and then answer. Want of memory alone
-- leaves no outcome.
abbrev pub IsReply : Request → Result Reply RunFault → List Read → Type 0
IsReply request (Err fault) reads = fault ≡ Memory
IsReply (requests.Validate files profile) (Ok reply) reads = Validates profile (words_of files.items) reply.outcome reads
IsReply request (Ok reply) reads = IsAnswered request reads reply ⊎ StopsReading request reads reply

-- Words of the code's own contracts. So of a request whose files are read whole.
abbrev pub IsReplyFrom : Request → Result Reply RunFault → List Read → Type 0
IsReplyFrom request (Ok reply) reads = IsAnswered request reads reply ⊎ StopsReading request reads reply
IsReplyFrom request (Err fault) reads = (fault ≡ Memory) ⊎ (words_read (asked_by request) ≡ [])

-- So of one for which these bytes were read.
abbrev pub IsReplyBy : Request → List (Vec ℕ Global) → Result Reply RunFault → Type 0
IsReplyBy request inputs (Ok reply) =
    (reply.inputs.items ≡ inputs) × (plain : Outcome) × IsAnswer (asked_by request) (texts_of inputs) plain × IsExplained request inputs plain reply.outcome
IsReplyBy request inputs (Err fault) = (fault ≡ Memory) ⊎ ((fault ≡ Words) × AnswersRequest (asked_by request) (texts_of inputs) None)
