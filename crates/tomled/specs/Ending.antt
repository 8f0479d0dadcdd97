-- What a run comes to: which files are opened, and what is written to them and to both outputs.
use Rattle.std.specs.Prelude.{◌≡◌, ◌⊎◌, ◌<◌, ◌≤◌, ℕ, Bool, List, [], IsTrue, Option, Result, Ok, Err, Vec, length, string_bytes}
use Rattle.std.specs.declared.alloc.Global.{Global}
use Rattle.toml_replace.specs.Calls.{Call, Made}
use Rattle.toml_words.specs.Marking.{marked_words}
use Rattle.toml_words.specs.Request.{IsFaultIn, IsRequestIn, asked_by}
use Rattle.toml_words.specs.Told.{IsTold}
use Rattle.toml_words.specs.declared.asking.WordsFault.{WordsFault}
use Rattle.toml_words.specs.declared.asking.WordsFault.TheVariants as words
use Rattle.toml_words.specs.declared.request.Request.{Request}
use Rattle.toml_words.specs.declared.told.ParserText.{ParserText}
use Rattle.toml_commands.specs.Explaining.{explains}
use Rattle.toml_delivery.specs.Counts.{Counted}
use Rattle.toml_delivery.specs.Delivery.{IsDelivered, IsSent}
use Rattle.toml_delivery.specs.Delivery as delivery
use Rattle.toml_delivery.specs.Outcomes.{Fails, Prints}
use Rattle.toml_delivery.specs.RunFaults.{status_of, told}
use Rattle.toml_delivery.specs.declared.fault.RunFault.{RunFault}
use Rattle.toml_delivery.specs.declared.fault.RunFault.TheVariants as faults
use Rattle.toml_delivery.specs.declared.outcome.Outcome.{Outcome}
use Rattle.tomled.specs.Asking.{Asked}
use Rattle.tomled.specs.Finishing.{IsFileFault, IsSettled, written}
use Rattle.tomled.specs.Opening.{AreUnopened, GaveFiles, Opening}
use Rattle.tomled.specs.Reads.{Read}
use Rattle.tomled.specs.Replies.{IsReply}
use Rattle.tomled.specs.Validating.{words_of}
use Rattle.tomled.specs.declared.reading.FileFault.{FileFault}
use Rattle.tomled.specs.declared.reading.FileFault.TheVariants.{Failed, NoMemory}
use Rattle.tomled.specs.declared.replying.Reply.{Reply}
use Rattle.tomled.specs.declared.serving.System.{System}
use Rattle.tomled.specs.declared.finishing.Streams.{Streams}

-- The status, and the files that were written, as they are then.
abbrev pub RunEnd : Type 0 → Type 0
RunEnd F = ℕ × Vec (Counted F) Global

-- Between the two, things were read, a disk was asked, and files were opened, of which P holds.
abbrev pub AsksAll : {I D S F : Type 0} → (I → Option (List Read)) → (D → Option (List Call)) → (S → Option (List (Opening F))) → System I D S → System I D S
    → (List Read → List Call → List (Opening F) → Type 0) → Type 0
AsksAll reads calls opened old new P =
    Asked (reads old.inputs) (reads new.inputs) (λ rs. Made (calls old.disk) (calls new.disk) (λ cs. Asked (opened old.opener) (opened new.opener) (P rs cs)))

-- The parser's text is printed where it was asked for, else it is told with status 2.
pub record TellsText (told : ParserText) (o : Outcome) : Type 0 where
  pub help : IsTrue told.is_help → Prints (string_bytes told.text) o
  pub mistake : ¬ IsTrue told.is_help → Fails 2 (string_bytes told.text) o

-- What words come to that make no request: what the parser tells; bad words; or want of memory.
abbrev pub IsOutcomeOfWords : WordsFault → Result Outcome RunFault → Type 0
IsOutcomeOfWords (words.Parser error) (Ok o) = (told : ParserText) × IsTold error told × TellsText told o
IsOutcomeOfWords (words.Parser error) (Err fault) = fault ≡ faults.Memory
IsOutcomeOfWords words.Nothing result = result ≡ Err faults.Words
IsOutcomeOfWords words.NoMemory result = result ≡ Err faults.Memory

-- what is told of files that were not opened: a file fault of the word of the one that failed, or want of memory
abbrev pub TellsUnopened : Bool → FileFault → Result Outcome RunFault → Type 0
TellsUnopened explains (Failed word error) told = IsFileFault explains word.now told
TellsUnopened explains NoMemory told = told ≡ Err faults.Memory

-- What comes to writers of which these are the contents: to the files, and to both outputs, as they are before and behind.
module _ {F O E : Type 0} (file-contents : F → Option (List ℕ)) (out-contents : O → Option (List ℕ)) (err-contents : E → Option (List ℕ)) (old new : Streams O E) where
  -- Both outputs get their bytes, standard output first, up to the first fault; behind a fault standard error is told so, and the status
  -- is that of a file fault, else the outcome's. No file is written.
  pub record IsPrintedAlone (o : Outcome) (given : RunEnd F) : Type 0 where
    pub stop : ℕ
    pub out_sent : IsSent out-contents stop 0 old.out new.out o.out.items
    pub err_told : delivery.IsTold err-contents stop 1 old.err new.err o.err.items (told faults.File)
    pub good : 1 < stop → given.0 ≡ o.status
    pub failed : stop ≤ 1 → given.0 ≡ 3
    pub files : given.1.items ≡ []

  -- All files that the outcome has bytes for are opened, by the paths of the words in their order. Only then are they written, and both
  -- outputs behind them, up to the first fault.
  pub record WritesAll (request : Request) (o : Outcome) (given : RunEnd F) (openings : List (Opening F)) : Type 0 where
    pub files : List (Counted F)
    pub count : length files ≡ length o.files.items
    pub opened : GaveFiles (words_of (written request)) files openings
    pub delivered : IsDelivered file-contents out-contents err-contents files given.1.items old.out new.out old.err new.err o given.0

  -- It is written so; or a file could not be opened, none behind it was, and nothing is written or printed.
  abbrev pub IsWrittenOut : Request → Outcome → Result (RunEnd F) FileFault → List (Opening F) → Type 0
  IsWrittenOut request o (Ok given) openings = WritesAll request o given openings
  IsWrittenOut request o (Err fault) openings = AreUnopened (words_of (written request)) (length o.files.items) fault openings × (new ≡ old)

  -- an outcome is printed; or there is none, and nothing is
  abbrev pub IsPrintedIfAny : Result Outcome RunFault → Result (RunEnd F) RunFault → Type 0
  IsPrintedIfAny (Ok o) result = (given : RunEnd F) × (result ≡ Ok given) × IsPrintedAlone o given
  IsPrintedIfAny (Err fault) result = (result ≡ Err fault) × (new ≡ old)

  -- A file of the outcome could not be opened, none behind it was, and none is written: that is told, by the word of that file.
  pub record IsUnopened (request : Request) (o : Outcome) (result : Result (RunEnd F) RunFault) (openings : List (Opening F)) : Type 0 where
    pub fault : FileFault
    pub why : AreUnopened (words_of (written request)) (length o.files.items) fault openings
    pub told : Result Outcome RunFault
    pub tells : TellsUnopened (explains (asked_by request)) fault told
    pub printed : IsPrintedIfAny told result

  -- What is left of an outcome is given out: its files and both outputs are written, or a file could not be opened.
  abbrev pub IsGivenOut : Request → Outcome → Result (RunEnd F) RunFault → List (Opening F) → Type 0
  IsGivenOut request o result openings = ((given : RunEnd F) × (result ≡ Ok given) × WritesAll request o given openings) ⊎ IsUnopened request o result openings

  -- so of what is left, if anything is
  abbrev pub IsLeftGiven : Request → Result Outcome RunFault → Result (RunEnd F) RunFault → List (Opening F) → Type 0
  IsLeftGiven request (Ok left) result openings = IsGivenOut request left result openings
  IsLeftGiven request (Err fault) result openings = (openings ≡ []) × (result ≡ Err fault) × (new ≡ old)

  -- The outcome of a reply is settled on the disk, and what is left of it is given out; so of a reply, if there is one.
  abbrev pub IsFinished : Request → Result Reply RunFault → Result (RunEnd F) RunFault → List Call → List (Opening F) → Type 0
  IsFinished request (Ok reply) result calls openings =
      (left : Result Outcome RunFault) × IsSettled request reply.inputs.items reply.outcome left calls × IsLeftGiven request left result openings
  IsFinished request (Err fault) result calls openings = (calls ≡ []) × (openings ≡ []) × (result ≡ Err fault) × (new ≡ old)

  -- What the request comes to by its reads is finished.
  abbrev pub IsServed : Request → Result (RunEnd F) RunFault → List Read → List Call → List (Opening F) → Type 0
  IsServed request result reads calls openings = (reply : Result Reply RunFault) × IsReply request reply reads × IsFinished request reply result calls openings

  -- what is told of words that make no request
  abbrev pub TellsWords : WordsFault → Result (RunEnd F) RunFault → Type 0
  TellsWords fault result = (o : Result Outcome RunFault) × IsOutcomeOfWords fault o × IsPrintedIfAny o result

  -- The words of a process, its own name first, ask a request, which is served; or they ask none, that is told, and nothing is read, asked
  -- or opened. Those are marked before that are values though they begin with a hyphen.
  abbrev pub IsObeyed : List (List ℕ) → Result (RunEnd F) RunFault → List Read → List Call → List (Opening F) → Type 0
  IsObeyed texts result reads calls openings =
      ((request : Request) × IsRequestIn (marked_words texts) request × IsServed request result reads calls openings)
      ⊎ ((fault : WordsFault) × IsFaultIn (marked_words texts) fault × (reads ≡ []) × (calls ≡ []) × (openings ≡ []) × TellsWords fault result)

-- Why a run comes to nothing is told on standard error, in one try, with its status; there is no file.
pub record TellsWhy {F O E : Type 0} (err-contents : E → Option (List ℕ)) (old new : Streams O E) (fault : RunFault) (end : RunEnd F) : Type 0 where
  pub tried : delivery.IsTried err-contents old.err new.err (told fault)
  pub same_out : new.out ≡ old.out
  pub status : end.0 ≡ status_of fault
  pub files : end.1.items ≡ []

-- what a run ends with
abbrev pub IsEndOf : {F O E : Type 0} → (E → Option (List ℕ)) → Streams O E → Streams O E → Result (RunEnd F) RunFault → RunEnd F → Type 0
IsEndOf err-contents old new (Ok given) end = (end ≡ given) × (new ≡ old)
IsEndOf err-contents old new (Err fault) end = TellsWhy err-contents old new fault end

-- A whole run: the words of a process are obeyed, and where that comes to nothing, why is told.
abbrev pub IsWholeRun : {F O E : Type 0} → (F → Option (List ℕ)) → (O → Option (List ℕ)) → (E → Option (List ℕ)) → Streams O E → Streams O E → List (List ℕ) → RunEnd F
    → List Read → List Call → List (Opening F) → Type 0
IsWholeRun {F} {O} {E} file-contents out-contents err-contents old new texts end reads calls openings =
    (result : Result (RunEnd F) RunFault) × (between : Streams O E) × IsObeyed file-contents out-contents err-contents old between texts result reads calls openings
    × IsEndOf err-contents between new result end
