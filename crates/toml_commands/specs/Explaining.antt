-- What is said of a refusal: it stands behind the refusal's line, and is of this text and that place, by the request and by the bytes that
-- were read.
use Rattle.std.specs.Prelude.{◌≡◌, ◌≢◌, ◌≤◌, ◌<◌, ◌⊎◌, ◌++◌, ◌==◌, ℕ, Bool, true, false, List, [], Some, None, Result, String, Vec, IfOk, if◌then◌else◌, slice_get, string_bytes}
use Rattle.std.specs.Borrow.{Bor}
use Rattle.std.specs.Option.{option_map_or}
use Rattle.std.specs.declared.alloc.AllocError.{AllocError}
use Rattle.std.specs.declared.alloc.Global.{Global}
use Rattle.toml_tree.specs.declared.profile.Profile.{Profile}
use Rattle.toml_checker.specs.declared.verdict.Reason.{Reason}
use Rattle.toml_checker.specs.declared.verdict.Reason.TheVariants.{BeforeRefused, AfterRefused, EditsRefused, OtherData, BadPair, Lost, Unasked, NewComment, NotTheSame}
use Rattle.toml_explain.specs.Documents.{OpensAs, ShowsInFile, ShowsMoreInFile}
use Rattle.toml_explain.specs.declared.input.Input.{Input}
use Rattle.toml_explain.specs.Openings.{OpensBare, OpensPlace}
use Rattle.toml_names.specs.model.Documents.{IsDocumentIn}
use Rattle.toml_words.specs.Request.{Asked, show, check, edit, verify, asked_by}
use Rattle.toml_words.specs.declared.request.Request.{Request}
use Rattle.toml_words.specs.declared.request.Request.TheVariants as requests
use Rattle.toml_commands.specs.Check.{Checks}
use Rattle.toml_commands.specs.Refusals.{IsRefused}
use Rattle.toml_commands.specs.Verify.{reason_code}
use Rattle.toml_delivery.specs.declared.ending.Ending.{Ending}
use Rattle.toml_delivery.specs.declared.ending.Ending.TheVariants.{Refused, NoMemory}
use Rattle.toml_commands.specs.declared.judging.JudgedWords.{JudgedWords}
use Rattle.toml_delivery.specs.declared.outcome.Outcome.{Outcome}
use Rattle.toml_delivery.specs.declared.refusal.Refusal.{Refusal}

-- all is as it was, but for what is said behind the line on standard error
pub record HasSaid (said : List ℕ) (old new : Outcome) : Type 0 where
  pub status : new.status ≡ old.status
  pub refusal : new.refusal ≡ old.refusal
  pub out : new.out ≡ old.out
  pub files : new.files ≡ old.files
  pub err : new.err.items ≡ old.err.items ++ said

-- whether refusals of the request are explained
abbrev pub explains : Asked → Bool
explains (show file listed explain profile) = explain
explains (check file explain profile) = explain
explains (edit file edits out cert explain profile) = explain
explains (verify before edits after cert explain profile) = explain
explains _ = true

-- what was read by the word with the number; nothing where there is none
abbrev pub bytes_at : List (Vec ℕ Global) → ℕ → List ℕ
bytes_at inputs n = option_map_or (λ (v : Vec ℕ Global). v.items) (slice_get inputs n) []

-- What is told of a refusal, want of memory aside: of PLACE, where that is none,
abbrev pub ExplainsPlace : List ℕ → Refusal → Result (String Global) AllocError → Type 0
ExplainsPlace place r told = r.code ≡ 340 → IfOk told (λ text. OpensPlace place r.place (string_bytes text))

-- of EDITS, where that is no list,
abbrev pub ExplainsList : Input → Refusal → Result (String Global) AllocError → Type 0
ExplainsList list r told = (r.code ≡ 320) ⊎ (r.code ≡ 321) → IfOk told (λ text. OpensBare list.word.now (string_bytes text))

-- of FILE as the refusal of a document asks,
abbrev pub ExplainsDocument : Profile → Input → Refusal → Result (String Global) AllocError → Type 0
ExplainsDocument profile file r told = r.code < 300 → IfOk told (λ text. OpensAs profile file.word.now file.bytes.now r.code r.place (string_bytes text))

-- of FILE, with the line of the place that is told,
abbrev pub ExplainsFile : Input → Result (String Global) AllocError → Type 0
ExplainsFile file told = IfOk told (λ text. ShowsInFile file.word.now file.bytes.now (string_bytes text))

-- or so, with a value that is none behind the line
abbrev pub ExplainsValue : Input → Refusal → Result (String Global) AllocError → Type 0
ExplainsValue file r told = r.code ≡ 306 → IfOk told (λ text. ShowsMoreInFile file.word.now file.bytes.now (string_bytes text))

-- of a command with a PLACE: of that, of FILE as the refusal of a document asks, or else of FILE, with the line of the place that is told,
-- behind which more stands of a value that is none
pub record IsSaidAtPlace (profile : Profile) (word bytes place : List ℕ) (r : Refusal) (text : List ℕ) : Type 0 where
  pub no_place : r.code ≡ 340 → OpensPlace place r.place text
  pub no_document : r.code < 300 → OpensAs profile word bytes r.code r.place text
  pub value : r.code ≡ 306 → ShowsMoreInFile word bytes text
  pub in_file : 300 ≤ r.code → r.code ≢ 306 → r.code ≢ 340 → ShowsInFile word bytes text

-- so of a command with EDITS: of that, of FILE as the refusal of a document asks, or else of FILE
pub record IsSaidOfList (profile : Profile) (word bytes list : List ℕ) (r : Refusal) (text : List ℕ) : Type 0 where
  pub no_list : (r.code ≡ 320) ⊎ (r.code ≡ 321) → OpensBare list text
  pub no_document : r.code < 300 → OpensAs profile word bytes r.code r.place text
  pub value : r.code ≡ 306 → ShowsMoreInFile word bytes text
  pub in_file : 300 ≤ r.code → r.code ≢ 306 → r.code ≢ 320 → r.code ≢ 321 → ShowsInFile word bytes text

-- of a text that is to be a document, as its refusal asks
abbrev pub IsSaidOfText : Profile → List ℕ → List ℕ → List ℕ → Type 0
IsSaidOfText profile word bytes text =
    (IsDocumentIn profile bytes × OpensBare word text) ⊎ ((r : Refusal) × IsRefused profile bytes r × OpensAs profile word bytes r.code r.place text)

-- what is said of an ending
abbrev pub IsSaidOfEnding : Profile → List ℕ → List ℕ → Ending → List ℕ → Type 0
IsSaidOfEnding profile word bytes (Refused r) text = OpensAs profile word bytes r.code r.place text
IsSaidOfEnding profile word bytes NoMemory text = ⊥

-- of the text before or of that after, by the judge's reason
abbrev pub IsSaidOfReason : Profile → JudgedWords → List (Vec ℕ Global) → Reason → List ℕ → Type 0
IsSaidOfReason profile words inputs BeforeRefused text = IsSaidOfText profile words.before.now (bytes_at inputs 0) text
IsSaidOfReason profile words inputs AfterRefused text = IsSaidOfText profile words.after.now (bytes_at inputs 2) text
IsSaidOfReason profile words inputs EditsRefused text = ShowsMoreInFile words.before.now (bytes_at inputs 0) text
IsSaidOfReason profile words inputs Lost text = ShowsInFile words.before.now (bytes_at inputs 0) text
IsSaidOfReason profile words inputs OtherData text = ShowsInFile words.after.now (bytes_at inputs 2) text
IsSaidOfReason profile words inputs BadPair text = ShowsInFile words.after.now (bytes_at inputs 2) text
IsSaidOfReason profile words inputs Unasked text = ShowsInFile words.after.now (bytes_at inputs 2) text
IsSaidOfReason profile words inputs NewComment text = ShowsInFile words.after.now (bytes_at inputs 2) text
IsSaidOfReason profile words inputs NotTheSame text = ShowsInFile words.after.now (bytes_at inputs 2) text

-- the word of the certificate that is none (330), or else that of the edits
abbrev pub list_word : JudgedWords → ℕ → List ℕ
list_word words code = if code == 330 then option_map_or (λ (cert : Bor (List ℕ)). cert.now) words.cert words.edits.now else words.edits.now

-- of a command that judges: by the judge's reason that has the code, or else of a list or a certificate that is none
abbrev pub IsSaidOfJudged : Profile → JudgedWords → List (Vec ℕ Global) → Refusal → List ℕ → Type 0
IsSaidOfJudged profile words inputs r text =
    ((reason : Reason) × (reason_code reason ≡ r.code) × IsSaidOfReason profile words inputs reason text)
    ⊎ (((reason : Reason) → reason_code reason ≢ r.code) × OpensBare (list_word words r.code) text)

-- What is said of a refusal of the request.
abbrev pub IsSaid : Request → List (Vec ℕ Global) → Refusal → List ℕ → Type 0
IsSaid (requests.Show file listed explain profile) inputs r text = OpensAs profile file.now (bytes_at inputs 0) r.code r.place text
IsSaid (requests.Check file explain profile) inputs r text = OpensAs profile file.now (bytes_at inputs 0) r.code r.place text
IsSaid (requests.Get file place form default profile) inputs r text = IsSaidAtPlace profile file.now (bytes_at inputs 0) place.now r text
IsSaid (requests.One file place e destination layout profile) inputs r text = IsSaidAtPlace profile file.now (bytes_at inputs 0) place.now r text
IsSaid (requests.Edit file edits out cert explain profile) inputs r text = IsSaidOfList profile file.now (bytes_at inputs 0) edits.now r text
IsSaid (requests.Apply file edits destination layout profile) inputs r text = IsSaidOfList profile file.now (bytes_at inputs 0) edits.now r text
IsSaid (requests.Verify before edits after cert explain profile) inputs r text =
    IsSaidOfJudged profile (record { before = before; edits = edits; after = after; cert = Some cert }) inputs r text
IsSaid (requests.Certify before edits after cert profile) inputs r text =
    IsSaidOfJudged profile (record { before = before; edits = edits; after = after; cert = None }) inputs r text
IsSaid (requests.Validate files profile) inputs r text = text ≡ []

-- the outcome of a request with what is said of its refusal, if there is one and the request explains
abbrev pub IsExplained : Request → List (Vec ℕ Global) → Outcome → Outcome → Type 0
IsExplained request inputs old new =
    ((explains (asked_by request) ≡ false) × (new ≡ old)) ⊎ ((old.refusal ≡ None × (new ≡ old))
    ⊎ ((r : Refusal) × (said : List ℕ) × (old.refusal ≡ Some r) × IsSaid request inputs r said × HasSaid said old new))

-- so of a file that is to be a document
abbrev pub IsExplainedText : Profile → List ℕ → List ℕ → Outcome → Outcome → Type 0
IsExplainedText profile word bytes old new =
    (old.refusal ≡ None × (new ≡ old))
    ⊎ ((r : Refusal) × (said : List ℕ) × (old.refusal ≡ Some r) × OpensAs profile word bytes r.code r.place said × HasSaid said old new)

-- what one file comes to: what `check` answers of its bytes, with nothing printed, and with what is said of its refusal
abbrev pub IsValidated : Profile → List ℕ → List ℕ → Outcome → Type 0
IsValidated profile word bytes new = (old : Outcome) × Checks profile bytes old × IsExplainedText profile word bytes old new
