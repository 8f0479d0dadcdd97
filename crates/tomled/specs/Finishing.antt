-- What is done with the files of an outcome before it is printed, by the request and by the bytes that were read: what a disk is asked, and
-- what is left to print and to write.
use Rattle.std.specs.Prelude.{◌≡◌, ◌≢◌, ◌⊎◌, ℕ, Bool, true, false, List, [], ◌∷◌, ◌++◌, Option, Some, None, Result, Ok, Err, Vec, if◌then◌else◌}
use Rattle.std.specs.Borrow.{Bor}
use Rattle.std.specs.Option.{option_to_list}
use Rattle.std.specs.declared.alloc.Global.{Global}
use Rattle.std.specs.declared.io.Error.{Error}
use Rattle.toml_replace.specs.Calls.{Call, compares}
use Rattle.toml_replace.specs.Replacement.{IsCutShort, IsReplacement}
use Rattle.toml_replace.specs.declared.fault.ReplaceFault.{ReplaceFault}
use Rattle.toml_replace.specs.declared.fault.ReplaceFault.TheVariants as faults
use Rattle.toml_words.specs.Request.{is_input}
use Rattle.toml_words.specs.declared.request.Destination.{Destination}
use Rattle.toml_words.specs.declared.request.Request.{Request}
use Rattle.toml_words.specs.declared.request.Request.TheVariants as requests
use Rattle.toml_delivery.specs.RunFaults.{told}
use Rattle.toml_delivery.specs.declared.fault.RunFault.{RunFault}
use Rattle.toml_delivery.specs.declared.fault.RunFault.TheVariants.{File}
use Rattle.toml_delivery.specs.declared.outcome.Outcome.{Outcome}

-- a path of the words
abbrev pub Path : Type 0
Path = Bor (List ℕ)

-- the outcome, without its files where the words name no path for them
abbrev pub HasNamed : Option Path → Outcome → Outcome → Type 0
HasNamed (Some path) old new = new ≡ old
HasNamed None old new = (new.files.items ≡ []) × (new ≡ record old { files = new.files })

-- the outcome, with nothing on standard output
abbrev pub HasNoText : Outcome → Outcome → Type 0
HasNoText old new = (new.out.items ≡ []) × (new ≡ record old { out = new.out })

-- and with no file
abbrev pub HasNothing : Outcome → Outcome → Type 0
HasNothing old new = (between : Outcome) × HasNoText old between × HasNamed None between new

-- the text, and behind it the word, a colon, a space and what the system says
abbrev pub HasReason : List ℕ → List ℕ → List ℕ → Type 0
HasReason text word lines = (reason : List ℕ) × (lines ≡ text ++ (word ++ (0x3A ∷ 0x20 ∷ reason)))

-- the line of a file fault, and nothing else; or, where it is explained, behind it the word, a colon, and what the system says
abbrev pub IsFaultLines : Bool → List ℕ → List ℕ → Type 0
IsFaultLines false word err = err ≡ told File
IsFaultLines true word err = HasReason (told File) word err

-- a file fault: status 3, its lines on standard error, nothing on standard output, no refusal, and no file
pub record TellsFault (explains : Bool) (word : List ℕ) (new : Outcome) : Type 0 where
  pub status : new.status ≡ 3
  pub err : IsFaultLines explains word new.err.items
  pub out : new.out.items ≡ []
  pub refusal : new.refusal ≡ None
  pub files : new.files.items ≡ []

abbrev pub IsFileFault : Bool → List ℕ → Result Outcome RunFault → Type 0
IsFileFault explains word (Ok new) = TellsFault explains word new
IsFileFault explains word (Err fault) = fault ≡ File

-- the path, or the word where there is none
abbrev pub path_or : Option Path → List ℕ → List ℕ
path_or (Some path) word = path.now
path_or None word = word

-- a file fault of the file that is to be replaced, or of the certificate
abbrev pub IsUnreplaced : List ℕ → Option Path → ReplaceFault → Result Outcome RunFault → Type 0
IsUnreplaced file path (faults.File error) result = IsFileFault true file result
IsUnreplaced file path (faults.Certificate error) result = IsFileFault true (path_or path file) result

-- the disk is asked whether the path leads to the file of a word that was read, and answers no; standard input is no such file
abbrev pub compared : List ℕ → List ℕ → List Call
compared path word = if is_input word then [] else compares path word (Ok false) ∷ []

-- so of the file, and of the edit list where one was read
abbrev pub words_compared : List ℕ → List ℕ → Option Path → List Call
words_compared path file None = compared path file
words_compared path file (Some list) = compared path file ++ compared path list.now

-- so of the certificate's path, if there is one
abbrev pub all_compared : Option Path → List ℕ → Option Path → List Call
all_compared None file list = []
all_compared (Some path) file list = words_compared path.now file list

-- so of the three words that `certify` reads
abbrev pub judged_compared : List ℕ → List ℕ → List ℕ → List ℕ → List Call
judged_compared path before edits after = compared path before ++ (compared path edits ++ compared path after)

-- these were the answers, or it was stopped at another one
abbrev pub IsCompared : List Call → Result (Unit {0}) Error → List Call → Type 0
IsCompared plan (Ok done) calls = calls ≡ plan
IsCompared plan (Err fault) calls = IsCutShort plan calls

-- the certificate, where the words name its path
abbrev pub certificate_at : Option Path → List (Vec ℕ Global) → Option (List ℕ × List ℕ)
certificate_at (Some path) (bytes ∷ files) = Some (path.now, bytes.items)
certificate_at _ _ = None

-- what is left of a replacement: nothing is to be printed or written, or a file fault
abbrev pub IsLeft : List ℕ → Option Path → Outcome → Result (Unit {0}) ReplaceFault → Result Outcome RunFault → Type 0
IsLeft file path old (Ok done) result = (new : Outcome) × (result ≡ Ok new) × HasNothing old new
IsLeft file path old (Err fault) result = IsUnreplaced file path fault result

-- the file gets the text of the outcome, and the certificate's path its first file
abbrev pub IsReplaced : List ℕ → Option Path → Outcome → Result Outcome RunFault → List Call → Type 0
IsReplaced file path old result calls =
    (done : Result (Unit {0}) ReplaceFault) × IsReplacement file old.out.items (certificate_at path old.files.items) done calls × IsLeft file path old done result

-- the first of what was read is this text
abbrev pub IsFirst : List (Vec ℕ Global) → List ℕ → Type 0
IsFirst [] text = ⊥
IsFirst (bytes ∷ inputs) text = bytes.items ≡ text

-- A good outcome of an edit, behind the comparisons: printed; left alone, as the file has the text; or put in the file's place.
abbrev pub IsPlaced : List ℕ → Destination → List (Vec ℕ Global) → Outcome → Result Outcome RunFault → List Call → Type 0
IsPlaced file d inputs old result calls =
    ((d.in_place ≡ false) × (calls ≡ []) × (new : Outcome) × (result ≡ Ok new) × HasNamed d.certificate old new)
    ⊎ (((d.in_place ≡ true) × IsFirst inputs old.out.items × (calls ≡ []) × (between new : Outcome) × (result ≡ Ok new) × HasNoText old between
    × HasNamed d.certificate between new)
    ⊎ ((d.in_place ≡ true) × (¬ IsFirst inputs old.out.items) × IsReplaced file d.certificate old result calls))

-- An outcome of an edit of FILE, by a list of edits or without one. A refusal is left alone.
abbrev pub IsEditSettled : List ℕ → Option Path → Destination → List (Vec ℕ Global) → Outcome → Result Outcome RunFault → List Call → Type 0
IsEditSettled file list d inputs old result calls =
    ((old.status ≢ 0) × (calls ≡ []) × (result ≡ Ok old))
    ⊎ (((old.status ≡ 0) × IsCutShort (all_compared d.certificate file list) calls × IsFileFault true (path_or d.certificate file) result)
    ⊎ ((old.status ≡ 0) × (more : List Call) × (calls ≡ all_compared d.certificate file list ++ more) × IsPlaced file d inputs old result more))

-- An outcome of `certify`. Without a path there is no file; a refusal is left alone; else the path may lead to none of the three.
abbrev pub IsCertifySettled : List ℕ → List ℕ → List ℕ → Option Path → Outcome → Result Outcome RunFault → List Call → Type 0
IsCertifySettled before edits after None old result calls = (calls ≡ []) × (new : Outcome) × (result ≡ Ok new) × HasNamed None old new
IsCertifySettled before edits after (Some path) old result calls =
    ((old.status ≢ 0) × (calls ≡ []) × (result ≡ Ok old))
    ⊎ (((old.status ≡ 0) × IsCutShort (judged_compared path.now before edits after) calls × IsFileFault true path.now result)
    ⊎ ((old.status ≡ 0) × (calls ≡ judged_compared path.now before edits after) × (result ≡ Ok old)))

-- An outcome of a request.
abbrev pub IsSettled : Request → List (Vec ℕ Global) → Outcome → Result Outcome RunFault → List Call → Type 0
IsSettled (requests.Certify before edits after cert profile) inputs old result calls = IsCertifySettled before.now edits.now after.now cert old result calls
IsSettled (requests.One file place e d layout profile) inputs old result calls = IsEditSettled file.now None d inputs old result calls
IsSettled (requests.Apply file edits d layout profile) inputs old result calls = IsEditSettled file.now (Some edits) d inputs old result calls
IsSettled _ inputs old result calls = (calls ≡ []) × (result ≡ Ok old)

-- the paths of the files that a request has written, in their order
abbrev pub written : Request → List Path
written (requests.Edit file edits out cert explain profile) = out ∷ cert ∷ []
written (requests.Certify before edits after cert profile) = option_to_list cert
written (requests.One file place e d layout profile) = option_to_list d.certificate
written (requests.Apply file edits d layout profile) = option_to_list d.certificate
written _ = []
