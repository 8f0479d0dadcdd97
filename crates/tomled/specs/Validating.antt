-- What `validate` comes to, by what its reads gave.
use Rattle.std.specs.Prelude.{◌≡◌, ◌⊎◌, ℕ, Bool, true, List, [], ◌∷◌, map, None, Result, Ok, Err, ⊤}
use Rattle.std.specs.Borrow.{Bor}
use Rattle.std.specs.List.{AllByRecursion, flat_map}
use Rattle.toml_tree.specs.declared.profile.Profile.{Profile}
use Rattle.toml_names.specs.model.Documents.{IsDocumentIn}
use Rattle.toml_commands.specs.Answering.{document_at, sought}
use Rattle.toml_commands.specs.Explaining.{IsValidated}
use Rattle.toml_delivery.specs.declared.fault.RunFault.{RunFault}
use Rattle.toml_delivery.specs.declared.fault.RunFault.TheVariants.{Memory}
use Rattle.toml_delivery.specs.declared.outcome.Outcome.{Outcome}
use Rattle.tomled.specs.Finishing.{TellsFault}
use Rattle.tomled.specs.Reads.{Read}
use Rattle.tomled.specs.declared.reading.FileFault.{FileFault}
use Rattle.tomled.specs.declared.reading.FileFault.TheVariants.{Failed, NoMemory}

-- a file fault, or want of memory
abbrev pub IsOutcomeOf : Bool → FileFault → Result Outcome RunFault → Type 0
IsOutcomeOf explains (Failed word error) (Ok o) = TellsFault explains word.now o
IsOutcomeOf explains NoMemory (Ok o) = ⊥
IsOutcomeOf explains fault (Err f) = f ≡ Memory

-- what a file comes to: what is told of its bytes, or a file fault of its word
abbrev pub TellsGiven : Profile → List ℕ → Result (List ℕ) FileFault → Outcome → Type 0
TellsGiven profile word (Ok bytes) o = IsValidated profile word bytes o
TellsGiven profile word (Err (Failed path error)) o = TellsFault true word o
TellsGiven profile word (Err NoMemory) o = ⊥

-- It was read as a document, standard input where its word is `-`; and that is told of it.
abbrev pub TellsRead : Profile → Read → Outcome → Type 0
TellsRead profile r o = (sought r.source ≡ document_at true r.source.word.now) × TellsGiven profile r.source.word.now r.gave o

-- so of each, in their order
abbrev pub TellEach : Profile → List Read → List Outcome → Type 0
TellEach profile [] [] = ⊤
TellEach profile (r ∷ reads) (o ∷ told) = TellsRead profile r o × TellEach profile reads told
TellEach profile _ _ = ⊥

-- one of them is such
abbrev pub SomeRead : (Read → Type 0) → List Read → Type 0
SomeRead P [] = ⊥
SomeRead P (r ∷ reads) = P r ⊎ SomeRead P reads

-- it could not be read; it was; its bytes are a document of the profile, or none
abbrev pub IsUnread : Read → Type 0
IsUnread r = (fault : FileFault) × (r.gave ≡ Err fault)

abbrev pub WasRead : Read → Type 0
WasRead r = (bytes : List ℕ) × (r.gave ≡ Ok bytes)

abbrev pub IsOfDocument : Profile → Read → Type 0
IsOfDocument profile r = (bytes : List ℕ) × (r.gave ≡ Ok bytes) × IsDocumentIn profile bytes

abbrev pub IsOfNone : Profile → Read → Type 0
IsOfNone profile r = (bytes : List ℕ) × (r.gave ≡ Ok bytes) × (¬ IsDocumentIn profile bytes)

-- the status: 3 where one could not be read, else 1 where one is no document, else 0
abbrev pub IsStatusOf : Profile → List Read → ℕ → Type 0
IsStatusOf profile reads n =
    ((n ≡ 3) × SomeRead IsUnread reads)
    ⊎ (((n ≡ 1) × AllByRecursion WasRead reads × SomeRead (IsOfNone profile) reads) ⊎ ((n ≡ 0) × AllByRecursion (IsOfDocument profile) reads))

-- what is told of each, one behind the other
abbrev pub all_told : List Outcome → List ℕ
all_told = flat_map (λ o. o.err.items)

-- These files were read, one after the other; what is told of each stands on standard error, in their order, and nothing else anywhere.
pub record Validates (profile : Profile) (files : List (List ℕ)) (o : Outcome) (reads : List Read) : Type 0 where
  pub order : map (λ r. r.source.word.now) reads ≡ files
  pub told : List Outcome
  pub each : TellEach profile reads told
  pub status : IsStatusOf profile reads o.status
  pub err : o.err.items ≡ all_told told
  pub out : o.out.items ≡ []
  pub refusal : o.refusal ≡ None
  pub files_none : o.files.items ≡ []

-- where memory lacks there is no outcome
abbrev pub IsValidation : Profile → List (List ℕ) → Result Outcome RunFault → List Read → Type 0
IsValidation profile files (Ok o) reads = Validates profile files o reads
IsValidation profile files (Err fault) reads = fault ≡ Memory

-- so of one file
abbrev pub IsOneTold : Profile → List ℕ → Result Outcome RunFault → List Read → Type 0
IsOneTold profile word (Ok o) reads = (r : Read) × (reads ≡ r ∷ []) × (r.source.word.now ≡ word) × TellsRead profile r o
IsOneTold profile word (Err fault) reads = fault ≡ Memory

-- the words of the files
abbrev pub words_of : List (Bor (List ℕ)) → List (List ℕ)
words_of = map (λ (word : Bor (List ℕ)). word.now)
