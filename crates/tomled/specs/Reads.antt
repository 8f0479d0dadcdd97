-- What is read by the words of a command line.
use Rattle.std.specs.Prelude.{◌≡◌, ◌⊎◌, ◌++◌, ℕ, List, [], ◌∷◌, map, Option, Result, Ok, Err, Vec, ⊤}
use Rattle.std.specs.declared.alloc.Global.{Global}
use Rattle.toml_commands.specs.declared.answering.Source.{Source}
use Rattle.toml_delivery.specs.Outcomes.{texts_of}
use Rattle.toml_delivery.specs.Takes.{IsLost, IsTaken}
use Rattle.tomled.specs.declared.reading.FileFault.{FileFault}
use Rattle.tomled.specs.declared.reading.FileFault.TheVariants.{Failed, NoMemory}

-- a fault of the word, or want of memory
abbrev pub IsOfWord : List ℕ → FileFault → Type 0
IsOfWord word (Failed path error) = path.now ≡ word
IsOfWord word NoMemory = ⊤

-- a source, and its bytes or why it was not read
pub record Read : Type 0 where
  pub source : Source
  pub gave : Result (List ℕ) FileFault

abbrev pub bytes_or_fault : Result (Vec ℕ Global) FileFault → Result (List ℕ) FileFault
bytes_or_fault (Ok bytes) = Ok bytes.items
bytes_or_fault (Err fault) = Err fault

abbrev pub read_of : Source → Result (Vec ℕ Global) FileFault → Read
read_of source result = record { source = source; gave = bytes_or_fault result }

abbrev pub sources_of : List Read → List Source
sources_of = map (λ r. r.source)

abbrev pub all_good : List (List ℕ) → List (Result (List ℕ) FileFault)
all_good = map (λ bytes. Ok bytes)

-- these sources were read, one after the other, and gave these bytes
pub record GaveAll (sources : List Source) (texts : List (List ℕ)) (reads : List Read) : Type 0 where
  pub order : sources_of reads ≡ sources
  pub gave : map (λ r. r.gave) reads ≡ all_good texts

-- the first of these sources were read, one after the other; all gave their bytes but the last, which gave the fault, of its own word
pub record StoppedAt (sources : List Source) (fault : FileFault) (reads : List Read) : Type 0 where
  pub first : List Source
  pub stop : Source
  pub word : IsOfWord stop.word.now fault
  pub left : List Source
  pub are : sources ≡ first ++ stop ∷ left
  pub texts : List (List ℕ)
  pub good : List Read
  pub gave : GaveAll first texts good
  pub order : reads ≡ good ++ record { source = stop; gave = Err fault } ∷ []

-- all were read in their order, or it was stopped at one that failed; of want of memory nothing is said
abbrev pub AreRead : List Source → Result (Vec (Vec ℕ Global) Global) FileFault → List Read → Type 0
AreRead sources (Ok list) reads = GaveAll sources (texts_of list.items) reads
AreRead sources (Err fault) reads = (fault ≡ NoMemory) ⊎ StoppedAt sources fault reads

-- the bytes that a reader gives: all up to its end, or the first as many as the limit
abbrev pub AreBytesOf : ℕ → Option (List ℕ) → Result (Vec ℕ Global) FileFault → Type 0
AreBytesOf limit old (Ok bytes) = (new : Option (List ℕ)) × IsTaken limit old new bytes.items
AreBytesOf limit old (Err fault) = (new : Option (List ℕ)) × IsLost limit old new
