-- Which files are made or emptied, and what is written to them.
use Rattle.std.specs.Prelude.{◌≡◌, ◌⊎◌, ◌<◌, ◌++◌, ℕ, List, [], ◌∷◌, map, take, length, slice_get, Some, Result, Ok, Err, Vec}
use Rattle.std.specs.declared.alloc.Global.{Global}
use Rattle.std.specs.declared.io.Error.{Error}
use Rattle.toml_delivery.specs.Counts.{Counted}
use Rattle.tomled.specs.declared.reading.FileFault.{FileFault}
use Rattle.tomled.specs.declared.reading.FileFault.TheVariants.{Failed, NoMemory}

-- a path at which a file was to be made or emptied, and the file, or why there is none
pub record Opening (F : Type 0) : Type 0 where
  pub path : List ℕ
  pub gave : Result F Error

-- a file of which no write has failed
abbrev pub unfailed : {F : Type 0} → F → Counted F
unfailed file = record { device = file; failures = 0 }

-- the first of these paths were opened, one after the other, and gave these files
pub record GaveFiles {F : Type 0} (paths : List (List ℕ)) (files : List (Counted F)) (openings : List (Opening F)) : Type 0 where
  pub order : map (λ (o : Opening F). o.path) openings ≡ take (length files) paths
  pub devices : List F
  pub are : files ≡ map unfailed devices
  pub gave : map (λ (o : Opening F). o.gave) openings ≡ map (λ (d : F). Ok d) devices

-- no other path was opened, and these in their order
abbrev pub OpensFront : {F : Type 0} → List (List ℕ) → List (Opening F) → Type 0
OpensFront {F = F} paths openings = map (λ (o : Opening F). o.path) openings ≡ take (length openings) paths

-- the first of these paths were opened, one after the other, and gave files; the next one gave the error, and no other was opened
pub record StopsOpening {F : Type 0} (paths : List (List ℕ)) (word : List ℕ) (e : Error) (openings : List (Opening F)) : Type 0 where
  pub files : List (Counted F)
  pub good : List (Opening F)
  pub gave : GaveFiles paths files good
  pub next : slice_get paths (length files) ≡ Some word
  pub order : openings ≡ good ++ record { path = word; gave = Err e } ∷ []

-- there are more files to open than paths; these alone were opened
pub record LacksPaths {F : Type 0} (paths : List (List ℕ)) (count : ℕ) (openings : List (Opening F)) : Type 0 where
  pub more : length paths < count
  pub opened : OpensFront paths openings

-- the one path was opened; where it gave no file, the fault is that of the path, with the error that it gave
abbrev pub IsCreated : {F : Type 0} → List ℕ → Result F FileFault → List (Opening F) → Type 0
IsCreated {F = F} path (Ok file) openings = openings ≡ record { path = path; gave = Ok file } ∷ []
IsCreated {F = F} path (Err (Failed word e)) openings = (word.now ≡ path) × (openings ≡ record { path = word.now; gave = Err e } ∷ [])
IsCreated {F = F} path (Err NoMemory) openings = ⊥

-- Why as many as the count were not opened: the word of the fault is a path that gave its error; or there are too few paths, or no memory.
abbrev pub AreUnopened : {F : Type 0} → List (List ℕ) → ℕ → FileFault → List (Opening F) → Type 0
AreUnopened paths count (Failed word e) openings = StopsOpening paths word.now e openings ⊎ LacksPaths paths count openings
AreUnopened paths count NoMemory openings = OpensFront paths openings

-- as many of these paths as the count were opened, or not
abbrev pub AreOpened : {F : Type 0} → List (List ℕ) → ℕ → Result (Vec (Counted F) Global) FileFault → List (Opening F) → Type 0
AreOpened paths count (Ok files) openings = GaveFiles paths files.items openings
AreOpened paths count (Err fault) openings = AreUnopened paths count fault openings
