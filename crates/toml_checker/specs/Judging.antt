-- Demands that hold so far.
use Rattle.std.specs.Prelude.{◌≡◌, ◌⊎◌, ◌<◌, ℕ, List, Result, IfOk}
use Rattle.std.specs.declared.alloc.AllocError.{AllocError}
use Rattle.toml_tree.specs.declared.profile.Profile.{Profile}
use Rattle.toml_edits.specs.Edits.{Change}
use Rattle.toml_names.specs.model.Documents.{IsDocumentIn}
use Rattle.toml_checker.specs.declared.verdict.Reason.{Reason}
use Rattle.toml_checker.specs.declared.verdict.Reason.TheVariants.{BeforeRefused, AfterRefused}
use Rattle.toml_checker.specs.declared.verdict.Verdict.{Verdict}
use Rattle.toml_checker.specs.declared.walk.Found.{Found}
use Rattle.toml_checker.specs.declared.walk.Said.{Said}
use Rattle.toml_checker.specs.Demands.{Demand, IsVerdict, rank}
use Rattle.toml_checker.specs.Walking.{IsFound, SaysOf}

-- all demands below this rank hold
abbrev pub HoldBelow : Profile → ℕ → List ℕ → List Change → List ℕ → List (ℕ × ℕ) → Type 0
HoldBelow profile n before cs after ps = (r : Reason) → rank r < n → Demand profile r before cs after ps

-- the first text is blamed where it is no document, else the second
abbrev pub IsRefusal : Profile → List ℕ → Reason → Type 0
IsRefusal profile text r = ((r ≡ BeforeRefused) × (¬ IsDocumentIn profile text)) ⊎ ((r ≡ AfterRefused) × IsDocumentIn profile text)

-- the verdict is right of the pairs of which this is said, where the demands on the documents and their data hold
abbrev pub JudgesUnits : List ℕ → List Change → List ℕ → Said → Verdict → Type 0
JudgesUnits before cs after said verdict = (profile : Profile) (ps : List (ℕ × ℕ)) → HoldBelow profile 4 before cs after ps → SaysOf profile before cs after ps said → IsVerdict profile before cs after ps verdict

-- where there is memory, it is right of the pairs of which this was found
abbrev pub JudgesFound : Profile → List ℕ → List Change → List ℕ → Found → Result Verdict AllocError → Type 0
JudgesFound profile before cs after found result = (ps : List (ℕ × ℕ)) → IsFound profile before cs after ps found → IfOk result (IsVerdict profile before cs after ps)
