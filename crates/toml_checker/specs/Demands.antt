-- When pairs of units certify that a text is what edits make of another: the demands, in the order in which they are asked.
use Rattle.std.specs.Prelude.{◌<◌, ℕ, List}
use Rattle.toml_tree.specs.declared.profile.Profile.{Profile}
use Rattle.toml_names.specs.model.Documents.{IsDocumentIn}
use Rattle.toml_edits.specs.Edits.{Change}
use Rattle.toml_edits.specs.Lists.{Lead}
use Rattle.toml_checker.specs.declared.verdict.Reason.{Reason}
use Rattle.toml_checker.specs.declared.verdict.Reason.TheVariants.{BeforeRefused, AfterRefused, EditsRefused, OtherData, BadPair, Lost, Unasked, NewComment, NotTheSame}
use Rattle.toml_checker.specs.declared.verdict.Verdict.{Verdict}
use Rattle.toml_checker.specs.declared.verdict.Verdict.TheVariants.{Yes, No}
use Rattle.toml_checker.specs.Comments.{NoCommentsAdded}
use Rattle.toml_checker.specs.Documents.{OfTree, OfData, AreDefined}
use Rattle.toml_checker.specs.Frame.{KeepsFrame}
use Rattle.toml_checker.specs.Kept.{AllKept}
use Rattle.toml_checker.specs.Lines.{NoLinesAdded}
use Rattle.toml_checker.specs.Pairs.{PairsFit}

-- What each reason says that it does not hold. Trees, data and the comments of values are told without the profile: a text has at most one
-- tree, and the demands before these have asked that both texts and all values are of the profile.
abbrev pub Demand : Profile → Reason → List ℕ → List Change → List ℕ → List (ℕ × ℕ) → Type 0
Demand profile BeforeRefused before cs after ps = IsDocumentIn profile before
Demand profile AfterRefused before cs after ps = IsDocumentIn profile after
Demand profile EditsRefused before cs after ps = OfData before (λ old. AreDefined profile cs old)
Demand profile OtherData before cs after ps = OfData before (λ old. OfData after (λ new. Lead profile cs old new))
Demand profile BadPair before cs after ps = OfTree before (λ d. OfTree after (λ e. PairsFit cs d e ps))
Demand profile Lost before cs after ps = OfTree before (λ d. AllKept cs d ps)
Demand profile Unasked before cs after ps = OfTree after (λ e. NoLinesAdded cs e ps)
Demand profile NewComment before cs after ps = OfTree after (λ e. NoCommentsAdded cs e ps)
Demand profile NotTheSame before cs after ps = KeepsFrame cs before after

-- The pairs certify that the second text is what the edits make of the first: all demands hold.
pub record Certified (profile : Profile) (before : List ℕ) (cs : List Change) (after : List ℕ) (ps : List (ℕ × ℕ)) : Type 0 where
  pub old : Demand profile BeforeRefused before cs after ps
  pub new : Demand profile AfterRefused before cs after ps
  pub defined : Demand profile EditsRefused before cs after ps
  pub facts : Demand profile OtherData before cs after ps
  pub pairs : Demand profile BadPair before cs after ps
  pub kept : Demand profile Lost before cs after ps
  pub lines : Demand profile Unasked before cs after ps
  pub comments : Demand profile NewComment before cs after ps
  pub frame : Demand profile NotTheSame before cs after ps

-- the order of the reasons
abbrev pub rank : Reason → ℕ
rank BeforeRefused = 0
rank AfterRefused = 1
rank EditsRefused = 2
rank OtherData = 3
rank BadPair = 4
rank Lost = 5
rank Unasked = 6
rank NewComment = 7
rank NotTheSame = 8

-- a yes says that all demands hold, a no has the first that does not
abbrev pub IsVerdict : Profile → List ℕ → List Change → List ℕ → List (ℕ × ℕ) → Verdict → Type 0
IsVerdict profile before cs after ps Yes = Certified profile before cs after ps
IsVerdict profile before cs after ps (No r) = ¬ (Demand profile r before cs after ps) × ((earlier : Reason) → rank earlier < rank r → Demand profile earlier before cs after ps)
