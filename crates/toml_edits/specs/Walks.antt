-- Walks down the code's tree.
use Rattle.std.specs.Prelude.{◌≡◌, ◌≤◌, ◌||◌, ℕ, Bool, List, ◌++◌, Option, Some, None, IfSome, option_copied}
use Rattle.toml_names.specs.declared.model.address.Step.{Step}
use Rattle.toml_names.specs.declared.model.address.Step.TheVariants.{Name, Index}
use Rattle.toml_names.specs.model.Addresses.{Address}
use Rattle.toml_edits.specs.declared.moves.Moves.{Moves}
use Rattle.toml_edits.specs.declared.walking.Next.{Next}
use Rattle.toml_edits.specs.declared.walking.Next.TheVariants as nexts
use Rattle.toml_edits.specs.declared.walking.Sight.{Sight}
use Rattle.toml_edits.specs.declared.walking.Sight.TheVariants as sights
use Rattle.toml_edits.specs.declared.walking.To.{To}
use Rattle.toml_edits.specs.declared.walking.To.TheVariants as tos
use Rattle.toml_edits.specs.declared.walking.Trace.{Trace}
use Rattle.toml_edits.specs.Moves.{marks_of}
use Rattle.toml_edits.specs.Told.{IsTrace}
use Rattle.toml_edits.specs.Trees.{Told, Down, Seen, depth_here, one_deeper}

abbrev pub step_by : To → Step → Step
step_by tos.Same s = s
step_by (tos.Name n) s = Name n.now
step_by (tos.Index i) s = Index i

abbrev pub next_by : Step → Next → Down Moves
next_by s nexts.Unknown = None
next_by s nexts.Nowhere = Some None
next_by s (nexts.On to tree) = Some (Some (record { to = step_by to s; tree = option_copied tree }))

-- the trace has the tree's marks
pub record IsHere (t : Moves) (trace : Trace) : Type 0 where
  pub set : trace.set ≡ (marks_of t).set
  pub below : trace.below ≡ (marks_of t).below
  pub renamed : trace.renamed ≡ depth_here (marks_of t).renamed

-- the trace of a thing from one step further up, where an edit renames that step or not, and may move it or not
pub record IsDeeper (renames moves : Bool) (old new : Trace) : Type 0 where
  pub set : new.set ≡ old.set
  pub below : new.below ≡ old.below
  pub renamed : new.renamed ≡ one_deeper renames old.renamed
  pub moved : new.moved ≡ (moves || old.moved)

-- a walk by the steps shows what has this sight, if that is known
abbrev pub IsShown : Told (Option Seen) → Address → Sight → Type 0
IsShown x a sights.Unknown = Unit {0}
IsShown x a sights.Nowhere = x ≡ Some None
IsShown x a (sights.Somewhere t) = (s : Seen) × (x ≡ Some (Some s)) × IsTrace s a t

-- a place that is renamed has at most so many steps
abbrev pub IsWithin : ℕ → Sight → Type 0
IsWithin n sights.Unknown = Unit {0}
IsWithin n sights.Nowhere = Unit {0}
IsWithin n (sights.Somewhere t) = IfSome t.renamed (λ k. k ≤ n)

-- the steps behind the others are those of what is seen
abbrev pub Leads : Told (Option Seen) → List Step → List Step → Type 0
Leads x old new = (s : Seen) × (x ≡ Some (Some s)) × (new ≡ old ++ s.to)
