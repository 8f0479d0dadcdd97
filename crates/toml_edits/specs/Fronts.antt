-- A tree with one edit more in front of those that it had: what changes along the edit's place, step by step.
use Rattle.std.specs.Prelude.{◌≡◌, ℕ, ◌<◌, ◌≤◌, ◌+◌, ◌-◌, ◌^◌, true, false, List, [], ◌∷◌, Option, Some, None, IfSome}
use Rattle.toml_names.specs.declared.model.address.Step.{Step}
use Rattle.toml_names.specs.declared.model.address.Step.TheVariants.{Name, Index}
use Rattle.toml_names.specs.model.Addresses.{Address, same_step}
use Rattle.toml_edits.specs.Carry.{parted}
use Rattle.toml_edits.specs.Edits.{Change, set, insert, rename, remove, new_section, new_element}
use Rattle.toml_edits.specs.Trees.{Marks, Down, View, marks_in, down_in}

abbrev pub with_set : Marks → Marks
with_set m = record { set = true; below = m.below; renamed = m.renamed }

abbrev pub with_below : Marks → Marks
with_below m = record { set = m.set; below = true; renamed = m.renamed }

abbrev pub with_renamed : Marks → Marks
with_renamed m = record { set = m.set; below = m.below; renamed = true }

-- what is one step down, by the step
abbrev pub Downs : Type 0 → Type 0
Downs T = Step → Down T

-- how a tree, if there is one, becomes another
abbrev pub Turns : Type 0 → Type 1
Turns T = Option T → T → Type 0

-- what is not told, or stands nowhere, stays so; elsewhere there is a tree now, under the same step
abbrev pub Goes : {T : Type 0} → Turns T → Down T → Down T → Type 0
Goes R None d = d ≡ None
Goes R (Some None) d = d ≡ Some None
Goes {T} R (Some (Some w)) d = (t : T) × (d ≡ Some (Some (record { to = w.to; tree = Some t }))) × R w.tree t

abbrev pub SameBut : {T : Type 0} → Step → Downs T → Downs T → Type 0
SameBut s old new = (u : Step) → same_step s u ≡ false → new u ≡ old u

-- along the steps, and there so
abbrev pub Along : {T : Type 0} → View T → Address → Turns T → Turns T
Along v [] R o t = R o t
Along v (s ∷ p) R o t = (v.marks t ≡ with_below (marks_in v o)) × SameBut s (down_in v o) (v.down t) × Goes (Along v p R) (down_in v o s) (v.down t s)

-- at the edit's place itself: all below it is lost; nothing is
abbrev pub IsEmptied : {T : Type 0} → View T → Turns T
IsEmptied v o t = (v.marks t ≡ with_set (marks_in v o)) × ((u : Step) → v.down t u ≡ Some None)

abbrev pub IsMarked : {T : Type 0} → View T → Turns T
IsMarked v o t = (v.marks t ≡ with_renamed (marks_in v o)) × ((u : Step) → v.down t u ≡ down_in v o u)

-- above it: what is one step down changes so
abbrev pub Above : {T : Type 0} → View T → (Downs T → Downs T → Type 0) → Turns T
Above v D o t = (v.marks t ≡ with_below (marks_in v o)) × D (down_in v o) (v.down t)

abbrev pub NoneMove : {T : Type 0} → Downs T → Downs T → Type 0
NoneMove old new = (u : Step) → new u ≡ old u

abbrev pub SameNames : {T : Type 0} → Downs T → Downs T → Type 0
SameNames old new = (n : List ℕ) → new (Name n) ≡ old (Name n)

-- an element was made at the index: before that, those behind it stood one nearer
abbrev pub IsDropped : {T : Type 0} → ℕ → Downs T → Downs T → Type 0
IsDropped i old new = SameNames old new × ((j : ℕ) → j < i → new (Index j) ≡ old (Index j)) × ((j : ℕ) → i ≤ j → j + 1 < 2 ^ 64 → new (Index j) ≡ old (Index (j + 1)))

-- one was taken away: before that, those behind it stood one further
abbrev pub IsLost : {T : Type 0} → ℕ → Downs T → Downs T → Type 0
IsLost i old new =
    SameNames old new × ((j : ℕ) → j < i → new (Index j) ≡ old (Index j)) × (new (Index i) ≡ Some None) × ((j : ℕ) → i < j → j < 2 ^ 64 → new (Index j) ≡ old (Index (j - 1)))

abbrev pub NameIsLost : {T : Type 0} → List ℕ → Downs T → Downs T → Type 0
NameIsLost n old new = SameBut (Name n) old new × (new (Name n) ≡ Some None)

-- what stands under the name stood there under another before; of what stood there no more is told than before
abbrev pub TakesName : {T : Type 0} → View T → List ℕ → List ℕ → Downs T → Downs T → Type 0
TakesName v n to old new =
    ((u : Step) → same_step (Name n) u ≡ false → same_step (Name to) u ≡ false → new u ≡ old u) × Goes (IsMarked v) (old (Name to)) (new (Name n))
    × (same_step (Name n) (Name to) ≡ false → IfSome (new (Name to)) (λ d. old (Name to) ≡ Some d))

-- by an edit's parent and last step
abbrev pub InsertedFront : {T : Type 0} → View T → Option (Address × Step) → Turns T
InsertedFront v None o t = Unit {0}
InsertedFront v (Some (q, Name n)) o t = Along v q (Above v NoneMove) o t
InsertedFront v (Some (q, Index i)) o t = Along v q (Above v (IsDropped i)) o t

abbrev pub RemovedFront : {T : Type 0} → View T → Option (Address × Step) → Turns T
RemovedFront v None o t = Unit {0}
RemovedFront v (Some (q, Name n)) o t = Along v q (Above v (NameIsLost n)) o t
RemovedFront v (Some (q, Index i)) o t = Along v q (Above v (IsLost i)) o t

abbrev pub RenamedFront : {T : Type 0} → View T → Address → Option (Address × Step) → List ℕ → Turns T
RenamedFront v at None to o t = Unit {0}
RenamedFront v at (Some (q, Name n)) to o t = Along v q (Above v (TakesName v n to)) o t
RenamedFront v at (Some (q, Index i)) to o t = Along v at (IsMarked v) o t

abbrev pub MadeFront : {T : Type 0} → View T → Option (Address × Step) → Turns T
MadeFront v None o t = Unit {0}
MadeFront v (Some (q, s)) o t = Along v q (Above v NoneMove) o t

-- the tree has one edit more, in front of those that the other has
abbrev pub IsFront : {T : Type 0} → View T → Change → Turns T
IsFront v (set at value) o t = Along v at (IsEmptied v) o t
IsFront v (insert at value) o t = InsertedFront v (parted at) o t
IsFront v (rename at to) o t = RenamedFront v at (parted at) to o t
IsFront v (remove at) o t = RemovedFront v (parted at) o t
IsFront v (new_section at) o t = MadeFront v (parted at) o t
IsFront v (new_element at) o t = MadeFront v (parted at) o t
