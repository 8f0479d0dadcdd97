-- Where the elements of an array stand behind edits: runs of indices, the last one first, and all indices in front of them as they are.
use Rattle.std.specs.Prelude.{◌≡◌, ℕ, ◌+◌, ◌-◌, ◌==◌, ◌<◌, ◌≤◌, ◌^◌, List, [], ◌∷◌, ◌++◌, Option, Some, None, option_and_then, if◌then◌else◌}
use Rattle.std.specs.Bool.{nat_lt, nat_le}
use Rattle.toml_edits.specs.declared.shifts.Run.{Run}

-- a number of 64 bits
abbrev pub fit : ℕ → Option ℕ
fit n = if nat_lt n (2 ^ 64) then Some n else None

abbrev pub further : Option ℕ → ℕ → Option ℕ
further o n = option_and_then (λ t. fit (t + n)) o

-- the index behind the edits, if any
abbrev pub index_in : List Run → ℕ → Option ℕ
index_in [] j = Some j
index_in (r ∷ rs) j = if nat_le r.start j then further r.to (j - r.start) else index_in rs j

-- a run that begins there too is covered
abbrev pub rest_of : ℕ → Run → List Run → List Run
rest_of i r rs = if r.start == i then rs else r ∷ rs

-- an element was made at the index: before that there was none, and those behind it stood one nearer
abbrev pub without : ℕ → List Run → List Run
without i [] = record { start = i; to = fit (i + 1) } ∷ []
without i (r ∷ rs) =
    if nat_lt i r.start then record { start = r.start - 1; to = r.to } ∷ without i rs
    else record { start = i; to = further r.to (i - r.start + 1) } ∷ rest_of i r rs

-- of an index in the run; where the run stands nowhere, so does one more
abbrev pub lost_in : ℕ → Run → List Run → Option ℕ → List Run
lost_in i r rs None = r ∷ rs
lost_in i r rs (Some t) = record { start = i + 1; to = further (Some t) (i - r.start) } ∷ record { start = i; to = None } ∷ rest_of i r rs

-- one was taken away there: before that those behind it stood one further
abbrev pub with_lost : ℕ → List Run → List Run
with_lost i [] = record { start = i + 1; to = Some i } ∷ record { start = i; to = None } ∷ []
with_lost i (r ∷ rs) = if nat_lt i r.start then record { start = r.start + 1; to = r.to } ∷ with_lost i rs else lost_in i r rs r.to

-- Law: where the elements then stand.
abbrev pub WithoutShifts : Type 0
WithoutShifts = (i : ℕ) (rs : List Run) (j : ℕ) → (j < i → index_in (without i rs) j ≡ index_in rs j) × (i ≤ j → j + 1 < 2 ^ 64 → index_in (without i rs) j ≡ index_in rs (j + 1))

abbrev pub LostShifts : Type 0
LostShifts = (i : ℕ) (rs : List Run) (j : ℕ) → i < 2 ^ 64 → (j < i → index_in (with_lost i rs) j ≡ index_in rs j) × (index_in (with_lost i rs) i ≡ None) × (i < j → j < 2 ^ 64 → index_in (with_lost i rs) j ≡ index_in rs (j - 1))

-- no two elements stand at one index
abbrev pub AreApart : List Run → Type 0
AreApart rs = (i j f : ℕ) → index_in rs i ≡ Some f → index_in rs j ≡ Some f → i ≡ j

-- the first run begins at this index or before it, and each at or before the start of the one before it in the list
abbrev pub FallFrom : ℕ → List Run → Type 0
FallFrom n [] = Unit {0}
FallFrom n (r ∷ rs) = (r.start ≤ n) × FallFrom r.start rs

abbrev pub StartsFall : List Run → Type 0
StartsFall [] = Unit {0}
StartsFall (r ∷ rs) = FallFrom r.start rs

-- the runs of one array
pub record AreRuns (rs : List Run) : Type 0 where
  pub apart : AreApart rs
  pub fall : StartsFall rs

-- what the code leaves, and puts in, of runs that begin with one in which the index is
abbrev pub LeavesRest : ℕ → List Run → List Run → Type 0
LeavesRest i [] new = new ≡ []
LeavesRest i (r ∷ rs) new = new ≡ rest_of i r rs

abbrev pub IsWithinFirst : ℕ → List Run → Type 0
IsWithinFirst i [] = ⊥
IsWithinFirst i (r ∷ rs) = r.start ≤ i

abbrev pub PushesLost : ℕ → List Run → List Run → List Run → Type 0
PushesLost i [] old new = ⊥
PushesLost i (r ∷ rs) old new = new ≡ old ++ lost_in i r rs r.to
