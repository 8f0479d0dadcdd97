-- How far steps lead in the data of a text.
use Rattle.std.specs.Prelude.{◌≡◌, ◌<◌, ◌≤◌, ◌+◌, ◌-◌, ◌/◌, ℕ, List, [], ◌∷◌, Some, None, chars, length, max, min, slice_get, take}
use Rattle.std.specs.Borrow.{Bor}
use Rattle.strsim.specs.Edits.{osa_table}
use Rattle.toml_names.specs.declared.model.address.Step.TheVariants.{Name}
use Rattle.toml_names.specs.model.Addresses.{Address}
use Rattle.toml_names.specs.reader.Parts.{IsBelow, part_kinds}
use Rattle.toml_names.specs.tree.Nodes.{Spot}
use Rattle.toml_places.specs.Leading.{below_steps}
use Rattle.toml_places.specs.Parts.{Stands}
use Rattle.toml_explain.specs.declared.standing.Front.{Front}

-- the part stands for what stands at the first of the steps, so many, and nothing stands one step further
pub record IsFrontOf (parts : List Spot) (steps : Address) (front : Front) : Type 0 where
  pub within : front.depth ≤ length steps
  pub stands : Stands parts (Some front.part) (below_steps (take front.depth steps) (part_kinds parts 0))
  pub ends : front.depth < length steps → below_steps (take (front.depth + 1) steps) (part_kinds parts 0) [] ≡ None

-- how many changes lead from one text to another: a character put in, left out or exchanged, or two that change places
abbrev pub changes : List ℕ → List ℕ → ℕ
changes one other = (osa_table (chars one) (chars other)).last_row (length (chars other))

-- few changes lead from the name to the other, but some: a third as many as it has bytes, or one; fewer than these
abbrev pub near_limit : List ℕ → ℕ
near_limit name = min (max (length name / 3) 1) (length name - 1)

abbrev pub IsNear : List ℕ → List ℕ → Type 0
IsNear name other = (0 < changes name other) × (changes name other ≤ near_limit name)

-- one of the members has the name
abbrev pub IsNameOf : List (Bor (List ℕ) × ℕ) → List ℕ → Type 0
IsNameOf members name = (i : ℕ) × (e : Bor (List ℕ) × ℕ) × (slice_get members i ≡ Some e) × (e.0.now ≡ name)

-- the member's name is near
abbrev pub IsNearest : List (Bor (List ℕ) × ℕ) → List ℕ → Bor (List ℕ) → Type 0
IsNearest members name near = IsNameOf members near.now × IsNear name near.now

-- The name that may be meant: the step behind the front is another name, it is near to that, and the part in which the front ends has a
-- member of this name.
pub record IsMeant (parts : List Spot) (front : Front) (steps : Address) (name : List ℕ) : Type 0 where
  pub wanted : List ℕ
  pub asked : slice_get steps front.depth ≡ Some (Name wanted)
  pub near : IsNear wanted name
  pub member : ℕ
  pub below : IsBelow parts front.part member
  pub there : (at : Address) → part_kinds parts front.part (Name name ∷ at) ≡ part_kinds parts member at
