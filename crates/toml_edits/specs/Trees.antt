-- A tree of what edits do, over the steps that things have before them: what it shows, and a walk down it.
use Rattle.std.specs.Prelude.{◌≡◌, ℕ, suc, Bool, false, [], ◌∷◌, Option, Some, None, IfSome, option_map, option_and_then, if◌then◌else◌}
use Rattle.toml_names.specs.declared.model.address.Step.{Step}
use Rattle.toml_names.specs.model.Addresses.{Address}

-- what is told, or that it is not
abbrev pub Told : Type 0 → Type 0
Told A = Option A

-- what is told, if anything, is so
abbrev pub Tells : {A : Type 0} → Told A → A → Type 0
Tells x y = IfSome x (λ z. z ≡ y)

-- of what may stand nowhere
abbrev pub told_at : {A B : Type 0} → (A → Told (Option B)) → Option A → Told (Option B)
told_at f None = Some None
told_at f (Some x) = f x

-- of a place: an edit sets it, has its own place strictly below it, renames it
pub record Marks : Type 0 where
  pub set : Bool
  pub below : Bool
  pub renamed : Bool

abbrev pub unmarked : Marks
unmarked = record { set = false; below = false; renamed = false }

-- one step down: the step there behind all edits, and a tree, if anything is told of it or of what is below it
pub record Branch (T : Type 0) : Type 0 where
  pub to : Step
  pub tree : Option T

-- what is one step down: nothing, where that stands nowhere behind all edits
abbrev pub Down : Type 0 → Type 0
Down T = Told (Option (Branch T))

-- what a tree shows: its marks, and what is one step down
pub record View (T : Type 0) : Type 0 where
  pub marks : T → Marks
  pub down : T → Step → Down T

-- the same where there may be no tree: then all stays
abbrev pub marks_in : {T : Type 0} → View T → Option T → Marks
marks_in v None = unmarked
marks_in v (Some t) = v.marks t

abbrev pub down_in : {T : Type 0} → View T → Option T → Step → Down T
down_in v None s = Some (Some (record { to = s; tree = None }))
down_in v (Some t) s = v.down t s

-- what a walk shows of a thing: where it stands behind all edits, whether one sets it, whether one lies strictly below it, and how
-- many steps the deepest place has, at it or above it, that one renames
pub record Seen : Type 0 where
  pub to : Address
  pub set : Bool
  pub below : Bool
  pub renamed : Option ℕ

abbrev pub depth_here : Bool → Option ℕ
depth_here b = if b then Some 0 else None

abbrev pub one_deeper : Bool → Option ℕ → Option ℕ
one_deeper b None = depth_here b
one_deeper b (Some n) = Some (suc n)

-- of the thing itself, and of one further down, by what is seen from one step down
abbrev pub seen_here : Marks → Seen
seen_here m = record { to = []; set = m.set; below = m.below; renamed = depth_here m.renamed }

abbrev pub seen_above : Step → Bool → Seen → Seen
seen_above s b n = record { to = s ∷ n.to; set = n.set; below = n.below; renamed = one_deeper b n.renamed }

-- where that is told
abbrev pub told_above : Step → Bool → Told (Option Seen) → Told (Option Seen)
told_above s b x = option_map (option_map (seen_above s b)) x

-- the walk by the thing's own steps; nothing where it stands nowhere
abbrev pub walk : {T : Type 0} → View T → Option T → Address → Told (Option Seen)
walk v o [] = Some (Some (seen_here (marks_in v o)))
walk v o (s ∷ a) = option_and_then (told_at (λ (w : Branch _). told_above w.to (marks_in v o).renamed (walk v w.tree a))) (down_in v o s)
