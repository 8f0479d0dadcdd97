-- The code's tree: what it shows, and what the code does to it along a way.
use Rattle.std.specs.Prelude.{◌≡◌, ◌==◌, ℕ, false, List, [], Option, Some, None, String, option_map, if◌then◌else◌}
use Rattle.std.specs.BTreeMap.{BTreeMap, get, get_by_text}
use Rattle.std.specs.Str.{bytes_eq}
use Rattle.std.specs.Ordering.{nat_cmp}
use Rattle.toml_edits.specs.Runs.{index_in}
use Rattle.std.specs.declared.alloc.Global.{Global}
use Rattle.toml_names.specs.declared.model.address.Step.{Step}
use Rattle.toml_names.specs.declared.model.address.Step.TheVariants.{Name, Index}
use Rattle.toml_names.specs.model.Addresses.{Address}
use Rattle.toml_edits.specs.declared.moves.Moves.{Moves}
use Rattle.toml_edits.specs.declared.moves.Moves.TheViews.{out-Moves}
use Rattle.toml_edits.specs.declared.moves.Act.{Act}
use Rattle.toml_edits.specs.declared.moves.Act.TheVariants as acts
use Rattle.toml_edits.specs.declared.moves.Stand.{Stand}
use Rattle.toml_edits.specs.declared.moves.Stand.TheVariants as stands
use Rattle.toml_edits.specs.Trees.{Told, Marks, Down, View, unmarked}
use Rattle.toml_edits.specs.Fronts.{Turns, Goes, Along, Above, IsEmptied, IsMarked, IsDropped, IsLost, NoneMove, NameIsLost, TakesName, with_renamed}

abbrev pub Names : Type 0
Names = BTreeMap (String Global) Moves

abbrev pub Elements : Type 0
Elements = BTreeMap ℕ Moves

abbrev pub marks_of : Moves → Marks
marks_of t = record { set = (out-Moves t).set; below = (out-Moves t).below; renamed = (out-Moves t).renamed }

abbrev pub name_of : Stand → Told (Option (List ℕ))
name_of stands.Unknown = None
name_of stands.Nowhere = Some None
name_of (stands.Under n) = Some (Some n)

abbrev pub to_of : Moves → Told (Option (List ℕ))
to_of t = name_of (out-Moves t).to

-- what is under a name, by the tree that is kept of it
abbrev pub branch_of : List ℕ → Option Moves → Down Moves
branch_of n None = Some (Some (record { to = Name n; tree = None }))
branch_of n (Some t) = option_map (option_map (λ m. record { to = Name m; tree = Some t })) (to_of t)

-- what is at an index, by where that stands in the end
abbrev pub element_in : Elements → Option ℕ → Down Moves
element_in es o = Some (option_map (λ f. record { to = Index f; tree = get nat_cmp es f }) o)

abbrev pub down_of : Moves → Step → Down Moves
down_of t (Name n) = if (out-Moves t).cleared then Some None else branch_of n (get_by_text (out-Moves t).names n)
down_of t (Index i) = if (out-Moves t).cleared then Some None else element_in (out-Moves t).elements (index_in (out-Moves t).runs i)

abbrev pub moves : View Moves
moves = record { marks = marks_of; down = down_of }

abbrev pub turn : Act → Turns Moves
turn acts.Set = IsEmptied moves
turn acts.Stay = Above moves NoneMove
turn (acts.Lose n) = Above moves (NameIsLost n.now)
turn (acts.Take n to) = Above moves (TakesName moves n.now to.now)
turn (acts.LoseAt i) = Above moves (IsLost i)
turn (acts.DropAt i) = Above moves (IsDropped i)
turn acts.Mark = IsMarked moves

-- the thing itself stays where it was, and along the way it is so
abbrev pub Entered : Act → Address → Moves → Moves → Type 0
Entered act way old new = (to_of new ≡ to_of old) × Along moves way (turn act) (Some old) new

-- one tree was put in at a name
abbrev pub IsPut : List ℕ → Moves → Names → Names → Type 0
IsPut n t old new = (m : List ℕ) → get_by_text new m ≡ (if bytes_eq n m then Some t else get_by_text old m)

abbrev pub EnteredAt : Act → List ℕ → Address → Names → Names → Type 0
EnteredAt act n way old new = (t : Moves) × IsPut n t old new × Goes (Along moves way (turn act)) (branch_of n (get_by_text old n)) (branch_of n (Some t))

-- one tree was put in at an index
abbrev pub IsElementPut : ℕ → Moves → Elements → Elements → Type 0
IsElementPut f t old new = (g : ℕ) → get nat_cmp new g ≡ (if f == g then Some t else get nat_cmp old g)

abbrev pub EnteredElement : Act → ℕ → Address → Elements → Elements → Type 0
EnteredElement act f way old new = (t : Moves) × IsElementPut f t old new × Along moves way (turn act) (get nat_cmp old f) t

-- a tree of a thing that no edit touches
abbrev pub IsFresh : Told (Option (List ℕ)) → Moves → Type 0
IsFresh to t = (to_of t ≡ to) × (marks_of t ≡ unmarked) × ((n : List ℕ) → get_by_text (out-Moves t).names n ≡ None) × ((out-Moves t).cleared ≡ false) × ((out-Moves t).runs ≡ []) × ((i : ℕ) → get nat_cmp (out-Moves t).elements i ≡ None)

-- nothing stands at the name
abbrev pub LostAt : List ℕ → Names → Names → Type 0
LostAt n old new = (t : Moves) × IsPut n t old new × (to_of t ≡ Some None)

-- what stands at the second name stands at the first one now, and of what stood at the second nothing is told
abbrev pub TakenAt : List ℕ → List ℕ → Names → Names → Type 0
TakenAt n to old new =
    (t : Moves) × (u : Moves) × ((m : List ℕ) → get_by_text new m ≡ (if bytes_eq n m then Some t else if bytes_eq to m then Some u else get_by_text old m)) × Goes (IsMarked moves) (branch_of to (get_by_text old to)) (branch_of n (Some t)) × (to_of u ≡ None)

abbrev pub IsRenamedTree : List ℕ → Option Moves → Moves → Type 0
IsRenamedTree to kept t = (n : List ℕ) → Goes (IsMarked moves) (branch_of to kept) (branch_of n (Some t))

-- the tree has one mark more
pub record IsMarkedTree (old new : Moves) : Type 0 where
  pub to : to_of new ≡ to_of old
  pub marks : marks_of new ≡ with_renamed (marks_of old)
  pub cleared : (out-Moves new).cleared ≡ (out-Moves old).cleared
  pub names : (out-Moves new).names ≡ (out-Moves old).names
  pub runs : (out-Moves new).runs ≡ (out-Moves old).runs
  pub elements : (out-Moves new).elements ≡ (out-Moves old).elements

-- the tree that is kept, or one of a thing that no edit touches, where none is
abbrev pub IsKept : Told (Option (List ℕ)) → Option Moves → Moves → Type 0
IsKept to None t = IsFresh to t
IsKept to (Some u) t = u ≡ t

-- a tree is kept of a name, of an element
abbrev pub IsOpened : List ℕ → Names → Names → Type 0
IsOpened n old new = (t : Moves) × IsPut n t old new × IsKept (Some (Some n)) (get_by_text old n) t

abbrev pub IsElementOpened : ℕ → Elements → Elements → Type 0
IsElementOpened f old new = (t : Moves) × IsElementPut f t old new × IsKept (Some None) (get nat_cmp old f) t
