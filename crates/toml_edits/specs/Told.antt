-- What the code's tree tells of a list.
use Rattle.std.specs.Prelude.{◌≡◌, ◌<◌, ◌+◌, ◌^◌, ℕ, Bool, false, true, List, length, Option, Some, None, Result, IfOk}
use Rattle.toml_names.specs.model.Addresses.{Address}
use Rattle.toml_names.specs.model.Indices.{IsLow}
use Rattle.toml_edits.specs.Edits.{Change}
use Rattle.toml_edits.specs.declared.moves.Moves.{Moves}
use Rattle.toml_edits.specs.declared.walking.Carried.{Carried}
use Rattle.toml_edits.specs.declared.walking.Carried.TheVariants as carrieds
use Rattle.toml_edits.specs.declared.walking.Sight.{Sight}
use Rattle.toml_edits.specs.declared.walking.Sight.TheVariants as sights
use Rattle.toml_edits.specs.declared.walking.Trace.{Trace}
use Rattle.toml_edits.specs.Fitting.{ArePlaced}
use Rattle.toml_edits.specs.Moves.{moves}
use Rattle.toml_edits.specs.Notes.{seen}
use Rattle.toml_edits.specs.Trees.{Seen, Tells, walk}

-- where it is told, so it is
abbrev pub IfTold : {E : Type 0} → Result Bool E → Type 0 → Type 0
IfTold r P = IfOk r (λ told. told ≡ true → P)

-- no edit of the list is at the root, and a walk down the tree shows of a thing what the list does, edit by edit, or does not tell,
-- where each index has room to rise
pub record TellsOf (cs : List Change) (t : Moves) : Type 0 where
  pub placed : ArePlaced cs
  pub shows : (n : ℕ) (a : Address) → IsLow n a → n + length cs < 2 ^ 64 → Tells (walk moves (Some t) a) (seen cs a)

-- the trace has of the thing at the address what is seen of it; where it does not say that the thing moves, it stays
pub record IsTrace (s : Seen) (a : Address) (t : Trace) : Type 0 where
  pub set : t.set ≡ s.set
  pub below : t.below ≡ s.below
  pub renamed : t.renamed ≡ s.renamed
  pub stays : t.moved ≡ false → s.to ≡ a

-- this is seen of the thing at the address, where each index has room
pub record Sees (cs : List Change) (a : Address) (o : Option Seen) : Type 0 where
  pub placed : ArePlaced cs
  pub low : IsLow (2 ^ 63) a
  pub few : length cs < 2 ^ 63
  pub is : seen cs a ≡ o

-- the thing at the address has this sight under the edits, if it is known
abbrev pub HasSight : List Change → Address → Sight → Type 0
HasSight cs a sights.Unknown = Unit {0}
HasSight cs a sights.Nowhere = Sees cs a None
HasSight cs a (sights.Somewhere t) = (s : Seen) × Sees cs a (Some s) × IsTrace s a t

-- the answer is where the thing stands in the end, if it is told
abbrev pub IsWhere : Option Address → Carried → Type 0
IsWhere o carrieds.Unknown = Unit {0}
IsWhere o carrieds.Nowhere = o ≡ None
IsWhere o (carrieds.To b) = o ≡ Some b
