-- That no comment is added unasked.
use Rattle.std.specs.Prelude.{◌≡◌, ◌⊎◌, ◌≤◌, ◌+◌, ℕ, Bool, true, false, List, [], ◌∷◌, map, count_by, Contains, Some}
use Rattle.std.specs.List.{filter, flat_map}
use Rattle.std.specs.Str.{bytes_eq}
use Rattle.toml_tree.specs.Spells.{EachIs, SpellsValue}
use Rattle.toml_tree.specs.Tree.{Doc, Value}
use Rattle.toml_edits.specs.Edits.{Change, set, insert, rename, remove, new_section, new_element, place}
use Rattle.toml_edits.specs.Lists.{carried}
use Rattle.toml_names.specs.model.Addresses.{Address}
use Rattle.toml_units.specs.declared.unit.UnitKind.{UnitKind}
use Rattle.toml_units.specs.declared.unit.UnitKind.TheVariants as kinds
use Rattle.toml_units.specs.Places.{LiesInside}
use Rattle.toml_units.specs.Units.{TextUnit, inside, units}
use Rattle.toml_checker.specs.CarriedTo.{IsAtOrAbove, At}
use Rattle.toml_checker.specs.Pairs.{IsSecond}

abbrev pub is_comment : UnitKind → Bool
is_comment kinds.TailComment = true
is_comment kinds.InnerComment = true
is_comment _ = false

abbrev pub texts : List TextUnit → List (List ℕ)
texts us = map (λ (u : TextUnit). u.piece.text) us

-- these are the texts of the comments in the text of a value, in order
abbrev pub AreCommentsOf : List ℕ → List (List ℕ) → Type 0
AreCommentsOf value ts = (v : Value) × SpellsValue v 0 value × (ts ≡ texts (filter (λ (u : TextUnit). is_comment u.kind) (inside [] v)))

-- those in the value of an edit; an edit without a value has none
abbrev pub AreCommentsIn : Change → List (List ℕ) → Type 0
AreCommentsIn (set at value) ts = AreCommentsOf value ts
AreCommentsIn (insert at value) ts = AreCommentsOf value ts
AreCommentsIn (rename at to) ts = ts ≡ []
AreCommentsIn (remove at) ts = ts ≡ []
AreCommentsIn (new_section at) ts = ts ≡ []
AreCommentsIn (new_element at) ts = ts ≡ []

-- those of each edit of a list
abbrev pub AreWritten : List Change → List (List (List ℕ)) → Type 0
AreWritten [] [] = Unit {0}
AreWritten (c ∷ cs) (ts ∷ more) = AreCommentsIn c ts × AreWritten cs more
AreWritten _ _ = ⊥

-- the unit has the bytes of a comment of an edit whose address is carried, through the edits that follow, to the unit's or above it
abbrev pub IsWritten : List Change → List (List (List ℕ)) → TextUnit → Type 0
IsWritten (c ∷ cs) (ts ∷ more) w = (Contains ts w.piece.text × (to : Address) × (carried cs (place c) ≡ Some to) × At w.address (IsAtOrAbove to)) ⊎ IsWritten cs more w
IsWritten _ _ w = ⊥

-- the unit at the place is paired, or lies inside a paired unit
abbrev pub IsCovered : List (ℕ × ℕ) → List TextUnit → ℕ → Type 0
IsCovered ps us k = IsSecond ps k ⊎ ((j : ℕ) × LiesInside us j k × IsSecond ps j)

-- a comment that is not
abbrev pub IsNewComment : List (ℕ × ℕ) → List TextUnit → ℕ → TextUnit → Type 0
IsNewComment ps us k w = (is_comment w.kind ≡ true) × ¬ (IsCovered ps us k)

-- of the units, which begin at the place, these are all that are, in order
abbrev pub AreNewFrom : List (ℕ × ℕ) → List TextUnit → ℕ → List TextUnit → List TextUnit → Type 0
AreNewFrom ps us k [] new = new ≡ []
AreNewFrom ps us k (w ∷ ws) new = (IsNewComment ps us k w × (more : List TextUnit) × (new ≡ w ∷ more) × AreNewFrom ps us (k + 1) ws more)
    ⊎ (¬ (IsNewComment ps us k w) × AreNewFrom ps us (k + 1) ws new)

abbrev pub AreNewComments : List (ℕ × ℕ) → List TextUnit → List TextUnit → Type 0
AreNewComments ps us = AreNewFrom ps us 0 us

-- how often the text is among the texts
abbrev pub times : List ℕ → List (List ℕ) → ℕ
times t ts = count_by (bytes_eq t) ts

-- Every comment of the new text is paired, or lies inside a paired unit, or is a comment in an array or an inline table that an edit has
-- written; and of these last ones no text stands more often than in the values of all the edits.
pub record NoCommentsAdded (cs : List Change) (e : Doc) (ps : List (ℕ × ℕ)) : Type 0 where
  pub written : List (List (List ℕ))
  pub written_are : AreWritten cs written
  pub new : List TextUnit
  pub new_are : AreNewComments ps (units e.lines) new
  pub asked : EachIs (λ w. (w.kind ≡ kinds.InnerComment) × IsWritten cs written w) new
  pub once : (t : List ℕ) → times t (texts new) ≤ times t (flat_map (λ ts. ts) written)
