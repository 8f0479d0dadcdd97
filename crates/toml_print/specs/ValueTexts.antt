-- The value that stands at an address of a document, in its lines.
use Rattle.std.specs.Prelude.{◌≡◌, ◌⊎◌, ◌+◌, ℕ, List, [], ◌∷◌, ◌++◌, IsSome, Option, Some, None}
use Rattle.toml_tree.specs.Pieces.{piece_of}
use Rattle.toml_tree.specs.Tree.{Value, Scalar, Array, Inline, Items, Close, Last, More, Pairs, ClosePairs, LastPair, MorePairs, Expr, BlankLine, KeyValLine, TableLine, ArrayTableLine, Line}
use Rattle.toml_names.specs.declared.model.address.Step.TheVariants.{Index}
use Rattle.toml_names.specs.mentions.Keys.{key_names}
use Rattle.toml_names.specs.mentions.Mentions.{named}
use Rattle.toml_names.specs.model.Addresses.{Address, below}
use Rattle.toml_names.specs.model.Data.{Kinds}
use Rattle.toml_names.specs.reader.Names.{AreGood, own_address}
use Rattle.toml_places.specs.Leading.{LeadsTo}
use Rattle.toml_places.specs.declared.place.PlaceStep.{PlaceStep}
use Rattle.toml_print.specs.Printed.{NothingAt}
use Rattle.toml_print.specs.declared.value_at.ValueText.{ValueText}
use Rattle.toml_print.specs.declared.value_at.ValueText.TheVariants.{Nothing, Spread, One}

abbrev mutual
  -- A value stands in another at the steps from there: the value itself at no steps; an element of an array at its index, the value
  -- of a pair of an inline table at the names of its key, and what stands in these at further steps.
  pub StandsIn : Value → Address → Value → Type 0
  StandsIn (Scalar kind p) at w = (at ≡ []) × (w ≡ Scalar kind p)
  StandsIn (Array whole items) at w = ((at ≡ []) × (w ≡ Array whole items)) ⊎ StandsInItems 0 items at w
  StandsIn (Inline whole pairs) at w = ((at ≡ []) × (w ≡ Inline whole pairs)) ⊎ StandsInPairs pairs at w

  -- in one of the elements from the index on
  pub StandsInItems : ℕ → Items → Address → Value → Type 0
  StandsInItems i (Close g) at w = ⊥
  StandsInItems i (Last g v h) at w = (rest : Address) × (at ≡ Index i ∷ rest) × StandsIn v rest w
  StandsInItems i (More g v h is) at w = ((rest : Address) × (at ≡ Index i ∷ rest) × StandsIn v rest w) ⊎ StandsInItems (i + 1) is at w

  -- in one of the pairs
  pub StandsInPairs : Pairs → Address → Value → Type 0
  StandsInPairs (ClosePairs g) at w = ⊥
  StandsInPairs (LastPair g a v h) at w = (rest : Address) × (at ≡ below [] (key_names a.key) ++ rest) × StandsIn v rest w
  StandsInPairs (MorePairs g a v h ps) at w = ((rest : Address) × (at ≡ below [] (key_names a.key) ++ rest) × StandsIn v rest w) ⊎ StandsInPairs ps at w

-- the value of a key line
abbrev pub value_of : Expr → Option Value
value_of (BlankLine b) = None
value_of (KeyValLine ws pair tail) = Some pair.value
value_of (TableLine ws header tail) = None
value_of (ArrayTableLine ws header tail) = None

-- the line, which stands behind these lines, has the value at the address: its own value, or what stands in that
pub record HasValueAt (before : List Line) (l : Line) (at : Address) (w : Value) : Type 0 where
  pub own : Address
  pub address : own_address (named before) l.expr ≡ Some own
  pub value : Value
  pub there : value_of l.expr ≡ Some value
  pub rest : Address
  pub is : at ≡ own ++ rest
  pub inside : StandsIn value rest w

-- the value stands at the address: one of the lines has it there
pub record IsValueAt (lines : List Line) (at : Address) (w : Value) : Type 0 where
  pub before : List Line
  pub line : Line
  pub behind : List Line
  pub is : lines ≡ before ++ line ∷ behind
  pub has : HasValueAt before line at w

-- something stands at the place, and no single value does: a table that headers, dotted keys or dotted keys in an inline table
-- make, an array of tables, the root
pub record IsSpreadAt (lines : List Line) (kinds : Kinds) (place : List PlaceStep) : Type 0 where
  pub at : Address
  pub leads : LeadsTo kinds place at
  pub there : IsSome (kinds at)
  pub none : (w : Value) → ¬ IsValueAt lines at w

-- the bytes are those of the value that stands at the place, as it is spelled in the text
pub record IsSpelledAt (lines : List Line) (kinds : Kinds) (place : List PlaceStep) (text : List ℕ) : Type 0 where
  pub at : Address
  pub leads : LeadsTo kinds place at
  pub value : Value
  pub there : IsValueAt lines at value
  pub is : text ≡ (piece_of value).text

-- what the text of the value at a place is
abbrev pub IsValueText : List Line → Kinds → List PlaceStep → ValueText → Type 0
IsValueText lines kinds place Nothing = NothingAt kinds place
IsValueText lines kinds place Spread = IsSpreadAt lines kinds place
IsValueText lines kinds place (One text) = IsSpelledAt lines kinds place text.now

-- Law: in good lines one value stands at an address.
abbrev pub OneValueAt : Type 0
OneValueAt = (lines : List Line) (at : Address) (v w : Value) → AreGood lines → IsValueAt lines at v → IsValueAt lines at w → v ≡ w
