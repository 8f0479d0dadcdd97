-- Which values of lines stand at an address: a key's, or an element of an array in a value.
use Rattle.std.specs.Prelude.{◌≡◌, ◌⊎◌, ℕ, ◌+◌, List, [], ◌∷◌, ◌++◌}
use Rattle.toml_tree.specs.Tree.{Value, Scalar, Array, Inline, Items, Close, Last, More, Pairs, ClosePairs, LastPair, MorePairs, Expr, KeyValLine, Line}
use Rattle.toml_names.specs.model.Addresses.{Address, element, below}
use Rattle.toml_names.specs.mentions.Keys.{key_names}
use Rattle.toml_names.specs.mentions.Mentions.{Named, named_by, root, section}

-- the value `old` stands at `p`: it is the one at `at`
abbrev pub IsItself : Address → Value → Address → Value → Type 0
IsItself p old at v = (at ≡ p) × (v ≡ old)

-- it stands in that
abbrev mutual
  pub StandsWithin : Address → Value → Address → Value → Type 0
  StandsWithin p old at (Scalar kind text) = ⊥
  StandsWithin p old at (Array whole items) = StandsInItems p old at 0 items
  StandsWithin p old at (Inline whole pairs) = StandsInPairs p old at pairs

  pub StandsInItems : Address → Value → Address → ℕ → Items → Type 0
  StandsInItems p old at i (Close g) = ⊥
  StandsInItems p old at i (Last g v h) = IsItself p old (element at i) v ⊎ StandsWithin p old (element at i) v
  StandsInItems p old at i (More g v h is) =
      (IsItself p old (element at i) v ⊎ StandsWithin p old (element at i) v) ⊎ StandsInItems p old at (i + 1) is

  pub StandsInPairs : Address → Value → Address → Pairs → Type 0
  StandsInPairs p old at (ClosePairs g) = ⊥
  StandsInPairs p old at (LastPair g a v h) =
      IsItself p old (below at (key_names a.key)) v ⊎ StandsWithin p old (below at (key_names a.key)) v
  StandsInPairs p old at (MorePairs g a v h ps) =
      (IsItself p old (below at (key_names a.key)) v ⊎ StandsWithin p old (below at (key_names a.key)) v) ⊎ StandsInPairs p old at ps

-- it is that, or stands in it
abbrev pub StandsAt : Address → Value → Address → Value → Type 0
StandsAt p old at v = IsItself p old at v ⊎ StandsWithin p old at v

-- it stands on a line in the table at `at`
abbrev pub StandsOnLine : Address → Value → Address → Expr → Type 0
StandsOnLine p old at (KeyValLine ws pair tail) = StandsAt p old (below at (key_names pair.assign.key)) pair.value
StandsOnLine p old at _ = ⊥

-- on one of the lines, by what was named before them
abbrev pub StandsFrom : Address → Value → List Named → ℕ → List Line → Type 0
StandsFrom p old earlier n [] = ⊥
StandsFrom p old earlier n (l ∷ ls) =
    StandsOnLine p old (section earlier) l.expr ⊎ StandsFrom p old (earlier ++ named_by earlier n l.expr) (n + 1) ls

abbrev pub HoldAt : List Line → Address → Value → Type 0
HoldAt lines p old = StandsFrom p old (root ∷ []) 0 lines
