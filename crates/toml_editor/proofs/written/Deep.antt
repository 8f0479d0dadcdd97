-- A value is no deeper than the addresses in it are long.
use Rattle.std.proofs.Common.{◌≡◌, ℕ, ◌+◌, ◌≤◌, List, [], ◌∷◌, map, length, length-append, arith}
use Rattle.toml_tree.specs.Spells.{EachIs, depth, items_depth, pairs_depth}
use Rattle.toml_tree.specs.Tree.{Assign, Value, Scalar, Array, Inline, Items, Close, Last, More, Pairs, ClosePairs, LastPair, MorePairs}
use Rattle.toml_names.specs.declared.model.address.Step.TheVariants.{Name, Index}
use Rattle.toml_names.specs.declared.mentions.mention.Role.TheVariants.{Valued}
use Rattle.toml_names.specs.model.Addresses.{Address, element, below}
use Rattle.toml_names.specs.mentions.Keys.{Key, key_names, part_name, rest_names}
use Rattle.toml_names.specs.mentions.Mentions.{Named, inside, elements, members, fronts, pair_named, value_named}
use Rattle.toml_names.specs.mentions.Rules.{max_steps}
use Rattle.toml_editor.proofs.Each.{each_front, each_back}

abbrev pub AllShort : List Named → Type 0
AllShort = EachIs (λ m. length m.address ≤ max_steps)

element_longer : (at : Address) (i : ℕ) → length (element at i) ≡ length at + 1
element_longer at i = length-append at (Index i ∷ [])

below_longer : (at : Address) (n : List ℕ) (ns : Key) → length at + 1 ≤ length (below at (n ∷ ns))
below_longer at n ns = let one = length-append at (Name n ∷ map Name ns) in omega (arith, one)

pub pair_value_short : (line : ℕ) (at : Address) (a : Assign) (v : Value) → AllShort (pair_named line at a v) → AllShort (value_named line Valued (below at (key_names a.key)) v ∷ inside line (below at (key_names a.key)) v)
pair_value_short line at a v short = each_back _ (fronts line at (key_names a.key)) (value_named line Valued (below at (key_names a.key)) v ∷ inside line (below at (key_names a.key)) v) short

mutual
  pub deep : (v : Value) (line : ℕ) (at : Address) → AllShort (inside line at v) → length at ≤ max_steps → length at + depth v ≤ max_steps + 1
  deep (Scalar kind text) line at short low = omega (arith, low)
  deep (Array whole items) line at short low = items_deep items line at 0 short low
  deep (Inline whole pairs) line at short low = pairs_deep pairs line at short low

  items_deep : (items : Items) (line : ℕ) (at : Address) (i : ℕ) → AllShort (elements line at i items) → length at ≤ max_steps → length at + (items_depth items + 1) ≤ max_steps + 1
  items_deep (Close g) line at i short low = omega (arith, low)
  items_deep (Last g v h) line at i short low =
      let one = element_longer at i in
      let in_it = deep v line (element at i) short.1 short.0 in
      omega (arith, one, in_it)
  items_deep (More g v h is) line at i short low =
      let one = element_longer at i in
      let in_it = deep v line (element at i) (each_front _ (inside line (element at i) v) (elements line at (i + 1) is) short.1) short.0 in
      let in_more = items_deep is line at (i + 1) (each_back _ (inside line (element at i) v) (elements line at (i + 1) is) short.1) low in
      omega (arith, one, in_it, in_more)

  pairs_deep : (pairs : Pairs) (line : ℕ) (at : Address) → AllShort (members line at pairs) → length at ≤ max_steps → length at + (pairs_depth pairs + 1) ≤ max_steps + 1
  pairs_deep (ClosePairs g) line at short low = omega (arith, low)
  pairs_deep (LastPair g a v h) line at short low =
      let rest = pair_value_short line at a v short in
      let one = below_longer at (part_name a.key.first) (rest_names a.key.rest) in
      let in_it = deep v line (below at (key_names a.key)) rest.1 rest.0 in
      omega (arith, one, in_it)
  pairs_deep (MorePairs g a v h ps) line at short low =
      let rest = pair_value_short line at a v (each_front _ (pair_named line at a v) (members line at ps) short) in
      let one = below_longer at (part_name a.key.first) (rest_names a.key.rest) in
      let in_it = deep v line (below at (key_names a.key)) rest.1 rest.0 in
      let in_more = pairs_deep ps line at (each_back _ (pair_named line at a v) (members line at ps) short) low in
      omega (arith, one, in_it, in_more)

-- the value of a pair
pub pair_deep : (line : ℕ) (at : Address) (a : Assign) (v : Value) → AllShort (pair_named line at a v) → depth v ≤ max_steps
pair_deep line at a v short =
    let rest = pair_value_short line at a v short in
    let one = below_longer at (part_name a.key.first) (rest_names a.key.rest) in
    let in_it = deep v line (below at (key_names a.key)) rest.1 rest.0 in
    omega (arith, one, in_it)
