-- The depth of a value is how deep values nest in it.
use Rattle.std.proofs.Common.{◌≡◌, ◌⊎◌, ◌<◌, ◌≤◌, ℕ, zero, suc, max, true, false, leb, inl, inr, refl, ap, arith, ⊎_elim}
use Rattle.std.proofs.lemmas.Bool.Decides.{leb_tells}
use Rattle.toml_tree.specs.Laws.{IsItemOf, IsPairOf, IsIn, Nests, DepthIsNesting}
use Rattle.toml_tree.specs.Spells.{depth, items_depth, pairs_depth}
use Rattle.toml_tree.specs.Tree.{Value, Scalar, Array, Inline, Items, Close, Last, More, Pairs, ClosePairs, LastPair, MorePairs}

item_depth : (v : Value) (is : Items) → IsItemOf v is → depth v ≤ items_depth is
item_depth v (Close g) h = absurd h
item_depth v (Last g w k) h = omega (arith, ap depth h)
item_depth v (More g w k is) (inl h) = omega (arith, ap depth h)
item_depth v (More g w k is) (inr h) = omega (arith, item_depth v is h)

pair_depth : (v : Value) (ps : Pairs) → IsPairOf v ps → depth v ≤ pairs_depth ps
pair_depth v (ClosePairs g) h = absurd h
pair_depth v (LastPair g a w k) h = omega (arith, ap depth h)
pair_depth v (MorePairs g a w k ps) (inl h) = omega (arith, ap depth h)
pair_depth v (MorePairs g a w k ps) (inr h) = omega (arith, pair_depth v ps h)

-- what stands in a value is less deep
in_depth : (v w : Value) → IsIn v w → depth v < depth w
in_depth v (Scalar kind p) h = absurd h
in_depth v (Array whole is) h = omega (arith, item_depth v is h)
in_depth v (Inline whole ps) h = omega (arith, pair_depth v ps h)

depth_some : (v : Value) → 1 ≤ depth v
depth_some (Scalar kind p) = omega arith
depth_some (Array whole is) = omega arith
depth_some (Inline whole ps) = omega arith

nests_depth : (n : ℕ) (v : Value) → Nests n v → n ≤ depth v
nests_depth zero v h = omega arith
nests_depth (suc zero) v h = depth_some v
nests_depth (suc (suc n)) v (w, inside, h) = omega (arith, in_depth w v inside, nests_depth (suc n) w h)

-- the greater of two is one of them
one_of_two : (n a b : ℕ) → n ≤ max a b → (n ≤ a) ⊎ (n ≤ b)
one_of_two n a b h = ⊎_elim (λ (t : (leb n a ≡ true) × (n ≤ a)). inl t.1) (λ (t : (leb n a ≡ false) × (a < n)). inr (omega (arith, t.1, h))) (leb_tells n a)

-- some item, or pair, is as deep as all together
deep_item : (is : Items) (n : ℕ) → suc n ≤ items_depth is → (v : Value) × IsItemOf v is × (suc n ≤ depth v)
deep_item (Close g) n h = absurd (omega arith)
deep_item (Last g v k) n h = (v, refl, h)
deep_item (More g v k is) n h = ⊎_elim (λ (l : suc n ≤ depth v). (v, inl refl, l)) (λ (l : suc n ≤ items_depth is). let d = deep_item is n l in (d.0, inr d.1, d.2)) (one_of_two (suc n) (depth v) (items_depth is) h)

deep_pair : (ps : Pairs) (n : ℕ) → suc n ≤ pairs_depth ps → (v : Value) × IsPairOf v ps × (suc n ≤ depth v)
deep_pair (ClosePairs g) n h = absurd (omega arith)
deep_pair (LastPair g a v k) n h = (v, refl, h)
deep_pair (MorePairs g a v k ps) n h = ⊎_elim (λ (l : suc n ≤ depth v). (v, inl refl, l)) (λ (l : suc n ≤ pairs_depth ps). let d = deep_pair ps n l in (d.0, inr d.1, d.2)) (one_of_two (suc n) (depth v) (pairs_depth ps) h)

deep_inside : (v : Value) (n : ℕ) → suc (suc n) ≤ depth v → (w : Value) × IsIn w v × (suc n ≤ depth w)
deep_inside (Scalar kind p) n h = absurd (omega arith)
deep_inside (Array whole is) n h = deep_item is n (omega arith)
deep_inside (Inline whole ps) n h = deep_pair ps n (omega arith)

depth_nests : (n : ℕ) (v : Value) → n ≤ depth v → Nests n v
depth_nests zero v h = tt
depth_nests (suc zero) v h = tt
depth_nests (suc (suc n)) v h = let d = deep_inside v n h in (d.0, d.1, depth_nests (suc n) d.0 d.2)

pub depth_is_nesting : DepthIsNesting
depth_is_nesting v n = (nests_depth n v, depth_nests n v)
