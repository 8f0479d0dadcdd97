-- A pair whose value names nothing inside: its key's fronts, and the value's own name.
use Rattle.toml_names.proofs.Common.{sym, subst, arith, key, value, assign, KeyVal, keyval_is, key_names, CanEnter, CanEnterKey, IsLongKey, pair_named, address_at, Option, MatchOption, ◌≡◌, ℕ, ◌+◌, ◌<◌, List, [], ◌∷◌, ◌++◌, length, ap, slice_index_or, rules, Assign, Value, Valued, Address, below, Key, key_named, Kind, kind_of, inside, fronts, value_named, IsTree, Spot}
use Rattle.toml_names.proofs.lemmas.tree.Steps.{GoesOn-same, follows}
use Rattle.toml_names.proofs.tree.name_tree.NameTree.pair_unless_long.Goals as goal

-- where nothing was found
or_long : {A : Type 0} (P N M : Type 0) (S : A → Type 0) → (N → M) → (r : Option A) → MatchOption r (P × N) S → MatchOption r M S
or_long P N M S more r none = search rules

-- what the code read of the node: its key is too long
long_key : (nodes : List Spot) (at : ℕ) (s : Spot) (depth : ℕ) (key : Key) → IsTree nodes → at < length nodes → s ≡ slice_index_or nodes at s → depth ≡ s.depth
    → 100 < depth + length key → IsLongKey (address_at nodes at) key
long_key nodes at s depth key tree low read is long = search rules

module _ (line : ℕ) (at : Address) (a : Assign) (v : Value) (plain : (line : ℕ) (at : Address) → inside line at v ≡ []) where
  named-plain : pair_named line at a v ≡ key_named line at (key_names a.key) (kind_of v)
  named-plain = ap (λ l. fronts line at (key_names a.key) ++ (value_named line Valued (below at (key_names a.key)) v ∷ l)) (plain line (below at (key_names a.key)))

  -- it goes on at a name that is new
  pair_fresh : (old : List Spot) → ((k : Kind) → CanEnter old (key_named line at (key_names a.key) k)) → CanEnter old (pair_named line at a v)
  pair_fresh old fresh = subst (CanEnter old) (sym named-plain) (fresh (kind_of v))

pub returns : goal.returns
returns c =
    let start = c.args.self.now.nodes.items in
    let at = address_at start c.args.at in
    let names = key_names (key c.args.pair.now.assign.key) in
    follows (GoesOn-same c.args.self.now) c.enter_pair-2.ensures (omega arith)
    (or_long _ _ _ _ (λ fresh. subst (λ (k : KeyVal). CanEnterKey start c.args.line at (key_names k.assign.key) → CanEnter start (pair_named c.args.line at k.assign k.value) × IsLongKey at (key_names k.assign.key)) (sym (keyval_is c.args.pair.now))
    (λ fresh. (
      pair_fresh c.args.line at (assign c.args.pair.now.assign) (value c.args.pair.now.value) (c.is_scalar.ensures c.if-not-is_scalar.false) start fresh,
      long_key start c.args.at c.index.result.now c.depth.result names c.requires.there.tree c.requires.there.within c.index.ensures c.depth.ensures (c.is_long.ensures c.if-not-is_long.false),
    )) fresh))
    (λ a clash. clash)
