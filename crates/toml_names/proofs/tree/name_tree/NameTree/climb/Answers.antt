-- From a node up to the root, its steps from the last to the first.
use Rattle.toml_names.proofs.Common.{sym, ◌∙◌, arith, nowhere, ◌≡◌, ℕ, ◌<◌, List, [], ◌∷◌, ◌++◌, length, Some, None, ap, slice_index_or, rules, reverse, append_assoc, reverse-append, Step, IsTree, Spot, address_under, addresses, address_at}
use Rattle.toml_names.proofs.lemmas.tree.NodeAddresses.{address_at-under}
use Rattle.toml_names.proofs.tree.name_tree.NameTree.climb.Goals as goal

module _ (nodes : List Spot) (tree : IsTree nodes) (id here : ℕ) (low : here < length nodes) (steps : List Step) (so_far : address_at nodes id ≡ address_at nodes here ++ reverse steps) where
  at_here : address_at nodes id ≡ address_under (addresses nodes) (slice_index_or nodes here nowhere).under ++ reverse steps
  at_here = so_far ∙ ap (λ a. a ++ reverse steps) (address_at-under nodes here nowhere low (λ p s is. tree.rising here nowhere p s low is))

  climbed : (p : ℕ) (s : Step) → Some (p, s) ≡ (slice_index_or nodes here nowhere).under → (more : List Step) → more ≡ steps ++ s ∷ []
      → address_at nodes id ≡ address_at nodes p ++ reverse more
  climbed p s is more pushed = search (rules, at_here, append_assoc, reverse-append)

  climbs : (p : ℕ) (s : Step) → Some (p, s) ≡ (slice_index_or nodes here nowhere).under → p < here
  climbs p s is = tree.rising here nowhere p s low (sym is)

  arrived : None ≡ (slice_index_or nodes here nowhere).under → address_at nodes id ≡ reverse steps
  arrived is = at_here ∙ ap (λ u. address_under (addresses nodes) u ++ reverse steps) (sym is)

pub loop-way-smaller : goal.loop-way-smaller
loop-way-smaller c =
    climbs c.args.self.now.nodes.items c.requires.tree c.args.id c.loop-way.here (omega arith) c.loop-way.way.items c.loop-way.invariant.so_far
    c.in-Some.above c.in-Some.step (sym c.in-Some.is ∙ c.in_ok-above.ensures nowhere)

pub loop-way-preserved : goal.loop-way-preserved
loop-way-preserved c =
    let is = sym c.in-Some.is ∙ c.in_ok-above.ensures nowhere in
    let lower =
    climbs c.args.self.now.nodes.items c.requires.tree c.args.id c.loop-way.here (omega arith) c.loop-way.way.items c.loop-way.invariant.so_far
    c.in-Some.above c.in-Some.step is in
    record {
      within = omega (arith, lower, c.loop-way.invariant.within);
      so_far =
          climbed c.args.self.now.nodes.items c.requires.tree c.args.id c.loop-way.here (omega arith) c.loop-way.way.items c.loop-way.invariant.so_far
          c.in-Some.above c.in-Some.step is c.push.new.self.items c.in_ok-push.ensures.items;
    }

pub returns : goal.returns
returns c = search (rules, arrived)
