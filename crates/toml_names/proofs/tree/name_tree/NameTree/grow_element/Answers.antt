-- What the code makes of the nodes where it links a new one.
use Rattle.toml_names.proofs.Common.{ap, ◌∙◌, List, length, slice_index_or, arith, rules, Index, Change, grown, undone, kind as kind_of, common_steps, ◌≡◌, ℕ, ◌+◌, ◌<◌, [], ◌∷◌, ◌++◌, Some, slice_set, Role, Kind, Spot, leaf, linked}
use Rattle.toml_names.proofs.lemmas.tree.NodeAddresses.{depth_read}
use Rattle.toml_names.proofs.lemmas.tree.Undo.{undone-grown_element}
use Rattle.toml_names.proofs.tree.name_tree.NameTree.grow_element.Goals as goal

-- `v` is what it read at the node `p`, `after` what it wrote back, `m` the new node
module _ (nodes : List Spot) (v : Spot) (p : ℕ) (low : p < length nodes) (read : v ≡ slice_index_or nodes p v) (r : Role) (k : Kind) (line : ℕ) where
  module _ (m after : Spot) (id depth : ℕ) (is : id ≡ length nodes) (deep : depth ≡ v.depth) (more : List Spot) (grew : more ≡ slice_set nodes p after ++ m ∷ []) where
    grows-element : (i : ℕ) → i ≡ length v.elements → after ≡ linked v (Index i) id → m ≡ leaf (Some (p, Index i)) (depth + 1) r k line
        → (d : Spot) → more ≡ grown nodes p (slice_index_or nodes p d) (Index (length (slice_index_or nodes p d).elements)) r k line
    grows-element i last made new d = grind (arith, common_steps)

pub overflow_add-depth : goal.overflow_add-depth
overflow_add-depth c =
    let read = c.index_mut-node.ensures.value ∙ ap (λ l. slice_index_or l c.args.above c.index_mut-node.result.now) c.reserve-2.ensures.items in
    omega (arith, depth_read c.args.self.now.nodes.items c.requires.there.tree c.args.above c.index_mut-node.result.now (omega arith) read, c.ranges.above.fits, c.depth-depth.ensures)

pub returns-clause-grown : goal.returns-clause-grown
returns-clause-grown c = record {
  grown_is = λ d. grows-element c.reserve-2.new.self.items c.index_mut-node.result.now c.args.above (omega arith) c.index_mut-node.ensures.value c.args.role (kind_of c.args.kind) c.args.line
      c.leaf.result c.link_element.new.self c.len-id.result c.depth-depth.result (omega arith) c.depth-depth.ensures c.push.new.self.items c.in_ok-push.ensures.items
      (length c.elements.result.now) (ap length c.elements.ensures) (c.in_ok-link_element.ensures.linked (length c.elements.result.now)) c.leaf.ensures d
      ∙ ap (λ l. grown l c.args.above (slice_index_or l c.args.above d) (Index (length (slice_index_or l c.args.above d).elements)) c.args.role (kind_of c.args.kind) c.args.line) c.reserve-2.ensures.items;
  last = search rules;
}

pub returns-clause-goes_on : goal.returns-clause-goes_on
returns-clause-goes_on c = record {
  can_undo = undone-grown_element c.reserve-2.new.self.items c.index_mut-node.result.now c.args.above (omega arith) c.index_mut-node.ensures.value c.reserve.new.self.items
      c.push-2.new.self.items 0 c.leaf.result c.link_element.new.self c.len-id.result (c.in_ok-link_element.ensures.linked 0) (omega arith) c.in_ok-push-2.ensures.items
      c.push.new.self.items c.in_ok-push.ensures.items
      ∙ ap (λ (cs : List Change). undone cs c.reserve-2.new.self.items) c.reserve.ensures.items
      ∙ ap (undone c.args.self.now.changes.items) c.reserve-2.ensures.items;
  lookups = search rules;
}
