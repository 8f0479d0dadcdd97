use Rattle.toml_names.proofs.Common.{map, drop, member, value, value_key_parts, inside, KeepsElements, address_at}
use Rattle.toml_tree.specs.View.{element}
use Rattle.toml_names.proofs.lemmas.mentions.Inside.{elements_of, members_of, parts_of_elements, parts_of_members}
use Rattle.toml_names.proofs.lemmas.tree.ItemsEntered.{IsEntered, HasElements}
use Rattle.toml_names.proofs.lemmas.tree.Steps.{GoesOnTo}
use Rattle.toml_names.proofs.tree.name_tree.NameTree.+entering.Given as goal

abbrev pub decreases-enter_inside : goal.decreases-enter_inside
decreases-enter_inside l = goal.size-enter_inside l

abbrev pub decreases-enter_pair : goal.decreases-enter_pair
decreases-enter_pair l = goal.size-enter_pair l

abbrev pub invariant-enter_inside-loop-item : goal.invariant-enter_inside-loop-item
invariant-enter_inside-loop-item l = record {
  entered : IsEntered l.initial.self.nodes.items l.self.nodes.items (inside l.line (address_at l.initial.self.nodes.items l.id) (value l.v))
      (elements_of l.line (address_at l.initial.self.nodes.items l.id) l.item-index (map element (drop l.item-index l.item-items)));
  has : HasElements l.initial.self.nodes.items l.self.nodes.items l.id l.item-index;
  goes_on : GoesOnTo (parts_of_elements (map element (drop l.item-index l.item-items))) (value_key_parts (value l.v)) l.initial.self l.self;
}

abbrev pub invariant-enter_inside-loop-pair : goal.invariant-enter_inside-loop-pair
invariant-enter_inside-loop-pair l = record {
  entered : IsEntered l.initial.self.nodes.items l.self.nodes.items (inside l.line (address_at l.initial.self.nodes.items l.id) (value l.v))
      (members_of l.line (address_at l.initial.self.nodes.items l.id) (map member (drop l.pair-index l.pair-items)));
  kept : KeepsElements l.initial.self.nodes.items l.self.nodes.items;
  goes_on : GoesOnTo (parts_of_members (map member (drop l.pair-index l.pair-items))) (value_key_parts (value l.v)) l.initial.self l.self;
}
