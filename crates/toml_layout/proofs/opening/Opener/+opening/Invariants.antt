use Rattle.std.proofs.Common.{map, drop}
use Rattle.toml_text.specs.Source.{text_of}
use Rattle.toml_tree.specs.View.{element, member}
use Rattle.toml_layout.specs.Opening.{ValueStands, array_tree, inline_tree}
use Rattle.toml_layout.specs.OpenOutlines.{entry}
use Rattle.toml_layout.proofs.Opened.{ElementStands, MemberStands, element_outline, member_outline}
use Rattle.toml_layout.proofs.OpenedEach.{OpenedSoFar}
use Rattle.toml_layout.proofs.opening.Opener.+opening.Given as goal

abbrev pub invariant-array-loop-item : goal.invariant-array-loop-item
invariant-array-loop-item l =
    ValueStands (text_of l.fn.self.texts.source) (array_tree l.array) → OpenedSoFar (ElementStands (text_of l.fn.self.texts.source)) element_outline
    (map element l.item-items) (map element (drop l.item-index l.item-items)) (map entry l.list.items)

abbrev pub invariant-inline-loop-pair : goal.invariant-inline-loop-pair
invariant-inline-loop-pair l =
    ValueStands (text_of l.fn.self.texts.source) (inline_tree l.table) → OpenedSoFar (MemberStands (text_of l.fn.self.texts.source)) member_outline
    (map member l.pair-items) (map member (drop l.pair-index l.pair-items)) (map entry l.list.items)
