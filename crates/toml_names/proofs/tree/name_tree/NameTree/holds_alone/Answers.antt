use Rattle.toml_names.proofs.Common.{◌≡◌, ◌↔◌, [], IsTrue, sym, subst, ◌∙◌, true≢false, Spot}
use Rattle.toml_names.specs.tree.EnteringLines.{IsWithin}
use Rattle.toml_names.proofs.lemmas.model.Alike.{refused}
use Rattle.toml_names.proofs.lemmas.tree.Alike.{told_too}
use Rattle.toml_names.proofs.lemmas.tree.HeldBeside.{alone_kind, alone_leaf, alone_names, alone_elements, alone_same, told_and}
use Rattle.toml_names.proofs.lemmas.tree.NearData.{not_some}
use Rattle.toml_names.proofs.lemmas.tree.NodeData.{low_in, node_read}
use Rattle.toml_names.proofs.tree.name_tree.NameTree.holds_alone.Goals as goal

pub returns-then-not-branch : goal.returns-then-not-branch
returns-then-not-branch c =
    refused (λ alone.
    true≢false (sym (c.in_ok-is_of_kind.ensures.1 (alone_kind c.args.self.now.nodes.items c.requires.tree c.args.id (low_in c.args.self.now.nodes c.requires.within) c.args.other.now.nodes.items c.requires.other_tree c.args.datum.now c.args.there alone)) ∙ c.if-not-branch.true))

pub returns-in_default : goal.returns-in_default
returns-in_default c =
    let nodes = c.args.self.now.nodes.items in
    let low = low_in c.args.self.now.nodes c.requires.within in
    let node = node_read nodes c.args.id c.index.result.now low c.index.ensures in
    let told = subst (λ (s : Spot). IsTrue c.is_leaf.result ↔ ((s.children ≡ []) × (s.elements ≡ []))) node c.is_leaf.ensures in
    told_and c.is_leaf.result told
    (alone_leaf nodes c.requires.tree c.args.id low c.args.other.now.nodes.items c.requires.other_tree c.args.datum.now c.args.there (not_some c.args.there c.in_default.not-Some) (c.in_ok-is_of_kind.ensures.0 c.if-not-branch.false))

pub returns-then-not-branch-2 : goal.returns-then-not-branch-2
returns-then-not-branch-2 c =
    let others = c.args.other.now.nodes.items in
    let other_low = subst (λ o. IsWithin o others) c.in-Some.is c.requires.other_within in
    refused (λ alone.
    true≢false (sym (c.in_ok-same_names.ensures.1 (alone_names c.args.self.now.nodes.items c.requires.tree c.args.id (low_in c.args.self.now.nodes c.requires.within) others c.requires.other_tree c.args.datum.now c.args.there c.in-Some.there c.in-Some.is other_low alone)) ∙ c.if-not-branch-2.true))

pub returns : goal.returns
returns c =
    let nodes = c.args.self.now.nodes.items in
    let low = low_in c.args.self.now.nodes c.requires.within in
    let others = c.args.other.now.nodes.items in
    let other_low = subst (λ o. IsWithin o others) c.in-Some.is c.requires.other_within in
    told_too c.same_elements.result c.same_elements.ensures (
      λ elements. alone_same nodes c.requires.tree c.args.id low others c.requires.other_tree c.args.datum.now c.args.there c.in-Some.there c.in-Some.is other_low
          (c.in_ok-is_of_kind.ensures.0 c.if-not-branch.false) (c.in_ok-same_names.ensures.0 c.if-not-branch-2.false) elements,
      λ alone. alone_elements nodes c.requires.tree c.args.id low others c.requires.other_tree c.args.datum.now c.args.there c.in-Some.there c.in-Some.is other_low alone,
    )
