use Rattle.toml_names.proofs.Common.{◌<◌, ◌+◌, [], Some, length, sym, subst, ap, ◌∙◌, true≢false, none-some, arith, take_all, slice_get-get_or, EachIs, Spot, Name, lookup, bytes_eq}
use Rattle.toml_names.specs.model.AddressSets.{below}
use Rattle.toml_names.specs.tree.EnteringLines.{IsWithin}
use Rattle.toml_names.specs.tree.Shown.{IsShownIn}
use Rattle.toml_names.proofs.lemmas.model.Alike.{accepted, refused}
use Rattle.toml_names.proofs.lemmas.tree.Alike.{pairs_more, child_read}
use Rattle.toml_names.proofs.lemmas.tree.HeldBeside.{IsThere, names_there}
use Rattle.toml_names.proofs.lemmas.tree.NodeData.{node_read, below_name}
use Rattle.toml_names.proofs.tree.name_tree.NameTree.has_names_of.Goals as goal
use Rattle.toml_names.proofs.tree.name_tree.NameTree.has_names_of.Goals.{in-Some-nth+else-not-has_or_shows, in_default-nth}
use Rattle.toml_names.specs.tree.SameBelow.{step_in}

pub has_or_shows-requires-clause-other_within : goal.has_or_shows-requires-clause-other_within
has_or_shows-requires-clause-other_within c =
    let others = c.args.other.now.nodes.items in
    let low = subst (λ o. IsWithin o others) c.in-Some.is c.requires.other_within in
    let are = c.in-Some-names.ensures.some ∙ ap (λ (s : Spot). s.children) (node_read others c.in-Some.there c.index.result.now low c.index.ensures) in
    let below = below_name others c.requires.other_tree c.in-Some.there low c.in-Some-names.names.now c.in-Some-nth.name.now c.in-Some-nth.across are c.in-Some-nth.ensures.found in
    omega (arith, below, c.args.other.now.nodes.ok)

pub returns-then-not-has_or_shows : goal.returns-then-not-has_or_shows
returns-then-not-has_or_shows c =
    let others = c.args.other.now.nodes.items in
    let low = subst (λ o. IsWithin o others) c.in-Some.is c.requires.other_within in
    let node = node_read others c.in-Some.there c.index.result.now low c.index.ensures in
    let name = c.in-Some-nth.name.now in
    let one = ap (λ o. step_in others o (Name name)) c.in-Some.is
    ∙ child_read others c.in-Some.there c.index.result.now name (Some c.in-Some-nth.across) node (sym (ap (lookup (bytes_eq name)) (sym c.in-Some-names.ensures.some) ∙ c.in-Some-nth.ensures.found)) in
    refused (λ shown.
    true≢false (sym (c.has_or_shows.ensures.1 (λ none. subst (λ o. IsShownIn others o (Name name) (below c.args.set.now (Name name))) one (shown name none))) ∙ c.if-not-has_or_shows.true))

pub loop-place-preserved : goal.loop-place-preserved
loop-place-preserved c =
    let names = c.in-Some-names.names.now in
    let place = c.loop-place.place in
    let inside : place < length names = omega (arith, c.loop-place-test.true, c.len-place-end.ensures, c.loop-place.auto.place-end) in
    elim c.match-nth.branch [
      | in-Some-nth+else-not-has_or_shows w ↦
          pairs_more (IsThere c.args.self.now.nodes.items c.args.id c.args.other.now.nodes.items c.args.set.now) names place (w.in-Some-nth.name.now, w.in-Some-nth.across) inside w.in-Some-nth.ensures.pair c.loop-place.invariant
          (w.has_or_shows.ensures.0 w.if-not-has_or_shows.false)
      | in_default-nth w ↦ absurd (none-some _ (w.in_default-nth.ensures.pair ∙ slice_get-get_or names place ([], 0) inside))
    ]

pub returns : goal.returns
returns c =
    let nodes = c.args.self.now.nodes.items in
    let others = c.args.other.now.nodes.items in
    let low = subst (λ o. IsWithin o others) c.in-Some.is c.requires.other_within in
    let are = c.in-Some-names.ensures.some ∙ ap (λ (s : Spot). s.children) (node_read others c.in-Some.there c.index.result.now low c.index.ensures) in
    let past : length c.in-Some-names.names.now < c.loop-place.place + 1 = omega (arith, c.loop-place-test.false, c.len-place-end.ensures) in
    accepted (names_there nodes c.args.id others c.args.there c.in-Some.there c.args.set.now c.in-Some-names.names.now c.in-Some.is are
    (subst (EachIs (IsThere nodes c.args.id others c.args.set.now)) (take_all c.loop-place.place c.in-Some-names.names.now (omega (arith, past))) c.loop-place.invariant))
