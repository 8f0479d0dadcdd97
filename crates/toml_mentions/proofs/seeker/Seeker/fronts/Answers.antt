use Rattle.std.proofs.Common.{◌≡◌, ◌≤◌, map, length, get_or, sym, ap, ◌∙◌, subst, arith}
use Rattle.std.proofs.lemmas.List.{length-map}
use Rattle.toml_tree.specs.View.{dotted, key, piece}
use Rattle.toml_mentions.specs.Sought.{way_to}
use Rattle.toml_mentions.proofs.Keys.{counts_kept, dotted_there, passing_all, passing_more, passing_none}
use Rattle.toml_mentions.proofs.seeker.Seeker.fronts.Goals as goal

pub loop-dotted-init : goal.loop-dotted-init
loop-dotted-init c = λ earlier counts. passing_none c.args.self.now earlier (key c.args.keys.now)

pub loop-dotted-preserved : goal.loop-dotted-preserved
loop-dotted-preserved c = λ earlier counts.
    let old = c.args.self.now in
    let mid = c.loop-dotted.self in
    let k = key c.args.keys.now in
    let i = c.loop-dotted.dotted-index in
    let so = c.loop-dotted.invariant earlier counts in
    let there = dotted_there c.args.keys.now.rest.items c.deref-dotted-items.result.now c.deref-dotted-items.ensures.value i c.dotted-item.result c.loop-dotted-test.true c.dotted-item.is in
    let passed = c.in_ok-way.ensures so.at earlier (so.is ∙ ap (λ t. way_to t.now so.at) (sym so.sees.target)) (counts_kept old mid _ earlier so.sees counts) in
    passing_more old mid c.pass.new.self earlier k i c.loop-dotted.way (piece c.loop-dotted.part) so there.0 (dotted c.dotted-item.result) there.1 c.in_ok-way.way passed

pub returns : goal.returns
returns c = λ earlier counts.
    let k = key c.args.keys.now in
    let long = ap length c.deref-dotted-items.ensures.value in
    let past : length k.rest ≤ c.loop-dotted.dotted-index = omega (arith, length-map c.args.keys.now.rest.items dotted, long, c.loop-dotted-test.false) in
    passing_all c.args.self.now c.loop-dotted.self earlier k c.loop-dotted.dotted-index c.loop-dotted.way (piece c.loop-dotted.part) past (c.loop-dotted.invariant earlier counts)
