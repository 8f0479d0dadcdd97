use Rattle.std.proofs.Common.{◌≡◌, ◌≤◌, map, length, get_or, sym, ap, ◌∙◌, subst, arith}
use Rattle.std.proofs.lemmas.List.{length-map}
use Rattle.toml_tree.specs.View.{dotted, key, piece}
use Rattle.toml_names.specs.mentions.Keys.{part_name}
use Rattle.toml_names.specs.model.Addresses.{child}
use Rattle.toml_mentions.specs.Sought.{way_to}
use Rattle.toml_mentions.proofs.Keys.{dotted_there, keying_all, keying_more}
use Rattle.toml_mentions.proofs.seeker.Seeker.key.Goals as goal

pub loop-dotted-preserved : goal.loop-dotted-preserved
loop-dotted-preserved c = λ at h.
    let old = c.args.self.now in
    let mid = c.loop-dotted.self in
    let k = key c.args.keys.now in
    let i = c.loop-dotted.dotted-index in
    let p = piece c.loop-dotted.part in
    let so = c.loop-dotted.invariant at h in
    let there = dotted_there c.args.keys.now.rest.items c.deref-dotted-items.result.now c.deref-dotted-items.ensures.value i c.dotted-item.result c.loop-dotted-test.true c.dotted-item.is in
    let way = c.in_ok-way.ensures so.at (so.is ∙ ap (λ t. way_to t.now so.at) (sym so.sees.target)) in
    keying_more old mid c.mention.new.self at k i c.loop-dotted.way p so there.0 (dotted c.dotted-item.result) there.1 c.in_ok-way.way way (c.in_ok-mention.ensures (child so.at (part_name p)) way)

pub returns : goal.returns
returns c = λ at h.
    let k = key c.args.keys.now in
    let p = piece c.loop-dotted.part in
    let long = ap length c.deref-dotted-items.ensures.value in
    let past : length k.rest ≤ c.loop-dotted.dotted-index = omega (arith, length-map c.args.keys.now.rest.items dotted, long, c.loop-dotted-test.false) in
    let so = c.loop-dotted.invariant at h in
    let way = c.in_ok-way-2.ensures so.at (so.is ∙ ap (λ t. way_to t.now so.at) (sym so.sees.target)) in
    keying_all c.args.self.now c.loop-dotted.self c.mention-2.new.self at k c.loop-dotted.dotted-index c.loop-dotted.way p so past c.in_ok-way-2.way way (c.in_ok-mention-2.ensures (child so.at (part_name p)) way)
