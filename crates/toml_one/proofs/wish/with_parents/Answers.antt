use Rattle.std.proofs.Common.{ap, ◌∙◌, subst}
use Rattle.toml_names.specs.mentions.Mentions.{named}
use Rattle.toml_one.specs.Walking.{IsMadeAbove}
use Rattle.toml_one.specs.Wishes.{put_at}
use Rattle.toml_one.proofs.Members.{cut_parents, with_parents_is}
use Rattle.toml_one.proofs.wish.with_parents.Goals as goal

pub returns-in_default : goal.returns-in_default
returns-in_default c = λ lines tree.
    let names = c.args.names.now in
    let made = c.in_ok-edits.field-0 in
    let above = subst (λ p. IsMadeAbove names (named lines) p made) c.steps.ensures (c.in_ok-edits.ensures lines tree) in
    cut_parents names (named lines) c.args.place.now c.args.value.now c.args.may_set made.edits
    (subst (λ end. IsMadeAbove names (named lines) c.args.place.now (record { edits = made.edits; end = end })) c.in_default.is above)

pub returns : goal.returns
returns c = λ lines tree.
    let names = c.args.names.now in
    let made = c.in_ok-edits.field-0 in
    let end = c.in-Some.end in
    let above = subst (λ p. IsMadeAbove names (named lines) p made) c.steps.ensures (c.in_ok-edits.ensures lines tree) in
    with_parents_is names (named lines) c.args.place.now c.args.value.now c.args.may_set made.edits end c.push.new.self.items c.in_ok-put.field-0
    (subst (λ o. IsMadeAbove names (named lines) c.args.place.now (record { edits = made.edits; end = o })) c.in-Some.is above) c.in_ok-push.ensures.items
    (c.in_ok-put.ensures ∙ ap (λ b. put_at b end.at c.args.value.now) c.sets_at-sets.ensures)
