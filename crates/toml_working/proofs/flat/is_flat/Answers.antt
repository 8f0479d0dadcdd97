use Rattle.std.proofs.Common.{◌≡◌, Some, ap, ◌∙◌, rules}
use Rattle.std.specs.Prelude.{option_copied}
use Rattle.toml_names.specs.declared.model.datum.Datum.{Table}
use Rattle.toml_working.proofs.FlatData.{none_more, none_left, found_is_flat}
use Rattle.toml_working.proofs.flat.is_flat.Goals as goal

pub loop-member-preserved : goal.loop-member-preserved
loop-member-preserved c = λ left.
    c.loop-member.invariant (none_more _ c.next.new.self (c.in-Some.field-0-0.now, c.in-Some.member.now) c.in-Some.ensures.steps (c.has_no_table.ensures c.if-not-has_no_table.false) left)

pub returns : goal.returns
returns c = λ yes.
    let table : c.in-Some-Table.field-0.now ≡ Table c.in-Some-Table.members = search rules in
    found_is_flat (option_copied c.args.found) c.in-Some-Table.members _ (ap option_copied c.in-Some-Table.is ∙ ap Some table)
    c.into_iter-member-iterator.ensures.into_iter_gives.0 (c.loop-member.invariant (none_left _ c.in-None.ensures.steps.0))
