use Rattle.std.proofs.Common.{sym, ap, ◌∙◌}
use Rattle.std.proofs.lemmas.List.{nil_from_length}
use Rattle.std.specs.Prelude.{option_copied}
use Rattle.toml_edits.specs.Walks.{next_by, step_by}
use Rattle.toml_edits.proofs.WalkShown.{shown_here, shown_none, shown_on}
use Rattle.toml_edits.proofs.walking.+trace_on.Goals as goal

pub returns-in_default-clause-shown : goal.returns-in_default-clause-shown
returns-in_default-clause-shown t c = shown_none (option_copied c.args.tree) c.args.way.now c.none.result (ap option_copied c.in_default.is) c.none.ensures

pub returns-in_default-split_first-clause-shown : goal.returns-in_default-split_first-clause-shown
returns-in_default-split_first-clause-shown t c =
    shown_here (option_copied c.args.tree) c.in-Some.tree.now c.args.way.now c.here.result (ap option_copied c.in-Some.is) (nil_from_length c.args.way.now c.in_default-split_first.ensures.cases) c.here.ensures

pub returns-in-Somewhere-clause-shown : goal.returns-in-Somewhere-clause-shown
returns-in-Somewhere-clause-shown t c =
    let s = c.in-Some-split_first.step.now in
    shown_on (option_copied c.args.tree) c.in-Some.tree.now s (step_by c.in-On.to s) (option_copied c.in-On.below) c.in-Some-split_first.rest.now c.args.way.now (ap option_copied c.in-Some.is) c.in-Some-split_first.ensures.cases.0
    (sym c.next.ensures ∙ ap (next_by s) c.in-On.is) c.in-Somewhere.trace c.deeper.result c.in-Somewhere.ensures.shown c.moves.result c.moves.ensures c.deeper.ensures
