use Rattle.std.proofs.Common.{rules, of_calls, ◌∙◌}
use Rattle.std.specs.Bool.{nat_lt}
use Rattle.std.proofs.lemmas.Fn.{always_returns_same}
use Rattle.toml_edits.proofs.Falling.{are_parted, in_none, in_run}
use Rattle.toml_edits.proofs.shifts.index_in.Goals as goal

pub returns-in-Some : goal.returns-in-Some
returns-in-Some c =
    let point = c.partition_point-place.ensures.partitioned (λ r. nat_lt c.args.index r.start) (always_returns_same _ _ _ (λ a r f k. search (rules, of_calls))) (are_parted c.args.runs.now c.args.index c.requires) in
    c.further.ensures ∙ in_run c.args.runs.now c.args.index c.partition_point-place.result c.saturating_sub.result c.in-Some.run'.now point c.in-Some.ensures.lookup.0 c.in-Some.ensures.lookup.1 c.saturating_sub.ensures

pub returns-in-None : goal.returns-in-None
returns-in-None c =
    let point = c.partition_point-place.ensures.partitioned (λ r. nat_lt c.args.index r.start) (always_returns_same _ _ _ (λ a r f k. search (rules, of_calls))) (are_parted c.args.runs.now c.args.index c.requires) in
    in_none c.args.runs.now c.args.index c.partition_point-place.result point c.in-None.ensures.lookup.0
