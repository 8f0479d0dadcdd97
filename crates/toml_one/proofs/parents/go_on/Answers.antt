use Rattle.std.proofs.Common.{sym, ap, ◌∙◌, subst}
use Rattle.toml_names.specs.mentions.Mentions.{named}
use Rattle.toml_one.specs.Parents.{further, stands_in_value}
use Rattle.toml_one.specs.Walking.{IsReached}
use Rattle.toml_one.proofs.Walked.{reached_next}
use Rattle.toml_one.proofs.parents.go_on.Goals as goal

pub returns-clause-reached : goal.returns-clause-reached
returns-clause-reached c = λ lines here tree reached.
    let parts = c.args.names.now in
    let above = c.args.front.here.in_value in
    let at = c.in_ok-at-2.at in
    let value = c.stands_in_value-in_value.ensures lines tree ∙ ap (λ b. stands_in_value (named lines) at b above) c.is_some.ensures in
    subst (λ f. IsReached parts (record { at = at; here = record { part = c.in_ok-part.part; in_value = c.stands_in_value-in_value.result } }) (further (named lines) here f)) (sym c.in-Some.is)
    (reached_next parts (named lines) c.args.front here reached c.in-Some.step at c.in_ok-part.part c.stands_in_value-in_value.result c.in_ok-at-2.ensures c.in_ok-part.ensures value)
