use Rattle.std.proofs.Common.{rules, ◌≡◌, [], ◌∷◌, IsSome, ◌++◌, sym, ap, ◌∙◌, subst}
use Rattle.toml_names.specs.model.Addresses.{Address}
use Rattle.toml_names.specs.model.Data.{kind_at}
use Rattle.toml_names.proofs.Proved.{hole_there, step_there}
use Rattle.toml_edits.specs.Changed.{below}
use Rattle.toml_edits.proofs.TakenOut.{put_back}
use Rattle.toml_edits.proofs.exchange.+exchange_at.Goals as goal

pub exchange_at-inner-requires : goal.exchange_at-inner-requires
exchange_at-inner-requires t c =
    let some = subst (λ (p : Address). IsSome (kind_at c.args.datum p)) c.in-Some.ensures.cases.0 c.requires in
    let first = step_there c.args.datum c.in-Some.step.now c.in-Some.rest.now some in
    (search rules, subst IsSome (sym (c.swap_child-hollow.ensures.before first c.in-Some.rest.now)) some)

pub returns-clause-whole : goal.returns-clause-whole
returns-clause-whole t c =
    let some = subst (λ (p : Address). IsSome (kind_at c.args.datum p)) c.in-Some.ensures.cases.0 c.requires in
    let first = step_there c.args.datum c.in-Some.step.now c.in-Some.rest.now some in
    let left = c.swap_child-hollow.ensures.after first in
    let there = subst IsSome (sym (left (c.in-Some.step.now ∷ []))) (hole_there c.in-Some.step.now (kind_at c.hole.result) (kind_at c.args.datum) c.hole.ensures) in
    subst (λ (p : Address). (at : Address) → kind_at c.swap_child-whole.result.0 at ≡ below p (λ old. kind_at c.args.part) (kind_at c.args.datum) at) (sym c.in-Some.ensures.cases.0)
    (put_back c.in-Some.step.now c.in-Some.rest.now (λ old. kind_at c.args.part) (kind_at c.args.datum) (kind_at c.swap_child-hollow.result.0) (kind_at c.swap_child-whole.result.0) (kind_at c.hole.result) (kind_at c.swap_child-hollow.result.1) (kind_at c.exchange_at-inner.result.0)
    (c.swap_child-hollow.ensures.before first) left c.exchange_at-inner.ensures.whole (c.swap_child-whole.ensures.after there))

pub returns-clause-part : goal.returns-clause-part
returns-clause-part t c =
    let some = subst (λ (p : Address). IsSome (kind_at c.args.datum p)) c.in-Some.ensures.cases.0 c.requires in
    let first = step_there c.args.datum c.in-Some.step.now c.in-Some.rest.now some in
    λ at. c.exchange_at-inner.ensures.part at ∙ c.swap_child-hollow.ensures.before first (c.in-Some.rest.now ++ at) ∙ ap (λ (p : Address). kind_at c.args.datum (p ++ at)) (sym c.in-Some.ensures.cases.0)
