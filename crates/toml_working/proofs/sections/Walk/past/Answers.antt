use Rattle.std.proofs.Common.{◌∙◌, ◌∷◌, ap, sym, subst}
use Rattle.toml_working.specs.Headers.{begins_later}
use Rattle.toml_working.specs.NextHeaders.{Walked}
use Rattle.toml_working.specs.Seeing.{Found}
use Rattle.toml_working.specs.Standing.{lies_below}
use Rattle.toml_working.proofs.NextFound.{past_before, past_behind, past_below, past_ended, past_within}
use Rattle.toml_working.proofs.sections.Walk.past.Goals as goal

pub returns-then-is_below : goal.returns-then-is_below
returns-then-is_below c read slots all rest s same header there from together walked =
    let e = c.args.element.now in
    past_below e read slots all s rest header
    (ap (λ (f : Found). lies_below e f.address) (sym same) ∙ sym c.is_below.ensures ∙ c.if-is_below.true) c.args.self walked

pub returns-in-Before : goal.returns-in-Before
returns-in-Before c read slots all rest s same header there from together walked =
    let e = c.args.element.now in
    past_before e read slots all s rest
    (ap (λ (f : Found). lies_below e f.address) (sym same) ∙ sym c.is_below.ensures ∙ c.if-is_below.false)
    (subst (Walked e read slots all (s ∷ rest)) c.in-Before.is walked)

pub returns-in-Within : goal.returns-in-Within
returns-in-Within c read slots all rest s same header there from together walked =
    let e = c.args.element.now in
    past_within e read slots all s rest c.args.at c.begins_later.result c.behind.result header
    (ap (λ (f : Found). lies_below e f.address) (sym same) ∙ sym c.is_below.ensures ∙ c.if-is_below.false)
    (ap (λ (f : Found). begins_later e f.base f.address) (sym same) ∙ sym c.begins_later.ensures) together there from
    (subst (Walked e read slots all (s ∷ rest)) c.in-Within.is walked) c.behind.ensures.ended c.behind.ensures.behind

pub returns-in-Behind : goal.returns-in-Behind
returns-in-Behind c read slots all rest s same header there from together walked =
    let e = c.args.element.now in
    past_behind e read slots all s rest c.in-Behind.next c.begins_later-in-Behind.result c.behind-in-Behind.result
    (ap (λ (f : Found). lies_below e f.address) (sym same) ∙ sym c.is_below.ensures ∙ c.if-is_below.false)
    (ap (λ (f : Found). begins_later e f.base f.address) (sym same) ∙ sym c.begins_later-in-Behind.ensures) together
    (subst (Walked e read slots all (s ∷ rest)) c.in-Behind.is walked) c.behind-in-Behind.ensures.ended c.behind-in-Behind.ensures.behind

pub returns-in-Ended : goal.returns-in-Ended
returns-in-Ended c read slots all rest s same header there from together walked =
    let e = c.args.element.now in
    subst (Walked e read slots all rest) (sym c.in-Ended.is)
    (past_ended e read slots all s rest c.in-Ended.field-0 (subst (Walked e read slots all (s ∷ rest)) c.in-Ended.is walked))
