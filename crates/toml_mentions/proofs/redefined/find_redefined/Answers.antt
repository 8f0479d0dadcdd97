use Rattle.std.proofs.Common.{Some, None, sym, ap, ◌∙◌, subst, refl}
use Rattle.toml_text.specs.Source.{text_of}
use Rattle.toml_mentions.specs.Redefined.{JudgedAt}
use Rattle.toml_mentions.specs.Sought.{SoughtIn}
use Rattle.toml_mentions.proofs.Found.{finds, finds_both, finds_none, no_text, none_clash}
use Rattle.toml_mentions.proofs.redefined.find_redefined.Goals as goal

pub returns-in_default-clause-offence : goal.returns-in_default-clause-offence
returns-in_default-clause-offence c = λ number p h. absurd (no_text c.args.bytes.now c.in_default.field-0 c.in_default.ensures h.text)

pub returns-in_ok-clash-in-Some-clause-offence : goal.returns-in_ok-clash-in-Some-clause-offence
returns-in_ok-clash-in-Some-clause-offence c = λ number p h.
    let text = text_of c.in-Ok.source in
    let sought = subst (λ a. SoughtIn a c.args.profile text c.in_ok-clash-in-Some.field-0) c.steps.ensures c.in_ok-clash-in-Some.ensures in
    finds c.args.profile c.args.bytes.now text c.in-Ok.ensures.0 c.in_ok-address.field-0 c.in_ok-address.ensures c.in-Some.address c.in-Some.is c.in_ok-clash-in-Some.field-0.clash (λ lines are. (sought lines are).clash_is) number p h

pub returns-in-None-clause-offence : goal.returns-in-None-clause-offence
returns-in-None-clause-offence c = λ number p h.
    absurd (finds_none c.args.profile c.args.bytes.now (text_of c.in-Ok.source) c.in-Ok.ensures.0 (subst (JudgedAt c.args.profile (text_of c.in-Ok.source)) c.in-None.is c.in_ok-address.ensures) number p h)

pub returns-in_default-clause-both : goal.returns-in_default-clause-both
returns-in_default-clause-both c = λ number first again h. absurd (no_text c.args.bytes.now c.in_default.field-0 c.in_default.ensures h.text)

pub returns-in_ok-clash-in-Some-clause-both : goal.returns-in_ok-clash-in-Some-clause-both
returns-in_ok-clash-in-Some-clause-both c = λ number first again h.
    let text = text_of c.in-Ok.source in
    let sought = subst (λ a. SoughtIn a c.args.profile text c.in_ok-clash-in-Some.field-0) c.steps.ensures c.in_ok-clash-in-Some.ensures in
    finds_both c.args.profile c.args.bytes.now text c.in-Ok.ensures.0 c.in_ok-address.field-0 c.in_ok-address.ensures c.in-Some.address c.in-Some.is c.in_ok-clash-in-Some.field-0.clash (λ lines are. (sought lines are).clash_is) number first again h

pub returns-in-None-clause-both : goal.returns-in-None-clause-both
returns-in-None-clause-both c = λ number first again h.
    absurd (none_clash c.args.profile c.args.bytes.now (text_of c.in-Ok.source) c.in-Ok.ensures.0 (subst (JudgedAt c.args.profile (text_of c.in-Ok.source)) c.in-None.is c.in_ok-address.ensures) number first again h)
