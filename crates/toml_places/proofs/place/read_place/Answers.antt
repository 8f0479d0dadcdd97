use Rattle.std.proofs.Common.{Vec, Global, subst, sym}
use Rattle.std.proofs.lemmas.Result.{err_from_is_err_and}
use Rattle.toml_text.specs.Source.{IsFaultOf, text_of}
use Rattle.toml_places.specs.declared.place.PlaceStep.{PlaceStep}
use Rattle.toml_places.specs.Reads.{cursor, IsNoPlace}
use Rattle.toml_places.proofs.Refused.{refuses, is_place, not_utf8}
use Rattle.toml_places.proofs.place.read_place.Goals as goal

pub returns-in_err-steps-in-Ok-clause-refused : goal.returns-in_err-steps-in-Ok-clause-refused
returns-in_err-steps-in-Ok-clause-refused c =
    let p = err_from_is_err_and c.from_residual.result c.from_residual.ensures.1 in
    let is = c.in-Ok.ensures in
    rw (p.1, p.2) (refuses c.args.text.now (text_of c.in-Ok.source) (cursor c.new-in-Ok.result) is.1 is.0 c.new-in-Ok.ensures (λ (v : Vec PlaceStep Global). v.items) c.in_err-steps-in-Ok.field-0.0 c.in_err-steps-in-Ok.ensures)

pub returns-in-Err-NotUtf8-clause-refused : goal.returns-in-Err-NotUtf8-clause-refused
returns-in-Err-NotUtf8-clause-refused c =
    let e = c.in-Err-NotUtf8 in
    let fault = subst (IsFaultOf c.args.text.now) e.field-0-is e.ensures in
    subst (IsNoPlace c.args.text.now) (sym e.at-is) (not_utf8 c.args.text.now e.at fault.0 fault.1)

pub returns-in_ok-steps-in-Ok-clause-place : goal.returns-in_ok-steps-in-Ok-clause-place
returns-in_ok-steps-in-Ok-clause-place c =
    let is = c.in-Ok.ensures in
    is_place c.args.text.now (text_of c.in-Ok.source) (cursor c.new-in-Ok.result) is.1 is.0 c.new-in-Ok.ensures c.in_ok-steps-in-Ok.steps.items c.in_ok-steps-in-Ok.ensures
