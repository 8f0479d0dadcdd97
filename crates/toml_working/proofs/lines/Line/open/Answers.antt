use Rattle.std.proofs.Common.{◌≡◌, ◌∙◌, Some, None, ap, sym}
use Rattle.std.specs.Option.{option_copied}
use Rattle.std.specs.Prelude.{slice_get}
use Rattle.toml_working.proofs.OpenedBody.{body_opened, body_stays, item_got}
use Rattle.toml_working.proofs.lines.Line.open.Goals as goal

pub returns-in_ok-new-clause-opened : goal.returns-in_ok-new-clause-opened
returns-in_ok-new-clause-opened c =
    let found : Some c.in-Some.line.now ≡ slice_get c.args.known.now c.in-Kept.kept.line = sym (ap option_copied c.in-Some.is) ∙ item_got _ _ _ c.get.ensures.lookup in
    body_opened c.args.texts c.args.known.now _ c.in-Kept.kept c.in-Some.line.now c.in_ok-opened.opened c.in_ok-new.field-0 c.in-Kept.is found c.in_ok-new.ensures.ok
    c.in_ok-opened.ensures

pub returns-in_default-get-clause-opened : goal.returns-in_default-get-clause-opened
returns-in_default-get-clause-opened c =
    let none : None ≡ slice_get c.args.known.now c.in-Kept.kept.line = sym (ap option_copied c.in_default-get.is) ∙ item_got _ _ _ c.get.ensures.lookup in
    body_stays c.args.texts c.args.known.now _ c.in-Kept.kept c.in-Kept.is none
