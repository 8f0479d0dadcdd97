use Rattle.std.proofs.Common.{◌∙◌, ap, sym}
use Rattle.std.proofs.lemmas.Result.{IfOk-weaker}
use Rattle.toml_layout.specs.OpenOutlines.{leaf_text}
use Rattle.toml_working.specs.FirstKeys.{like_before, spacing_like}
use Rattle.toml_working.specs.Looking.{BeginsBehind}
use Rattle.toml_working.specs.LookingUp.{BeginsSection}
use Rattle.toml_working.specs.Placing.{is_header, lines_before}
use Rattle.toml_working.specs.Seeing.{Found}
use Rattle.toml_working.specs.Starting.{read_of}
use Rattle.toml_working.proofs.Looked.{after_header}
use Rattle.toml_working.proofs.LookedUp.{seen_found}
use Rattle.toml_working.proofs.working.Tree.beginning.Goals as goal

pub returns-then-is_header : goal.returns-then-is_header
returns-then-is_header c =
    let read = read_of c.args.before in
    let slots = c.args.self.now.slots.items in
    let look = c.in_ok-look.look in
    let front = lines_before read slots c.args.behind.slot c.args.behind.index in
    IfOk-weaker c.beginning_below.result (λ r. BeginsSection (leaf_text look.ws) read slots c.args.behind r.0 r.1) (λ r. BeginsBehind read slots c.args.behind r.0 r.1)
    (λ r begins s there.
    let same = seen_found read.units slots c.args.behind c.seen.result c.in-Some.line read.lines s c.seen.ensures c.in-Some.is there in
    let head = ap (λ (f : Found). is_header f.base f.address) (sym same) ∙ sym c.is_header.ensures ∙ c.if-is_header.true in
    begins s there ∙ ap (λ w. spacing_like w (like_before w front)) (c.in_ok-look.ensures s there).ws
    ∙ sym (after_header front s.base s.address s.outline head))
    c.beginning_below.ensures
