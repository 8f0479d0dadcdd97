use Rattle.std.proofs.Common.{List, ℕ, sym, subst}
use Rattle.std.proofs.lemmas.Result.{IfOk-weaker}
use Rattle.toml_text.specs.Source.{text_of}
use Rattle.toml_tree.specs.HandedOut.{AreLinesIn}
use Rattle.toml_explain.specs.Documents.{AreSpansAt, AreSpansIn}
use Rattle.toml_explain.proofs.Lines.{no_text}
use Rattle.toml_explain.proofs.spans.spans_at.Goals as goal

pub returns-in-Ok : goal.returns-in-Ok
returns-in-Ok c =
    let bytes = c.args.bytes.now in
    let profile = c.args.profile in
    IfOk-weaker c.line_spans.result (AreSpansIn profile (text_of c.in-Ok.source) c.args.number) (AreSpansAt profile bytes c.args.number)
    (λ s finds l has. finds has.lines (subst (λ (t : List ℕ). AreLinesIn profile t has.lines) (sym c.in-Ok.ensures.0) has.are) l has.here) c.line_spans.ensures

pub returns-in-Err : goal.returns-in-Err
returns-in-Err c = λ l has. absurd (no_text c.args.bytes.now _ c.in-Err.ensures has.text)
