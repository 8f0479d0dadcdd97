use Rattle.std.proofs.Common.{◌++◌, ◌∷◌, [], Option, subst}
use Rattle.std.proofs.lemmas.Result.{err_from_is_err_and}
use Rattle.toml_text.specs.Source.{text_of}
use Rattle.toml_tree.specs.Lines.{line as tree_line}
use Rattle.toml_tree.specs.declared.line_reader.LineReader.{LineReader}
use Rattle.toml_names.specs.reader.Texts.{AreLeft}
use Rattle.toml_working.proofs.ReadDocuments.{all_read, behind_it, stood}
use Rattle.toml_working.proofs.reading.ReadDocument.take_all.Goals as goal

pub returns-in_err-line-clause-refused : goal.returns-in_err-line-clause-refused
returns-in_err-line-clause-refused c =
    let p = err_from_is_err_and c.from_residual.result c.from_residual.ensures.1 in
    let text = text_of c.args.source in
    let all = c.loop-left.invariant in
    rw (p.1, p.2) (c.in_err-line.ensures.hands c.args.profile text all.0 (stood c.args.profile text all.0 _ c.in-Some.reader c.in-Some.is all.1))

pub take-requires-clause-taken : goal.take-requires-clause-taken
take-requires-clause-taken c = (c.loop-left.invariant.0, c.loop-left.invariant.2)

pub take-requires-clause-same : goal.take-requires-clause-same
take-requires-clause-same c = c.in_ok-line.ensures.same

pub refuse_names-requires : goal.refuse_names-requires
refuse_names-requires c =
    let text = text_of c.args.source in
    let all = c.loop-left.invariant in
    let line = c.in_ok-line in
    let passed = behind_it c.args.profile text all.0 _ c.in-Some.reader line.line line.more c.in-Some.is all.1 line.ensures.hands in
    (c.args.profile, text, all.0 ++ tree_line line.line ∷ [], passed.0)

pub returns-in-Err-clause-refused : goal.returns-in-Err-clause-refused
returns-in-Err-clause-refused c =
    let text = text_of c.args.source in
    let all = c.loop-left.invariant in
    let line = c.in_ok-line in
    let passed = behind_it c.args.profile text all.0 _ c.in-Some.reader line.line line.more c.in-Some.is all.1 line.ensures.hands in
    c.refuse_names.ensures c.args.profile text (all.0 ++ tree_line line.line ∷ []) passed.0 (c.in-Err.ensures all.0 all.2)

pub loop-left-smaller : goal.loop-left-smaller
loop-left-smaller c =
    let text = text_of c.args.source in
    let all = c.loop-left.invariant in
    let line = c.in_ok-line in
    (behind_it c.args.profile text all.0 _ c.in-Some.reader line.line line.more c.in-Some.is all.1 line.ensures.hands).1

pub loop-left-preserved : goal.loop-left-preserved
loop-left-preserved c =
    let text = text_of c.args.source in
    let all = c.loop-left.invariant in
    let line = c.in_ok-line in
    let passed = behind_it c.args.profile text all.0 _ c.in-Some.reader line.line line.more c.in-Some.is all.1 line.ensures.hands in
    (all.0 ++ tree_line line.line ∷ [], passed.0, c.in_default-take.ensures all.0 all.2)

pub returns-clause-read : goal.returns-clause-read
returns-clause-read c =
    let text = text_of c.args.source in
    let all = c.loop-left.invariant in
    all_read c.args.profile text all.0 c.loop-left.self (subst (λ (o : Option LineReader). AreLeft c.args.profile text all.0 o) c.in_default.is all.1) all.2
