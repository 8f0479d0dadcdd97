use Rattle.toml_names.proofs.Common.{◌<◌, Option, sym, subst, err_from_is_err_and}
use Rattle.toml_text.specs.Source.{text_of}
use Rattle.toml_tree.specs.declared.line_reader.LineReader.{LineReader}
use Rattle.toml_names.specs.reader.Texts.{AreTaken, more_left}
use Rattle.toml_names.proofs.texts.enter_text.Goals as goal

pub returns-in_err-left-clause-refused : goal.returns-in_err-left-clause-refused
returns-in_err-left-clause-refused c =
    let p = err_from_is_err_and c.from_residual-in_err-left.result c.from_residual-in_err-left.ensures.1 in
    let text = text_of c.args.source in
    let taken = subst (λ (o : Option LineReader). AreTaken c.args.profile text c.loop-left.names o) c.in-Some.is c.loop-left.invariant in
    rw (p.1, p.2) (c.in_err-left.ensures c.args.profile text taken)

pub loop-left-smaller : goal.loop-left-smaller
loop-left-smaller c =
    let text = text_of c.args.source in
    let taken = subst (λ (o : Option LineReader). AreTaken c.args.profile text c.loop-left.names o) c.in-Some.is c.loop-left.invariant in
    subst (λ (o : Option LineReader). more_left c.in_ok-left.left < more_left o) (sym c.in-Some.is)
    (c.in_ok-left.ensures c.args.profile text taken).1
