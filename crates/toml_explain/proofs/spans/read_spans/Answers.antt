use Rattle.toml_tree.specs.HandedOut.{left}
use Rattle.toml_tree.specs.Lines.{line as tree_line}
use Rattle.toml_names.proofs.Proved.{less_is_left}
use Rattle.toml_explain.proofs.Lines.{none_spells}
use Rattle.toml_explain.proofs.spans.read_spans.Goals as goal

pub returns-in-Ok : goal.returns-in-Ok
returns-in-Ok c = λ profile text front h.
    let l = c.in-Ok.line in
    let passed = less_is_left profile text front (left c.args.reader) l c.in-Ok.more (c.in-Ok.ensures.hands profile text front h) in
    (tree_line l, c.spans_of.ensures, passed.0, passed.1)

pub returns-in_ok-told_syntax-in-Err : goal.returns-in_ok-told_syntax-in-Err
returns-in_ok-told_syntax-in-Err c = λ profile text front h. none_spells profile text c.in-Err.fault c.in_ok-told_syntax-in-Err.ensures (c.in-Err.ensures.hands profile text front h)
