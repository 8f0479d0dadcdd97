use Rattle.std.proofs.Common.{sym, subst, IsCharBoundary}
use Rattle.toml_text.specs.Source.{text_of}
use Rattle.toml_tree.proofs.Cuts.{behind_bytes}
use Rattle.toml_tree.proofs.reader.Reader.up_to.Goals as goal

pub take_to-requires-clause-bound : goal.take_to-requires-clause-bound
take_to-requires-clause-bound c =
    let here = c.args.self in
    let there = c.args.last.now in
    let over = c.requires in
    subst (IsCharBoundary (text_of here.source)) (sym over.1.at)
    (behind_bytes (text_of here.source) here.at here.source.is_text here.bound (text_of there.source) there.at over.0 there.source.is_text there.bound over.1.rest)
