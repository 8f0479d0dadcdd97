use Rattle.std.proofs.Common.{Some, ap, sym, ◌∙◌}
use Rattle.toml_tree.specs.Reads.{cursor}
use Rattle.toml_tree.proofs.Pieces.{comment_here, comment_absent}
use Rattle.toml_tree.proofs.reader.Reader.comment.Goals as goal

pub returns-in-Some-clause-piece : goal.returns-in-Some-clause-piece
returns-in-Some-clause-piece c =
    let k = c.in-Some.ensures.exact in
    ap Some c.take_to.ensures.piece ∙ sym (ap (λ r. r.0) (comment_here (cursor c.args.self.now) c.in-Some.end k.0 k.1))

pub returns-in-Some-clause-after : goal.returns-in-Some-clause-after
returns-in-Some-clause-after c =
    let k = c.in-Some.ensures.exact in
    c.take_to.ensures.after ∙ sym (ap (λ r. r.1) (comment_here (cursor c.args.self.now) c.in-Some.end k.0 k.1))

pub returns-in-None-clause-piece : goal.returns-in-None-clause-piece
returns-in-None-clause-piece c = sym (ap (λ r. r.0) (comment_absent (cursor c.args.self.now) c.in-None.ensures.exact))

pub returns-in-None-clause-after : goal.returns-in-None-clause-after
returns-in-None-clause-after c = sym (ap (λ r. r.1) (comment_absent (cursor c.args.self.now) c.in-None.ensures.exact))
