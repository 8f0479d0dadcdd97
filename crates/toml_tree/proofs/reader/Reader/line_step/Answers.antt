use Rattle.toml_tree.specs.Reads.{cursor}
use Rattle.toml_tree.proofs.Formed.{line_formed}
use Rattle.toml_tree.proofs.reader.Reader.line_step.Goals as goal

pub invariant_of-result : goal.invariant_of-result
invariant_of-result c = record { form = line_formed c.args.profile c.in_ok-expr.expr c.newline-newline.result (cursor c.args.self.now) (cursor c.expr.new.self) c.in_ok-expr.ensures.0 c.newline-newline.ensures.piece }

pub invariant_of-result-2 : goal.invariant_of-result-2
invariant_of-result-2 c = record { form = line_formed c.args.profile c.in_ok-expr.expr c.newline-newline.result (cursor c.args.self.now) (cursor c.expr.new.self) c.in_ok-expr.ensures.0 c.newline-newline.ensures.piece }
