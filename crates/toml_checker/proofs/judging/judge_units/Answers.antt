use Rattle.std.proofs.Common.{map}
use Rattle.toml_edits.specs.Edits.{change}
use Rattle.toml_checker.proofs.Said.{all_demands, is_off, is_on, no_comments, no_frame, no_kept, no_lines, no_pairs}
use Rattle.toml_checker.proofs.judging.judge_units.Goals as goal

pub returns-then-not-said : goal.returns-then-not-said
returns-then-not-said c = λ profile ps so says. no_pairs profile c.args.before.now c.args.after.now (map change c.args.edits.now) ps c.args.said so says (is_off _ c.if-not-said.true)

pub returns-then-not-said-2 : goal.returns-then-not-said-2
returns-then-not-said-2 c = λ profile ps so says. no_kept profile c.args.before.now c.args.after.now (map change c.args.edits.now) ps c.args.said so says (is_on _ c.if-not-said.false) (is_off _ c.if-not-said-2.true)

pub returns-then-not-said-3 : goal.returns-then-not-said-3
returns-then-not-said-3 c = λ profile ps so says. no_lines profile c.args.before.now c.args.after.now (map change c.args.edits.now) ps c.args.said so says (is_on _ c.if-not-said.false) (is_on _ c.if-not-said-2.false) (is_off _ c.if-not-said-3.true)

pub returns-then-not-said-4 : goal.returns-then-not-said-4
returns-then-not-said-4 c = λ profile ps so says.
    no_comments profile c.args.before.now c.args.after.now (map change c.args.edits.now) ps c.args.said so says (is_on _ c.if-not-said.false) (is_on _ c.if-not-said-2.false) (is_on _ c.if-not-said-3.false) (is_off _ c.if-not-said-4.true)

pub returns-then-not-keeps_frame : goal.returns-then-not-keeps_frame
returns-then-not-keeps_frame c = λ profile ps so says.
    no_frame profile c.args.before.now c.args.after.now (map change c.args.edits.now) ps c.args.said so says (is_on _ c.if-not-said.false) (is_on _ c.if-not-said-2.false) (is_on _ c.if-not-said-3.false) (is_on _ c.if-not-said-4.false) c.keeps_frame.result c.keeps_frame.ensures c.if-not-keeps_frame.true

pub returns : goal.returns
returns c = λ profile ps so says.
    all_demands profile c.args.before.now c.args.after.now (map change c.args.edits.now) ps c.args.said so says (is_on _ c.if-not-said.false) (is_on _ c.if-not-said-2.false) (is_on _ c.if-not-said-3.false) (is_on _ c.if-not-said-4.false) c.keeps_frame.result c.keeps_frame.ensures c.if-not-keeps_frame.false
