use Rattle.std.proofs.Common.{sym, ◌∙◌}
use Rattle.tomled.proofs.Settled.{file_passed, input_passed}
use Rattle.tomled.proofs.finishing.refuse_word.Goals as goal

pub returns-then-is_input : goal.returns-then-is_input
returns-then-is_input g c =
    input_passed c.args.path.now c.args.read.now (sym c.is_input.ensures ∙ c.if-is_input.true) (g.D.Disk.calls c.args.disk.now)

pub returns : goal.returns
returns g c = file_passed c.args.path.now c.args.read.now (sym c.is_input.ensures ∙ c.if-is_input.false) c.refuse_same.result _ _ c.refuse_same.ensures
