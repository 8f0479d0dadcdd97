use Rattle.std.proofs.Common.{◌+◌, [], bytes_eq, cond, get_or, sym, ap, ◌∙◌}
use Rattle.toml_checker.proofs.Counts.{seen-take}
use Rattle.toml_checker.proofs.counting.counted.Goals as goal

pub loop-text-preserved : goal.loop-text-preserved
loop-text-preserved c = λ t.
    c.in_ok-add_one.ensures t ∙ ap (λ n. cond (bytes_eq (get_or c.args.texts.now c.loop-text.text-index (record { ref_ptr = (0, 0); now = [] })).now t) (n + 1) n) (c.loop-text.invariant t)
    ∙ sym (seen-take c.args.texts.now c.loop-text.text-index (record { ref_ptr = (0, 0); now = [] }) t c.loop-text-test.true)
