use Rattle.std.proofs.Common.{◌++◌, string_bytes, ap, ◌∙◌, rules}
use Rattle.toml_scalar.proofs.Moments.{text_step}
use Rattle.toml_scalar.proofs.moment.moment_text.Goals as goal

pub loop-byte-preserved : goal.loop-byte-preserved
loop-byte-preserved c =
    text_step c.args.run.now c.loop-byte.byte-index (string_bytes c.loop-byte.text) (string_bytes c.push.new.self) c.from.result c.requires (search rules) c.loop-byte.invariant (search rules)
    (λ below. c.in_ok-push.ensures.bytes ∙ ap (λ xs. string_bytes c.loop-byte.text ++ xs) (c.in_ok-push.ensures.ascii below))
