use Rattle.std.specs.Prelude.{string_bytes}
use Rattle.toml_explain.proofs.OneLine.{line_with}
use Rattle.toml_explain.proofs.drawing.push_times.Goals as goal

pub loop-i-preserved : goal.loop-i-preserved
loop-i-preserved c = λ other old.
    line_with (string_bytes c.loop-i.text) (string_bytes c.push.new.self) c.args.character other c.in_ok-push.ensures.bytes (c.loop-i.invariant other old)
