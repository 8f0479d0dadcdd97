use Rattle.std.proofs.Common.{◌≢◌, string_bytes}
use Rattle.toml_explain.specs.Excerpts.{IsOneLine}
use Rattle.toml_explain.proofs.drawing.push_times.Given as goal

abbrev pub invariant-loop-i : goal.invariant-loop-i
invariant-loop-i l = l.character ≢ 0x0A → IsOneLine (string_bytes l.initial.text) → IsOneLine (string_bytes l.text)
