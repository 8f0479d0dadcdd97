use Rattle.std.proofs.Common.{ℕ, subst}
use Rattle.std.specs.Prelude.{IfOk, string_bytes}
use Rattle.toml_explain.specs.Excerpts.{EndsInLine}
use Rattle.toml_explain.proofs.document.byte_lines.Goals as goal

pub returns : goal.returns
returns c = subst (λ (n : ℕ). IfOk c.with_line.result (λ t. EndsInLine c.args.bytes.now n (string_bytes t))) c.meant_at.ensures c.with_line.ensures
