use Rattle.std.proofs.Common.{◌≡◌, Some, drop, refl, sym, ap, ◌∙◌, arith}
use Rattle.toml_text.specs.Source.{text_of}
use Rattle.toml_scalar.specs.Scanning.{scan_at}
use Rattle.toml_scalar.proofs.Cuts.{token_cut}
use Rattle.toml_scalar.proofs.scan.scan_scalar.Goals as goal

found : (c : goal.In_ok-len) → scan_at (drop c.args.at (text_of c.args.source)) ≡ Some (c.in_ok-len.len, c.in_ok-len.kind)
found c = sym (ap scan_at c.rest.ensures) ∙ c.in_ok-len.ensures

pub overflow_add-span : goal.overflow_add-span
overflow_add-span c = omega (arith, (token_cut (text_of c.args.source) c.args.at c.args.source.is_text c.requires c.in_ok-len.len c.in_ok-len.kind (found c)).fits)

pub returns : goal.returns
returns c = (
  c.in_ok-len.len,
  found c,
  record { start = refl; end = refl; bound = (token_cut (text_of c.args.source) c.args.at c.args.source.is_text c.requires c.in_ok-len.len c.in_ok-len.kind (found c)).bound },
)
