use Rattle.std.proofs.Common.{◌≡◌, Some, drop, refl, sym, ap, ◌∙◌, arith}
use Rattle.toml_text.specs.Source.{text_of}
use Rattle.toml_scalar.specs.Scanning.{key_part_len}
use Rattle.toml_scalar.proofs.Cuts.{part_cut}
use Rattle.toml_scalar.proofs.Keys.{part_sound}
use Rattle.toml_scalar.proofs.scan.scan_key.Goals as goal

found : (c : goal.In_ok-len) → key_part_len (drop c.args.at (text_of c.args.source)) ≡ Some c.in_ok-len.len
found c = sym (ap key_part_len c.rest.ensures) ∙ c.in_ok-len.ensures

pub overflow_add-result : goal.overflow_add-result
overflow_add-result c = omega (arith, (part_cut (text_of c.args.source) c.args.at c.args.source.is_text c.requires c.in_ok-len.len (found c)).fits)

pub returns : goal.returns
returns c = (
  c.in_ok-len.len,
  found c,
  (part_sound (drop c.args.at (text_of c.args.source)) c.in_ok-len.len (found c)).1,
  record { start = refl; end = refl; bound = (part_cut (text_of c.args.source) c.args.at c.args.source.is_text c.requires c.in_ok-len.len (found c)).bound },
)
