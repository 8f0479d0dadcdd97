-- A float is ASCII.
use Rattle.std.proofs.Common.{subst, sym, ap, ◌∙◌}
use Rattle.std.specs.Str.{IsAscii}
use Rattle.toml_scalar.specs.Floats.{without_sign}
use Rattle.toml_scalar.proofs.Floats.{float_ascii}
use Rattle.toml_scalar.proofs.float.float_text.Goals as goal

pub plain_text-requires : goal.plain_text-requires
plain_text-requires c = subst IsAscii (sym (c.without_sign.ensures ∙ ap without_sign c.as_bytes.ensures.value)) (float_ascii c.args.run.now c.requires)
