use Rattle.std.proofs.Common.{arith, sym}
use Rattle.toml_layout.specs.Leading.{open_names}
use Rattle.toml_layout.proofs.OpenEntries.{leads_by, too_long}
use Rattle.toml_layout.proofs.texts.Texts.leads.Goals as goal

pub returns : goal.returns
returns c = leads_by (open_names c.args.key.now) c.args.steps.now _ _ c.in_ok-common.ensures c.parts-parts.ensures

pub returns-then-steps-parts : goal.returns-then-steps-parts
returns-then-steps-parts c = sym (too_long (open_names c.args.key.now) c.args.steps.now (omega (arith, c.parts-parts.ensures)))
