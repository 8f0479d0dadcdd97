use Rattle.std.proofs.Common.{suc, take, ap, ◌∙◌}
use Rattle.std.proofs.lemmas.List.{take_min}
use Rattle.toml_names.specs.mentions.Rules.{max_steps}
use Rattle.toml_edits.proofs.near.cut.Goals as goal

pub returns : goal.returns
returns c = ap (λ n. take n c.args.steps.now) c.min.ensures ∙ take_min (suc max_steps) c.args.steps.now
