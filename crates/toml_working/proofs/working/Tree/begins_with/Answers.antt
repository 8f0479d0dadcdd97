use Rattle.std.proofs.Common.{◌∙◌, ap₂}
use Rattle.std.specs.Str.{bytes_eq}
use Rattle.toml_working.proofs.working.Tree.begins_with.Goals as goal

pub returns : goal.returns
returns c s there = c.eq.ensures ∙ ap₂ bytes_eq (c.text.ensures ∙ (c.in_ok-look_at.ensures s there).ws) c.text-2.ensures
