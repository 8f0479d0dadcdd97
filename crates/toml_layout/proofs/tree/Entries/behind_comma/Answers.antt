use Rattle.std.proofs.Common.{◌∙◌, ap}
use Rattle.toml_layout.specs.Margins.{parting}
use Rattle.toml_layout.proofs.MarginParts.{second_parts}
use Rattle.toml_layout.proofs.tree.Entries.behind_comma.Goals as goal

pub returns : goal.returns
returns c =
    c.in_ok-space-2.ensures ∙ ap parting c.deref.ensures.value ∙ second_parts c.args.self.now c.in-Some.second.now c.in-Some.ensures
