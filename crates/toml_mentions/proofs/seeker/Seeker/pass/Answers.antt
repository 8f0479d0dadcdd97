use Rattle.std.proofs.Common.{◌∙◌}
use Rattle.toml_tree.specs.View.{piece}
use Rattle.toml_names.specs.mentions.Keys.{part_name}
use Rattle.toml_names.specs.mentions.Mentions.{entered}
use Rattle.toml_names.specs.model.Addresses.{child}
use Rattle.toml_mentions.proofs.seeker.Seeker.pass.Goals as goal

pub returns : goal.returns
returns c = λ at earlier h counts.
    let next = child at (part_name (piece c.args.part)) in
    let there = c.entered-inside.ensures next earlier (c.in_ok-named.ensures at h) counts in
    record { is = there; sees = c.in_ok-mention.ensures (entered earlier next) there }
