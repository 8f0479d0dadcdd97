use Rattle.std.proofs.Common.{refl, sym, ap, ◌∙◌}
use Rattle.toml_tree.specs.View.{key, piece}
use Rattle.toml_names.specs.mentions.Keys.{part_name}
use Rattle.toml_names.specs.model.Addresses.{child}
use Rattle.toml_mentions.specs.Sought.{way_to}
use Rattle.toml_mentions.proofs.Stood.{table_taken}
use Rattle.toml_mentions.proofs.seeker.Seeker.table.Goals as goal

pub returns : goal.returns
returns c = λ ws tail earlier n line stands few.
    let old = c.args.self.now in
    let mid = c.fronts.new.self in
    let p = piece c.in_ok-way.part in
    let fronts = c.in_ok-way.ensures earlier stands.counts in
    let way = c.in_ok-named.ensures fronts.at (fronts.is ∙ ap (λ t. way_to t.now fronts.at) (sym fronts.sees.target)) in
    table_taken old mid c.mention.new.self _ earlier n line (key c.args.head.now.key) c.in_ok-way.way p stands fronts c.in_ok-named.named way (c.in_ok-mention.ensures (child fronts.at (part_name p)) way) refl
