use Rattle.std.proofs.Common.{◌<◌, ◌≤◌, refl, sym, ap, ◌∙◌, arith}
use Rattle.toml_tree.specs.View.{key, piece}
use Rattle.toml_names.specs.mentions.Keys.{part_name}
use Rattle.toml_names.specs.mentions.Mentions.{count_tables}
use Rattle.toml_names.specs.model.Addresses.{child}
use Rattle.toml_mentions.specs.Sought.{most_lines, way_to}
use Rattle.toml_mentions.proofs.Keys.{counts_kept}
use Rattle.toml_mentions.proofs.Stood.{array_taken}
use Rattle.toml_mentions.proofs.seeker.Seeker.array_table.Goals as goal

pub returns : goal.returns
returns c = λ ws tail earlier n line stands few.
    let old = c.args.self.now in
    let mid = c.fronts.new.self in
    let p = piece c.in_ok-way.part in
    let fronts = c.in_ok-way.ensures earlier stands.counts in
    let at = child fronts.at (part_name p) in
    let way = c.in_ok-array.ensures fronts.at (fronts.is ∙ ap (λ t. way_to t.now fronts.at) (sym fronts.sees.target)) in
    let low = stands.few at in
    let room : count_tables earlier at < most_lines = omega (arith, low, few) in
    let taken = c.in_ok-self.ensures at earlier way (counts_kept old mid _ earlier fronts.sees stands.counts) room in
    array_taken old mid c.element.new.self _ earlier n line (key c.args.head.now.key) c.in_ok-way.way p stands fronts c.in_ok-self.field-0 taken refl
