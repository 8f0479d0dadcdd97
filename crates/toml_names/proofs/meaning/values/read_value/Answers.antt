use Rattle.toml_names.proofs.Common.{value, kind_at, value_facts}
use Rattle.toml_names.proofs.lemmas.mentions.FirstNamed.{values_join}
use Rattle.toml_names.proofs.lemmas.reader.WholeValue.{whole_data}
use Rattle.toml_names.proofs.meaning.values.read_value.Goals as goal

pub returns-clause-data : goal.returns-clause-data
returns-clause-data c =
    let v = value c.args.value.now in
    let stands = c.in_ok-tree.ensures.stands in
    let keeps = c.in_ok-tree.ensures.good.0 in
    whole_data v c.in_ok-tree.tree.nodes.items (kind_at c.in_ok-datum.field-0) stands keeps (c.in_ok-datum.ensures (value_facts v) stands (values_join v keeps))
