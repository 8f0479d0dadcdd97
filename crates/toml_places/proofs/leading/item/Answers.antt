use Rattle.std.proofs.Common.{◌∙◌, sym, subst}
use Rattle.toml_names.specs.declared.model.address.Step.TheVariants as steps
use Rattle.toml_names.specs.reader.Parts.{part_kinds}
use Rattle.toml_places.specs.Leading.{below_step}
use Rattle.toml_places.specs.Parts.{Stands}
use Rattle.toml_places.proofs.Parts.{item_got, item_stands}
use Rattle.toml_places.proofs.leading.item.Goals as goal

pub returns : goal.returns
returns c =
    let names = c.args.names.now in
    let items = c.items.result.now in
    subst (λ o. Stands names o (below_step (steps.Index c.args.index) (part_kinds names c.args.id))) (sym (c.copied.ensures ∙ item_got items c.args.index c.get.result c.get.ensures.lookup))
    (item_stands names c.args.id items c.args.index c.requires c.items.ensures)
