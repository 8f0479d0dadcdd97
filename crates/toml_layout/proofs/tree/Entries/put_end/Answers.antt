use Rattle.toml_layout.specs.declared.tree.Value.TheViews.{out-Entries}
use Rattle.toml_layout.proofs.ItemGaps.{items_made}
use Rattle.toml_layout.proofs.tree.Entries.put_end.Goals as goal

pub returns : goal.returns
returns c =
    let e = out-Entries c.args.self.now in
    items_made (record { opening = e.opening; list = e.list; end = c.args.end })
