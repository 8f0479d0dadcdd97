use Rattle.std.proofs.Common.{◌∙◌, List, [], ◌∷◌, map, Some, ap, ap₂}
use Rattle.toml_layout.proofs.Outlined.{entries_made}
use Rattle.toml_layout.proofs.tree.Entries.none.Goals as goal
use Rattle.toml_layout.specs.declared.tree.Entry.{Entry}
use Rattle.toml_layout.specs.Parts.{PartOutline}
use Rattle.toml_layout.specs.OpenOutlines.{Enclosed, entries_of, entry, parts_read}

pub returns : goal.returns
returns c =
    let enclosed : List Entry → List PartOutline → Enclosed = λ es end. record { opening = 0x7B ∷ []; entries = entries_of (map entry es) (Some end) } in
    entries_made _ ∙ ap₂ enclosed c.none.ensures (ap parts_read c.empty.ensures)
