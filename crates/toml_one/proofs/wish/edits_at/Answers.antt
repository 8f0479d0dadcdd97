use Rattle.std.proofs.Common.{map, sym, subst}
use Rattle.std.specs.Prelude.{IfOk}
use Rattle.std.specs.declared.alloc.Global.{Global}
use Rattle.std.specs.declared.vec.Vec.{Vec}
use Rattle.toml_names.specs.mentions.Mentions.{named}
use Rattle.toml_names.specs.reader.Parts.{part_kinds}
use Rattle.toml_edits.specs.Edits.{change, remove, rename}
use Rattle.toml_edits.specs.declared.edit.Edit.{Edit}
use Rattle.toml_one.specs.Kept.{Keeps}
use Rattle.toml_one.specs.Wishes.{AreEditsAt, wished}
use Rattle.toml_one.proofs.TooDeep.{one_ok}
use Rattle.toml_one.proofs.wish.edits_at.Goals as goal

pub returns-in-Rename : goal.returns-in-Rename
returns-in-Rename c = λ lines tree.
    let kinds = part_kinds c.args.names.now 0 in
    let place = c.args.place.now in
    subst (λ w. IfOk c.rename_at.result (λ (edits : Vec Edit Global). Keeps (AreEditsAt kinds (named lines) place (wished w)) (map change edits.items))) (sym c.in-Rename.is)
    (one_ok kinds place c.rename_at.result (λ at. rename at c.in-Rename.to.now) c.rename_at.ensures)

pub returns-in-Remove : goal.returns-in-Remove
returns-in-Remove c = λ lines tree.
    let kinds = part_kinds c.args.names.now 0 in
    let place = c.args.place.now in
    subst (λ w. IfOk c.remove_at.result (λ (edits : Vec Edit Global). Keeps (AreEditsAt kinds (named lines) place (wished w)) (map change edits.items))) (sym c.in-Remove.is)
    (one_ok kinds place c.remove_at.result remove c.remove_at.ensures)
