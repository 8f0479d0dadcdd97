use Rattle.std.proofs.Common.{map, sym, ◌∙◌, subst}
use Rattle.std.specs.Prelude.{IfOk}
use Rattle.std.specs.declared.alloc.Global.{Global}
use Rattle.std.specs.declared.vec.Vec.{Vec}
use Rattle.toml_names.specs.mentions.Mentions.{named}
use Rattle.toml_names.specs.reader.Parts.{part_kinds}
use Rattle.toml_edits.specs.Edits.{change}
use Rattle.toml_edits.specs.declared.edit.Edit.{Edit}
use Rattle.toml_one.specs.Kept.{Keeps}
use Rattle.toml_one.specs.Wishes.{IsSetAt}
use Rattle.toml_one.proofs.TooDeep.{alone_ok}
use Rattle.toml_one.proofs.wish.set_at.Goals as goal

pub returns-else-makes_parents : goal.returns-else-makes_parents
returns-else-makes_parents c = λ lines tree.
    let kinds = part_kinds c.args.names.now 0 in
    let place = c.args.place.now in
    let value = c.args.value.now in
    subst (λ b. IfOk c.set_alone.result (λ (edits : Vec Edit Global). Keeps (IsSetAt b kinds (named lines) place value) (map change edits.items)))
    (sym (sym c.makes_parents.ensures ∙ c.if-makes_parents.false)) (alone_ok kinds place c.set_alone.result value c.set_alone.ensures)
