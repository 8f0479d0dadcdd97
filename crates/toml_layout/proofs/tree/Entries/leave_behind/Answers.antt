use Rattle.std.proofs.Common.{◌∙◌, ap, ap₂, sym}
use Rattle.std.specs.Prelude.{option_map}
use Rattle.toml_layout.specs.Items.{gap_parts, items_of}
use Rattle.toml_layout.specs.Takings.{put_behind}
use Rattle.toml_layout.proofs.ItemGaps.{not_there, there}
use Rattle.toml_layout.proofs.tree.Entries.leave_behind.Goals as goal

pub returns-then-not-has : goal.returns-then-not-has
returns-then-not-has c =
    let e = c.args.self.now in
    let none = not_there e c.args.index c.has.result c.has.ensures c.if-not-has.true in
    c.put_end.ensures ∙ sym (ap (λ o. put_behind (items_of e) c.args.index o (option_map gap_parts c.args.gap)) none)

pub returns-in_default : goal.returns-in_default
returns-in_default c =
    let e = c.args.self.now in
    let (it, here) = there e c.args.index c.has.result c.has.ensures c.if-not-has.false in
    sym (ap₂ (put_behind (items_of e) c.args.index) here (ap (option_map gap_parts) c.in_default.is))
