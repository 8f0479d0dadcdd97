use Rattle.std.proofs.Common.{◌∙◌, sym}
use Rattle.std.proofs.lemmas.Result.{IfOk-weaker}
use Rattle.toml_layout.specs.KnownLines.{lines_known}
use Rattle.toml_working.specs.Becoming.{renamed_below}
use Rattle.toml_working.specs.Starting.{read_of}
use Rattle.toml_working.proofs.Renamed.{slot_becomes, slot_not_below}
use Rattle.toml_working.proofs.lines.Slot.rename.Goals as goal

pub returns-then-not-is_below : goal.returns-then-not-is_below
returns-then-not-is_below c =
    let r = c.args.renaming in
    slot_not_below r.at.now r.name.now r.spelled.now c.args.texts (read_of c.args.before) c.args.self.now
    (sym (c.is_below.ensures (lines_known c.args.before.known.now)) ∙ c.if-not-is_below.true)

pub returns-in-Lines : goal.returns-in-Lines
returns-in-Lines c =
    IfOk-weaker c.rename_in_lines.result _ _ (λ done becomes.
    slot_becomes c.args.texts (read_of c.args.before) (renamed_below c.args.renaming) c.args.self.now c.open.new.self c.in-Lines.lines
    c.rename_in_lines.new.lines
    c.in_ok-open.ensures c.in-Lines.is becomes) c.rename_in_lines.ensures
