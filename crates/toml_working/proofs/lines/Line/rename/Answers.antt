use Rattle.std.proofs.lemmas.Result.{IfOk-weaker}
use Rattle.toml_layout.specs.KnownLines.{lines_known}
use Rattle.toml_working.proofs.Renamed.{line_renamed}
use Rattle.toml_working.proofs.lines.Line.rename.Goals as goal

pub returns : goal.returns
returns c =
    let r = c.args.renaming in
    IfOk-weaker c.carry.result _ _ (λ done address.
    line_renamed r.at.now r.name.now r.spelled.now c.args.texts (lines_known c.args.known.now) c.args.self.now c.rename_key.new.self
    c.carry.new.self
    c.in_ok-rename_key.ensures.address c.in_ok-rename_key.ensures.base c.in_ok-rename_key.ensures.body c.carry.ensures.body c.carry.ensures.base address) c.carry.ensures.address
