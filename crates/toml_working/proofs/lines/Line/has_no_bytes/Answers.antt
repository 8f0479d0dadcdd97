use Rattle.toml_working.proofs.NoBytes.{kept_line_told}
use Rattle.toml_working.proofs.lines.Line.has_no_bytes.Goals as goal

pub returns-in-Kept : goal.returns-in-Kept
returns-in-Kept c = kept_line_told c.args.self.now c.in-Kept.kept c.in-Kept.is
