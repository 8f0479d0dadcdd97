use Rattle.toml_editor.proofs.Proved.{set_within_kept, set_elsewhere, style_is_newline}
use Rattle.toml_editor.proofs.laws.kept.Goals as goal

pub returns : goal.returns
returns c = record { within = set_within_kept; elsewhere = set_elsewhere; style = style_is_newline }
