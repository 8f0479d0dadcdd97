use Rattle.toml_names.proofs.Proved.{not_above_next, clear_of_root, section_is_clear, headers_are_clear, not_named_is_clear}
use Rattle.toml_names.proofs.laws.clear.Goals as goal

pub returns : goal.returns
returns c = record { next = not_above_next; root = clear_of_root; section = section_is_clear; headers = headers_are_clear; not_named = not_named_is_clear }
