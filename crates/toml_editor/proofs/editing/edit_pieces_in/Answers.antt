use Rattle.std.proofs.Common.{string_bytes}
use Rattle.toml_editor.proofs.editing.edit_pieces_in.Goals as goal

pub returns-clause-edited : goal.returns-clause-edited
returns-clause-edited c =
    let whole = c.in_ok-edited.ensures.edited in
    record { after = string_bytes c.in_ok-edited.edited.text; edited = whole.edited; pieces = whole.pieces }
