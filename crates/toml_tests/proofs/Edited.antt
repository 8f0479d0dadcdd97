-- What the editor's pieces come to.
use Rattle.std.proofs.Common.{ℕ, List}
use Rattle.toml_edits.specs.Edits.{Change}
use Rattle.toml_tree.specs.declared.profile.Profile.{Profile}
use Rattle.toml_units.specs.Pieces.{AreHeld}
use Rattle.toml_units.specs.declared.piece.Piece.{Piece}
use Rattle.toml_editor.specs.Edited as editor

-- the first text holds each kept span of the pieces
pub pieces_held : (profile : Profile) (before : List ℕ) (cs : List Change) (list : List Piece) (ps : List (ℕ × ℕ))
    → editor.IsEditedInPieces profile before cs list ps → AreHeld before list
pieces_held profile before cs list ps is = is.pieces.tidy.held
