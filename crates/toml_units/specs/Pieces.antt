-- Texts in pieces.
use Rattle.std.specs.Prelude.{ℕ, List, [], ◌∷◌, ◌++◌, slice_range, string_bytes}
use Rattle.toml_text.specs.Source.{IsHeld}
use Rattle.toml_tree.specs.Spells.{EachIs}
use Rattle.toml_units.specs.declared.piece.Piece.{Piece}
use Rattle.toml_units.specs.declared.piece.Piece.TheVariants.{Kept, New}

-- the text of a piece; a kept one is a part of the first text
abbrev pub piece_text : List ℕ → Piece → List ℕ
piece_text text (Kept span) = slice_range text span.start span.end
piece_text text (New new) = string_bytes new

-- the texts of pieces, one behind the other
abbrev pub joined_text : List ℕ → List Piece → List ℕ
joined_text text [] = []
joined_text text (p ∷ ps) = piece_text text p ++ joined_text text ps

-- the text holds the span, if it is kept
abbrev pub IsHeldPiece : List ℕ → Piece → Type 0
IsHeldPiece text (Kept span) = IsHeld text span
IsHeldPiece text (New new) = Unit {0}

abbrev pub AreHeld : List ℕ → List Piece → Type 0
AreHeld text = EachIs (IsHeldPiece text)
