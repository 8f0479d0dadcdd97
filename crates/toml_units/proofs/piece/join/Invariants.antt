use Rattle.std.proofs.Common.{◌≡◌, ◌++◌, drop, string_bytes}
use Rattle.toml_text.specs.Source.{text_of}
use Rattle.toml_units.specs.Pieces.{AreHeld, joined_text}
use Rattle.toml_units.proofs.piece.join.Given as goal

abbrev pub invariant-loop-piece : goal.invariant-loop-piece
invariant-loop-piece l =
    (string_bytes l.text ++ joined_text (text_of l.source) (drop l.piece-index l.pieces) ≡ joined_text (text_of l.source) l.pieces)
    × AreHeld (text_of l.source) (drop l.piece-index l.pieces)
