-- The text of parts of which some are exchanged for others with the same text.
use Rattle.std.proofs.Common.{◌≡◌, List, ◌++◌, refl, sym, ap₂, ◌∙◌}
use Rattle.toml_tree.specs.Pieces.{piece_of}
use Rattle.toml_tree.specs.Spells.{Part, joined, value_parts, IsValue}
use Rattle.toml_tree.specs.Tree.{Value}
use Rattle.toml_tree.proofs.Proved.{parts_join, value_piece}

pub both_texts : (a b c d : List Part) → joined a ≡ joined b → joined c ≡ joined d → joined (a ++ c) ≡ joined (b ++ d)
both_texts a b c d first second = parts_join a c ∙ ap₂ (λ s t. s ++ t) first second ∙ sym (parts_join b d)

pub back_text : (a c d : List Part) → joined c ≡ joined d → joined (a ++ c) ≡ joined (a ++ d)
back_text a c d second = both_texts a a c d refl second

-- a value's piece has the text of its parts
pub piece_text : (v : Value) → IsValue v → (piece_of v).text ≡ joined (value_parts v)
piece_text v is = value_piece v is
