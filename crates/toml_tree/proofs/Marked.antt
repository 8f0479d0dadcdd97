-- The mark at the front of a text, and what stands behind it.
use Rattle.std.proofs.Common.{◌≡◌, ◌∙◌, ◌&&◌, ℕ, true, false, List, [], ◌∷◌, ◌++◌, ap, ap₂, drop, length, refl}
use Rattle.std.proofs.lemmas.Str.{IsUtf8-from_is_utf8}
use Rattle.std.specs.Prelude.{◌==◌, if◌then◌else◌}
use Rattle.toml_tree.specs.MarkedTexts.{MarkEndsAtChar, TextIsSpelled}
use Rattle.toml_tree.specs.Spells.{mark_of}
use Rattle.toml_tree.proofs.Cuts.{mark_cut}

mark_first : (text : List ℕ) → mark_of text ++ drop (length (mark_of text)) text ≡ text
mark_first [] = refl
mark_first (a ∷ []) = refl
mark_first (a ∷ b ∷ []) = refl
mark_first (a ∷ b ∷ c ∷ bs) = elim (a == 0xEF && b == 0xBB && c == 0xBF) as (λ t.
    (if t then a ∷ b ∷ c ∷ [] else []) ++ drop (length (if t then a ∷ b ∷ c ∷ [] else [])) (a ∷ b ∷ c ∷ bs) ≡ a ∷ b ∷ c ∷ bs) [ true ↦ refl | false ↦ refl ]

pub text_is_spelled : TextIsSpelled
text_is_spelled d text spelled = ap₂ (λ r s. r ++ s) (ap (λ m. m.text) spelled.mark) spelled.lines.text_is ∙ mark_first text

pub mark_ends_at_char : MarkEndsAtChar
mark_ends_at_char text within = mark_cut text (IsUtf8-from_is_utf8 text within.utf8)
