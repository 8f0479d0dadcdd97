-- What is written by stays with the texts and the newline of new lines.
use Rattle.std.proofs.Common.{◌≡◌, ◌∙◌, ◌&&◌, ◌==◌, ℕ, Bool, true, false, cond, List, [], ◌∷◌, length, refl, sym, ap, ap₂, arith}
use Rattle.std.proofs.lemmas.Bool.{and_parts}
use Rattle.std.proofs.lemmas.Bool.Decides.{nat_tests}
use Rattle.std.specs.Prelude.{drop, not}
use Rattle.toml_text.specs.Source.{text_of}
use Rattle.toml_tree.specs.Spells.{Spells, joined, lines_parts, mark_of}
use Rattle.toml_tree.specs.Tree.{Doc}
use Rattle.toml_layout.specs.declared.layout.Layout.{Layout}
use Rattle.toml_layout.specs.declared.texts.Texts.{Texts}
use Rattle.toml_layout.specs.declared.tree.Leaf.{Leaf}
use Rattle.toml_working.specs.declared.working.Tree.{Tree}
use Rattle.toml_layout.specs.OpenOutlines.{leaf_text}
use Rattle.toml_working.specs.Manners.{Manner, ends_in_newline, manner_of, style_of}
use Rattle.toml_working.specs.Putting.{manner}
use Rattle.toml_editor.specs.Exact.{KeepsSource}
use Rattle.toml_editor.specs.CarriedLists.{FirstBlankNeedsNewline}

pub source_kept : (old new : Tree) → new.texts ≡ old.texts → new.style ≡ old.style → new.has_written_blank ≡ old.has_written_blank → KeepsSource old new
source_kept old new texts style blank = record {
  texts = texts;
  mannered =
      ap₂ (λ (t : Texts) (s : Leaf). made t s new.has_written_blank) texts style ∙ ap (made old.texts old.style) blank;
}
  where
    made : Texts → Leaf → Bool → Manner
    made t s b = record { newline = leaf_text s; layout = t.layout; may_blank = not b && ends_in_newline (text_of t.source) }

-- a text ends in a newline where its lines do: a mark ends in none
ends_on : (text : List ℕ) → ends_in_newline text ≡ ends_in_newline (drop (length (mark_of text)) text)
ends_on [] = refl
ends_on (a ∷ []) = refl
ends_on (a ∷ b ∷ []) = refl
ends_on (a ∷ b ∷ c ∷ bs) = by (a == 0xEF && b == 0xBB && c == 0xBF) refl
  where
    behind : Bool → List ℕ
    behind t = drop (length (cond t (a ∷ b ∷ c ∷ []) [])) (a ∷ b ∷ c ∷ bs)

    other : (c == 0xBF) ≡ true → (c == 0x0A) ≡ false
    other is = grind (arith, nat_tests)

    past : (c == 0x0A) ≡ false → (xs : List ℕ) → ends_in_newline (a ∷ b ∷ c ∷ xs) ≡ ends_in_newline xs
    past none [] = none
    past none (x ∷ xs) = refl

    by : (t : Bool) → (a == 0xEF && b == 0xBB && c == 0xBF) ≡ t → ends_in_newline (a ∷ b ∷ c ∷ bs) ≡ ends_in_newline (behind (a == 0xEF && b == 0xBB && c == 0xBF))
    by false is = ap (λ t. ends_in_newline (behind t)) (sym is)
    by true is =
        past (other (and_parts (a == 0xEF && b == 0xBB) (c == 0xBF) is).1) bs
        ∙ ap (λ t. ends_in_newline (behind t)) (sym is)

pub text_ends : (d : Doc) (text : List ℕ) → Spells d text → ends_in_newline text ≡ ends_in_newline (joined (lines_parts d.lines))
text_ends d text spells = ends_on text ∙ ap ends_in_newline (sym spells.lines.text_is)

pub first_blank_needs_newline : FirstBlankNeedsNewline
first_blank_needs_newline layout d text spells may = text_ends d text spells ∙ may

-- at first it is that of the lines that were read
pub as_read : (layout : Layout) (texts : Texts) (tree : Tree) (d : Doc) → tree.texts ≡ texts → texts.layout ≡ layout → leaf_text tree.style ≡ style_of d.lines
    → tree.has_written_blank ≡ false → Spells d (text_of texts.source) → manner tree ≡ manner_of layout d.lines
as_read layout texts tree d is laid style none spells =
    ap₂ (λ s l. made s l tree.has_written_blank (text_of tree.texts.source)) style (ap (λ (t : Texts). t.layout) is ∙ laid)
    ∙ ap₂ (λ b t. made (style_of d.lines) layout b t) none (ap (λ (t : Texts). text_of t.source) is)
    ∙ ap (λ b. record { newline = style_of d.lines; layout = layout; may_blank = b }) (text_ends d (text_of texts.source) spells)
  where
    made : List ℕ → Layout → Bool → List ℕ → Manner
    made s l b text = record { newline = s; layout = l; may_blank = not b && ends_in_newline text }
