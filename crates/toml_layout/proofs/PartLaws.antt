-- What the parts of a gap are that is taken apart.
use Rattle.std.proofs.Common.{◌≡◌, ◌∙◌, ℕ, Bool, true, false, cond, ◌||◌, List, [], ◌∷◌, ◌++◌, refl, ap, ap₂, sym, append_assoc, append-nil}
use Rattle.std.proofs.lemmas.List.{map-append}
use Rattle.std.specs.List.{list_any}
use Rattle.std.specs.Prelude.{nat_lt}
use Rattle.toml_text.specs.Bytes.{is_ws, is_comment}
use Rattle.toml_text.specs.Runs.{run_len, newline_len}
use Rattle.toml_layout.specs.declared.tree.GapPart.{GapPart}
use Rattle.toml_layout.specs.declared.tree.GapPart.TheVariants as parts
use Rattle.toml_layout.specs.OpenOutlines.{gap_part_text, gap_parts_text, leaf_text}
use Rattle.toml_layout.specs.PartOutlines.{AreOwn, NoLinesStay, PartedSpells, is_lines, outlined, part}
use Rattle.toml_layout.specs.Parts.{AreParts, PartOutline, PartsAreOne, Comment, Newline, Ws, behind_first, first_part}
use Rattle.toml_layout.proofs.TextParts.{parts_text}

pub one_list : PartsAreOne
one_list text [] [] none other = refl
one_list text [] (q ∷ qs) none (some, is, rest) = absurd (some none)
one_list text (p ∷ ps) [] (some, is, rest) none = absurd (some none)
one_list text (p ∷ ps) (q ∷ qs) (some, is, rest) (other, same, more) = ap₂ (λ a b. a ∷ b) (is ∙ sym same) (one_list (behind_first text) ps qs rest more)

-- ---- texts

joined : (ps qs : List GapPart) → gap_parts_text (ps ++ qs) ≡ gap_parts_text ps ++ gap_parts_text qs
joined [] qs = refl
joined (p ∷ ps) qs = ap (λ t. gap_part_text p ++ t) (joined ps qs) ∙ sym (append_assoc (gap_part_text p) (gap_parts_text ps) (gap_parts_text qs))

own_text : (p : GapPart) (own : List GapPart) → AreOwn p own → gap_parts_text own ≡ gap_part_text p
own_text (parts.Ws ws) own is = ap gap_parts_text is ∙ append-nil (leaf_text ws)
own_text (parts.Comment comment) own is = ap gap_parts_text is ∙ append-nil (leaf_text comment)
own_text (parts.Newline newline) own is = ap gap_parts_text is ∙ append-nil (leaf_text newline)
own_text (parts.Lines lines) own is = parts_text (leaf_text lines) own is

pub parted_spells : PartedSpells
parted_spells [] all none = ap gap_parts_text none
parted_spells (p ∷ ps) all (own, rest, is, split, more) = ap gap_parts_text split ∙ joined own rest ∙ ap₂ ◌++◌ (own_text p own is) (parted_spells ps rest more)

-- ---- no lines

first_apart : (text : List ℕ) → is_lines (first_part text) ≡ false
first_apart text = by (nat_lt 0 (run_len is_ws text)) (nat_lt 0 (newline_len text)) (nat_lt 0 (run_len is_comment text)) _ _ _ _
  where
    by : (a b c : Bool) (x y z w : List ℕ) → is_lines (cond a (Ws x) (cond b (Newline y) (cond c (Comment z) (Comment w)))) ≡ false
    by true b c x y z w = refl
    by false true c x y z w = refl
    by false false true x y z w = refl
    by false false false x y z w = refl

pub parts_apart : (text : List ℕ) (ps : List PartOutline) → AreParts text ps → list_any is_lines ps ≡ false
parts_apart text [] none = refl
parts_apart text (p ∷ ps) (some, is, rest) =
    ap (λ b. b || list_any is_lines ps) (ap is_lines is ∙ first_apart text) ∙ parts_apart (behind_first text) ps rest

own_apart : (p : GapPart) (own : List GapPart) → AreOwn p own → list_any is_lines (outlined own) ≡ false
own_apart (parts.Ws ws) own is = ap (λ ps. list_any is_lines (outlined ps)) is
own_apart (parts.Comment comment) own is = ap (λ ps. list_any is_lines (outlined ps)) is
own_apart (parts.Newline newline) own is = ap (λ ps. list_any is_lines (outlined ps)) is
own_apart (parts.Lines lines) own is = parts_apart (leaf_text lines) (outlined own) is

any_joined : (ps qs : List PartOutline) → list_any is_lines ps ≡ false → list_any is_lines qs ≡ false → list_any is_lines (ps ++ qs) ≡ false
any_joined [] qs none other = other
any_joined (p ∷ ps) qs none other = by (is_lines p) none (λ off. any_joined ps qs off other)
  where
    by : (b : Bool) → (b || list_any is_lines ps) ≡ false → (list_any is_lines ps ≡ false → list_any is_lines (ps ++ qs) ≡ false)
        → (b || list_any is_lines (ps ++ qs)) ≡ false
    by true off behind = off
    by false off behind = behind off

pub no_lines_stay : NoLinesStay
no_lines_stay [] all none = ap (λ ps. list_any is_lines (outlined ps)) none
no_lines_stay (p ∷ ps) all (own, rest, is, split, more) =
    ap (λ qs. list_any is_lines (outlined qs)) split ∙ ap (list_any is_lines) (map-append part own rest)
    ∙ any_joined (outlined own) (outlined rest) (own_apart p own is) (no_lines_stay ps rest more)
