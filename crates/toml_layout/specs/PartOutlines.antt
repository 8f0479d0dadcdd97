-- The parts of a gap by their texts, whether an edit keeps a part or writes it anew; and what a gap is that is taken apart.
use Rattle.std.specs.Prelude.{◌≡◌, ℕ, Bool, true, false, List, [], ◌∷◌, ◌++◌, map}
use Rattle.std.specs.List.{list_any}
use Rattle.toml_layout.specs.declared.tree.GapPart.{GapPart}
use Rattle.toml_layout.specs.declared.tree.GapPart.TheVariants as parts
use Rattle.toml_layout.specs.OpenOutlines.{gap_parts_text, leaf_text}
use Rattle.toml_layout.specs.Parts.{AreParts, PartOutline, Ws, Comment, Newline, Lines}

abbrev pub part : GapPart → PartOutline
part (parts.Ws ws) = Ws (leaf_text ws)
part (parts.Comment comment) = Comment (leaf_text comment)
part (parts.Newline newline) = Newline (leaf_text newline)
part (parts.Lines lines) = Lines (leaf_text lines)

abbrev pub outlined : List GapPart → List PartOutline
outlined = map part

-- what becomes of a part of a gap that is taken apart: lines are taken apart, all else stays
abbrev pub AreOwn : GapPart → List GapPart → Type 0
AreOwn (parts.Ws ws) own = own ≡ parts.Ws ws ∷ []
AreOwn (parts.Comment comment) own = own ≡ parts.Comment comment ∷ []
AreOwn (parts.Newline newline) own = own ≡ parts.Newline newline ∷ []
AreOwn (parts.Lines lines) own = AreParts (leaf_text lines) (outlined own)

-- they are put behind others
abbrev pub AddsLines : List ℕ → List GapPart → List GapPart → Type 0
AddsLines text old new = (own : List GapPart) × AreParts text (outlined own) × (new ≡ old ++ own)

abbrev pub AddsParted : GapPart → List GapPart → List GapPart → Type 0
AddsParted p old new = (own : List GapPart) × AreOwn p own × (new ≡ old ++ own)

-- and of all of them
abbrev pub IsParted : List GapPart → List GapPart → Type 0
IsParted [] all = all ≡ []
IsParted (p ∷ ps) all = (own : List GapPart) × (rest : List GapPart) × AreOwn p own × (all ≡ own ++ rest) × IsParted ps rest

abbrev pub is_lines : PartOutline → Bool
is_lines (Ws text) = false
is_lines (Comment text) = false
is_lines (Newline text) = false
is_lines (Lines text) = true

-- Laws: the parts of a gap that is taken apart spell its text, and no lines are among them.
abbrev pub PartedSpells : Type 0
PartedSpells = (gap all : List GapPart) → IsParted gap all → gap_parts_text all ≡ gap_parts_text gap

abbrev pub NoLinesStay : Type 0
NoLinesStay = (gap all : List GapPart) → IsParted gap all → list_any is_lines (outlined all) ≡ false
