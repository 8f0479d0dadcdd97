-- A tree that is put at a place spells its text there.
use Rattle.std.proofs.Common.{◌≡◌, ◌≤◌, ◌++◌, length, drop, sym, ap, ◌∙◌, subst}
use Rattle.std.proofs.Math.Seq.{drop-append_seam}
use Rattle.toml_tree.specs.Bare.{fresh}
use Rattle.toml_tree.specs.Places.{put_lines, PutValueSpells, PutLinesSpell, PutDocSpells}
use Rattle.toml_tree.specs.Spells.{joined, lines_parts, max_depth, mark_of, SpellLines}
use Rattle.toml_tree.proofs.Bared.{bare_lines_text}
use Rattle.toml_tree.proofs.PutFormed.{value_formed, same_depth, lines_formed}
use Rattle.toml_tree.proofs.PutPlaced.{value_placed, value_reads, lines_placed}
use Rattle.toml_tree.proofs.PutSame.{put_lines_same}
use Rattle.toml_tree.proofs.Unmarked.{lines_unmarked, marked_again}

pub put_value_spells : PutValueSpells
put_value_spells v at form shallow = record {
  form = value_formed v at form;
  shallow = subst (λ d. d ≤ max_depth) (sym (same_depth v at)) shallow;
  text_is = value_reads at v;
  placed = value_placed v at;
}

pub put_lines_spell : PutLinesSpell
put_lines_spell lines at forms = record {
  forms = lines_formed lines at forms;
  text_is = sym (bare_lines_text (put_lines at lines)) ∙ ap (λ ls. joined (lines_parts ls)) (put_lines_same lines at) ∙ bare_lines_text lines;
  placed = lines_placed lines at;
}

pub put_doc_spells : PutDocSpells
put_doc_spells text lines forms =
    let mark = mark_of text in
    let rest = joined (lines_parts lines) in
    let again : mark_of (mark ++ rest) ≡ mark = marked_again text rest (lines_unmarked lines forms) in
    let behind : drop (length (mark_of (mark ++ rest))) (mark ++ rest) ≡ rest = ap (λ m. drop (length m) (mark ++ rest)) again ∙ drop-append_seam mark rest in
    let lines_spell : SpellLines (put_lines (length mark) lines) (length (mark_of (mark ++ rest))) (drop (length (mark_of (mark ++ rest))) (mark ++ rest))
    = subst (λ t. SpellLines (put_lines (length mark) lines) (length (mark_of (mark ++ rest))) t) (sym behind)
    (subst (λ m. SpellLines (put_lines (length mark) lines) (length m) rest) (sym again) (put_lines_spell lines (length mark) forms)) in
    record { mark = ap fresh (sym again); lines = lines_spell }
