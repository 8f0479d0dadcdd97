-- A reader of lines that hands out one more, or the last, or refuses.
use Rattle.std.proofs.lemmas.List.{length-drop, length-take, length_push}
use Rattle.std.proofs.Common.{◌≡◌, ℕ, ◌≤◌, List, [], ◌∷◌, ◌++◌, length, Some, None, refl, ap, arith}
use Rattle.toml_scalar.specs.declared.fault.SyntaxFault.{SyntaxFault}
use Rattle.toml_tree.specs.declared.profile.Profile.{Profile}
use Rattle.toml_tree.specs.declared.step.Step.TheVariants.{Done}
use Rattle.toml_tree.specs.Document.{Refuses}
use Rattle.toml_tree.specs.HandedOut.{AreLinesIn, front_of, lines_from}
use Rattle.toml_tree.specs.Loops.{Loop}
use Rattle.toml_tree.specs.Reading.{Cursor, here, all_of}
use Rattle.toml_tree.specs.ReadingLines.{line_step, lines_at}
use Rattle.toml_tree.specs.Reads.{end, Fails}
use Rattle.toml_tree.specs.Spells.{mark_of}
use Rattle.toml_tree.specs.Tree.{Line}
use Rattle.toml_tree.proofs.Exact.{found, refuses}
use Rattle.toml_tree.proofs.Many.{loop_done, loop_none, Fails_over}
use Rattle.toml_tree.proofs.Marks.{mark_front}

no_lines : (p : Profile) (c : Cursor) → all_of (line_step p) c ≡ None → lines_at p c ≡ None
unfolding lines_at
no_lines p c none = rw none refl

all_lines : (p : Profile) (c d : Cursor) (front : List Line) (l : Line) → all_of (line_step p) c ≡ Some (front, l, d) → lines_at p c ≡ Some (front ++ l ∷ [], d)
unfolding lines_at
all_lines p c d front l all = rw all refl

whole : (text : List ℕ) → end (lines_from text) ≡ end (front_of text)
whole text =
    let n = length (mark_of text) in
    omega (arith, length-drop n text, ap length (mark_front text), length-take n text)

module _ (p : Profile) (text : List ℕ) (front : List Line) (now : Cursor) (behind : Loop (line_step p) front now (lines_from text)) where
  -- the reader stands in the text
  pub stands : now.at ≤ length text
  stands = omega (arith, behind.onward.total, whole text)

  pub refused : (e : SyntaxFault) → Fails (end now) e (line_step p now) → Refuses p text e
  refused e fails =
      refuses p text e (lines_from text) (whole text) refl
      (Fails_over e (end now) (end (lines_from text)) (line_step p now) (lines_at p (lines_from text)) fails behind.onward.total (λ n. no_lines p (lines_from text) (loop_none (line_step p) front now (lines_from text) behind n)))

  pub all_handed_out : (l : Line) (next : Cursor) → line_step p now ≡ Some (Done l, next) → length front ≤ now.at → AreLinesIn p text (front ++ l ∷ [])
  all_handed_out l next is few = record {
    spelled = found p text (here (length (mark_of text)) (front_of text)) (front ++ l ∷ []) (lines_from text) next refl refl (all_lines p (lines_from text) next front l (loop_done (line_step p) front now (lines_from text) next l behind is));
    few = omega (arith, stands, few, length_push front l);
  }
