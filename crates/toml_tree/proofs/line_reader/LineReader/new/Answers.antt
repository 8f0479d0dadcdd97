use Rattle.std.proofs.Common.{[], refl, sym, subst, arith}
use Rattle.std.proofs.lemmas.Str.{IsCharBoundary-start, IsUtf8-from_is_utf8}
use Rattle.toml_text.specs.Source.{text_of}
use Rattle.toml_tree.specs.HandedOut.{lines_from}
use Rattle.toml_tree.specs.Loops.{Loop}
use Rattle.toml_tree.specs.Reading.{Cursor}
use Rattle.toml_tree.specs.ReadingLines.{line_step}
use Rattle.toml_tree.specs.Reads.{cursor}
use Rattle.toml_tree.proofs.HandedOut.{stands}
use Rattle.toml_tree.proofs.Many.{loop_start}
use Rattle.toml_tree.proofs.line_reader.LineReader.new.Goals as goal

pub invariant_of-reader : goal.invariant_of-reader
invariant_of-reader c = record { bound = IsCharBoundary-start (text_of c.args.source) (IsUtf8-from_is_utf8 (text_of c.args.source) c.args.source.is_text.utf8) }

pub returns : goal.returns
returns c =
    let text = text_of c.args.source in
    let behind : Loop (line_step c.args.profile) [] (cursor c.mark.new.self) (lines_from text) =
    subst (λ (now : Cursor). Loop (line_step c.args.profile) [] now (lines_from text)) (sym c.mark.ensures.after) (loop_start (line_step c.args.profile) (lines_from text)) in
    record {
      profile_is = refl;
      behind = behind;
      few = omega arith;
      within = stands c.args.profile text [] (cursor c.mark.new.self) behind;
    }
