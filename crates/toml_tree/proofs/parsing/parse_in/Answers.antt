use Rattle.std.proofs.Common.{map}
use Rattle.std.proofs.lemmas.Result.{err_from_is_err_and}
use Rattle.std.proofs.lemmas.Str.{IsCharBoundary-start, IsUtf8-from_is_utf8}
use Rattle.toml_text.specs.Source.{text_of}
use Rattle.toml_tree.specs.Lines.{line}
use Rattle.toml_tree.specs.Profiles.{SpellsIn}
use Rattle.toml_tree.specs.Reads.{cursor}
use Rattle.toml_tree.specs.View.{piece}
use Rattle.toml_tree.proofs.Exact.{found, refuses}
use Rattle.toml_tree.proofs.parsing.parse_in.Goals as goal

pub invariant_of-reader : goal.invariant_of-reader
invariant_of-reader c = record { bound = IsCharBoundary-start (text_of c.args.source) (IsUtf8-from_is_utf8 (text_of c.args.source) c.args.source.is_text.utf8) }

pub returns-in_err-lines-clause-refused : goal.returns-in_err-lines-clause-refused
returns-in_err-lines-clause-refused c =
    let p = err_from_is_err_and c.from_residual.result c.from_residual.ensures.1 in
    rw (p.1, p.2) (refuses c.args.profile (text_of c.args.source) _ (cursor c.mark-mark.new.self) c.mark-mark.ensures.onward.total c.mark-mark.ensures.after c.in_err-lines.ensures)

-- the mark and the lines are the text's tree
was_found : (c : goal.After-result-1) → SpellsIn c.args.profile (record { mark = piece c.mark-mark.result; lines = map line c.in_ok-lines.lines.items }) (text_of c.args.source)
was_found c = found c.args.profile (text_of c.args.source) (piece c.mark-mark.result) (map line c.in_ok-lines.lines.items) (cursor c.mark-mark.new.self) _ c.mark-mark.ensures.piece c.mark-mark.ensures.after c.in_ok-lines.ensures.0

pub invariant_of-result : goal.invariant_of-result
invariant_of-result c = record { spelled = ∣ (text_of c.args.source, (found c.args.profile (text_of c.args.source) _ (map line c.in_ok-lines.lines.items) (cursor c.mark-mark.new.self) _ c.mark-mark.ensures.piece c.mark-mark.ensures.after c.in_ok-lines.ensures.0).0) ∣₁ }

pub returns-clause-spelled : goal.returns-clause-spelled
returns-clause-spelled c = (was_found c).0

pub returns-clause-of_profile : goal.returns-clause-of_profile
returns-clause-of_profile c = (was_found c).1
