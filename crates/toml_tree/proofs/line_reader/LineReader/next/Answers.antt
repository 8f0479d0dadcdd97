use Rattle.std.proofs.Common.{◌≡◌, ◌<◌, [], ◌∷◌, ◌++◌, Some, sym, subst, ◌∙◌, ap, arith}
use Rattle.std.proofs.lemmas.Result.{err_from_is_err_and}
use Rattle.toml_tree.specs.HandedOut.{line_read, lines_from}
use Rattle.toml_tree.specs.Lines.{line}
use Rattle.toml_tree.specs.ReadingLines.{line_step}
use Rattle.toml_tree.specs.Reads.{cursor, end, Fails, Moves, step}
use Rattle.toml_tree.specs.declared.step.Step.TheVariants.{Next, Done}
use Rattle.toml_tree.proofs.HandedOut.{refused, all_handed_out, stands}
use Rattle.std.proofs.lemmas.List.{length_push}
use Rattle.toml_tree.proofs.Many.{loop_next}
use Rattle.toml_tree.proofs.line_reader.LineReader.next.Goals as goal

pub returns-in_err-line-clause-hands : goal.returns-in_err-line-clause-hands
returns-in_err-line-clause-hands c = λ profile text front h.
    let p = err_from_is_err_and c.from_residual.result c.from_residual.ensures.1 in
    let fails = subst (λ p. Fails (end (cursor c.args.self.reader)) c.in_err-line.field-0.0 (line_step p (cursor c.args.self.reader))) h.profile_is c.in_err-line.ensures.reads in
    rw (p.1, p.2) (refused profile text front (cursor c.args.self.reader) h.behind _ fails)

pub returns-in-Next-clause-hands : goal.returns-in-Next-clause-hands
returns-in-Next-clause-hands c = λ profile text front h.
    let now = cursor c.args.self.reader in
    let next = cursor c.line_step.new.self in
    let reads = c.in_ok-line.ensures.reads in
    let is : line_step profile now ≡ Some (Next (line c.in-Next.line), next) =
    ap (λ q. line_step q now) (sym h.profile_is) ∙ reads.0 ∙ ap (λ s. Some (step line line s, next)) c.in-Next.is in
    let moved : now.at < next.at = subst (Moves now next) c.in-Next.is c.in_ok-line.ensures.moves in
    let behind = loop_next (line_step profile) front now (lines_from text) next (line c.in-Next.line) h.behind is reads.1 moved in (
      record {
        profile_is = h.profile_is;
        behind = behind;
        few = omega (arith, length_push front (line c.in-Next.line), h.few, moved);
        within = stands profile text (front ++ line c.in-Next.line ∷ []) next behind;
      },
      omega (arith, reads.1.total, moved),
    )

pub returns-in-Done-clause-hands : goal.returns-in-Done-clause-hands
returns-in-Done-clause-hands c = λ profile text front h.
    let now = cursor c.args.self.reader in
    let next = cursor c.line_step.new.self in
    let is : line_step profile now ≡ Some (Done (line c.in-Done.line), next) =
    ap (λ q. line_step q now) (sym h.profile_is) ∙ c.in_ok-line.ensures.reads.0 ∙ ap (λ s. Some (step line line s, next)) c.in-Done.is in
    all_handed_out profile text front now h.behind (line c.in-Done.line) next is h.few

pub returns-in-Next-clause-same : goal.returns-in-Next-clause-same
returns-in-Next-clause-same c = sym (ap line_read (c.in_ok-line.ensures.reads.0 ∙ ap (λ s. Some (step line line s, cursor c.line_step.new.self)) c.in-Next.is))

pub returns-in-Done-clause-same : goal.returns-in-Done-clause-same
returns-in-Done-clause-same c = sym (ap line_read (c.in_ok-line.ensures.reads.0 ∙ ap (λ s. Some (step line line s, cursor c.line_step.new.self)) c.in-Done.is))
