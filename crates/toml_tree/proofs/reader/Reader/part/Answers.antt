use Rattle.std.proofs.Common.{◌∙◌, ap}
use Rattle.std.proofs.lemmas.Result.{err_from_is_err_and}
use Rattle.toml_scalar.specs.Faults.{place_of}
use Rattle.toml_scalar.proofs.Proved.{key_fault_at}
use Rattle.toml_tree.specs.Reading.{part_at}
use Rattle.toml_tree.specs.Reads.{cursor}
use Rattle.toml_tree.proofs.Taken.{part_taken, no_part, fails_here}
use Rattle.toml_tree.proofs.reader.Reader.part.Goals as goal

pub returns-in_err-span-clause-reads : goal.returns-in_err-span-clause-reads
returns-in_err-span-clause-reads c =
    let p = err_from_is_err_and c.from_residual.result c.from_residual.ensures.1 in
    let k = c.in_err-span.ensures in
    let here = cursor c.args.self.now in
    rw (p.1, p.2) (fails_here _ here (part_at here) (ap place_of k.1 ∙ key_fault_at here.rest here.at) (no_part here k.0))

pub returns-clause-reads : goal.returns-clause-reads
returns-clause-reads c =
    let k = c.in_ok-span.ensures in
    (part_taken (cursor c.args.self.now) k.0 c.in_ok-span.span.end k.3.end _ _ c.take_to.ensures.piece c.take_to.ensures.after k.1, c.take_to.ensures.onward)
