use Rattle.std.proofs.Common.{Some, ◌∙◌, ap, sym}
use Rattle.std.proofs.lemmas.Result.{err_from_is_err_and}
use Rattle.toml_scalar.specs.Faults.{place_of}
use Rattle.toml_scalar.proofs.Proved.{scalar_fault_at}
use Rattle.toml_tree.specs.ReadingValues.{scalar_at}
use Rattle.toml_tree.specs.Reads.{cursor}
use Rattle.toml_tree.proofs.Views.{value_scalar}
use Rattle.toml_tree.proofs.Taken.{scalar_taken, no_scalar, fails_here}
use Rattle.toml_tree.proofs.reader.Reader.scalar.Goals as goal

pub returns-in_err-span : goal.returns-in_err-span
returns-in_err-span c =
    let p = err_from_is_err_and c.from_residual.result c.from_residual.ensures.1 in
    let k = c.in_err-span.ensures in
    let here = cursor c.args.self.now in
    rw (p.1, p.2) (fails_here _ here (scalar_at here) (ap place_of k.1 ∙ scalar_fault_at here.rest here.at) (no_scalar here k.0))

pub returns : goal.returns
returns c =
    let k = c.in_ok-span.ensures in (
      scalar_taken (cursor c.args.self.now) k.0 c.in_ok-span.span.end k.2.end _ _ c.take_to.ensures.piece c.take_to.ensures.after _ k.1
          ∙ ap (λ v. Some (v, cursor c.take_to.new.self)) (sym (value_scalar c.in_ok-span.kind c.take_to.result)),
      c.take_to.ensures.onward,
    )
