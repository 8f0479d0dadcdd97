use Rattle.std.proofs.Common.{◌∙◌, ap, inl, refl}
use Rattle.std.proofs.lemmas.Result.{err_from_is_err_and}
use Rattle.toml_edits.specs.Changed.{below}
use Rattle.toml_edits.specs.Drafts.{elements_at}
use Rattle.toml_edits.proofs.OpenEdits.{inserts}
use Rattle.toml_edits.proofs.open_array.OpenArray.insert.Goals as goal

pub returns-in_err-value-clause-made : goal.returns-in_err-value-clause-made
returns-in_err-value-clause-made c =
    let p = err_from_is_err_and c.from_residual.result c.from_residual.ensures.1 in
    record { fault = λ f stand. rw (p.1, p.2) (c.in_err-value.ensures.judged f stand); ok = λ f g stand made. rw p.1 tt }

pub returns-in-Err-clause-made : goal.returns-in-Err-clause-made
returns-in-Err-clause-made c = record { fault = λ f stand. inl refl; ok = λ f g stand made. tt }

pub returns-in-Ok-clause-made : goal.returns-in-Ok-clause-made
returns-in-Ok-clause-made c =
    let a = c.args.self.now in
    record {
      fault = λ f stand. tt;
      ok = λ f g stand made.
          let judged = c.in_ok-value.ensures.judged f stand in (
            judged.0,
            inserts a.elements a.at f stand c.args.profile c.args.at.now c.args.text.now c.args.index c.in_ok-value.value g c.requires judged.1 c.in_ok-value.ensures.room
                (λ p. made p ∙ ap (λ ds. below a.at (λ part. elements_at ds) f p) c.in-Ok.ensures.ok),
          );
    }
