use Rattle.std.proofs.Common.{ap, sym, subst, ◌∙◌, [], ◌∷◌, ◌++◌, Vec, Global}
use Rattle.std.proofs.lemmas.Result.{err_from_is_err_and}
use Rattle.toml_places.specs.declared.place.PlaceStep.{PlaceStep}
use Rattle.toml_places.specs.declared.place.PlaceStep.TheVariants.{Name}
use Rattle.toml_places.specs.Reading.{named_at}
use Rattle.toml_places.specs.Reads.{cursor}
use Rattle.toml_places.proofs.Loops.{Loop, loop_start, loop_next, first_fails, step_takes}
use Rattle.toml_places.proofs.reader.Reader.named.Goals as goal

pub returns-in_err-part : goal.returns-in_err-part
returns-in_err-part c =
    let p = err_from_is_err_and c.from_residual.result c.from_residual.ensures.1 in
    rw (p.1, p.2) (first_fails (λ name. name) (λ (v : Vec PlaceStep Global). v.items) (cursor c.args.self) (cursor c.part.new.self) c.in_err-part.field-0.0 c.in_err-part.ensures)

pub loop-self-init : goal.loop-self-init
loop-self-init c = subst (λ l. Loop l (cursor c.part.new.self) (named_at (cursor c.args.self))) (sym (c.in_ok-push.ensures.items ∙ ap (λ l. l ++ Name c.in_ok-part.field-0 ∷ []) c.new-steps.ensures.items)) (loop_start (cursor c.args.self) (cursor c.part.new.self) c.in_ok-part.field-0 c.in_ok-part.ensures)

pub loop-self-smaller : goal.loop-self-smaller
loop-self-smaller c = step_takes (cursor c.loop-self.self) (cursor c.step.new.self) c.in_ok-step.field-0 c.in_ok-step.ensures

pub loop-self-preserved : goal.loop-self-preserved
loop-self-preserved c =
    subst (λ l. Loop l (cursor c.step.new.self) (named_at (cursor c.args.self))) (sym c.in_ok-push-2.ensures.items)
    (loop_next c.loop-self.steps.items (cursor c.loop-self.self) (cursor c.step.new.self) (named_at (cursor c.args.self)) c.in_ok-step.field-0 c.loop-self.invariant (sym c.is_at_end.ensures ∙ c.loop-self-test.true) c.in_ok-step.ensures)
