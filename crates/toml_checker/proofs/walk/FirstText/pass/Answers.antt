use Rattle.std.proofs.Common.{ap, sym, subst, ◌∙◌}
use Rattle.std.proofs.lemmas.Result.{on_ok_weaker}
use Rattle.toml_units.specs.Cursors.{Walks}
use Rattle.toml_checker.specs.Traces.{Met, kept_past, kept_with, lined_of}
use Rattle.toml_checker.proofs.Counted.{goes_on, one_more}
use Rattle.toml_checker.proofs.Traced.{kept_push, lined_push}
use Rattle.toml_checker.specs.Traces.{nothing_kept}
use Rattle.toml_checker.proofs.walk.FirstText.pass.Goals as goal

pub returns-clause-on : goal.returns-clause-on
returns-clause-on c =
    let old = c.args.self.now in
    goes_on old.cursor old.passed c.step.new.self c.saturating_add-self.result c.requires.goes c.requires.some c.saturating_add-self.ensures c.step.result c.step.ensures

pub returns-clause-passes : goal.returns-clause-passes
returns-clause-passes c = λ cs sees profile ms h.
    let old = c.args.self.now in
    on_ok_weaker c.step.result (λ moves x is. let m : Met = record { lined = x; paired = c.args.paired } in record {
      walks = subst (Walks profile old.text.now c.step.new.self) (sym (lined_push ms m)) (moves.walks x is);
      kept = c.past-self.ensures ∙ ap (λ s. kept_past old.kept s c.args.paired) (sees x is) ∙ ap (λ k. kept_with cs k x.unit c.args.paired) h.kept ∙ sym (kept_push cs nothing_kept ms m);
      passed = one_more ms m old.passed c.saturating_add-self.result h.passed c.saturating_add-self.ensures;
    }) (c.step.ensures profile old.text.now (lined_of ms) h.walks)
