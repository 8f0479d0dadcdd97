use Rattle.std.proofs.Common.{[], ◌∷◌, ◌++◌, ap, sym, subst, ◌∙◌}
use Rattle.std.proofs.lemmas.Result.{on_ok_weaker}
use Rattle.toml_units.specs.Cursors.{Walks, current}
use Rattle.toml_units.specs.declared.cursor.UnitCursor.{UnitCursor}
use Rattle.toml_checker.specs.Added.{HasAdded}
use Rattle.toml_checker.specs.Traces.{Met, lined_of}
use Rattle.toml_checker.proofs.Counted.{goes_on_from, one_more}
use Rattle.toml_checker.proofs.Traced.{lined_push}
use Rattle.toml_checker.proofs.walk.SecondText.pass.Goals as goal

pub returns-clause-on : goal.returns-clause-on
returns-clause-on c =
    let old = c.args.self.now in
    let mid = c.add.new.self in
    let same = c.add.ensures.cursor in
    goes_on_from mid.cursor mid.passed old.cursor old.passed c.step.new.self c.saturating_add-self.result same c.add.ensures.passed c.requires.goes c.requires.some c.saturating_add-self.ensures c.step.result c.step.ensures

pub returns-clause-passes : goal.returns-clause-passes
returns-clause-passes c = λ profile ms h.
    let old = c.args.self.now in
    let asked = c.args.asked.now in
    let mid = c.add.new.self in
    on_ok_weaker c.step.result (λ moves x is. let m : Met = record { lined = x; paired = c.args.paired } in record {
      walks = subst (λ t. Walks profile t.now c.step.new.self (lined_of (ms ++ m ∷ []))) (sym c.add.ensures.text)
          (subst (Walks profile old.text.now c.step.new.self) (sym (lined_push ms m)) (moves.walks x (ap current c.add.ensures.cursor ∙ is)));
      added = subst (λ t. HasAdded asked t.now (ms ++ m ∷ []) mid.added) (sym c.add.ensures.text) (c.in_ok-add.ensures.added ms x h.added is);
      passed = one_more ms m mid.passed c.saturating_add-self.result (λ few. c.add.ensures.passed ∙ h.passed few) c.saturating_add-self.ensures;
    }) (c.step.ensures profile old.text.now (lined_of ms) (subst (λ (u : UnitCursor). Walks profile old.text.now u (lined_of ms)) (sym c.add.ensures.cursor) h.walks))
