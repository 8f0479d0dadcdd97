use Rattle.std.proofs.Common.{◌++◌, List, refl, sym, ◌∙◌}
use Rattle.toml_edits.specs.Edits.{Change}
use Rattle.toml_checker.specs.EditLists.{changes}
use Rattle.toml_checker.specs.Walking.{HasPassed}
use Rattle.toml_checker.proofs.Going.{gone_none, gone_one, gone_end, gone_to}
use Rattle.toml_checker.proofs.Ahead.{none_ahead, one_ahead}
use Rattle.toml_checker.proofs.walk.FirstText.pass_to.Goals as goal

pub loop-self-init : goal.loop-self-init
loop-self-init c = record {
  goes = c.requires;
  text = refl;
  passes = λ profile ms h. gone_none (HasPassed profile (changes c.args.list.now) c.args.self.now) c.args.self.now.cursor c.args.self.now.passed ms c.args.number h;
}

pub loop-self-smaller : goal.loop-self-smaller
loop-self-smaller c = c.in_ok-pass.ensures.on.less

pub loop-self-preserved : goal.loop-self-preserved
loop-self-preserved c =
    let now = c.loop-self.self in
    let new = c.pass.new.self in
    let inv = c.loop-self.invariant in
    let cs : List Change = changes c.args.list.now in
    let x = one_ahead now.cursor c.unit.result c.is_some.result c.unit.ensures c.is_some.ensures c.if-is_some.true in
    record {
      goes = c.in_ok-pass.ensures.on.goes;
      text = c.pass.ensures.text ∙ inv.text;
      passes = λ profile ms h. let so_far = inv.passes profile ms h in
          gone_one so_far (HasPassed profile cs new) new.cursor new.passed x.0 x.1 c.in_ok-pass.ensures.on.count (sym c.lies_ahead.ensures ∙ c.loop-self-test.true)
          (c.in_ok-pass.ensures.passes cs c.in_ok-fate.ensures profile (ms ++ so_far.more) so_far.holds);
    }

pub returns-else-is_some-clause-passes : goal.returns-else-is_some-clause-passes
returns-else-is_some-clause-passes c = λ profile ms h. gone_end (c.loop-self.invariant.passes profile ms h) (none_ahead c.loop-self.self.cursor c.unit.result c.is_some.result c.unit.ensures c.is_some.ensures c.if-is_some.false)

pub returns-after-loop-self-clause-passes : goal.returns-after-loop-self-clause-passes
returns-after-loop-self-clause-passes c = λ profile ms h. gone_to (c.loop-self.invariant.passes profile ms h) (sym c.lies_ahead.ensures ∙ c.loop-self-test.false)
