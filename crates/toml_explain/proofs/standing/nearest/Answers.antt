use Rattle.std.proofs.Common.{◌<◌, length, arith, sym, subst}
use Rattle.std.specs.Prelude.{IfSome}
use Rattle.toml_explain.specs.Standing.{IsNearest}
use Rattle.toml_explain.proofs.Fronts.{name_at, some_holds}
use Rattle.toml_explain.proofs.standing.nearest.Goals.{in-Some+then-changes-least, in-Some+else-changes-least, in_default}
use Rattle.toml_explain.proofs.standing.nearest.Goals as goal

pub loop-member-preserved : goal.loop-member-preserved
loop-member-preserved c =
    let members = c.args.members.now in
    let low : c.loop-member.member-index < length members = omega (arith, c.loop-member-test.true, c.loop-member.auto.member-index-end) in
    elim c.match-branch-2.branch [
      | in-Some+then-changes-least w ↦ subst (λ o. IfSome o (IsNearest members c.args.name.now)) (sym w.best-is) (name_at members c.loop-member.member-index _ c.args.name.now low (some_holds _ _ _ w.in-Some.is c.in_ok-changes.ensures))
      | in-Some+else-changes-least w ↦ subst (λ o. IfSome o (IsNearest members c.args.name.now)) (sym w.best-is) c.loop-member.invariant
      | in_default w ↦ subst (λ o. IfSome o (IsNearest members c.args.name.now)) (sym w.best-is) c.loop-member.invariant
    ]
