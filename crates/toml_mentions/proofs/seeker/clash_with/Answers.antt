use Rattle.std.proofs.Common.{arith, sym, ap, ◌∙◌, ◌≤◌, length}
use Rattle.toml_mentions.specs.Sought.{forbidden_by, role_of, seen_of}
use Rattle.toml_mentions.proofs.Sights.{forbids_at, forbids_none}
use Rattle.toml_mentions.proofs.seeker.clash_with.Goals as goal

pub returns-then-not-may_follow : goal.returns-then-not-may_follow
returns-then-not-may_follow c =
    sym (ap (λ o. forbidden_by o (seen_of c.args.again)) (forbids_at (role_of c.args.again.role) c.args.firsts.now c.loop-first.first-index _ c.loop-first-test.true c.loop-first.invariant
    (sym c.may_follow.ensures ∙ c.if-not-may_follow.true)))

pub returns : goal.returns
returns c =
    let past : length c.args.firsts.now ≤ c.loop-first.first-index = omega (arith, c.loop-first-test.false) in
    sym (ap (λ o. forbidden_by o (seen_of c.args.again)) (forbids_none (role_of c.args.again.role) c.args.firsts.now (λ k d low. c.loop-first.invariant k d (omega (arith, low, past)))))
