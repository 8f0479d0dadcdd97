use Rattle.std.proofs.Common.{ℕ, get_or, subst}
use Rattle.std.proofs.lemmas.List.{get_or_default}
use Rattle.toml_checker.specs.Walking.{IsOn, PairTold}
use Rattle.toml_checker.proofs.Resting.{pairs_done, pairs_off, pairs_one}
use Rattle.toml_checker.proofs.walk.Walk.pair_all.Goals as goal

pub returns-then-not-branch : goal.returns-then-not-branch
returns-then-not-branch c = λ profile cs on.
    let ps = c.args.pairs.now in
    let n = c.loop-pair.pair-index in
    let p : ℕ × ℕ = get_or ps n (0, 0) in
    let low = c.loop-pair-test.true in
    let now = c.loop-pair.self in
    let h = c.loop-pair.invariant.pairs profile cs on in
    pairs_off profile cs c.args.self.now ps now n p low (get_or_default ps n (0, 0) p low) h c.pair.new.self (subst (PairTold profile cs now h.ms h.ns p c.pair.new.self) c.if-not-branch.true (c.in_ok-pair.ensures profile cs h.ms h.ns h.on))

pub loop-pair-preserved : goal.loop-pair-preserved
loop-pair-preserved c =
    let ps = c.args.pairs.now in
    let n = c.loop-pair.pair-index in
    let p : ℕ × ℕ = get_or ps n (0, 0) in
    let low = c.loop-pair-test.true in
    let now = c.loop-pair.self in
    let g = c.loop-pair.invariant.going in
    let on : IsOn g.0 g.1 now g.2 g.3 = g.4 in
    let told : PairTold g.0 g.1 now g.2 g.3 p c.pair.new.self c.in_ok-pair.field-0 = c.in_ok-pair.ensures g.0 g.1 g.2 g.3 on in
    record {
      going = (g.0, g.1, _, _, told.on);
      pairs = λ profile cs on. let h = c.loop-pair.invariant.pairs profile cs on in
          pairs_one profile cs c.args.self.now ps now n p low (get_or_default ps n (0, 0) p low) h c.pair.new.self (subst (PairTold profile cs now h.ms h.ns p c.pair.new.self) c.if-not-branch.false (c.in_ok-pair.ensures profile cs h.ms h.ns h.on));
    }

pub returns : goal.returns
returns c = λ profile cs on. pairs_done profile cs c.args.self.now c.args.pairs.now c.loop-pair.self c.loop-pair.pair-index c.loop-pair-test.false (c.loop-pair.invariant.pairs profile cs on)
