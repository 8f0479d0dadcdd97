use Rattle.std.proofs.Common.{rules, ◌≡◌, ◌+◌, ◌-◌, Some, unwrap_or, ap, ◌∙◌, nat_cmp, arith}
use Rattle.std.proofs.lemmas.Map.Text.{btree_map_updates_str}
use Rattle.std.specs.BTreeMap.{get_by}
use Rattle.std.specs.Cmp.Lexicographic.{slice_cmp}
use Rattle.toml_checker.proofs.Counts.{one_less}
use Rattle.toml_checker.proofs.counting.take_one.Goals as goal

pub returns-then-count-gt0-clause-left : goal.returns-then-count-gt0-clause-left
returns-then-count-gt0-clause-left c = λ h.
    let w = c.in-Some.count.now - 1 in
    let e : w + 1 ≡ c.in-Some.count.now = omega arith in
    one_less (λ t. get_by (λ k. slice_cmp nat_cmp t k.now) c.args.counts.now) (λ t. get_by (λ k. slice_cmp nat_cmp t k.now) (c.get_mut.follows.lender w)) c.args.text.now w
    (btree_map_updates_str c.args.text.now c.args.counts.now (c.get_mut.follows.lender w) (Some w) ((c.get_mut.follows.holds w).3 (search rules)))
    (e ∙ ap (λ o. unwrap_or o 0) c.in-Some.ensures.value)
