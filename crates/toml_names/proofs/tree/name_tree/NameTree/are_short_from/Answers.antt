use Rattle.toml_names.proofs.Common.{◌≡◌, ◌≤◌, ◌<◌, ◌+◌, ◌-◌, ℕ, Bool, true, false, List, drop, take, length, get_or, IsTrue, MatchBool, ◌↔◌, refl, ap, ◌∙◌, subst, arith, rules, tests, HoldsAt, AllWithin, false≢true, get_or-drop, take_all, Spot, address_at, nowhere, IsTree}
use Rattle.std.proofs.Common.{length-drop}
use Rattle.std.proofs.lemmas.Iterator.{cases_from_all, YieldsList-from_slice}
use Rattle.toml_names.proofs.tree.name_tree.NameTree.are_short_from.Goals as goal

abbrev AreShort : List Spot → ℕ → Type 0
AreShort nodes start = (k : ℕ) → start ≤ k → k < length nodes → length (address_at nodes k) ≤ 100

-- the depth of a node behind the start
depth_is : (nodes : List Spot) (start i : ℕ) (d : Spot) → IsTree nodes → start + i < length nodes → (get_or (drop start nodes) i d).depth ≡ length (address_at nodes (start + i))
depth_is nodes start i d tree low = ap (λ (s : Spot). s.depth) (get_or-drop start nodes i d) ∙ tree.deep (start + i) d low

from_cases : (r : Bool) (nodes : List Spot) (start : ℕ) → IsTree nodes → start ≤ length nodes
    → MatchBool r (AllWithin (λ s. s.depth ≤ 100) (drop start nodes) 0 (length (drop start nodes))) ((k : ℕ) × (k < length (drop start nodes)) × HoldsAt (λ s. 100 < s.depth) (drop start nodes) k) → IsTrue r ↔ AreShort nodes start
from_cases true nodes start tree within h = (
  λ _ k from low.
      let i = k - start in
      let is : start + i ≡ k = omega arith in
      let low_i : start + i < length nodes = omega arith in
      let short : (get_or (drop start nodes) i nowhere).depth ≤ 100 = h i nowhere (omega arith) (omega (arith, length-drop start nodes)) in
      subst (λ n. length (address_at nodes n) ≤ 100) is (omega (arith, depth_is nodes start i nowhere tree low_i)),
  λ _. refl,
)
from_cases false nodes start tree within (i, low, long) = (
  λ e. absurd (false≢true e),
  λ short.
      let low_i : start + i < length nodes = omega (arith, length-drop start nodes) in
      let deep : 100 < (get_or (drop start nodes) i nowhere).depth = long nowhere in
      let bound : length (address_at nodes (start + i)) ≤ 100 = short (start + i) (omega arith) low_i in
      absurd (omega (arith, depth_is nodes start i nowhere tree low_i)),
)

-- what is behind the start
rest_is : (read nodes : List Spot) (start : ℕ) → read ≡ nodes → take (length read - start) (drop start read) ≡ drop start nodes
rest_is read nodes start is = take_all (length read - start) (drop start read) (omega (arith, length-drop start read)) ∙ ap (drop start) is

pub returns : goal.returns
returns c =
    let nodes = c.args.self.now.nodes.items in
    let within : c.args.start ≤ length nodes = omega (arith, ap length c.deref.ensures.value) in
    from_cases _ nodes c.args.start c.requires.tree within
    (cases_from_all _ _ _ (λ s. s.depth ≤ 100) (λ s. 100 < s.depth) c.all.ensures.ran (YieldsList-from_slice (drop c.args.start nodes) (c.iter.ensures.rest ∙ rest_is c.deref.result.now nodes c.args.start c.deref.ensures.value)) (λ x q k. search (rules, tests)) (λ x q k. search (rules, tests)))
