-- The addresses of the nodes, which a fold from the left computes. A node's depth is at most its place among the nodes; the limit of steps is read off the depths.
use Rattle.toml_names.proofs.Common.{◌≡◌, ℕ, zero, suc, ◌+◌, ◌<◌, List, [], ◌∷◌, ◌++◌, length, Option, Some, None, refl, sym, ap, ◌∙◌, slice_index_or, slice_set, arith, rules, get_or_append_left, get_or_at, length_push, Step, Address, Spot, address_under, addresses_from, addresses, address_at, ◌≤◌, IsTree, nowhere, ◌||◌, Bool, true, false, cond, All, subst, cases_lt, All-nil, All-cons, All-head, All-tail, All-push, All-get_or, All-from_get_or, same_address, is_named, first_named, Named, IsTreeOf, KeepsAddresses, IsShort, max_steps}
use Rattle.toml_names.proofs.lemmas.model.Equal.{same_address-decides}

from-push : (nodes : List Spot) (s : Spot) (above : List Address)
    → addresses_from above (nodes ++ s ∷ []) ≡ addresses_from above nodes ++ address_under (addresses_from above nodes) s.under ∷ []
from-push [] s above = refl
from-push (x ∷ nodes) s above = from-push nodes s (above ++ address_under above x.under ∷ [])

pub addresses-push : (nodes : List Spot) (s : Spot) → addresses (nodes ++ s ∷ []) ≡ addresses nodes ++ address_under (addresses nodes) s.under ∷ []
addresses-push nodes s = from-push nodes s []

from-set : (nodes : List Spot) (k : ℕ) (d s : Spot) → (slice_index_or nodes k d).under ≡ s.under → k < length nodes → (above : List Address)
    → addresses_from above (slice_set nodes k s) ≡ addresses_from above nodes
from-set [] k d s same low above = absurd (omega arith)
from-set (x ∷ nodes) zero d s same low above = ap (λ u. addresses_from (above ++ address_under above u ∷ []) nodes) (sym same)
from-set (x ∷ nodes) (suc k) d s same low above = from-set nodes k d s same (omega arith) (above ++ address_under above x.under ∷ [])

pub addresses-set : (nodes : List Spot) (k : ℕ) (d s : Spot) → (slice_index_or nodes k d).under ≡ s.under → k < length nodes → addresses (slice_set nodes k s) ≡ addresses nodes
addresses-set nodes k d s same low = from-set nodes k d s same low []

length-from : (nodes : List Spot) (above : List Address) → length (addresses_from above nodes) ≡ length above + length nodes
length-from [] above = omega arith
length-from (x ∷ nodes) above =
    let more = length-from nodes (above ++ address_under above x.under ∷ []) in
    let pushed = length_push above (address_under above x.under) in
    omega arith

pub length-addresses : (nodes : List Spot) → length (addresses nodes) ≡ length nodes
length-addresses nodes = let long = length-from nodes [] in omega arith

-- what is there stays there
from-kept : (nodes : List Spot) (above : List Address) (i : ℕ) → i < length above → slice_index_or (addresses_from above nodes) i [] ≡ slice_index_or above i []
from-kept [] above i low = refl
from-kept (x ∷ nodes) above i low =
    let pushed = length_push above (address_under above x.under) in
    from-kept nodes (above ++ address_under above x.under ∷ []) i (omega arith) ∙ get_or_append_left above (address_under above x.under ∷ []) [] i low

pub address_under-kept : (nodes : List Spot) (above : List Address) (u : Option (ℕ × Step)) → ((p : ℕ) (s : Step) → u ≡ Some (p, s) → p < length above)
    → address_under above u ≡ address_under (addresses_from above nodes) u
address_under-kept nodes above None low = refl
address_under-kept nodes above (Some (p, s)) low = ap (λ a. a ++ s ∷ []) (sym (from-kept nodes above p (low p s refl)))

from-under : (nodes : List Spot) (k : ℕ) (d : Spot) → k < length nodes → (above : List Address)
    → ((p : ℕ) (s : Step) → (slice_index_or nodes k d).under ≡ Some (p, s) → p < length above + k)
    → slice_index_or (addresses_from above nodes) (length above + k) [] ≡ address_under (addresses_from above nodes) (slice_index_or nodes k d).under
from-under [] k d low above rising = absurd (omega arith)
from-under (x ∷ nodes) zero d low above rising =
    let here : List Address = above ++ address_under above x.under ∷ [] in
    let pushed = length_push above (address_under above x.under) in
    from-kept nodes here (length above + 0) (omega arith)
    ∙ get_or_at above (address_under above x.under) [] [] (length above + 0) (omega arith)
    ∙ address_under-kept (x ∷ nodes) above x.under (λ p s is. let low = rising p s is in omega arith)
from-under (x ∷ nodes) (suc k) d low above rising =
    let pushed = length_push above (address_under above x.under) in
    let same : length above + suc k ≡ length (above ++ address_under above x.under ∷ []) + k = omega arith in
    ap (λ i. slice_index_or (addresses_from (above ++ address_under above x.under ∷ []) nodes) i []) same
    ∙ from-under nodes k d (omega arith) (above ++ address_under above x.under ∷ []) (λ p s is. let low = rising p s is in omega arith)

-- the address of a node, by where it hangs
pub address_at-under : (nodes : List Spot) (k : ℕ) (d : Spot) → k < length nodes → ((p : ℕ) (s : Step) → (slice_index_or nodes k d).under ≡ Some (p, s) → p < k)
    → address_at nodes k ≡ address_under (addresses nodes) (slice_index_or nodes k d).under
address_at-under nodes k d low rising = search (rules, from-under)

module _ (nodes : List Spot) (tree : IsTree nodes) where
  -- by where it hangs, the nodes before it being so
  by_under : (k : ℕ) (u : Option (ℕ × Step)) → ((p : ℕ) (s : Step) → u ≡ Some (p, s) → p < k)
      → ((p : ℕ) → p < k → length (address_at nodes p) ≤ p) → length (address_under (addresses nodes) u) ≤ k
  by_under k None rising earlier = omega arith
  by_under k (Some (p, s)) rising earlier =
      let low = rising p s refl in
      let short = earlier p low in
      let pushed = length_push (address_at nodes p) s in
      omega arith

  up_to : (n k : ℕ) → k < n → k < length nodes → length (address_at nodes k) ≤ k
  up_to zero k few low = absurd (omega arith)
  up_to (suc n) k few low =
      let short = by_under k (slice_index_or nodes k nowhere).under (λ p s is. tree.rising k nowhere p s low is) (λ p lower. up_to n p (omega arith) (omega arith)) in
      let is = ap length (address_at-under nodes k nowhere low (λ p s is. tree.rising k nowhere p s low is)) in
      omega arith

  pub depth_read : (k : ℕ) (v : Spot) → k < length nodes → v ≡ slice_index_or nodes k v → v.depth ≤ k
  depth_read k v low read = search (rules, up_to)

abbrev IsShortAddress : Address → Type 0
IsShortAddress at = length at ≤ max_steps

abbrev pub OfShort : Named → Type 0
OfShort m = length m.address ≤ max_steps

-- what is named already is short as what was named so
named_again : (earlier : List Named) (at : Address) → is_named earlier at ≡ true → IsShort earlier → length at ≤ max_steps
named_again [] at some short = let h : false ≡ true = some in cc
named_again (e ∷ es) at some short = by (same_address e.address at) refl (named_again es at)
  where
    by : (b : Bool) → same_address e.address at ≡ b → (is_named es at ≡ true → IsShort es → length at ≤ max_steps) → length at ≤ max_steps
    by true same rest = subst (λ a. length a ≤ max_steps) ((same_address-decides e.address at).0 same) (All-head OfShort e es short)
    by false other rest = rest (sym (ap (λ b. b || is_named es at) other) ∙ some) (All-tail OfShort e es short)

pub short_from_firsts : (ms earlier : List Named) → IsShort earlier → All IsShortAddress (first_named earlier ms) → IsShort ms
short_from_firsts [] earlier before firsts = All-nil OfShort
short_from_firsts (m ∷ ms) earlier before firsts = by (is_named earlier m.address) refl firsts (short_from_firsts ms (earlier ++ m ∷ []))
  where
    by : (b : Bool) → is_named earlier m.address ≡ b
        → All IsShortAddress (cond b (first_named (earlier ++ m ∷ []) ms) (m.address ∷ first_named (earlier ++ m ∷ []) ms))
        → (IsShort (earlier ++ m ∷ []) → All IsShortAddress (first_named (earlier ++ m ∷ []) ms) → IsShort ms) → IsShort (m ∷ ms)
    by true some rest more =
        let here : length m.address ≤ max_steps = named_again earlier m.address some before in
        All-cons OfShort m ms here (more (All-push OfShort earlier m before here) rest)
    by false none rest more =
        let here : length m.address ≤ max_steps = All-head IsShortAddress m.address (first_named (earlier ++ m ∷ []) ms) rest in
        All-cons OfShort m ms here (more (All-push OfShort earlier m before here) (All-tail IsShortAddress m.address (first_named (earlier ++ m ∷ []) ms) rest))

pub short_firsts : (ms earlier : List Named) → IsShort ms → All IsShortAddress (first_named earlier ms)
short_firsts [] earlier short = All-nil IsShortAddress
short_firsts (m ∷ ms) earlier short = search (rules, All-tail, All-cons, All-head, short_firsts ms (earlier ++ m ∷ []) (All-tail OfShort m ms short))

-- the nodes from one on have short addresses
abbrev pub AreShortFrom : ℕ → List Spot → Type 0
AreShortFrom start nodes = (k : ℕ) → start ≤ k → k < length nodes → length (address_at nodes k) ≤ max_steps

module _ (nodes : List Spot) (ms : List Named) (stands : IsTreeOf nodes ms) where
  pub short_nodes : IsShort ms → AreShortFrom 0 nodes
  short_nodes short = search (rules, All-get_or, length-addresses, short_firsts)

  pub short_from_nodes : AreShortFrom 0 nodes → IsShort ms
  short_from_nodes all =
      short_from_firsts ms [] (All-nil OfShort)
      (subst (All IsShortAddress) stands.firsts (All-from_get_or IsShortAddress (addresses nodes) [] (λ k low. all k (omega arith) (omega (arith, length-addresses nodes, low)))))

-- nodes that were added: what was named stays short exactly where they are short
module _ (old new : List Spot) (kept : KeepsAddresses old new) (ms more : List Named) (before : IsTreeOf old ms) (after : IsTreeOf new (ms ++ more)) where
  pub stays_short : IsShort ms → AreShortFrom (length old) new → IsShort (ms ++ more)
  stays_short short added = search (rules, short_from_nodes, cases_lt, short_nodes)

  pub grows_long : (AreShortFrom (length old) new → ⊥) → ¬ IsShort (ms ++ more)
  grows_long long short = long (λ k high low. short_nodes new (ms ++ more) after short k (omega arith) low)
