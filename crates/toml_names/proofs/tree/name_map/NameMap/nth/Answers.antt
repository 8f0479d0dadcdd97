use Rattle.toml_names.proofs.Common.{◌≡◌, ◌-◌, ◌≤◌, ℕ, List, Some, length, slice_get, vec_len, sym, ap, subst, ◌∙◌, arith, Bor, ltb, get_or, length-map, slice_get-map, option_map, children_of, children_behind, AreDistinct}
use Rattle.toml_names.proofs.lemmas.tree.Distinct.{found_at, pair_in_few, pair_behind, pair_of, entry_at, past_few, within_few}
use Rattle.toml_names.proofs.tree.name_map.NameMap.nth.Goals as goal

pub returns-in-Some-clause-found : goal.returns-in-Some-clause-found
returns-in-Some-clause-found c =
    let few = c.self.inside.few.items in
    let low = c.in-Some.ensures.lookup.0 ∙ ap (λ l. ltb c.args.index (length l)) c.deref.ensures.value in
    let is = c.in-Some.ensures.lookup.1 ∙ ap (λ l. get_or l c.args.index c.in-Some.pair.now) c.deref.ensures.value in
    found_at c.args.self.now (subst AreDistinct c.self.view_is c.self.invariant) c.args.index c.as_str.result.now c.in-Some.pair.now.1
    (sym (pair_in_few (children_of few) (children_behind c.self.inside.rest) c.args.self.now c.self.view_is c.args.index (within_few few c.args.index low))
    ∙ entry_at few c.args.index c.in-Some.pair.now low is
    ∙ ap (λ n. Some (n, c.in-Some.pair.now.1)) (sym c.as_str.ensures.value))

pub returns-in_err-rest-clause-pair : goal.returns-in_err-rest-clause-pair
returns-in_err-rest-clause-pair c =
    let few = c.self.inside.few.items in
    let high : length (children_of few) ≤ c.args.index = past_few few c.args.index (c.in_default.ensures.lookup.0 ∙ ap (λ l. ltb c.args.index (length l)) c.deref.ensures.value) in
    ap (option_map (λ (e : Bor (List ℕ) × ℕ). (e.0.now, e.1))) c.from_residual.ensures
    ∙ ap (λ o. slice_get (children_behind o) (c.args.index - length (children_of few))) c.in_err-rest.ensures.value
    ∙ pair_behind (children_of few) (children_behind c.self.inside.rest) c.args.self.now c.self.view_is c.args.index high

pub returns-in_err-name-clause-pair : goal.returns-in_err-name-clause-pair
returns-in_err-name-clause-pair c =
    let few = c.self.inside.few in
    let entries = c.deref-2.result.now.entries in
    let high : length (children_of few.items) ≤ c.args.index = past_few few.items c.args.index (c.in_default.ensures.lookup.0 ∙ ap (λ l. ltb c.args.index (length l)) c.deref.ensures.value) in
    let behind : children_of entries ≡ children_behind c.self.inside.rest = ap (λ m. children_of m.entries) c.deref-2.ensures ∙ ap children_behind c.in_ok-rest.ensures.value in
    let long : vec_len few ≡ length (children_of few.items) = omega (arith, few.ok, length-map few.items pair_of) in
    let place : c.args.index - c.len.result ≡ c.args.index - length (children_of few.items) = ap (λ n. c.args.index - n) (c.len.ensures ∙ long) in
    ap (option_map (λ (e : Bor (List ℕ) × ℕ). (e.0.now, e.1))) c.from_residual-in_err-name.ensures
    ∙ ap (option_map pair_of) c.in_err-name.ensures.entry ∙ sym (slice_get-map pair_of entries (c.args.index - c.len.result))
    ∙ ap (slice_get (children_of entries)) place ∙ ap (λ l. slice_get l (c.args.index - length (children_of few.items))) behind
    ∙ pair_behind (children_of few.items) (children_behind c.self.inside.rest) c.args.self.now c.self.view_is c.args.index high

pub returns-clause-pair : goal.returns-clause-pair
returns-clause-pair c =
    let few = c.self.inside.few in
    let entries = c.deref-2.result.now.entries in
    let high : length (children_of few.items) ≤ c.args.index = past_few few.items c.args.index (c.in_default.ensures.lookup.0 ∙ ap (λ l. ltb c.args.index (length l)) c.deref.ensures.value) in
    let behind : children_of entries ≡ children_behind c.self.inside.rest = ap (λ m. children_of m.entries) c.deref-2.ensures ∙ ap children_behind c.in_ok-rest.ensures.value in
    let long : vec_len few ≡ length (children_of few.items) = omega (arith, few.ok, length-map few.items pair_of) in
    let place : c.args.index - c.len.result ≡ c.args.index - length (children_of few.items) = ap (λ n. c.args.index - n) (c.len.ensures ∙ long) in
    ap (λ n. Some (n, c.in_ok-name.id.now)) c.as_str-2.ensures.value
    ∙ ap (option_map pair_of) c.in_ok-name.ensures.entry ∙ sym (slice_get-map pair_of entries (c.args.index - c.len.result))
    ∙ ap (slice_get (children_of entries)) place ∙ ap (λ l. slice_get l (c.args.index - length (children_of few.items))) behind
    ∙ pair_behind (children_of few.items) (children_behind c.self.inside.rest) c.args.self.now c.self.view_is c.args.index high

pub returns-clause-found : goal.returns-clause-found
returns-clause-found c =
    found_at c.args.self.now (subst AreDistinct c.self.view_is c.self.invariant) c.args.index c.as_str-2.result.now c.in_ok-name.id.now (sym (returns-clause-pair c))
