use Rattle.toml_names.proofs.Common.{◌≡◌, ◌++◌, sym, ap, subst, ◌∙◌, append-nil, cow_str_bytes, children_of, children_behind, AreDistinct, rules}
use Rattle.toml_names.proofs.lemmas.tree.Distinct.{AreDistinct-push, AreDistinct-led, found_in_few, found_behind, not_in_few, children_of-push}
use Rattle.toml_names.proofs.tree.name_map.NameMap.find_or_insert.Goals as goal

pub returns-in-Some-clause-found : goal.returns-in-Some-clause-found
returns-in-Some-clause-found c = search (rules, found_in_few)

pub invariant_of-self : goal.invariant_of-self
invariant_of-self c =
    let name = cow_str_bytes c.args.name in
    let few = children_of c.self.inside.few.items in
    let none = not_in_few c.as_str.result.now name c.deref.result.now c.self.inside.few.items c.find.result c.find.ensures c.as_str.ensures.value c.deref.ensures.value c.in_default.is in
    let behind : children_behind c.self.inside.rest ≡ children_of c.deref_mut.result.now.entries =
    ap children_behind c.in-Some-rest.is ∙ ap (λ m. children_of m.entries) (sym c.deref_mut.ensures.value) in
    let led = c.find_or_insert_behind.ensures in
    AreDistinct-led few c.args.name c.args.id c.deref_mut.result.now.entries c.find_or_insert_behind.new.names.entries (subst (λ l. AreDistinct (few ++ l)) behind c.self.invariant) none
    c.find_or_insert_behind.result led.found led.known led.inserted led.unchanged

pub returns-in-Some-rest-clause-found : goal.returns-in-Some-rest-clause-found
returns-in-Some-rest-clause-found c = search (rules, not_in_few, found_behind)

pub invariant_of-self-in_ok-push_few : goal.invariant_of-self-in_ok-push_few
invariant_of-self-in_ok-push_few c = search (rules, not_in_few, append-nil, children_of-push, AreDistinct-push)

pub invariant_of-self-in_ok-one_behind-2 : goal.invariant_of-self-in_ok-one_behind-2
invariant_of-self-in_ok-one_behind-2 c = search (rules, not_in_few, append-nil, AreDistinct-push)
