use Rattle.toml_names.proofs.Common.{◌≡◌, List, ℕ, [], ◌∷◌, Some, IsSome, string_bytes, string_cmp, sym, subst, ◌∙◌, true≢false, All-turn, get, deref_pair, rules, Name, Datum, kind_at}
use Rattle.toml_names.specs.model.AddressSets.{below}
use Rattle.toml_names.specs.tree.HeldBeside.{HasMembers}
use Rattle.toml_names.specs.tree.SameBelow.{child_of}
use Rattle.toml_names.proofs.lemmas.model.Alike.{accepted, refused, each_none}
use Rattle.toml_names.proofs.lemmas.tree.HeldBeside.{HasEachNamed, member_some, members_there}
use Rattle.toml_names.proofs.tree.name_tree.NameTree.has_members.Goals as goal

pub returns-then-not-has_or_lacks : goal.returns-then-not-has_or_lacks
returns-then-not-has_or_lacks c =
    let nodes = c.args.self.now.nodes.items in
    let set = c.args.set.now in
    let gives = c.into_iter-name-iterator.ensures.into_iter_gives in
    let one : get string_cmp c.in-Table.members c.in-Some.name.now ≡ Some c.in-Some.field-0-1.now =
    All-turn deref_pair (λ e. get string_cmp c.in-Table.members e.0 ≡ Some e.1) _ _ _ _ _ _ _ gives.6 gives.0 c.loop-name.yielded_by c.in-Some.is c.next.ensures.steps in
    let name = string_bytes c.in-Some.name.now in
    let some = subst (λ (d : Datum). IsSome (kind_at d (Name name ∷ []))) (sym c.in-Table.is) (member_some c.in-Table.members name c.in-Some.field-0-1.now one) in
    refused (λ all.
    true≢false (sym (c.has_or_lacks.ensures.1 (subst (λ (n : List ℕ). IsSome (below set (Name n)) → IsSome (child_of nodes c.args.id n)) (sym c.as_str.ensures.value) (λ near. all name near some))) ∙ c.if-not-has_or_lacks.true))

pub returns : goal.returns
returns c =
    let nodes = c.args.self.now.nodes.items in
    let all : c.into_iter-name-iterator.result ≡ c.in-Table.members.entries = search rules in
    accepted (subst (HasMembers nodes c.args.id c.args.set.now) (sym c.in-Table.is) (members_there nodes c.args.id c.args.set.now c.in-Table.members
    (subst (HasEachNamed nodes c.args.id c.args.set.now) all (c.loop-name.invariant (each_none (λ n d. IsSome (below c.args.set.now (Name n)) → IsSome (child_of nodes c.args.id n)) _ c.in-None.ensures.steps.0)))))
