use Rattle.toml_names.proofs.Common.{refl, sym, ap, ◌∙◌, lookup, bytes_eq, children_of, children_behind}
use Rattle.toml_names.proofs.lemmas.tree.Distinct.{found_in_few, found_behind, not_in_few, lookup-children_of}
use Rattle.toml_names.proofs.tree.name_map.NameMap.get.Goals as goal

pub returns-in-Some : goal.returns-in-Some
returns-in-Some c =
    found_in_few (children_of c.self.inside.few.items) (children_behind c.self.inside.rest) c.args.self.now c.self.view_is c.args.name.now c.in-Some.id
    (sym c.in-Some.is ∙ c.find.ensures ∙ ap (λ es. lookup (bytes_eq c.args.name.now) (children_of es)) c.deref.ensures.value)

pub returns-in-Some-rest : goal.returns-in-Some-rest
returns-in-Some-rest c =
    let none = not_in_few c.args.name.now c.args.name.now c.deref.result.now c.self.inside.few.items c.find.result c.find.ensures refl c.deref.ensures.value c.in_default.is in
    c.copied.ensures ∙ c.get.ensures.value ∙ sym (lookup-children_of c.args.name.now c.deref-in-Some-rest.result.now.entries)
    ∙ ap (λ m. lookup (bytes_eq c.args.name.now) (children_of m.entries)) c.deref-in-Some-rest.ensures
    ∙ ap (λ o. lookup (bytes_eq c.args.name.now) (children_behind o)) (sym c.in-Some-rest.is)
    ∙ found_behind (children_of c.self.inside.few.items) (children_behind c.self.inside.rest) c.args.self.now c.self.view_is c.args.name.now none
