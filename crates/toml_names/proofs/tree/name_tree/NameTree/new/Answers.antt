-- The root alone, at which one thing is named.
use Rattle.toml_names.proofs.Common.{ap, ◌∙◌, ◌++◌, ◌∷◌, [], List, Spot, kind as kind_of, ◌≡◌, false, None, rules, Role, Kind, is_tables, IsTreeOf, leaf}
use Rattle.toml_names.proofs.tree.name_tree.NameTree.new.Goals as goal

root_alone : (r : Role) (kind : Kind) (made : List Spot) → made ≡ leaf None 0 r kind 0 ∷ [] → is_tables r ≡ false → IsTreeOf made (record { address = []; role = r; kind = kind; line = 0 } ∷ [])
root_alone r kind made is other = rw is (search rules)

pub returns-clause-root : goal.returns-clause-root
returns-clause-root c =
    root_alone c.args.role (kind_of c.args.kind) c.push.new.self.items
    (c.in_ok-push.ensures.items ∙ ap (λ (l : List Spot). l ++ c.leaf.result ∷ []) c.new-nodes.ensures.items ∙ ap (λ (s : Spot). s ∷ []) c.leaf.ensures) c.requires
