use Rattle.toml_names.proofs.Common.{ap, Name}
use Rattle.toml_names.proofs.lemmas.model.Alike.{refused}
use Rattle.toml_names.proofs.lemmas.tree.Alike.{same_nowhere}
use Rattle.toml_names.proofs.lemmas.tree.NearData.{not_some}
use Rattle.toml_names.proofs.lemmas.tree.NodeData.{low_in}
use Rattle.toml_names.proofs.tree.name_tree.NameTree.same_beside.Goals as goal
use Rattle.toml_names.specs.tree.SameBelow.{step_in}

pub returns-in_default : goal.returns-in_default
returns-in_default c =
    let others = c.args.other.now.nodes.items in
    let none = ap (λ o. step_in others o (Name c.args.name.now)) (not_some c.args.there c.in_default.not-Some) in
    refused (same_nowhere c.args.self.now.nodes.items c.requires.tree c.args.id (low_in c.args.self.now.nodes c.requires.within) others _ none)
