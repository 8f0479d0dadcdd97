use Rattle.toml_names.proofs.Common.{◌↔◌, IsTrue, subst, sym}
use Rattle.toml_names.specs.tree.HeldBeside.{ShowsBehind}
use Rattle.toml_names.proofs.tree.name_tree.NameTree.shows_behind.Goals as goal

pub returns-in-Some : goal.returns-in-Some
returns-in-Some c = subst (λ o. IsTrue c.are_elements_shown.result ↔ ShowsBehind c.args.self.now.nodes.items o c.args.from c.args.set.now) (sym c.in-Some.is) c.are_elements_shown.ensures
