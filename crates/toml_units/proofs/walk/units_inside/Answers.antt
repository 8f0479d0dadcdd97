use Rattle.std.proofs.Common.{◌++◌, [], ap, ◌∙◌}
use Rattle.toml_tree.specs.View.{value}
use Rattle.toml_units.specs.Plain.{plain_inside}
use Rattle.toml_units.specs.View.{all_units}
use Rattle.toml_units.proofs.Plain.{plain_is_inside}
use Rattle.toml_units.proofs.walk.units_inside.Goals as goal

pub returns : goal.returns
returns c = λ n text h.
    let v = value c.args.v.now in
    c.in_ok-push_inside.ensures ∙ ap (λ us. all_units us ++ plain_inside c.root.result v) c.new-units.ensures.items ∙ ap (λ a. plain_inside a v) c.root.ensures ∙ plain_is_inside v [] n text h
