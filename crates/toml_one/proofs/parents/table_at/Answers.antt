use Rattle.toml_places.specs.Parts.{kinds_in}
use Rattle.toml_one.proofs.Standing.{no_element}
use Rattle.toml_one.proofs.parents.table_at.Goals as goal

pub returns-then-not-branch : goal.returns-then-not-branch
returns-then-not-branch c =
    no_element (kinds_in c.args.names.now c.args.above) c.args.step.now c.in-Index.index c.args.at.now c.in_ok-is_next_element-in-Index.field-0 c.in-Index.is c.if-not-branch.true c.in_ok-is_next_element-in-Index.ensures
