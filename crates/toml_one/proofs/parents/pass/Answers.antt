use Rattle.std.specs.Option.{option_copied}
use Rattle.toml_names.specs.mentions.Mentions.{named}
use Rattle.toml_one.specs.Walking.{changes_of}
use Rattle.toml_one.proofs.Walked.{passed}
use Rattle.toml_one.proofs.parents.pass.Goals as goal

pub returns-clause-passed : goal.returns-clause-passed
returns-clause-passed c = λ lines here tree reached.
    passed c.args.names.now (named lines) c.args.front here reached c.args.step.now c.args.left.now c.args.edits.now.items c.push_made.new.edits.items c.in_ok-to.to c.in_ok-found.found
    (option_copied c.first.result) (changes_of c.in_ok-made.made) c.in_ok-found.ensures (c.in_ok-to.ensures.reached lines here tree reached) c.first.ensures.value c.in_ok-made.ensures c.in_ok-push_made.ensures
