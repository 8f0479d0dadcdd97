use Rattle.std.proofs.Common.{arith}
use Rattle.toml_checker.proofs.Edits.{led_on, stopped}
use Rattle.toml_edits.specs.Drafts.{drafted}
use Rattle.toml_names.specs.model.Data.{kind_at}
use Rattle.toml_checker.proofs.facts.data_after.Goals as goal

pub returns-in-Err : goal.returns-in-Err
returns-in-Err c =
    stopped c.args.profile c.args.edits.now c.loop-edit.edit-index c.edit-item.result (kind_at c.args.old.root) (drafted c.loop-edit.draft) c.in-Err.fault (omega arith) c.edit-item.is c.loop-edit.invariant c.in_ok-told.ensures c.in-Err.ensures.fault

pub loop-edit-preserved : goal.loop-edit-preserved
loop-edit-preserved c =
    led_on c.args.profile c.args.edits.now c.loop-edit.edit-index c.edit-item.result (kind_at c.args.old.root) (drafted c.loop-edit.draft) (drafted c.apply.new.self) (omega arith) c.edit-item.is c.loop-edit.invariant c.in_default.ensures.ok
