use Rattle.std.proofs.Common.{subst}
use Rattle.toml_one.specs.Wishes.{wished}
use Rattle.toml_commands.specs.Get.{IsBadPlace}
use Rattle.toml_delivery.specs.Outcomes.{Ends}
use Rattle.toml_commands.proofs.NoEdits.{none_of_document, none_of_place}
use Rattle.toml_commands.proofs.one.wished_or_none.Goals as goal

pub returns-in-Err : goal.returns-in-Err
returns-in-Err c =
    none_of_place c.args.profile c.args.file.now c.args.place.now (wished c.args.wish) c.in-Err.ending c.no_edits.result
    (subst (λ p. Ends (IsBadPlace p) c.in-Err.ending) c.as_bytes.ensures.value c.in-Err.ensures.refused) c.no_edits.ensures

pub returns : goal.returns
returns c =
    none_of_document c.args.profile c.args.file.now c.args.place.now (wished c.args.wish) c.in-Err-edits_of.ending c.no_edits-in-Err-edits_of.result
    c.in-Err-edits_of.ensures.refused c.no_edits-in-Err-edits_of.ensures
