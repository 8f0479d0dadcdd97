use Rattle.std.proofs.Common.{ap, ◌∙◌}
use Rattle.std.proofs.lemmas.Result.{on_ok_weaker}
use Rattle.toml_names.specs.model.AddressSets.{is_hidden}
use Rattle.toml_edits.specs.Near.{way_to}
use Rattle.toml_edits.proofs.NearAddresses.{place_opened}
use Rattle.toml_edits.proofs.near.add_place.Goals as goal

pub returns : goal.returns
returns c =
    on_ok_weaker c.add.result (place_opened c.args.at.now c.cut.result.now (is_hidden c.args.set.now) (is_hidden c.add.new.self) (c.cut.ensures ∙ ap way_to c.steps.ensures)) c.add.ensures.hides
