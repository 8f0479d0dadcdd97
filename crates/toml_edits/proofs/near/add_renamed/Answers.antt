use Rattle.std.proofs.Common.{◌≡◌}
use Rattle.std.proofs.lemmas.Result.{on_ok_weaker}
use Rattle.toml_names.specs.model.AddressSets.{is_hidden}
use Rattle.toml_edits.specs.Near.{IsRenamed}
use Rattle.toml_edits.proofs.NearAddresses.{both_opened}
use Rattle.toml_edits.proofs.near.add_renamed.Goals as goal

pub returns : goal.returns
returns c =
    on_ok_weaker c.add_new_name.result
    (both_opened (λ p. p ≡ c.args.at.now) (IsRenamed c.args.at.now c.args.to.now) (is_hidden c.args.set.now) (is_hidden c.add_place.new.set) (is_hidden c.add_new_name.new.set) c.in_ok-add_place.ensures) c.add_new_name.ensures
