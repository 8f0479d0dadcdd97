use Rattle.std.proofs.Common.{map, sym, arith}
use Rattle.toml_names.specs.model.AddressSets.{is_hidden}
use Rattle.toml_edits.specs.Edits.{change}
use Rattle.toml_edits.proofs.NearAddresses.{all_near, gathered_all, gathered_more, none_gathered}
use Rattle.toml_edits.proofs.near.near_addresses.Goals as goal

pub loop-edit-init : goal.loop-edit-init
loop-edit-init c = none_gathered c.args.edits.now (is_hidden c.new-set.result) c.new-set.ensures.hides

pub loop-edit-preserved : goal.loop-edit-preserved
loop-edit-preserved c =
    gathered_more c.args.edits.now c.loop-edit.edit-index c.edit-item.result (omega (arith, c.loop-edit-test.true)) (sym c.edit-item.is) (is_hidden c.loop-edit.set) (is_hidden c.add_opened.new.set)
    c.in_ok-add_opened.ensures c.loop-edit.invariant

pub returns-clause-near : goal.returns-clause-near
returns-clause-near c =
    all_near (is_hidden c.loop-edit.set) (map change c.args.edits.now) (gathered_all c.args.edits.now c.loop-edit.edit-index (is_hidden c.loop-edit.set) (omega (arith, c.loop-edit-test.false)) c.loop-edit.invariant)

pub returns-clause-only : goal.returns-clause-only
returns-clause-only c = gathered_all c.args.edits.now c.loop-edit.edit-index (is_hidden c.loop-edit.set) (omega (arith, c.loop-edit-test.false)) c.loop-edit.invariant
