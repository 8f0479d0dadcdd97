use Rattle.std.proofs.Common.{◌-◌, length, arith, refl}
use Rattle.toml_edits.proofs.Telling.{all_told, none_told, next_told}
use Rattle.toml_edits.proofs.moves.moves_of.Goals as goal

pub loop-count-init : goal.loop-count-init
loop-count-init c = none_told c.args.edits.now c.none-tree.result c.none-tree.ensures

pub loop-count-preserved : goal.loop-count-preserved
loop-count-preserved c =
    next_told c.args.edits.now c.loop-count.count (length c.args.edits.now - 1 - c.loop-count.count) c.index-edits-edits.result c.loop-count.tree c.add_front.new.self (omega (arith, c.loop-count-test.true)) refl c.index-edits-edits.is c.loop-count.invariant
    (λ cs tells. c.in_ok-told.ensures cs tells c.if-not-told.false)

pub returns : goal.returns
returns c = all_told c.args.edits.now c.loop-count.count c.loop-count.tree (omega (arith, c.loop-count-test.false)) c.loop-count.invariant
