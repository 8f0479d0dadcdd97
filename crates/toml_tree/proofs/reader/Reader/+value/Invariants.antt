use Rattle.std.proofs.Common.{◌+◌, ◌*◌, length, map}
use Rattle.toml_tree.specs.ReadingValues.{item_step, pair_step, value_at}
use Rattle.toml_tree.specs.Reads.{cursor}
use Rattle.toml_tree.specs.View.{element, member}
use Rattle.toml_tree.proofs.Many.{Loop}
use Rattle.toml_tree.proofs.reader.Reader.+value.Given as goal

-- each reader calls those below it in this list, and `value` an array's with one level less
abbrev pub decreases-array : goal.decreases-array
decreases-array l = 6 * l.deep + 5

abbrev pub decreases-inline_table : goal.decreases-inline_table
decreases-inline_table l = 6 * l.deep + 5

abbrev pub decreases-items : goal.decreases-items
decreases-items l = 6 * l.deep + 4

abbrev pub decreases-pairs : goal.decreases-pairs
decreases-pairs l = 6 * l.deep + 4

abbrev pub decreases-item_step : goal.decreases-item_step
decreases-item_step l = 6 * l.deep + 3

abbrev pub decreases-pair_step : goal.decreases-pair_step
decreases-pair_step l = 6 * l.deep + 3

abbrev pub decreases-pair : goal.decreases-pair
decreases-pair l = 6 * l.deep + 2

abbrev pub decreases-keyval : goal.decreases-keyval
decreases-keyval l = 6 * l.deep + 1

abbrev pub decreases-value : goal.decreases-value
decreases-value l = 6 * l.deep

abbrev pub invariant-items-loop-items : goal.invariant-items-loop-items
invariant-items-loop-items l = Loop (item_step (value_at l.profile l.deep)) (map element l.items.items) (cursor l.self) (cursor l.initial.self)

abbrev pub decreases-items-loop-items : goal.decreases-items-loop-items
decreases-items-loop-items l = length (cursor l.self).rest

abbrev pub invariant-pairs-loop-pairs : goal.invariant-pairs-loop-pairs
invariant-pairs-loop-pairs l = Loop (pair_step l.profile (value_at l.profile l.deep)) (map member l.pairs.items) (cursor l.self) (cursor l.initial.self)

abbrev pub decreases-pairs-loop-pairs : goal.decreases-pairs-loop-pairs
decreases-pairs-loop-pairs l = length (cursor l.self).rest
