use Rattle.std.proofs.Common.{ℕ, ◌<◌}
use Rattle.std.specs.Prelude.{slice_get}
use Rattle.toml_names.specs.model.Data.{kind_in}
use Rattle.toml_edits.specs.Reach.{Reaches}
use Rattle.toml_edits.proofs.Reaching.{NoneReaches}
use Rattle.toml_edits.proofs.reach.+reaches.Given as goal

abbrev pub invariant-item_reaches-loop-item : goal.invariant-item_reaches-loop-item
invariant-item_reaches-loop-item l = (i : ℕ) → i < l.item-index → ¬ Reaches (kind_in (slice_get l.items i)) l.steps

abbrev pub invariant-member_reaches-loop-member : goal.invariant-member_reaches-loop-member
invariant-member_reaches-loop-member l = NoneReaches l.steps l.member-iterator → NoneReaches l.steps l.members.entries
