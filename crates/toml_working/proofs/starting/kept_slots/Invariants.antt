use Rattle.std.proofs.Common.{◌≡◌, ℕ, List}
use Rattle.toml_working.proofs.Started.{StartedWith}
use Rattle.toml_working.specs.declared.working.Before.{Before}
use Rattle.toml_working.specs.Starting.{AreFacts, IsReadOf, read_of}
use Rattle.toml_working.proofs.starting.kept_slots.Given as goal

abbrev pub invariant-loop-first : goal.invariant-loop-first
invariant-loop-first l = (text : List ℕ) (before : Before) → before.units.now ≡ l.units → AreFacts before l.facts → IsReadOf text before
    → StartedWith text (read_of before) l.first l.slots.items
