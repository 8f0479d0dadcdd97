use Rattle.std.proofs.Common.{◌≡◌, ◌≤◌, ◌<◌, ◌-◌, ℕ, length, slice_index_or}
use Rattle.toml_delivery.specs.Delivery.{IsWhole}
use Rattle.toml_delivery.proofs.delivery.emit_files.Given as goal

abbrev pub invariant-loop-at : goal.invariant-loop-at
invariant-loop-at g l = record {
  long : length l.files ≡ length l.initial.files;
  within : l.at ≤ length l.files;
  before : (n : ℕ) (d : _) (t : _) → n < l.at
      → IsWhole g.F.Write.contents (slice_index_or l.initial.files n d) (slice_index_or l.files n d) (slice_index_or l.texts n t).items;
  behind : (n : ℕ) (d : _) → l.at ≤ n → slice_index_or l.files n d ≡ slice_index_or l.initial.files n d;
}

abbrev pub decreases-loop-at : goal.decreases-loop-at
decreases-loop-at g l = length l.files - l.at
