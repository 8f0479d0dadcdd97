-- The longest piece of a form that begins at a place of a text.
use Rattle.std.specs.Prelude.{◌<◌, ◌≤◌, ℕ, List, length, slice_range, Option, MatchOption}

-- The longest piece of the form that begins at `at` ends at `end`.
pub record IsLongest (Form : List ℕ → Type 0) (text : List ℕ) (at end : ℕ) : Type 0 where
  pub from : at ≤ end
  pub within : end ≤ length text
  pub piece : Form (slice_range text at end)
  pub longest : (later : ℕ) → end < later → later ≤ length text → ¬ Form (slice_range text at later)

-- No piece of the form begins at `at`.
abbrev pub BeginsNone : (List ℕ → Type 0) → List ℕ → ℕ → Type 0
BeginsNone Form text at = (end : ℕ) → at ≤ end → end ≤ length text → ¬ Form (slice_range text at end)

-- The answer is where the longest piece of the form at `at` ends, or none begins there.
abbrev pub IsLongestIfAny : (List ℕ → Type 0) → List ℕ → ℕ → Option ℕ → Type 0
IsLongestIfAny Form text at answer = MatchOption answer (BeginsNone Form text at) (IsLongest Form text at)
