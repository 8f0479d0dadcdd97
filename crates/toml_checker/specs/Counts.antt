-- How often texts stand in lists.
use Rattle.std.specs.Prelude.{◌≡◌, ◌+◌, ℕ, List, map, count_by, if◌then◌else◌}
use Rattle.std.specs.Borrow.{Bor}
use Rattle.std.specs.BTreeMap.{BTreeMap, get_by}
use Rattle.std.specs.Cmp.Lexicographic.{slice_cmp}
use Rattle.std.specs.Option.{unwrap_or}
use Rattle.std.specs.Ordering.{nat_cmp}
use Rattle.std.specs.Str.{bytes_eq}

abbrev pub Text : Type 0
Text = Bor (List ℕ)

abbrev pub plain : List Text → List (List ℕ)
plain ts = map (λ (x : Text). x.now) ts

-- how often the text is among the code's
abbrev pub seen : List ℕ → List Text → ℕ
seen t ts = count_by (λ (x : Text). bytes_eq t x.now) ts

abbrev pub Counts : Type 0
Counts = BTreeMap Text ℕ

-- how often a map says that it is
abbrev pub count_of : Counts → List ℕ → ℕ
count_of m t = unwrap_or (get_by (λ k. slice_cmp nat_cmp t k.now) m) 0

-- the new counts have the text once more, and each other one as often
abbrev pub HasOneMore : List ℕ → Counts → Counts → Type 0
HasOneMore text old new = (t : List ℕ) → count_of new t ≡ (if bytes_eq text t then count_of old t + 1 else count_of old t)
