-- How far a loop has come that reads step by step, against `all_of`.
use Rattle.std.specs.Prelude.{◌≡◌, ◌<◌, ℕ, List, ◌++◌, length, Option, Some, None}
use Rattle.toml_tree.specs.Reading.{Cursor, many, all_of}
use Rattle.toml_tree.specs.Reads.{Onward}
use Rattle.toml_tree.specs.declared.step.Step.{Step}

-- what is read, behind what was read before
abbrev pub prefixed : {A B : Type 0} → List A → Option (List A × B × Cursor) → Option (List A × B × Cursor)
prefixed front None = None
prefixed front (Some s) = Some (front ++ s.0, s.1, s.2)

-- from `first` on, `front` was read, if all is read to the end, and the reader now stands at `now`
pub record Loop {A B : Type 0} (step : Cursor → Option (Step A B × Cursor)) (front : List A) (now first : Cursor) : Type 0 where
  pub fuel : ℕ
  pub enough : length now.rest < fuel
  pub same : all_of step first ≡ prefixed front (many step fuel now)
  pub onward : Onward first now
