-- What is handed out of the edits that stand for a wish: those up to and with the first that puts something too deep.
use Rattle.std.specs.Prelude.{◌≡◌, Bool, false, if◌then◌else◌, List, [], ◌∷◌, length, nat_lt}
use Rattle.toml_names.specs.mentions.Rules.{max_steps}
use Rattle.toml_edits.specs.Edits.{Change, insert, new_section, new_element}

-- whether it puts something at an address of more than 100 steps
abbrev pub puts_too_deep : Change → Bool
puts_too_deep (insert at value) = nat_lt max_steps (length at)
puts_too_deep (new_section at) = nat_lt max_steps (length at)
puts_too_deep (new_element at) = nat_lt max_steps (length at)
puts_too_deep _ = false

-- the edits up to and with the first that puts something too deep; all of them where none does
abbrev pub up_to_too_deep : List Change → List Change
up_to_too_deep [] = []
up_to_too_deep (c ∷ cs) = c ∷ (if puts_too_deep c then [] else up_to_too_deep cs)

-- These are the edits of a list of which `P` holds, up to and with the first that puts something too deep. That one is refused, so those
-- behind it are never asked for.
pub record Keeps (P : List Change → Type 0) (some : List Change) : Type 0 where
  pub all : List Change
  pub are : P all
  pub kept : some ≡ up_to_too_deep all
