-- The spellings of the names that edits bring.
use Rattle.std.specs.Prelude.{◌≡◌, List, string_bytes}
use Rattle.std.specs.declared.alloc.Global.{Global}
use Rattle.std.specs.declared.string.String.{String}
use Rattle.toml_scalar.specs.Spelling.{spelled}
use Rattle.toml_edits.specs.Edits.{Change, insert, rename, new_section, new_element}
use Rattle.toml_editor.specs.declared.spelled.Spelled.{Spelled}
use Rattle.toml_working.specs.Spellings.{AreSteps}
use Rattle.toml_working.specs.Together.{GoTogether}

-- the new name of a `rename`
abbrev pub IsNewName : Change → String Global → Type 0
IsNewName (rename p to) text = string_bytes text ≡ spelled to
IsNewName _ text = Unit {0}

-- the steps of an `insert`, a `section` and an `element` are spelled, and the new name of a `rename`
abbrev pub IsSpelled : Change → Spelled → Type 0
IsSpelled (insert p text) s = AreSteps p s.steps.items
IsSpelled (new_section p) s = AreSteps p s.steps.items
IsSpelled (new_element p) s = AreSteps p s.steps.items
IsSpelled (rename p to) s = string_bytes s.to ≡ spelled to
IsSpelled _ s = Unit {0}

abbrev pub AreSpelled : List Change → List Spelled → Type 0
AreSpelled cs ss = GoTogether IsSpelled cs ss
