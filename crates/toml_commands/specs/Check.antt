-- What `check` answers.
use Rattle.std.specs.Prelude.{◌⊎◌, ℕ, List, codes}
use Rattle.toml_tree.specs.declared.profile.Profile.{Profile}
use Rattle.toml_names.specs.model.Documents.{IsDocumentIn}
use Rattle.toml_delivery.specs.Outcomes.{Prints}
use Rattle.toml_commands.specs.Refusals.{Refuses}
use Rattle.toml_delivery.specs.declared.outcome.Outcome.{Outcome}

-- `ok` and LF exactly for documents of the profile
abbrev pub Checks : Profile → List ℕ → Outcome → Type 0
Checks profile bytes o = (IsDocumentIn profile bytes × Prints (codes "ok\n") o) ⊎ Refuses profile bytes o
