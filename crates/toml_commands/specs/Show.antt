-- What `show` answers.
use Rattle.std.specs.Prelude.{◌≡◌, ◌⊎◌, ◌++◌, ◌∷◌, ℕ, List, []}
use Rattle.serde_json.specs.Data.{Data}
use Rattle.serde_json.specs.Written.{compact_text}
use Rattle.toml_text.specs.Limit.{IsText}
use Rattle.toml_tree.specs.Profiles.{SpellsIn}
use Rattle.toml_tree.specs.Tree.{Doc}
use Rattle.toml_tree.specs.declared.profile.Profile.{Profile}
use Rattle.toml_names.specs.model.Data.{Kinds, IsDataOf}
use Rattle.toml_names.specs.mentions.Mentions.{named}
use Rattle.toml_names.specs.reader.Names.{AreGood}
use Rattle.toml_print.specs.Tagged.{IsTagged}
use Rattle.toml_delivery.specs.Outcomes.{Prints}
use Rattle.toml_commands.specs.Refusals.{Refuses}
use Rattle.toml_delivery.specs.declared.outcome.Outcome.{Outcome}

-- the line is the data's tagged JSON in compact text, and LF
pub record IsLineOf (kinds : Kinds) (line : List ℕ) : Type 0 where
  pub json : Data
  pub tagged : IsTagged kinds json
  pub is : line ≡ compact_text json ++ 0x0A ∷ []

-- the bytes are a document of the profile, and the line is that of its data
pub record ShowsData (profile : Profile) (bytes line : List ℕ) : Type 0 where
  pub text : IsText bytes
  pub doc : Doc
  pub spelled : SpellsIn profile doc bytes
  pub good : AreGood doc.lines
  pub kinds : Kinds
  pub facts : IsDataOf (named doc.lines) kinds
  pub shown : IsLineOf kinds line

-- the data of a document of the profile, and a refusal of other bytes
abbrev pub Shows : Profile → List ℕ → Outcome → Type 0
Shows profile bytes o = ((line : List ℕ) × ShowsData profile bytes line × Prints line o) ⊎ Refuses profile bytes o

-- Law: a document has at most one line.
abbrev pub OneLine : Type 0
OneLine = (profile : Profile) (bytes l m : List ℕ) → ShowsData profile bytes l → ShowsData profile bytes m → l ≡ m
