-- What `show --list` answers.
use Rattle.std.specs.Prelude.{◌≡◌, ◌⊎◌, ◌++◌, ◌∷◌, ℕ, List, [], map}
use Rattle.std.specs.List.{flat_map}
use Rattle.serde_json.specs.Data.{Data, array, number, string, unsigned}
use Rattle.serde_json.specs.View.{items_of}
use Rattle.serde_json.specs.Written.{compact_text}
use Rattle.toml_text.specs.Limit.{IsText}
use Rattle.toml_tree.specs.Profiles.{SpellsIn}
use Rattle.toml_tree.specs.Tree.{Doc}
use Rattle.toml_tree.specs.declared.profile.Profile.{Profile}
use Rattle.toml_names.specs.declared.model.address.Step.{Step}
use Rattle.toml_names.specs.declared.model.address.Step.TheVariants.{Name, Index}
use Rattle.toml_names.specs.model.Addresses.{Address}
use Rattle.toml_names.specs.mentions.FirstMentions.{first_mentions}
use Rattle.toml_names.specs.mentions.Mentions.{named}
use Rattle.toml_names.specs.reader.Names.{AreGood}
use Rattle.toml_delivery.specs.Outcomes.{Prints}
use Rattle.toml_commands.specs.Refusals.{Refuses}
use Rattle.toml_delivery.specs.declared.outcome.Outcome.{Outcome}

-- a name is a text, an index a number
abbrev pub step_json : Step → Data
step_json (Name n) = string n
step_json (Index i) = number (unsigned i)

-- the list of an address's steps
abbrev pub address_json : Address → Data
address_json at = array (items_of (map step_json at))

-- the JSON of an address in compact text, and LF
abbrev pub line_of : Address → List ℕ
line_of at = compact_text (address_json at) ++ 0x0A ∷ []

-- a line for each address
abbrev pub lines_of : List Address → List ℕ
lines_of = flat_map line_of

-- the bytes are a document of the profile, and the text lists the addresses of its mentions, each once, in the order of the first mentions
pub record ListsAddresses (profile : Profile) (bytes text : List ℕ) : Type 0 where
  pub limit : IsText bytes
  pub doc : Doc
  pub spelled : SpellsIn profile doc bytes
  pub good : AreGood doc.lines
  pub listed : text ≡ lines_of (first_mentions (named doc.lines))

-- the addresses of a document of the profile, and a refusal of other bytes
abbrev pub Lists : Profile → List ℕ → Outcome → Type 0
Lists profile bytes o = ((text : List ℕ) × ListsAddresses profile bytes text × Prints text o) ⊎ Refuses profile bytes o

-- Law: a document has at most one such text.
abbrev pub OneListing : Type 0
OneListing = (profile : Profile) (bytes l m : List ℕ) → ListsAddresses profile bytes l → ListsAddresses profile bytes m → l ≡ m
