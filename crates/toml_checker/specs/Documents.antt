-- What holds of the one tree of a text, and of its data.
use Rattle.std.specs.Prelude.{ℕ, List}
use Rattle.toml_tree.specs.Spells.{Spells}
use Rattle.toml_tree.specs.Tree.{Doc}
use Rattle.toml_tree.specs.declared.profile.Profile.{Profile}
use Rattle.toml_names.specs.model.Data.{Kinds, IsDataOf}
use Rattle.toml_names.specs.mentions.Mentions.{named}
use Rattle.toml_edits.specs.Edits.{Change}
use Rattle.toml_edits.specs.Lists.{Lead}

-- a tree spells the text, and so it is of it
abbrev pub OfTree : List ℕ → (Doc → Type 0) → Type 0
OfTree text P = (d : Doc) × Spells d text × P d

-- there are data of the text, and so it is of them
abbrev pub OfData : List ℕ → (Kinds → Type 0) → Type 0
OfData text P = (d : Doc) × Spells d text × (kinds : Kinds) × IsDataOf (named d.lines) kinds × P kinds

-- each edit in turn is defined on the data so far
abbrev pub AreDefined : Profile → List Change → Kinds → Type 0
AreDefined profile cs old = (new : Kinds) × Lead profile cs old new
