-- Which bytes are a document.
use Rattle.std.specs.Prelude.{ℕ, List}
use Rattle.toml_text.specs.Limit.{IsText}
use Rattle.toml_tree.specs.declared.profile.Profile.{Profile}
use Rattle.toml_tree.specs.Profiles.{IsOfProfile}
use Rattle.toml_tree.specs.Spells.{Spells}
use Rattle.toml_tree.specs.Tree.{Doc}
use Rattle.toml_names.specs.reader.Names.{AreGood}

-- a document of the profile: UTF-8 within the limit, spelled by a tree of the profile whose lines' mentions keep the table rules
-- and have no address of more than 100 steps
abbrev pub IsDocumentIn : Profile → List ℕ → Type 0
IsDocumentIn profile bytes = IsText bytes × (d : Doc) × Spells d bytes × AreGood d.lines × IsOfProfile profile d
