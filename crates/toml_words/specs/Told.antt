-- What the parser tells.
use Rattle.std.specs.Prelude.{◌≡◌, ◌⊎◌, ◌↔◌, IsTrue}
use Rattle.clap.specs.Words.{kind_of}
use Rattle.clap.specs.declared.error.Error.{Error}
use Rattle.clap.specs.declared.error.kind.ErrorKind.TheVariants.{DisplayHelp, DisplayVersion, OutOfMemory}
use Rattle.toml_words.specs.declared.told.ParserText.{ParserText}

-- a text was asked for: help, or the version
abbrev pub AsksForText : Error → Type 0
AsksForText error = (kind_of error ≡ DisplayHelp) ⊎ (kind_of error ≡ DisplayVersion)

-- such a text is told where it was asked for, else a mistake; want of memory is neither
pub record IsTold (error : Error) (told : ParserText) : Type 0 where
  pub memory : ¬ (kind_of error ≡ OutOfMemory)
  pub help : IsTrue told.is_help ↔ AsksForText error
