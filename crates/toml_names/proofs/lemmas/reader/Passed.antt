-- What is left of a text behind a line that was handed out.
use Rattle.toml_names.proofs.Common.{◌<◌, ◌+◌, ℕ, List, [], ◌∷◌, ◌++◌, Option, Some, None, Ok, arith, line as tree_line, Line}
use Rattle.toml_tree.specs.HandedOut.{HandsOn}
use Rattle.toml_tree.specs.declared.line.Line as declared
use Rattle.toml_tree.specs.declared.line_reader.LineReader.{LineReader}
use Rattle.toml_tree.specs.declared.profile.Profile.{Profile}
use Rattle.toml_names.specs.reader.Texts.{AreLeft, more_left}

pub less_is_left : (profile : Profile) (text : List ℕ) (front : List Line) (n : ℕ) (l : declared.Line) (more : Option LineReader)
    → HandsOn profile text front n (Ok (l, more)) → AreLeft profile text (front ++ tree_line l ∷ []) more × (more_left more < n + 1)
less_is_left profile text front n l (Some r) h = (h.0, omega (arith, h.1))
less_is_left profile text front n l None h = (h, omega arith)
