-- The tree of a parsed document, and why a text is refused.
use Rattle.std.specs.Prelude.{◌≤◌, ℕ, List, length, map, IfSome}
use Rattle.toml_tree.specs.declared.document.Doc.{Doc}
use Rattle.toml_tree.specs.declared.profile.Profile.{Profile}
use Rattle.toml_scalar.specs.Faults.{place_of}
use Rattle.toml_scalar.specs.declared.fault.SyntaxFault.{SyntaxFault}
use Rattle.toml_tree.specs.Lines.{line}
use Rattle.toml_tree.specs.Profiles.{SpelledByNone, IsNoValue}
use Rattle.toml_tree.specs.Tree as tree
use Rattle.toml_tree.specs.View.{piece}

abbrev pub document : Doc → tree.Doc
document d = record { mark = piece d.mark; lines = map line d.lines.items }

-- a refusal says that no tree spells the text in the profile, and its place is in the text or at its end
abbrev pub Refuses : Profile → List ℕ → SyntaxFault → Type 0
Refuses profile text fault = IfSome (place_of fault) (λ at. (at ≤ length text) × SpelledByNone profile text)

-- a refusal says that the text is no value in the profile, and its place is in the text or at its end
abbrev pub RefusesValue : Profile → List ℕ → SyntaxFault → Type 0
RefusesValue profile text fault = IfSome (place_of fault) (λ at. (at ≤ length text) × IsNoValue profile text)
