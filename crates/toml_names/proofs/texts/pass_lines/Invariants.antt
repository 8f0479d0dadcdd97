use Rattle.toml_names.proofs.Common.{◌++◌, ℕ, List, Line}
use Rattle.toml_tree.specs.declared.profile.Profile.{Profile}
use Rattle.toml_names.specs.reader.Texts.{AreLeft, more_left}
use Rattle.toml_names.proofs.texts.pass_lines.Given as goal

abbrev pub invariant-loop-left : goal.invariant-loop-left
invariant-loop-left l = (profile : Profile) (text : List ℕ) (front : List Line) → AreLeft profile text front l.initial.left
    → (more : List Line) × AreLeft profile text (front ++ more) l.left

abbrev pub decreases-loop-left : goal.decreases-loop-left
decreases-loop-left l = more_left l.left
