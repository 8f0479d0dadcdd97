use Rattle.std.proofs.Common.{◌≡◌, ◌⊎◌, List, None}
use Rattle.toml_text.specs.Source.{text_of}
use Rattle.toml_tree.specs.Profiles.{SpelledByNone}
use Rattle.toml_tree.specs.Tree.{Line}
use Rattle.toml_names.specs.reader.Texts.{more_left}
use Rattle.toml_mentions.specs.Sought.{AreSought}
use Rattle.toml_mentions.proofs.seeking.seek.Given as goal

abbrev pub invariant-loop-left : goal.invariant-loop-left
invariant-loop-left l =
    ((front : List Line) × AreSought l.fn.target l.fn.profile (text_of l.fn.source) front l.left l.seeker)
    ⊎ ((l.left ≡ None) × SpelledByNone l.fn.profile (text_of l.fn.source))

abbrev pub decreases-loop-left : goal.decreases-loop-left
decreases-loop-left l = more_left l.left
