use Rattle.toml_text.specs.Source.{text_of}
use Rattle.toml_names.specs.reader.Texts.{AreTaken, more_left}
use Rattle.toml_names.proofs.texts.enter_text.Given as goal

abbrev pub invariant-loop-left : goal.invariant-loop-left
invariant-loop-left l = AreTaken l.fn.profile (text_of l.fn.source) l.names l.left

abbrev pub decreases-loop-left : goal.decreases-loop-left
decreases-loop-left l = more_left l.left
