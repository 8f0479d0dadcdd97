use Rattle.toml_text.specs.Source.{text_of}
use Rattle.toml_names.specs.reader.Texts.{more_left}
use Rattle.toml_print.specs.Searching.{ArePassed}
use Rattle.toml_print.proofs.value_at.find_in_text.Given as goal

abbrev pub invariant-loop-left : goal.invariant-loop-left
invariant-loop-left l = ArePassed l.fn.profile (text_of l.fn.source) l.fn.at l.names l.left

abbrev pub decreases-loop-left : goal.decreases-loop-left
decreases-loop-left l = more_left l.left
