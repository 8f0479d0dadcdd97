use Rattle.std.proofs.Common.{List}
use Rattle.toml_text.specs.Source.{text_of}
use Rattle.toml_tree.specs.Tree.{Line}
use Rattle.toml_names.specs.reader.Texts.{AreLeft, more_left}
use Rattle.toml_working.specs.Reading.{HasRead}
use Rattle.toml_working.proofs.reading.ReadDocument.take_all.Given as goal

abbrev pub invariant-loop-left : goal.invariant-loop-left
invariant-loop-left l = (front : List Line) × AreLeft l.fn.profile (text_of l.fn.source) front l.left × HasRead l.self front

abbrev pub decreases-loop-left : goal.decreases-loop-left
decreases-loop-left l = more_left l.left
