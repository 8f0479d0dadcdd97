use Rattle.std.proofs.Common.{◌≡◌, map, take}
use Rattle.clap.specs.Words.{rule_of}
use Rattle.toml_words.specs.CommandLine.{AreLocal, rule_in}
use Rattle.toml_words.proofs.arguments.args.Given as goal

abbrev pub invariant-loop-row : goal.invariant-loop-row
invariant-loop-row l = (map rule_of l.list.items ≡ map (rule_in l.allowed.profiles l.allowed.layouts) (take l.row-index l.rows)) × AreLocal l.list.items
