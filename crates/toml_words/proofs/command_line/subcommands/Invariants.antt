use Rattle.std.proofs.Common.{map, take}
use Rattle.toml_words.specs.CommandLine.{AreDefined, defined_in}
use Rattle.toml_words.proofs.command_line.subcommands.Given as goal

abbrev pub invariant-loop-row : goal.invariant-loop-row
invariant-loop-row l = AreDefined (map (defined_in l.allowed.profiles l.allowed.layouts) (take l.row-index l.rows)) l.list.items
