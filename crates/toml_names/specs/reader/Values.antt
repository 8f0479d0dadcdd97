-- What the reading of one value's names answers.
use Rattle.std.specs.Prelude.{List}
use Rattle.toml_names.specs.declared.fault.ValueFault.{ValueFault}
use Rattle.toml_names.specs.declared.fault.ValueFault.TheVariants.{Rules, Long, NoMemory}
use Rattle.toml_names.specs.mentions.Mentions.{Named}
use Rattle.toml_names.specs.mentions.Rules.{KeepsRules, IsShort}

-- what is named keeps the table rules, and no address has more than 100 steps
abbrev pub AreGoodFacts : List Named → Type 0
AreGoodFacts ms = KeepsRules ms × IsShort ms

-- why the names in a value are refused; want of memory says nothing of them
abbrev pub RefusesFacts : List Named → ValueFault → Type 0
RefusesFacts ms Rules = ¬ KeepsRules ms
RefusesFacts ms Long = KeepsRules ms × ¬ IsShort ms
RefusesFacts ms NoMemory = Unit {0}
