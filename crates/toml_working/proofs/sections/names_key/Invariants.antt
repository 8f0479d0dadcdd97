use Rattle.std.proofs.Common.{map, take, string_bytes}
use Rattle.toml_working.specs.PuttingHeaders.{name_texts}
use Rattle.toml_working.proofs.HeaderSteps.{IsBuilt}
use Rattle.toml_working.proofs.sections.names_key.Given as goal

abbrev pub invariant-loop-place : goal.invariant-loop-place
invariant-loop-place l = IsBuilt (name_texts (take l.place l.at) (map string_bytes l.spelled)) l.first l.key
