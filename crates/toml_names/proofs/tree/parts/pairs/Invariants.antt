use Rattle.toml_names.proofs.Common.{◌≡◌, take}
use Rattle.toml_names.specs.reader.Parts.{plain_members}
use Rattle.toml_names.proofs.tree.parts.pairs.Given as goal

abbrev pub invariant-loop-place : goal.invariant-loop-place
invariant-loop-place l = plain_members l.members.items ≡ take l.place l.names
