use Rattle.std.proofs.Common.{◌≡◌, ◌≤◌, ◌+◌, count_by, drop}
use Rattle.clap.specs.Walk.{texts}
use Rattle.toml_words.specs.Request.{is_input}
use Rattle.toml_words.proofs.asking.inputs.Given as goal

abbrev pub invariant-loop-i : goal.invariant-loop-i
invariant-loop-i l = (l.count + count_by is_input (texts (drop l.i l.files)) ≡ count_by is_input (texts l.files)) × (l.count ≤ l.i)
