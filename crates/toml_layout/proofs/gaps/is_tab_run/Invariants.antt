use Rattle.std.proofs.Common.{◌≡◌, true, take}
use Rattle.toml_layout.specs.Margins.{is_tab_run}
use Rattle.toml_layout.proofs.gaps.is_tab_run.Given as goal

abbrev pub invariant-loop-byte : goal.invariant-loop-byte
invariant-loop-byte l = is_tab_run (take l.byte-index l.byte-items) ≡ true
