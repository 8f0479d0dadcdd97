use Rattle.std.proofs.Common.{◌≡◌, true, take}
use Rattle.std.specs.List.{list_all}
use Rattle.toml_layout.specs.Margins.{is_tab_run}
use Rattle.toml_layout.specs.OpenOutlines.{gap_part_text}
use Rattle.toml_layout.proofs.gaps.are_tabs.Given as goal

abbrev pub invariant-loop-part : goal.invariant-loop-part
invariant-loop-part l = list_all (λ q. is_tab_run (gap_part_text q)) (take l.part-index l.parts) ≡ true
