use Rattle.std.proofs.Common.{◌≡◌, false, take}
use Rattle.std.specs.List.{list_any}
use Rattle.toml_working.specs.declared.lines.Line.{Line}
use Rattle.toml_working.specs.RemoveStanding.{makes_apart}
use Rattle.toml_working.proofs.removing.is_any_made.Given as goal

abbrev pub invariant-loop-line : goal.invariant-loop-line
invariant-loop-line l = list_any (λ (x : Line). makes_apart l.address l.other x.base x.address) (take l.line-index l.lines) ≡ false
