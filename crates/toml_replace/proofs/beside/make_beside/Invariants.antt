use Rattle.toml_replace.specs.Calls.{Made}
use Rattle.toml_replace.proofs.Makings.{AreTries}
use Rattle.toml_replace.proofs.beside.make_beside.Given as goal

-- the calls so far are tries of paths that were taken
abbrev pub invariant-loop-number : goal.invariant-loop-number
invariant-loop-number g l = Made (g.D.Disk.calls l.initial.disk) (g.D.Disk.calls l.disk) (AreTries l.file l.number)
