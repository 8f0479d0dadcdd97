use Rattle.std.proofs.Common.{take}
use Rattle.toml_delivery.specs.Outcomes.{texts_of}
use Rattle.tomled.specs.Asking.{Asked}
use Rattle.tomled.specs.Reads.{GaveAll}
use Rattle.tomled.proofs.reading.read_all.Given as goal

abbrev pub invariant-loop-source : goal.invariant-loop-source
invariant-loop-source g l =
    Asked (g.I.Inputs.reads l.initial.inputs) (g.I.Inputs.reads l.inputs) (GaveAll (take l.source-index l.sources) (texts_of l.list.items))
