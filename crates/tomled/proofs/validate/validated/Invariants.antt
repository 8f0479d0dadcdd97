use Rattle.std.proofs.Common.{take}
use Rattle.tomled.specs.Asking.{Asked}
use Rattle.tomled.specs.Validating.{words_of}
use Rattle.tomled.proofs.Validated.{SoFar}
use Rattle.tomled.proofs.validate.validated.Given as goal

abbrev pub invariant-loop-file : goal.invariant-loop-file
invariant-loop-file g l =
    Asked (g.I.Inputs.reads l.initial.inputs) (g.I.Inputs.reads l.inputs) (SoFar l.profile (take l.file-index (words_of l.files)) l.status l.text.items)
