use Rattle.std.proofs.Common.{◌≡◌, length}
use Rattle.tomled.specs.Asking.{Asked}
use Rattle.tomled.specs.Finishing.{written}
use Rattle.tomled.specs.Opening.{GaveFiles}
use Rattle.tomled.specs.Validating.{words_of}
use Rattle.tomled.proofs.opening.outputs.Given as goal

abbrev pub invariant-loop-index : goal.invariant-loop-index
invariant-loop-index g l = record {
  count : length l.files.items ≡ l.index;
  opened : Asked (g.S.Opener.opened l.initial.opener) (g.S.Opener.opened l.opener) (GaveFiles (words_of (written l.request)) l.files.items);
}
