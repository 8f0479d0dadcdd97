use Rattle.std.proofs.Common.{inl, inr, arith}
use Rattle.std.proofs.lemmas.Bool.{cases_lt}
use Rattle.toml_layout.proofs.OpenEntries.{few, no_key_past}
use Rattle.toml_layout.proofs.texts.Texts.pair_on.Goals as goal

pub returns : goal.returns
returns c = λ i. elim (cases_lt i c.loop-index.index) [
  | inl low ↦ c.loop-index.invariant i low
  | inr past ↦ no_key_past c.args.pairs.now c.args.steps.now i (omega (arith, c.len-index-end.ensures.exact (few c.args.pairs.now)))
]
