use Rattle.std.proofs.Common.{arith}
use Rattle.toml_text.specs.Bytes.{is_unmarked}
use Rattle.toml_text.proofs.Blocks.{run_bound}
use Rattle.toml_text.proofs.Stops.{block_through, block_ends}
use Rattle.toml_text.proofs.unmarked.unmarked_len.Goals as goal

pub returns-then-found-ne0-clause-run : goal.returns-then-found-ne0-clause-run
returns-then-found-ne0-clause-run c =
    let ends = block_ends c.args.mark c.args.other c.args.bytes.now c.loop-at.at c.stops-found.result (omega arith) c.stops-found.ensures (omega arith) in
    omega (arith, ends, c.loop-at.invariant.0)

pub returns-then-found-ne0-clause-within : goal.returns-then-found-ne0-clause-within
returns-then-found-ne0-clause-within c =
    let ends = block_ends c.args.mark c.args.other c.args.bytes.now c.loop-at.at c.stops-found.result (omega arith) c.stops-found.ensures (omega arith) in
    omega (arith, ends, run_bound (is_unmarked c.args.mark c.args.other) c.args.bytes.now c.loop-at.at c.loop-at.invariant.1)

pub loop-at-preserved : goal.loop-at-preserved
loop-at-preserved c =
    let through = block_through c.args.mark c.args.other c.args.bytes.now c.loop-at.at c.stops-found.result (omega arith) c.stops-found.ensures (omega arith) in
    (omega (arith, through, c.loop-at.invariant.0), omega arith)
