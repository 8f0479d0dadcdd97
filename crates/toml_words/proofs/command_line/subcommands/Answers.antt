use Rattle.toml_words.specs.CommandLine.{defined_in}
use Rattle.toml_words.proofs.Adding.{one_more_defined}
use Rattle.toml_words.proofs.command_line.subcommands.Goals as goal

pub loop-row-preserved : goal.loop-row-preserved
loop-row-preserved c =
    let app = defined_in c.args.allowed.profiles c.args.allowed.layouts in
    rw c.in_ok-push.ensures.items
    (one_more_defined app c.args.rows.now c.loop-row.row-index _ c.loop-row.list.items c.in_ok-subcommand.field-0 c.loop-row-test.true c.loop-row.invariant c.in_ok-subcommand.ensures)
