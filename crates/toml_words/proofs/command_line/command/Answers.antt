use Rattle.std.proofs.Common.{◌++◌}
use Rattle.std.proofs.lemmas.Result.{IfOk-weaker}
use Rattle.toml_words.specs.CommandLine.{IsDefined, editors, judges, readers, root, tool}
use Rattle.toml_words.proofs.Adding.{all_added}
use Rattle.toml_words.proofs.command_line.command.Goals as goal

pub returns : goal.returns
unfolding tool readers editors judges
returns c =
    let profiles = c.args.profiles in
    let layouts = c.args.layouts in
    IfOk-weaker c.subcommands.result _ (IsDefined (tool profiles layouts))
    (λ new adds. all_added root (readers profiles ++ (editors profiles layouts ++ judges profiles)) c.in_ok-root.field-0 new c.in_ok-subcommands.subcommands.items
    c.in_ok-subcommands.ensures c.in_ok-root.ensures adds)
    c.subcommands.ensures
