use Rattle.std.proofs.Common.{[], List, subst}
use Rattle.std.proofs.lemmas.Result.{IfOk-weaker}
use Rattle.clap.specs.Words.{Rule, new_app}
use Rattle.toml_words.specs.CommandLine.{IsDefined, command, defined_in}
use Rattle.toml_words.proofs.Adding.{with_arguments}
use Rattle.toml_words.proofs.command_line.subcommand.Goals as goal

pub returns : goal.returns
returns c =
    let name = c.args.row.now.name.now in
    let of_args = c.in_ok-args.ensures in
    IfOk-weaker c.args-3.result _ (IsDefined (defined_in c.args.allowed.profiles c.args.allowed.layouts c.args.row.now))
    (λ new adds. subst (λ (rules : List Rule). IsDefined (command name rules) new) of_args.rules
    (with_arguments (new_app name) [] c.bare.result new c.in_ok-args.args.items of_args.local c.bare.ensures adds))
    c.args-3.ensures
