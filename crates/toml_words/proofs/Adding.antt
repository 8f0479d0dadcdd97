-- Commands with arguments and subcommands more are as their definitions say.
use Rattle.std.proofs.Common.{◌≡◌, ◌<◌, ◌+◌, ◌∷◌, ◌++◌, [], List, ℕ, ap, ap₂, ◌∙◌, false, get_or, length, map, subst, sym, take}
use Rattle.std.specs.Prelude.{◌||◌}
use Rattle.std.proofs.lemmas.List.{append_assoc, append-nil, map-append, take_more}
use Rattle.clap.specs.Words.{AddsArg, AddsInTurn, AddsSubcommand, App, Rule, rule_of, with_rule, with_subcommand}
use Rattle.clap.specs.Simple.{on_top}
use Rattle.clap.specs.declared.builder.arg.Arg.{Arg}
use Rattle.clap.specs.declared.builder.command.Command.{Command}
use Rattle.toml_words.specs.CommandLine.{AreDefined, AreLocal, IsDefined, with_subcommands}

-- the command with these arguments in place of its own
abbrev of : App → List Rule → App
of app rules = on_top (λ shape. record shape { rules = rules }) app

one : (app : App) (front : List Rule) (old new : Command) (argument : Arg) → argument.global ≡ false → IsDefined (of app front) old → AddsArg old argument new
    → IsDefined (of app (front ++ rule_of argument ∷ [])) new
one app front old new argument local is adds = record {
  shape = adds.shape local ∙ ap (λ (a : App). with_rule a (rule_of argument)) is.shape;
  local = adds.globals ∙ ap₂ (λ a b. a || b) is.local local;
}

pub with_arguments : (app : App) (front : List Rule) (old new : Command) (arguments : List Arg) → AreLocal arguments → IsDefined (of app front) old
    → AddsInTurn AddsArg old arguments new → IsDefined (of app (front ++ map rule_of arguments)) new
with_arguments app front old new [] local is same = subst (λ c. IsDefined (of app (front ++ [])) c) same (rw (append-nil front) is)
with_arguments app front old new (argument ∷ arguments) local is adds =
    subst (λ rules. IsDefined (of app rules) new) (append_assoc front (rule_of argument ∷ []) (map rule_of arguments))
    (with_arguments app (front ++ rule_of argument ∷ []) adds.0 new arguments local.1 (one app front old adds.0 argument local.0 is adds.1) adds.2)

-- one argument more that is not global
pub one_more_local : (arguments : List Arg) (argument : Arg) → AreLocal arguments → argument.global ≡ false → AreLocal (arguments ++ argument ∷ [])
one_more_local [] argument are is = (is, tt)
one_more_local (first ∷ arguments) argument are is = (are.0, one_more_local arguments argument are.1 is)

both_more : (apps : List App) (commands : List Command) (app : App) (command : Command) → AreDefined apps commands → IsDefined app command
    → AreDefined (apps ++ app ∷ []) (commands ++ command ∷ [])
both_more [] [] app command are is = (is, tt)
both_more (a ∷ apps) (c ∷ commands) app command are is = (are.0, both_more apps commands app command are.1 is)
both_more [] (c ∷ commands) app command are is = absurd are
both_more (a ∷ apps) [] app command are is = absurd are

-- the commands of one row more
pub one_more_defined : {X : Type 0} (app : X → App) (rows : List X) (i : ℕ) (d : X) (commands : List Command) (command : Command) → i < length rows
    → AreDefined (map app (take i rows)) commands → IsDefined (app (get_or rows i d)) command → AreDefined (map app (take (i + 1) rows)) (commands ++ command ∷ [])
one_more_defined app rows i d commands command lt are is =
    subst (λ (apps : List App). AreDefined apps (commands ++ command ∷ [])) (sym (ap (map app) (take_more rows i d lt) ∙ map-append app (take i rows) (get_or rows i d ∷ [])))
    (both_more (map app (take i rows)) commands (app (get_or rows i d)) command are is)

pub added : (app sub : App) (command given new : Command) → IsDefined app command → IsDefined sub given → AddsSubcommand command given new → IsDefined (with_subcommand app sub.top) new
added app sub command given new is one adds = record {
  shape = adds.shape one.local ∙ ap₂ (λ (a b : App). with_subcommand a b.top) is.shape one.shape;
  local = adds.globals ∙ ap₂ (λ a b. a || b) is.local one.local;
}

pub all_added : (app : App) (subs : List App) (old new : Command) (given : List Command) → AreDefined subs given → IsDefined app old
    → AddsInTurn AddsSubcommand old given new → IsDefined (with_subcommands app subs) new
all_added app [] old new [] are is same = subst (IsDefined app) same is
all_added app (sub ∷ subs) old new (one ∷ given) are is adds = all_added (with_subcommand app sub.top) subs adds.0 new given are.1 (added app sub old one adds.0 is are.0 adds.1) adds.2
all_added app [] old new (one ∷ given) are is adds = absurd are
all_added app (sub ∷ subs) old new [] are is adds = absurd are
