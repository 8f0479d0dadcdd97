-- The definition of the command line: the subcommands and their arguments.
use Rattle.std.specs.Prelude.{◌≡◌, List, [], ◌∷◌, codes, map, Some, true, false}
use Rattle.std.specs.Borrow.{Bor}
use Rattle.clap.specs.Lexer.{usize_max}
use Rattle.clap.specs.Words.{App, Rule, Text, app_of, new_app, new_rule, with_subcommand}
use Rattle.clap.specs.Simple.{on_top}
use Rattle.clap.specs.Walk.{texts}
use Rattle.clap.specs.declared.builder.action.ArgAction.TheVariants.{SetTrue}
use Rattle.clap.specs.declared.builder.arg.Arg.{Arg}
use Rattle.clap.specs.declared.builder.command.Command.{Command}
use Rattle.clap.specs.declared.builder.value_parser.ValueParser.TheVariants.{Names}
use Rattle.clap.specs.declared.builder.command.Command.TheViews.{out-Command}
use Rattle.toml_words.specs.declared.arguments.Argument.{Argument}
use Rattle.toml_words.specs.declared.arguments.Argument.TheVariants.{Required, Optional, Several, Flag, Valued, InPlace, Layout, Profile}
use Rattle.toml_words.specs.declared.commands.Subcommand.{Subcommand}

-- an argument that has to be given
abbrev pub required_argument : Text → Rule
required_argument name = record (new_rule name) { required = true }

-- an argument that may be left out
abbrev pub optional_argument : Text → Rule
optional_argument name = new_rule name

-- one word or more
abbrev pub several_arguments : Text → Rule
several_arguments name = record (required_argument name) { range = Some (record { start_inclusive = 1; end_inclusive = usize_max }) }

-- an argument told by two dashes and its name
abbrev pub named_argument : Text → Rule
named_argument name = record (new_rule name) { long = Some name }

-- an argument of no value, told by two dashes and its name, that is true where it is given
abbrev pub flag : Text → Rule
flag name = record (new_rule name) { long = Some name; action = Some SetTrue }

-- `-i` or `--in-place`
abbrev pub in_place : Rule
in_place = record (flag (codes "in-place")) { short = Some 105 }

-- an argument of one value, told by two dashes and its name
abbrev pub option : Text → Rule
option name = record (new_rule name) { long = Some name; value_names = 1 }

-- the words that the option of the profile takes, as the parser holds them
abbrev pub Choices : Type 0
Choices = Bor (List (Bor Text))

abbrev pub AreProfiles : Choices → Type 0
AreProfiles profiles = texts profiles.now ≡ codes "1" ∷ codes "2" ∷ []

-- `--profile N`, one of these, and 1 where it is not given
abbrev pub profile : Choices → Rule
profile profiles = record (option (codes "profile")) { defaults = codes "1" ∷ []; parser = Some (Names profiles) }

abbrev pub AreLayouts : Choices → Type 0
AreLayouts layouts = texts layouts.now ≡ codes "plain" ∷ codes "follow" ∷ []

-- `--layout L`, one of these, and `follow` where it is not given
abbrev pub layout : Choices → Rule
layout layouts = record (option (codes "layout")) { defaults = codes "follow" ∷ []; parser = Some (Names layouts) }

-- a command of these arguments, in this order; options may stand before, between and behind the others
abbrev pub command : Text → List Rule → App
command name rules = on_top (λ shape. record shape { rules = rules }) (new_app name)

-- the rule of an argument of the table, with these words for the profiles and the layouts
abbrev pub rule_in : Choices → Choices → Argument → Rule
rule_in profiles layouts (Required name help) = required_argument name.now
rule_in profiles layouts (Optional name help) = optional_argument name.now
rule_in profiles layouts (Several name help) = several_arguments name.now
rule_in profiles layouts (Flag name help) = flag name.now
rule_in profiles layouts (Valued name value help) = option name.now
rule_in profiles layouts InPlace = in_place
rule_in profiles layouts Layout = layout layouts
rule_in profiles layouts Profile = profile profiles

-- so the definition of a subcommand of it
abbrev pub defined_in : Choices → Choices → Subcommand → App
defined_in profiles layouts row = command row.name.now (map (rule_in profiles layouts) row.arguments.now)

abbrev pub get : Choices → App
get profiles = command (codes "get") (required_argument (codes "FILE") ∷ required_argument (codes "PLACE") ∷ flag (codes "json") ∷ flag (codes "tagged")
    ∷ flag (codes "toml") ∷ flag (codes "type") ∷ option (codes "default") ∷ profile profiles ∷ [])

-- what the commands that edit take beside the edit
abbrev pub edit_options : Choices → Choices → List Rule
edit_options profiles layouts = in_place ∷ option (codes "certificate") ∷ layout layouts ∷ profile profiles ∷ []

abbrev pub set : Choices → Choices → App
set profiles layouts = command (codes "set") (required_argument (codes "FILE") ∷ required_argument (codes "PLACE") ∷ required_argument (codes "VALUE")
    ∷ flag (codes "string") ∷ flag (codes "parents") ∷ edit_options profiles layouts)

abbrev pub insert : Choices → Choices → App
insert profiles layouts = command (codes "insert") (required_argument (codes "FILE") ∷ required_argument (codes "PLACE") ∷ required_argument (codes "VALUE")
    ∷ flag (codes "string") ∷ flag (codes "parents") ∷ edit_options profiles layouts)

abbrev pub rename : Choices → Choices → App
rename profiles layouts = command (codes "rename") (required_argument (codes "FILE") ∷ required_argument (codes "PLACE") ∷ required_argument (codes "NAME") ∷ edit_options profiles layouts)

abbrev pub remove : Choices → Choices → App
remove profiles layouts = command (codes "remove") (required_argument (codes "FILE") ∷ required_argument (codes "PLACE") ∷ edit_options profiles layouts)

abbrev pub apply : Choices → Choices → App
apply profiles layouts = command (codes "apply") (required_argument (codes "FILE") ∷ required_argument (codes "EDITS") ∷ edit_options profiles layouts)

abbrev pub validate : Choices → App
validate profiles = command (codes "validate") (several_arguments (codes "FILE") ∷ profile profiles ∷ [])

abbrev pub check : Choices → App
check profiles = command (codes "check") (required_argument (codes "FILE") ∷ flag (codes "explain") ∷ profile profiles ∷ [])

abbrev pub show : Choices → App
show profiles = command (codes "show") (required_argument (codes "FILE") ∷ flag (codes "list") ∷ flag (codes "explain") ∷ profile profiles ∷ [])

abbrev pub edit : Choices → App
edit profiles = command (codes "edit") (required_argument (codes "FILE") ∷ required_argument (codes "EDITS") ∷ required_argument (codes "OUT")
    ∷ required_argument (codes "CERT") ∷ flag (codes "explain") ∷ profile profiles ∷ [])

abbrev pub verify : Choices → App
verify profiles = command (codes "verify") (required_argument (codes "BEFORE") ∷ required_argument (codes "EDITS") ∷ required_argument (codes "AFTER")
    ∷ required_argument (codes "CERT") ∷ flag (codes "explain") ∷ profile profiles ∷ [])

abbrev pub certify : Choices → App
certify profiles = command (codes "certify") (required_argument (codes "BEFORE") ∷ required_argument (codes "EDITS") ∷ required_argument (codes "AFTER")
    ∷ optional_argument (codes "CERT") ∷ profile profiles ∷ [])

-- the commands that edit a file by their words
unfoldable pub editors : Choices → Choices → List App
editors profiles layouts = set profiles layouts ∷ insert profiles layouts ∷ rename profiles layouts ∷ remove profiles layouts ∷ apply profiles layouts ∷ []

-- those that read one
unfoldable pub readers : Choices → List App
readers profiles = get profiles ∷ validate profiles ∷ check profiles ∷ show profiles ∷ []

-- those that stand on certificates
unfoldable pub judges : Choices → List App
judges profiles = edit profiles ∷ verify profiles ∷ certify profiles ∷ []

-- `tomled` before its subcommands are added: it wants one, and has a version
abbrev pub root : App
root = on_top (λ shape. record shape { subcommand_required = true; has_version = true }) (new_app (codes "tomled"))

-- a command with these subcommands
abbrev pub with_subcommands : App → List App → App
with_subcommands app [] = app
with_subcommands app (sub ∷ subs) = with_subcommands (with_subcommand app sub.top) subs

-- the whole command line
unfoldable pub tool : Choices → Choices → App
tool profiles layouts = with_subcommands (with_subcommands (with_subcommands root (readers profiles)) (editors profiles layouts)) (judges profiles)

-- a parse reads this definition of the command, which has no global argument
pub record IsDefined (app : App) (command : Command) : Type 0 where
  pub shape : app_of command ≡ app
  pub local : (out-Command command).has_globals ≡ false

-- so of each of these
abbrev pub AreDefined : List App → List Command → Type 0
AreDefined [] [] = Unit {0}
AreDefined (app ∷ apps) (command ∷ commands) = IsDefined app command × AreDefined apps commands
AreDefined _ _ = ⊥

-- none of the arguments is global
abbrev pub AreLocal : List Arg → Type 0
AreLocal [] = Unit {0}
AreLocal (argument ∷ arguments) = (argument.global ≡ false) × AreLocal arguments
