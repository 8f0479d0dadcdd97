use Rattle.std.proofs.Common.{◌≡◌, refl, subst, true}
use Rattle.std.proofs.lemmas.Result.{IfOk-weaker}
use Rattle.std.specs.Result.{IfErr, IfOk}
use Rattle.clap.specs.Walk.{texts}
use Rattle.clap.specs.Words.{App, FailsBy, HasMatchesOf, fault_of, is_simple, is_simple_and_free}
use Rattle.clap.specs.Words.{kind_of, takes}
use Rattle.clap.specs.declared.error.kind.ErrorKind.TheVariants.{OutOfMemory}
use Rattle.clap.proofs.OnLiterals.{clap_on_literals}
use Rattle.toml_words.specs.CommandLine.{Choices, editors, judges, readers, tool}
use Rattle.toml_words.proofs.asking.parse.Goals as goal

tool_is_simple : (profiles layouts : Choices) → is_simple (tool profiles layouts) ≡ true
unfolding clap_on_literals tool judges editors readers
tool_is_simple profiles layouts = refl

tool_is_free : (profiles layouts : Choices) → is_simple_and_free (tool profiles layouts) ≡ true
unfolding clap_on_literals tool judges editors readers
tool_is_free profiles layouts = refl

pub returns-clause-ok : goal.returns-clause-ok
returns-clause-ok c =
    let words = texts c.args.words.now in
    let result = c.try_get_matches_from.result in
    let has = subst (λ (app : App). IfOk result (HasMatchesOf app words)) c.in_ok-command.ensures.shape
    c.try_get_matches_from.ensures.matches in
    IfOk-weaker result _ _ (λ matches holds. (holds (tool_is_simple c.args.profiles c.args.layouts)).1) has

pub returns-clause-kinds : goal.returns-clause-kinds
returns-clause-kinds c =
    let words = texts c.args.words.now in
    let result = c.try_get_matches_from.result in
    subst (λ (app : App). is_simple_and_free app ≡ true → FailsBy (fault_of app words) result)
    c.in_ok-command.ensures.shape c.try_get_matches_from.ensures.kinds (tool_is_free c.args.profiles c.args.layouts)

pub returns-clause-err : goal.returns-clause-err
returns-clause-err c =
    let words = texts c.args.words.now in
    let result = c.try_get_matches_from.result in
    subst (λ (app : App). IfErr result (λ error. takes app words ≡ true → kind_of error ≡ OutOfMemory))
    c.in_ok-command.ensures.shape c.try_get_matches_from.ensures.passes
