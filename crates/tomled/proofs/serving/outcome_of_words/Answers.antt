use Rattle.std.proofs.Common.{ℕ, Ok, Err, Vec, refl, sym, subst}
use Rattle.std.specs.declared.alloc.Global.{Global}
use Rattle.std.proofs.lemmas.Result.{err_from_is_err_and}
use Rattle.toml_delivery.specs.Outcomes.{Fails, Prints}
use Rattle.toml_delivery.specs.declared.fault.RunFault.TheVariants.{Memory, Words}
use Rattle.tomled.specs.Ending.{IsOutcomeOfWords}
use Rattle.tomled.proofs.serving.outcome_of_words.Goals as goal

pub returns-in-Nothing : goal.returns-in-Nothing
returns-in-Nothing c = subst (λ f. IsOutcomeOfWords f (Err Words)) (sym c.in-Nothing.is) refl

pub returns-in-NoMemory : goal.returns-in-NoMemory
returns-in-NoMemory c = subst (λ f. IsOutcomeOfWords f (Err Memory)) (sym c.in-NoMemory.is) refl

pub returns-in_err-told : goal.returns-in_err-told
returns-in_err-told c =
    let p = err_from_is_err_and c.from_residual.result c.from_residual.ensures.1 in
    rw (p.1, p.2) (subst (λ f. IsOutcomeOfWords f (Err Memory)) (sym c.in-Parser.is) refl)

pub returns-then-told : goal.returns-then-told
returns-then-told c =
    let prints = subst (λ (v : Vec ℕ Global). Prints v.items c.printed.result) c.into_bytes-text.ensures.value c.printed.ensures in
    subst (λ f. IsOutcomeOfWords f (Ok c.printed.result)) (sym c.in-Parser.is)
    (c.in_ok-told.told, c.in_ok-told.ensures, record { help = λ _. prints; mistake = λ no. absurd (no c.if-told.true) })

pub returns : goal.returns
returns c =
    let fails = subst (λ (v : Vec ℕ Global). Fails 2 v.items c.failed.result) c.into_bytes-text.ensures.value c.failed.ensures in
    subst (λ f. IsOutcomeOfWords f (Ok c.failed.result)) (sym c.in-Parser.is)
    (c.in_ok-told.told, c.in_ok-told.ensures, record { help = λ yes. let no = c.if-told.false in cc; mistake = λ _. fails })
