use Rattle.std.proofs.Common.{ap, subst, sym}
use Rattle.std.proofs.lemmas.Result.{IfOk-weaker}
use Rattle.toml_edits.specs.Edits.{change}
use Rattle.toml_edits.specs.ValueTexts.{IsBadValue}
use Rattle.toml_checker.specs.Comments.{AreCommentsIn, AreCommentsOf}
use Rattle.toml_checker.specs.Counts.{plain}
use Rattle.toml_checker.specs.WrittenComments.{HasValue}
use Rattle.toml_checker.proofs.written.comments_in.Goals as goal

pub returns-in-Set : goal.returns-in-Set
returns-in-Set c =
    let p = c.args.profile in
    let is = ap change c.in-Set.is in
    let same = c.as_str.ensures.value in
    IfOk-weaker c.comments_of.result _ _ (λ ts h v. subst (λ x. AreCommentsIn x (plain ts.items)) (sym is) (subst (λ t. AreCommentsOf t (plain ts.items)) same (h (subst (λ t. ¬ (IsBadValue p t)) (sym same) (subst (HasValue p) is v))))) c.comments_of.ensures

pub returns-in-Insert : goal.returns-in-Insert
returns-in-Insert c =
    let p = c.args.profile in
    let is = ap change c.in-Insert.is in
    let same = c.as_str-in-Insert.ensures.value in
    IfOk-weaker c.comments_of-in-Insert.result _ _ (λ ts h v. subst (λ x. AreCommentsIn x (plain ts.items)) (sym is) (subst (λ t. AreCommentsOf t (plain ts.items)) same (h (subst (λ t. ¬ (IsBadValue p t)) (sym same) (subst (HasValue p) is v))))) c.comments_of-in-Insert.ensures
