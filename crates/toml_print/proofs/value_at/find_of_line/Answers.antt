use Rattle.std.proofs.Common.{◌≡◌, ◌++◌, Some, sym, ap, subst, ◌∙◌}
use Rattle.std.proofs.lemmas.Result.{IfOk-weaker}
use Rattle.toml_tree.specs.Lines.{line as tree_line}
use Rattle.toml_tree.specs.Tree as tree
use Rattle.toml_tree.specs.View.{expr, keyval}
use Rattle.toml_tree.proofs.Proved.{keyval_is}
use Rattle.toml_print.specs.Searching.{Finds}
use Rattle.toml_print.specs.ValueTexts.{value_of}
use Rattle.toml_print.proofs.Found.{finds_of_line}
use Rattle.toml_print.proofs.value_at.find_of_line.Goals as goal

pub returns-in-Some : goal.returns-in-Some
returns-in-Some c =
    let pair = keyval c.in-KeyVal.keyval in
    let e = (tree_line c.args.line.now).expr in
    let rest = c.in-Some.rest.now in
    let value : value_of e ≡ Some pair.value = ap value_of (sym c.expr.ensures ∙ ap expr c.in-KeyVal.is) in
    let at_is : c.args.at.now ≡ c.args.own.now ++ rest = sym c.steps-2.ensures ∙ c.in-Some.ensures ∙ ap (λ a. a ++ rest) c.steps.ensures in
    IfOk-weaker c.find_in.result _ _
    (λ found h. finds_of_line e pair.value c.args.own.now rest c.args.at.now found value at_is (subst (λ (k : tree.KeyVal). Finds k.value rest found) (sym (keyval_is c.in-KeyVal.keyval)) h))
    c.find_in.ensures
