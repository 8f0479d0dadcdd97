use Rattle.std.proofs.Common.{sym, ap, ◌∙◌, subst}
use Rattle.std.proofs.lemmas.Result.{on_ok_weaker}
use Rattle.toml_tree.specs.View.{blank, expr, keyval, piece}
use Rattle.toml_mentions.specs.Sought.{TakesExpr}
use Rattle.toml_mentions.proofs.Stood.{blank_taken, keyval_taken}
use Rattle.toml_mentions.proofs.seeker.Seeker.line.Goals as goal

pub returns-in-Blank : goal.returns-in-Blank
returns-in-Blank c =
    subst (TakesExpr c.args.self.now c.args.self.now) (ap expr (sym c.in-Blank.is) ∙ c.expr.ensures) (blank_taken c.args.self.now (blank c.in-Blank.field-0))

pub returns-in-KeyVal : goal.returns-in-KeyVal
returns-in-KeyVal c =
    let k = c.in-KeyVal in
    on_ok_weaker c.keyval.result (subst (TakesExpr c.args.self.now c.keyval.new.self) (ap expr (sym k.is) ∙ c.expr.ensures))
    (keyval_taken c.args.self.now c.keyval.new.self c.keyval.result (piece k.ws) (keyval k.keyval) (blank k.tail) c.keyval.ensures)

pub returns-in-Std : goal.returns-in-Std
returns-in-Std c =
    let k = c.in-Std in
    on_ok_weaker c.table.result (subst (TakesExpr c.args.self.now c.table.new.self) (ap expr (sym k.is) ∙ c.expr.ensures)) (c.table.ensures (piece k.ws) (blank k.tail))

pub returns-in-Array : goal.returns-in-Array
returns-in-Array c =
    let k = c.in-Array in
    on_ok_weaker c.array_table.result (subst (TakesExpr c.args.self.now c.array_table.new.self) (ap expr (sym k.is) ∙ c.expr.ensures)) (c.array_table.ensures (piece k.ws) (blank k.tail))
