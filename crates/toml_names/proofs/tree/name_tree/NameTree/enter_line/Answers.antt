use Rattle.toml_names.proofs.Common.{◌≡◌, sym, ap, subst, ◌∙◌, Some, arith, err_from_is_err_and, piece, blank, header, keyval, expr, pair_named, misfit}
use Rattle.toml_names.proofs.lemmas.tree.EnterLines.{table_entered, tables_entered, pair_entered, long_pair, long_table, long_tables}
use Rattle.toml_names.proofs.lemmas.tree.Steps.{GoesOn-same, refuses}
use Rattle.toml_names.proofs.tree.name_tree.NameTree.enter_line.Goals as goal

pub returns-in_err-id-in-KeyVal : goal.returns-in_err-id-in-KeyVal
returns-in_err-id-in-KeyVal c =
    let pair = keyval c.in-KeyVal.keyval in
    rw (sym c.expr.ensures ∙ ap expr c.in-KeyVal.is)
    (refuses (GoesOn-same c.args.self.now) c.in_err-id-in-KeyVal.ensures (err_from_is_err_and c.from_residual.result c.from_residual.ensures.1) (omega arith)
    (λ a clash ms stands here. subst (λ from. misfit ms (pair_named c.args.number from pair.assign pair.value) ≡ Some a) here (clash ms stands)))

pub returns-in-Some : goal.returns-in-Some
returns-in-Some c =
    let old = c.args.self.now.nodes.items in
    let new = c.pair_unless_long.new.self.nodes.items in
    let pair = keyval c.in-KeyVal.keyval in
    rw (sym c.expr.ensures ∙ ap expr c.in-KeyVal.is) (record {
      made = pair_entered old new c.args.at c.args.number c.in-Some.id (piece c.in-KeyVal.ws) pair (blank c.in-KeyVal.tail) c.requires.there.within (rw c.in-Some.is at c.in_ok-id-in-KeyVal.ensures.made);
      clash = tt;
      goes_on = c.pair_unless_long.ensures.goes_on;
    })

pub returns-in-None : goal.returns-in-None
returns-in-None c =
    let old = c.args.self.now.nodes.items in
    let pair = keyval c.in-KeyVal.keyval in
    rw (sym c.expr.ensures ∙ ap expr c.in-KeyVal.is) (record {
      made = long_pair old c.args.at c.args.number (piece c.in-KeyVal.ws) (blank c.in-KeyVal.tail) pair (rw c.in-None.is at c.in_ok-id-in-KeyVal.ensures.made);
      clash = tt;
      goes_on = c.pair_unless_long.ensures.goes_on;
    })

pub returns-in_err-id-in-Std : goal.returns-in_err-id-in-Std
returns-in_err-id-in-Std c =
    rw (sym c.expr.ensures ∙ ap expr c.in-Std.is)
    (refuses (GoesOn-same c.args.self.now) c.in_err-id-in-Std.ensures (err_from_is_err_and c.from_residual-in_err-id-in-Std.result c.from_residual-in_err-id-in-Std.ensures.1) (omega arith)
    (λ a clash ms stands here. clash ms stands))

pub returns-in-Some-2 : goal.returns-in-Some-2
returns-in-Some-2 c =
    let old = c.args.self.now.nodes.items in
    let new = c.table_unless_long.new.self.nodes.items in
    let head = header c.in-Std.header in
    rw (sym c.expr.ensures ∙ ap expr c.in-Std.is) (record {
      made = table_entered old new c.args.at c.args.number c.in-Some-2.id (piece c.in-Std.ws) head (blank c.in-Std.tail) (rw c.in-Some-2.is at c.in_ok-id-in-Std.ensures.made);
      clash = tt;
      goes_on = c.table_unless_long.ensures.goes_on;
    })

pub returns-in-None-2 : goal.returns-in-None-2
returns-in-None-2 c =
    let old = c.args.self.now.nodes.items in
    let head = header c.in-Std.header in
    rw (sym c.expr.ensures ∙ ap expr c.in-Std.is) (record {
      made = long_table old c.args.at c.args.number (piece c.in-Std.ws) (blank c.in-Std.tail) head (rw c.in-None-2.is at c.in_ok-id-in-Std.ensures.made);
      clash = tt;
      goes_on = c.table_unless_long.ensures.goes_on;
    })

pub returns-in_err-id-in-Array : goal.returns-in_err-id-in-Array
returns-in_err-id-in-Array c =
    rw (sym c.expr.ensures ∙ ap expr c.in-Array.is)
    (refuses (GoesOn-same c.args.self.now) c.in_err-id-in-Array.ensures (err_from_is_err_and c.from_residual-in_err-id-in-Array.result c.from_residual-in_err-id-in-Array.ensures.1) (omega arith)
    (λ a clash ms stands here. clash ms stands))

pub returns-in-Some-3 : goal.returns-in-Some-3
returns-in-Some-3 c =
    let old = c.args.self.now.nodes.items in
    let new = c.tables_unless_long.new.self.nodes.items in
    let head = header c.in-Array.header in
    rw (sym c.expr.ensures ∙ ap expr c.in-Array.is) (record {
      made = tables_entered old new c.args.at c.args.number c.in-Some-3.id (piece c.in-Array.ws) head (blank c.in-Array.tail) (rw c.in-Some-3.is at c.in_ok-id-in-Array.ensures.made);
      clash = tt;
      goes_on = c.tables_unless_long.ensures.goes_on;
    })

pub returns-in-None-3 : goal.returns-in-None-3
returns-in-None-3 c =
    let old = c.args.self.now.nodes.items in
    let head = header c.in-Array.header in
    rw (sym c.expr.ensures ∙ ap expr c.in-Array.is) (record {
      made = long_tables old c.args.at c.args.number (piece c.in-Array.ws) (blank c.in-Array.tail) head (rw c.in-None-3.is at c.in_ok-id-in-Array.ensures.made);
      clash = tt;
      goes_on = c.tables_unless_long.ensures.goes_on;
    })
