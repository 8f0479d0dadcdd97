use Rattle.toml_names.proofs.Common.{[], arith, err_from_is_err_and, piece, key as tree_key, PassedFronts, part_name, rest_names, key_names, CanEnterHeaders, IsLongKey, ends_tables, rules}
use Rattle.toml_names.proofs.lemmas.tree.EnterFronts.{key-length}
use Rattle.toml_names.proofs.lemmas.tree.HeaderLines.{clash_in_fronts, tables_line, tables_clash}
use Rattle.toml_names.proofs.lemmas.tree.Steps.{GoesOn-same, GoesOn-within, GoesOn-then, refuses}
use Rattle.toml_names.proofs.tree.name_tree.NameTree.tables_unless_long.Goals as goal

pub returns-in_err-here : goal.returns-in_err-here
returns-in_err-here c =
    refuses (GoesOn-same c.args.self.now) c.in_err-here.ensures (err_from_is_err_and c.from_residual.result c.from_residual.ensures.1) (omega (arith, key-length c.args.key.now))
    (clash_in_fronts c.args.self.now.nodes.items c.args.line (λ ms. ends_tables c.args.line ms) (part_name (piece c.args.key.now.first)) (rest_names (tree_key c.args.key.now).rest))

pub enter_tables-requires : goal.enter_tables-requires
enter_tables-requires c = search (rules)

pub returns-in_err-enter_tables-in-Some : goal.returns-in_err-enter_tables-in-Some
returns-in_err-enter_tables-in-Some c =
    let passed : PassedFronts c.args.self.now.nodes.items c.pass_fronts.new.self.nodes.items c.args.line c.in-Some.here (part_name (piece c.in-Some.part)) (key_names (tree_key c.args.key.now)) =
    rw c.in-Some.is at c.in_ok-here.ensures.made in
    let parts = key-length c.args.key.now in
    refuses c.pass_fronts.ensures.goes_on c.in_err-enter_tables-in-Some.ensures (err_from_is_err_and c.from_residual-in_err-enter_tables-in-Some.result c.from_residual-in_err-enter_tables-in-Some.ensures.1) (omega (arith, parts))
    (tables_clash c.args.self.now.nodes.items c.pass_fronts.new.self.nodes.items c.args.line c.in-Some.here (part_name (piece c.in-Some.part)) (part_name (piece c.args.key.now.first)) (rest_names (tree_key c.args.key.now).rest) passed)

pub returns-in_ok-enter_tables-in-Some : goal.returns-in_ok-enter_tables-in-Some
returns-in_ok-enter_tables-in-Some c =
    let passed : PassedFronts c.args.self.now.nodes.items c.pass_fronts.new.self.nodes.items c.args.line c.in-Some.here (part_name (piece c.in-Some.part)) (key_names (tree_key c.args.key.now)) =
    rw c.in-Some.is at c.in_ok-here.ensures.made in
    record {
      made = tables_line c.args.self.now.nodes.items c.pass_fronts.new.self.nodes.items c.args.line c.in-Some.here (part_name (piece c.in-Some.part)) (part_name (piece c.args.key.now.first)) (rest_names (tree_key c.args.key.now).rest) passed
          c.enter_tables.new.self.nodes.items c.in_ok-enter_tables-in-Some.field-0 c.in_ok-enter_tables-in-Some.ensures.made;
      clash = tt;
      goes_on = GoesOn-then c.pass_fronts.ensures.goes_on c.enter_tables.ensures.goes_on _ (omega (arith, key-length c.args.key.now));
    }

pub returns-in-None : goal.returns-in-None
returns-in-None c =
    let fresh : CanEnterHeaders c.args.self.now.nodes.items c.args.line (key_names (tree_key c.args.key.now)) × IsLongKey [] (key_names (tree_key c.args.key.now)) = rw c.in-None.is at c.in_ok-here.ensures.made in
    record {
      made = (fresh.0.tables, fresh.1);
      clash = tt;
      goes_on = GoesOn-within c.pass_fronts.ensures.goes_on _ (omega (arith, key-length c.args.key.now));
    }
