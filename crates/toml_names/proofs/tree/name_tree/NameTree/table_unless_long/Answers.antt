use Rattle.toml_names.proofs.Common.{[], arith, err_from_is_err_and, piece, key as tree_key, PassedFronts, part_name, rest_names, key_names, CanEnterHeaders, IsLongKey, ends_table, rules}
use Rattle.toml_names.proofs.lemmas.tree.EnterFronts.{key-length}
use Rattle.toml_names.proofs.lemmas.tree.HeaderLines.{clash_in_fronts, table_line, table_clash}
use Rattle.toml_names.proofs.lemmas.tree.Steps.{GoesOn-same, GoesOn-within, follows, found_by, refuses}
use Rattle.toml_names.proofs.tree.name_tree.NameTree.table_unless_long.Goals as goal

pub returns-in_err-here : goal.returns-in_err-here
returns-in_err-here c =
    refuses (GoesOn-same c.args.self.now) c.in_err-here.ensures (err_from_is_err_and c.from_residual.result c.from_residual.ensures.1) (omega (arith, key-length c.args.key.now))
    (clash_in_fronts c.args.self.now.nodes.items c.args.line (λ ms. ends_table c.args.line) (part_name (piece c.args.key.now.first)) (rest_names (tree_key c.args.key.now).rest))

pub enter-requires-clause-there : goal.enter-requires-clause-there
enter-requires-clause-there c = search (rules)

pub returns-in-Some : goal.returns-in-Some
returns-in-Some c =
    let passed : PassedFronts c.args.self.now.nodes.items c.pass_fronts.new.self.nodes.items c.args.line c.in-Some.here (part_name (piece c.in-Some.part)) (key_names (tree_key c.args.key.now)) =
    rw c.in-Some.is at c.in_ok-here.ensures.made in
    follows c.pass_fronts.ensures.goes_on c.enter.ensures (omega (arith, key-length c.args.key.now))
    (found_by _ _ _ _ (table_line c.args.self.now.nodes.items c.pass_fronts.new.self.nodes.items c.args.line c.in-Some.here (part_name (piece c.in-Some.part)) (part_name (piece c.args.key.now.first)) (rest_names (tree_key c.args.key.now).rest) passed c.enter.new.self.nodes.items))
    (table_clash c.args.self.now.nodes.items c.pass_fronts.new.self.nodes.items c.args.line c.in-Some.here (part_name (piece c.in-Some.part)) (part_name (piece c.args.key.now.first)) (rest_names (tree_key c.args.key.now).rest) passed)

pub returns-in-None : goal.returns-in-None
returns-in-None c =
    let fresh : CanEnterHeaders c.args.self.now.nodes.items c.args.line (key_names (tree_key c.args.key.now)) × IsLongKey [] (key_names (tree_key c.args.key.now)) = rw c.in-None.is at c.in_ok-here.ensures.made in
    record {
      made = (fresh.0.table, fresh.1);
      clash = tt;
      goes_on = GoesOn-within c.pass_fronts.ensures.goes_on _ (omega (arith, key-length c.args.key.now));
    }
