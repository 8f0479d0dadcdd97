use Rattle.toml_names.proofs.Common.{arith, err_from_is_err_and}
use Rattle.toml_names.proofs.lemmas.tree.NextTables.{noted_array-there, noted_array-adds, clash_next}
use Rattle.toml_names.proofs.lemmas.tree.Steps.{GoesOn-same, GoesOn-then, refuses}
use Rattle.toml_names.proofs.tree.name_tree.NameTree.enter_next_table.Goals as goal

pub returns-in_err-mention : goal.returns-in_err-mention
returns-in_err-mention c =
    refuses (GoesOn-same c.args.self.now) c.in_err-mention.ensures (err_from_is_err_and c.from_residual.result c.from_residual.ensures.1) (omega arith)
    (clash_next c.args.self.now.nodes.items c.args.array c.args.line c.requires.there.within)

pub grow_element-requires : goal.grow_element-requires
grow_element-requires c = record {
  there = noted_array-there c.args.self.now.nodes.items c.mention.new.self.nodes.items c.args.array c.requires.there c.args.line c.in_ok-mention.ensures.made;
}

pub returns : goal.returns
returns c = record {
  made = noted_array-adds c.args.self.now.nodes.items c.mention.new.self.nodes.items c.args.array c.requires.there c.args.line c.in_ok-mention.ensures.made c.requires.mention
      c.grow_element.new.self.nodes.items c.in_ok-grow_element.field-0 c.in_ok-grow_element.ensures.grown;
  clash = tt;
  goes_on = GoesOn-then c.mention.ensures.goes_on c.grow_element.ensures.goes_on 0 (omega arith);
}
