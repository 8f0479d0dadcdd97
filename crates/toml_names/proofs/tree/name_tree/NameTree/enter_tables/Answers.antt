use Rattle.toml_names.proofs.Common.{arith, piece, part_name}
use Rattle.toml_names.proofs.lemmas.tree.EnterName.{IsNode-known, known-address, known-mentioned}
use Rattle.toml_names.proofs.lemmas.tree.NextTables.{new_array-there, new_array-adds}
use Rattle.toml_names.proofs.lemmas.tree.Steps.{GoesOn-then, follows}
use Rattle.toml_names.proofs.tree.name_tree.NameTree.enter_tables.Goals as goal

pub enter_next_table-requires-clause-there : goal.enter_next_table-requires-clause-there
enter_next_table-requires-clause-there c =
    IsNode-known c.args.self.now.nodes.items c.find_or_grow.new.self.nodes.items c.args.at c.requires.there (part_name (piece c.args.part)) c.in-Known.array (rw c.in-Known.is at c.in_ok-array.ensures.found)

pub enter_next_table-requires-clause-mention : goal.enter_next_table-requires-clause-mention
enter_next_table-requires-clause-mention c =
    known-mentioned c.args.self.now.nodes.items c.find_or_grow.new.self.nodes.items c.args.at c.requires.there (part_name (piece c.args.part)) c.in-Known.array (rw c.in-Known.is at c.in_ok-array.ensures.found)

pub returns-in-Known : goal.returns-in-Known
returns-in-Known c =
    let led = rw c.in-Known.is at c.in_ok-array.ensures.found in
    let to = known-address c.args.self.now.nodes.items c.find_or_grow.new.self.nodes.items c.args.at c.requires.there (part_name (piece c.args.part)) c.in-Known.array led in
    follows c.find_or_grow.ensures.goes_on c.enter_next_table.ensures (omega arith)
    (λ id adds. rw led.0 at (rw to at adds))
    (λ a clash. rw led.0 at (rw to at clash))

pub grow_element-requires : goal.grow_element-requires
grow_element-requires c = record {
  there = new_array-there c.args.self.now.nodes.items c.find_or_grow.new.self.nodes.items c.args.at c.requires.there (part_name (piece c.args.part)) c.args.line
      c.in-New.array (rw c.in-New.is at c.in_ok-array.ensures.found);
}

pub returns-in_ok-grow_element-in-New : goal.returns-in_ok-grow_element-in-New
returns-in_ok-grow_element-in-New c = record {
  made = new_array-adds c.args.self.now.nodes.items c.find_or_grow.new.self.nodes.items c.args.at c.requires.there (part_name (piece c.args.part)) c.args.line
      c.in-New.array (rw c.in-New.is at c.in_ok-array.ensures.found) c.grow_element.new.self.nodes.items c.in_ok-grow_element-in-New.field-0 c.in_ok-grow_element-in-New.ensures.grown;
  clash = tt;
  goes_on = GoesOn-then c.find_or_grow.ensures.goes_on c.grow_element.ensures.goes_on 1 (omega arith);
}
