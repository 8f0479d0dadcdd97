use Rattle.toml_names.proofs.Common.{arith, err_from_is_err_and, piece, part_name, kind as kind_of}
use Rattle.toml_names.proofs.lemmas.tree.EnterName.{IsNode-known, Clashes-known, EntersTo-known, EntersTo-new}
use Rattle.toml_names.proofs.lemmas.tree.Steps.{GoesOn-then, refuses}
use Rattle.toml_names.proofs.tree.name_tree.NameTree.enter.Goals as goal

pub mention-requires : goal.mention-requires
mention-requires c = record {
  there = IsNode-known c.args.self.now.nodes.items c.follow.new.self.nodes.items c.args.at c.requires.there (part_name (piece c.args.part)) c.in-Known.id (rw c.in-Known.is at (rw c.in-Some.is at c.in_ok-found.ensures.found));
}

pub returns-in_err-mention-in-Known : goal.returns-in_err-mention-in-Known
returns-in_err-mention-in-Known c =
    refuses c.follow.ensures.goes_on c.in_err-mention-in-Known.ensures
    (err_from_is_err_and c.from_residual-in_err-mention-in-Known.result c.from_residual-in_err-mention-in-Known.ensures.1) (omega arith)
    (Clashes-known c.args.self.now.nodes.items c.follow.new.self.nodes.items c.args.at c.requires.there (part_name (piece c.args.part))
    c.in-Known.id (rw c.in-Known.is at (rw c.in-Some.is at c.in_ok-found.ensures.found)) c.args.role (kind_of c.args.kind) c.args.line)

pub returns-in_ok-mention-in-Known : goal.returns-in_ok-mention-in-Known
returns-in_ok-mention-in-Known c = record {
  made = EntersTo-known c.args.self.now.nodes.items c.follow.new.self.nodes.items c.args.at c.requires.there (part_name (piece c.args.part))
      c.in-Known.id (rw c.in-Known.is at (rw c.in-Some.is at c.in_ok-found.ensures.found)) c.args.role (kind_of c.args.kind) c.args.line c.requires.plain
      c.mention.new.self.nodes.items c.in_ok-mention-in-Known.ensures.made;
  clash = tt;
  goes_on = GoesOn-then c.follow.ensures.goes_on c.mention.ensures.goes_on 1 (omega arith);
}

pub returns-in-New : goal.returns-in-New
returns-in-New c = record {
  made = EntersTo-new c.args.self.now.nodes.items c.follow.new.self.nodes.items c.args.at c.requires.there (part_name (piece c.args.part))
      c.in-New.id c.args.role (kind_of c.args.kind) c.args.line (rw c.in-New.is at (rw c.in-Some.is at c.in_ok-found.ensures.found)) c.requires.plain c.requires.mention;
  clash = tt;
  goes_on = c.follow.ensures.goes_on;
}
