use Rattle.toml_names.proofs.Common.{arith, err_from_is_err_and, piece, part_name, nowhere, rules}
use Rattle.toml_names.proofs.lemmas.tree.EnterName.{IsNode-known}
use Rattle.toml_names.proofs.lemmas.tree.InnerNodes.{Passes-known, clash-known, Passes-new}
use Rattle.toml_names.proofs.lemmas.tree.Steps.{GoesOn-then, refuses}
use Rattle.toml_names.proofs.tree.name_tree.NameTree.pass.Goals as goal

pub inner-id-requires : goal.inner-id-requires
inner-id-requires c = record {
  there = IsNode-known c.args.self.now.nodes.items c.follow.new.self.nodes.items c.args.at c.requires.there (part_name (piece c.args.part)) c.in-Known.there (rw c.in-Known.is at (rw c.in-Some.is at c.in_ok-found.ensures.found));
}

pub mention-requires : goal.mention-requires
mention-requires c = search (rules, IsNode-known)

pub returns-in_err-mention-in-Known : goal.returns-in_err-mention-in-Known
returns-in_err-mention-in-Known c =
    refuses c.follow.ensures.goes_on c.in_err-mention-in-Known.ensures
    (err_from_is_err_and c.from_residual-in_err-mention-in-Known.result c.from_residual-in_err-mention-in-Known.ensures.1) (omega arith)
    (clash-known c.args.self.now.nodes.items c.follow.new.self.nodes.items c.args.at c.requires.there (part_name (piece c.args.part)) c.args.line
    c.in-Known.there (rw c.in-Known.is at (rw c.in-Some.is at c.in_ok-found.ensures.found)) c.inner-id.result c.inner-id.ensures.within c.inner-id.ensures.entered)

pub returns-in_ok-mention-in-Known : goal.returns-in_ok-mention-in-Known
returns-in_ok-mention-in-Known c = record {
  made = Passes-known c.args.self.now.nodes.items c.follow.new.self.nodes.items c.args.at c.requires.there (part_name (piece c.args.part)) c.args.line
      c.in-Known.there (rw c.in-Known.is at (rw c.in-Some.is at c.in_ok-found.ensures.found)) c.inner-id.result c.inner-id.ensures.within c.inner-id.ensures.entered
      c.mention.new.self.nodes.items c.in_ok-mention-in-Known.ensures.made;
  clash = tt;
  goes_on = GoesOn-then c.follow.ensures.goes_on c.mention.ensures.goes_on 1 (omega arith);
}

pub returns-in-New : goal.returns-in-New
returns-in-New c =
    let led = rw c.in-New.is at (rw c.in-Some.is at c.in_ok-found.ensures.found) in
    record {
      made = rw (led.2 nowhere, led.0) (Passes-new c.args.self.now.nodes.items c.requires.there.tree c.args.at (part_name (piece c.args.part)) c.args.line c.requires.there.within nowhere (led.1 nowhere) nowhere);
      clash = tt;
      goes_on = c.follow.ensures.goes_on;
    }
