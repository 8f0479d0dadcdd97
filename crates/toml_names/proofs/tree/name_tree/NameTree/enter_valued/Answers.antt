use Rattle.toml_names.proofs.Common.{◌<◌, length, refl, arith, piece, Valued, part_name, kind as kind_of, rules}
use Rattle.toml_names.proofs.lemmas.tree.EnterName.{IsNode-known, Clashes-known_value, EntersTo-new, lone-led}
use Rattle.toml_names.proofs.tree.name_tree.NameTree.enter_valued.Goals as goal

pub address-requires-clause-within : goal.address-requires-clause-within
address-requires-clause-within c =
    let h : c.in-Known.id < length c.find_or_grow.new.self.nodes.items =
    (IsNode-known c.args.self.now.nodes.items c.find_or_grow.new.self.nodes.items c.args.at c.requires.there (part_name (piece c.args.part)) c.in-Known.id (rw c.in-Known.is at c.in_ok-id.ensures.found)).within in
    omega arith

pub returns-in_ok-address-in-Known-clause-enters : goal.returns-in_ok-address-in-Known-clause-enters
returns-in_ok-address-in-Known-clause-enters c = search (rules, Clashes-known_value)

pub returns-in-New-clause-enters : goal.returns-in-New-clause-enters
returns-in-New-clause-enters c = record {
  made = EntersTo-new c.args.self.now.nodes.items c.find_or_grow.new.self.nodes.items c.args.at c.requires.there (part_name (piece c.args.part))
      c.in-New.id Valued (kind_of c.args.kind) c.args.line (rw c.in-New.is at c.in_ok-id.ensures.found) refl (λ e. cc);
  clash = tt;
  goes_on = c.find_or_grow.ensures.goes_on;
}

pub returns-in-New-clause-lone : goal.returns-in-New-clause-lone
returns-in-New-clause-lone c =
    let led = rw c.in-New.is at c.in_ok-id.ensures.found in
    (led.0, lone-led c.args.self.now.nodes.items c.find_or_grow.new.self.nodes.items c.args.at c.requires.there (part_name (piece c.args.part)) c.in-New.id Valued (kind_of c.args.kind) c.args.line led)
