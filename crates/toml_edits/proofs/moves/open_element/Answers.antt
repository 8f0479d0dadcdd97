use Rattle.std.proofs.Common.{refl}
use Rattle.toml_edits.proofs.Entering.{element_opened, element_put, element_was_put}
use Rattle.toml_edits.proofs.moves.open_element.Goals as goal

pub returns-then-contains_key : goal.returns-then-contains_key
returns-then-contains_key c = element_opened c.args.to c.args.elements.now c.args.elements.now c.contains_key.result refl c.contains_key.ensures c.if-contains_key.true

pub returns : goal.returns
returns c = element_was_put c.args.to c.of.result c.args.elements.now c.insert.new.self c.contains_key.result c.contains_key.ensures c.if-contains_key.false
    (λ j. element_put c.args.elements.now c.args.elements.now c.insert.new.self c.args.to c.of.result refl c.in_ok-insert.ensures.updates.0 j) c.of.ensures
