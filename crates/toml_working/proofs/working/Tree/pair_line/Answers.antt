use Rattle.std.proofs.Common.{◌≡◌, ◌∙◌, Some, ap, arith, length}
use Rattle.toml_layout.specs.OpenOutlines.{leaf_text, value}
use Rattle.toml_working.proofs.Answered.{if_ok_three}
use Rattle.toml_names.specs.mentions.Keys.{Key}
use Rattle.toml_names.specs.model.Addresses.{Address}
use Rattle.toml_working.specs.Putting.{IsKeyIn}
use Rattle.toml_working.proofs.PutRoot.{pair_line_is, parts_named}
use Rattle.toml_working.proofs.working.Tree.pair_line.Goals as goal

pub returns : goal.returns
returns c =
    let it = c.args.insertion in
    let steps = it.spelled.now in
    let same = λ (q : Address) (key : Key) (at_base : c.args.base ≡ length q) (named : IsKeyIn q key it.at.now steps).
    parts_named q key it.at.now steps c.split_at.result.1.now c.min.result named
    (λ within. omega (arith, at_base, within, c.min.ensures)) c.split_at.ensures.back in
    if_ok_three _ _ _ _ c.new.result
    (λ l address base outline.
    pair_line_is it.at.now c.args.base steps c.split_at.result.1.now (value it.new) (leaf_text c.args.newline) c.in_ok-assign.field-0 l same
    c.in_ok-assign.ensures
    (address ∙ ap Some c.in_ok-address.ensures) base outline)
    c.new.ensures.address c.new.ensures.base c.new.ensures.outline
