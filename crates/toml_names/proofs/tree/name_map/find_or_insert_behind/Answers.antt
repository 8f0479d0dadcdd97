use Rattle.toml_names.proofs.Common.{◌≡◌, ◌∙◌, sym, length}
use Rattle.toml_names.proofs.lemmas.tree.Distinct.{led-same, led-more}
use Rattle.toml_names.proofs.tree.name_map.find_or_insert_behind.Goals as goal

pub returns-then-len-before-clause-found : goal.returns-then-len-before-clause-found
returns-then-len-before-clause-found c =
    let long : length c.insert_behind.new.names.entries ≡ length c.args.names.now.entries = sym c.len.ensures.len ∙ c.if-len-before.true ∙ c.len-before.ensures.len in
    (led-same c.args.name c.args.names.now.entries c.insert_behind.new.names.entries c.args.id c.in_ok-led.led c.in_ok-led.ensures.entries c.in_ok-led.ensures.found long).0

pub returns-then-len-before-clause-known : goal.returns-then-len-before-clause-known
returns-then-len-before-clause-known c =
    let long : length c.insert_behind.new.names.entries ≡ length c.args.names.now.entries = sym c.len.ensures.len ∙ c.if-len-before.true ∙ c.len-before.ensures.len in
    (led-same c.args.name c.args.names.now.entries c.insert_behind.new.names.entries c.args.id c.in_ok-led.led c.in_ok-led.ensures.entries c.in_ok-led.ensures.found long).1

pub returns-else-len-before-clause-found : goal.returns-else-len-before-clause-found
returns-else-len-before-clause-found c =
    (led-more c.args.name c.args.names.now.entries c.insert_behind.new.names.entries c.args.id c.in_ok-led.led c.in_ok-led.ensures.entries c.in_ok-led.ensures.found
    (λ long. c.if-len-before.false (c.len.ensures.len ∙ long ∙ sym c.len-before.ensures.len))).0

pub returns-else-len-before-clause-inserted : goal.returns-else-len-before-clause-inserted
returns-else-len-before-clause-inserted c =
    (led-more c.args.name c.args.names.now.entries c.insert_behind.new.names.entries c.args.id c.in_ok-led.led c.in_ok-led.ensures.entries c.in_ok-led.ensures.found
    (λ long. c.if-len-before.false (c.len.ensures.len ∙ long ∙ sym c.len-before.ensures.len))).1
