use Rattle.toml_working.proofs.Turned.{if_one_turns, none_turns}
use Rattle.toml_working.proofs.inside.change_one.Goals as goal

pub returns-in-Some : goal.returns-in-Some
returns-in-Some c =
    if_one_turns c.change.result _ c.args.index c.args.lines.now.items c.in-Some.line.now c.change.new.self c.in-Some.ensures.item.3.0
    c.in-Some.ensures.value
    c.change.ensures

pub returns-in-None : goal.returns-in-None
returns-in-None c = none_turns _ c.args.index c.args.lines.now.items c.in-None.ensures.item.3
