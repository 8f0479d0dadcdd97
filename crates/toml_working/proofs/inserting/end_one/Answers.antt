use Rattle.std.proofs.lemmas.Result.{on_ok_weaker}
use Rattle.toml_layout.specs.KnownLines.{lines_known}
use Rattle.toml_layout.specs.OpenOutlines.{leaf_text}
use Rattle.toml_working.proofs.Put.{line_ended}
use Rattle.toml_working.proofs.Turned.{if_one_turns, none_turns}
use Rattle.toml_working.proofs.inserting.end_one.Goals as goal

pub returns-in-Some : goal.returns-in-Some
returns-in-Some c =
    let lines = (lines_known c.args.known.now) in
    if_one_turns c.end_in.result _ c.args.index c.args.lines.now.items c.in-Some.line.now c.end_in.new.self c.in-Some.ensures.item.3.0
    c.in-Some.ensures.value
    (on_ok_weaker c.end_in.result
    (line_ended (leaf_text c.args.newline) c.args.texts lines c.in-Some.line.now c.end_in.new.self c.end_in.ensures.address
    c.end_in.ensures.base)
    c.end_in.ensures.opened)

pub returns-in-None : goal.returns-in-None
returns-in-None c = none_turns _ c.args.index c.args.lines.now.items c.in-None.ensures.item.3
