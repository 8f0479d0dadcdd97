use Rattle.toml_tree.specs.HandedOut.{left}
use Rattle.toml_tree.specs.Lines.{line as tree_line}
use Rattle.toml_names.proofs.Proved.{less_is_left}
use Rattle.toml_names.specs.mentions.Mentions.{named}
use Rattle.toml_names.specs.reader.Names.{own_address}
use Rattle.toml_print.proofs.FoundLines.{passed_blank, looked, address_told, no_address_told}
use Rattle.toml_print.proofs.value_at.look_at_line.Goals as goal

pub returns-then-not-told : goal.returns-then-not-told
returns-then-not-told c = λ profile text passed.
    let taken = passed.taken in
    let l = tree_line c.in-Ok.line in
    let more = less_is_left profile text taken.front (left c.args.reader) c.in-Ok.line c.in-Ok.more (c.in-Ok.ensures.hands profile text taken.front taken.are) in
    let took = c.in-Ok-take_at.ensures taken.front taken.stand in
    let none = no_address_told (own_address (named taken.front) l.expr) c.args.own.now c.take_at.new.here c.in-Ok-take_at.told c.if-not-told.true took.1 in
    (passed_blank profile text c.args.at.now c.take_at.new.self taken.front l c.in-Ok.more passed.none more.0 took.0 none, more.1)

pub returns : goal.returns
returns c = λ profile text passed.
    let taken = passed.taken in
    let l = tree_line c.in-Ok.line in
    let more = less_is_left profile text taken.front (left c.args.reader) c.in-Ok.line c.in-Ok.more (c.in-Ok.ensures.hands profile text taken.front taken.are) in
    let took = c.in-Ok-take_at.ensures taken.front taken.stand in
    let own = address_told (own_address (named taken.front) l.expr) c.args.own.now c.take_at.new.here c.in-Ok-take_at.told c.if-not-told.false took.1 in
    looked profile text c.args.at.now c.take_at.new.self taken.front l c.in-Ok.more passed.none more.0 took.0 c.in_ok-find_of_line.field-0 (left c.args.reader) c.take_at.new.here own c.in_ok-find_of_line.ensures more.1
