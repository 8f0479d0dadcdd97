use Rattle.std.proofs.Common.{subst}
use Rattle.std.proofs.lemmas.Result.{on_ok_weaker}
use Rattle.toml_text.specs.Source.{text_of}
use Rattle.toml_layout.specs.OpenOutlines.{value}
use Rattle.toml_working.specs.OpeningComments.{FindsAbove}
use Rattle.toml_working.specs.Putting.{manner}
use Rattle.toml_working.specs.Starting.{read_of}
use Rattle.toml_working.proofs.PutRoot.{before_all, below_comments}
use Rattle.toml_working.proofs.working.Tree.insert_first.Goals as goal

pub returns-in-Some-clause-first : goal.returns-in-Some-clause-first
returns-in-Some-clause-first c =
    let it = c.args.insertion in
    let tree = c.args.self.now in
    let read = read_of c.args.before in
    let slots = tree.slots.items in
    let found = subst (FindsAbove tree.texts.layout read slots) c.in-Some.is c.in_ok-behind.ensures in
    on_ok_weaker c.insert_behind.result
    (below_comments it.at.now it.spelled.now (value it.new) (manner tree) tree.texts read c.in-Some.behind slots
    c.insert_behind.new.self.slots.items found.0 found.1)
    c.insert_behind.ensures.put

pub returns-in_ok-line-in-None-clause-first : goal.returns-in_ok-line-in-None-clause-first
returns-in_ok-line-in-None-clause-first c =
    let it = c.args.insertion in
    let tree = c.args.self.now in
    let read = read_of c.args.before in
    let slots = tree.slots.items in
    on_ok_weaker c.put.result
    (before_all it.at.now it.spelled.now (value it.new) (manner tree) (text_of tree.texts.source) read slots
    c.put.new.self.slots.items c.in_ok-line-in-None.line
    (subst (FindsAbove tree.texts.layout read slots) c.in-None.is c.in_ok-behind.ensures) c.in_ok-line-in-None.ensures)
    c.put.ensures.put
