use Rattle.std.proofs.Common.{subst}
use Rattle.std.proofs.lemmas.Result.{on_ok_weaker}
use Rattle.toml_text.specs.Source.{text_of}
use Rattle.toml_layout.specs.OpenOutlines.{value}
use Rattle.toml_working.specs.Placing.{FindsLastOf}
use Rattle.toml_working.specs.Putting.{manner}
use Rattle.toml_working.specs.Standing.{slots_standing}
use Rattle.toml_working.specs.Starting.{read_of}
use Rattle.toml_working.proofs.PutRoot.{behind_root, first_of_root}
use Rattle.toml_working.proofs.working.Tree.insert_at_root.Goals as goal

pub returns-in-Some-clause-root : goal.returns-in-Some-clause-root
returns-in-Some-clause-root c =
    let it = c.args.insertion in
    let tree = c.args.self.now in
    let read = read_of c.args.before in
    let slots = tree.slots.items in
    on_ok_weaker c.insert_behind.result
    (behind_root it.at.now it.spelled.now (value it.new) (manner tree) tree.texts read c.in-Some.behind slots
    c.insert_behind.new.self.slots.items
    (λ first. subst (FindsLastOf read slots (slots_standing read slots)) c.in-Some.is (c.last_root_pair.ensures read.lines first)))
    c.insert_behind.ensures.put

pub returns-in-None-clause-root : goal.returns-in-None-clause-root
returns-in-None-clause-root c =
    let it = c.args.insertion in
    let tree = c.args.self.now in
    let read = read_of c.args.before in
    let slots = tree.slots.items in
    on_ok_weaker c.insert_first.result
    (first_of_root it.at.now it.spelled.now (value it.new) (manner tree) (text_of tree.texts.source) read slots
    c.insert_first.new.self.slots.items
    (λ first. subst (FindsLastOf read slots (slots_standing read slots)) c.in-None.is (c.last_root_pair.ensures read.lines first)))
    c.insert_first.ensures.first
