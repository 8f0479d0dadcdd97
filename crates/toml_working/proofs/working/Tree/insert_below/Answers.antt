use Rattle.std.proofs.Common.{◌≡◌, ◌∙◌, true, subst, sym, true≢false}
use Rattle.std.proofs.lemmas.Result.{IfOk-weaker}
use Rattle.toml_text.specs.Source.{text_of}
use Rattle.toml_layout.specs.Holding.{PutsHeld}
use Rattle.toml_layout.specs.declared.changing.Inside.TheVariants as changes
use Rattle.toml_working.specs.Seeing.{FindsHolder}
use Rattle.toml_working.specs.Standing.{holds}
use Rattle.toml_working.specs.Starting.{read_of}
use Rattle.toml_working.proofs.Answered.{if_ok_always, if_ok_three, on_ok_always}
use Rattle.toml_working.specs.declared.lines.Sought.TheVariants.{Dotted, Header, HeaderBelow}
use Rattle.toml_working.proofs.Alone.{below_is, dotted_is, heads_is}
use Rattle.toml_working.proofs.Sectioned.{never_held}
use Rattle.toml_working.proofs.AtPlace.{holder_at}
use Rattle.toml_working.proofs.HeldLines.{child_held, held_there, line_held, not_held}
use Rattle.toml_working.proofs.working.Tree.insert_below.Goals as goal

pub returns-in-Some-clause-value : goal.returns-in-Some-clause-value
returns-in-Some-clause-value c =
    let read = read_of c.args.before in
    let it = c.args.insertion in
    let tree = c.args.self.now in
    let parent = c.args.parent.now in
    let found = subst (FindsHolder parent c.args.before.units.now tree.slots.items) c.in-Some.is c.value_line.ensures.0 read.lines in
    let (slot, s, slot_is, placed, line_is, leads) = holder_at read tree.slots.items c.in-Some.place parent found in
    IfOk-weaker c.change_value.result _ _ (λ done changed. λ last split not_root ss stands ordered there.
    line_held it.at.now (changes.Insert it.spelled it.new) (PutsHeld tree.texts.layout it.spelled.now it.new) tree.texts read c.in-Some.place
    tree.slots.items c.change_value.new.self.slots.items done s placed
    (subst (λ p. holds p s ≡ true) (sym split) (child_held parent last s leads)) (λ x y h. h) changed ss stands ordered)
    c.change_value.ensures.slots

pub returns-in-None-clause-value : goal.returns-in-None-clause-value
returns-in-None-clause-value c =
    let read = read_of c.args.before in
    let tree = c.args.self.now in
    if_ok_always _ c.insert_line.result (λ done last split not_root ss stands ordered there.
    absurd (not_held c.args.parent.now (text_of tree.texts.source) read tree.slots.items ss (c.value_line.ensures.1 c.in-None.is) not_root stands ordered there))

pub returns-in-Some-clause-below : goal.returns-in-Some-clause-below
returns-in-Some-clause-below c =
    let read = read_of c.args.before in
    let tree = c.args.self.now in
    let text = text_of tree.texts.source in
    let slots = tree.slots.items in
    let place = c.in-Some.place in
    let parent = c.args.parent.now in
    let found = subst (FindsHolder parent c.args.before.units.now slots) c.in-Some.is c.value_line.ensures.0 read.lines in
    on_ok_always _ c.change_value.result record {
      header = λ not_root name named ss stands ordered headed.
          absurd (never_held Header parent text read slots place (λ f. heads_is parent f.base f.address) found ss stands ordered headed.header);
      dotted = λ name at_is spellings ss stands ordered dotted.
          absurd (never_held Dotted parent text read slots place (λ f. dotted_is parent f.base f.address) found ss stands ordered dotted.dotted);
      implied = λ not_root name at_is spellings ss stands ordered implied.
          absurd (never_held HeaderBelow parent text read slots place (λ f. below_is parent f.base f.address) found ss stands ordered implied.below);
    }

pub returns-in-None-clause-below : goal.returns-in-None-clause-below
returns-in-None-clause-below c =
    if_ok_three _ _ _ _ c.insert_line.result
    (λ done inserts dotted implied. record {
      header = λ not_root name named ss stands ordered headed. inserts name named ss stands headed;
      dotted = dotted;
      implied = implied;
    })
    c.insert_line.ensures.below c.insert_line.ensures.dotted c.insert_line.ensures.implied

pub returns-in-Some-clause-element : goal.returns-in-Some-clause-element
returns-in-Some-clause-element c =
    let read = read_of c.args.before in
    let tree = c.args.self.now in
    let parent = c.args.parent.now in
    let found = subst (FindsHolder parent c.args.before.units.now tree.slots.items) c.in-Some.is c.value_line.ensures.0 read.lines in
    if_ok_always _ c.change_value.result (λ done ss stands ordered none is_element.
    absurd (true≢false (sym (held_there parent (text_of tree.texts.source) read tree.slots.items c.in-Some.place ss found stands) ∙ none)))

pub returns-in-None-clause-element : goal.returns-in-None-clause-element
returns-in-None-clause-element c = IfOk-weaker c.insert_line.result _ _ (λ done refuses. λ ss stands ordered none. refuses) c.insert_line.ensures.element
