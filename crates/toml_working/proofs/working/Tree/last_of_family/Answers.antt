use Rattle.std.proofs.Common.{◌∙◌, None, sym, subst}
use Rattle.std.proofs.lemmas.Result.{IfOk-weaker}
use Rattle.toml_working.specs.Following.{FindsLastBelow}
use Rattle.toml_working.specs.Starting.{read_of}
use Rattle.toml_working.proofs.Followed.{array_family, own_family, table_family}
use Rattle.toml_working.proofs.working.Tree.last_of_family.Goals as goal

pub returns-in-Some : goal.returns-in-Some
returns-in-Some c own =
    let read = read_of c.args.before in
    let slots = c.args.self.now.slots.items in
    let q = c.args.above.now.at in
    own_family q c.args.new.at.now read slots c.in-Some.last (subst (FindsLastBelow q read slots) c.in-Some.is c.in_ok-last.ensures)

pub returns-then-not-is_element : goal.returns-then-not-is_element
returns-then-not-is_element c own =
    let read = read_of c.args.before in
    let slots = c.args.self.now.slots.items in
    let q = c.args.above.now.at in
    table_family q c.args.new.at.now read slots None (sym c.is_element.ensures ∙ c.if-not-is_element.true)
    (subst (FindsLastBelow q read slots) c.in_default.is c.in_ok-last.ensures)

pub returns : goal.returns
returns c =
    let read = read_of c.args.before in
    let slots = c.args.self.now.slots.items in
    let q = c.args.above.now.at in
    let element = sym c.is_element.ensures ∙ c.if-not-is_element.false in
    IfOk-weaker c.last_of-2.result _ _ (λ found finds own.
    array_family q c.args.new.at.now read slots c.in_ok-parent.parent found element (own element) c.in_ok-parent.ensures
    (subst (FindsLastBelow q read slots) c.in_default.is c.in_ok-last.ensures) finds)
    c.last_of-2.ensures
