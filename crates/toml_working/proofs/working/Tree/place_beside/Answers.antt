use Rattle.std.proofs.Common.{◌∙◌, Some, None, cond, ap, subst}
use Rattle.toml_working.specs.Following.{FindsFamily, put_behind}
use Rattle.toml_working.specs.FollowingHeaders.{family}
use Rattle.toml_working.specs.Standing.{slots_standing}
use Rattle.toml_working.specs.Starting.{read_of}
use Rattle.toml_working.proofs.Followed.{family_section, no_family}
use Rattle.toml_working.proofs.working.Tree.place_beside.Goals as goal

pub returns-in_default : goal.returns-in_default
returns-in_default c own =
    let read = read_of c.args.before in
    let slots = c.args.self.now.slots.items in
    let q = c.args.above.now.at in
    let p = c.args.new.at.now in
    (tt, λ new. no_family new (family q p (slots_standing read slots)) read slots (subst (FindsFamily q p read slots) c.in_default.is (c.in_ok-last.ensures own)))

pub returns-then-branch : goal.returns-then-branch
returns-then-branch c own =
    let read = read_of c.args.before in
    let slots = c.args.self.now.slots.items in
    let q = c.args.above.now.at in
    let p = c.args.new.at.now in
    let end = c.section_end-behind.result in
    let found = family_section (family q p (slots_standing read slots)) read slots c.in-Some.last end c.in_ok-has_more.field-0 c.next.result
    (subst (FindsFamily q p read slots) c.in-Some.is (c.in_ok-last.ensures own)) c.section_end-behind.ensures c.next.ensures.slot c.next.ensures.index
    c.in_ok-has_more.ensures in
    (found.0, λ new. found.1 new ∙ ap (λ b. cond b (Some (put_behind new read slots end)) None) c.if-branch.true)

pub returns-else-branch : goal.returns-else-branch
returns-else-branch c own =
    let read = read_of c.args.before in
    let slots = c.args.self.now.slots.items in
    let q = c.args.above.now.at in
    let p = c.args.new.at.now in
    let end = c.section_end-behind.result in
    let found = family_section (family q p (slots_standing read slots)) read slots c.in-Some.last end c.in_ok-has_more.field-0 c.next.result
    (subst (FindsFamily q p read slots) c.in-Some.is (c.in_ok-last.ensures own)) c.section_end-behind.ensures c.next.ensures.slot c.next.ensures.index
    c.in_ok-has_more.ensures in
    (tt, λ new. found.1 new ∙ ap (λ b. cond b (Some (put_behind new read slots end)) None) c.if-branch.false)
