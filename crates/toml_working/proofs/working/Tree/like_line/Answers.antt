use Rattle.std.proofs.Common.{◌∙◌, ap, sym, subst}
use Rattle.toml_layout.specs.OpenOutlines.{leaf_text}
use Rattle.toml_working.specs.LookingUp.{GoneUp, last_pair_from}
use Rattle.toml_working.specs.Placing.{is_header}
use Rattle.toml_working.specs.Seeing.{Found}
use Rattle.toml_working.specs.Starting.{read_of}
use Rattle.toml_working.proofs.LookedUp.{found_up, past_line, seen_found, some_is}
use Rattle.toml_working.proofs.working.Tree.like_line.Goals as goal

pub returns-then-not-is_header : goal.returns-then-not-is_header
returns-then-not-is_header c s there all above up =
    let read = read_of c.args.before in
    let slots = c.args.self.now.slots.items in
    let ws = leaf_text c.args.ws in
    let same = seen_found read.units slots c.args.at c.seen.result c.in-Some.line read.lines s c.seen.ensures c.in-Some.is there in
    subst (GoneUp ws read slots all above) (sym (c.last_pair_from.ensures ∙ ap (λ (f : Found). last_pair_from f.base c.args.at c.args.last) same))
    (past_line ws read slots all above s c.args.last up c.args.at there
    (ap (λ (f : Found). is_header f.base f.address) (sym same) ∙ sym c.is_header.ensures ∙ c.if-not-is_header.true))

pub returns-then-branch : goal.returns-then-branch
returns-then-branch c s there all above up =
    let read = read_of c.args.before in
    let slots = c.args.self.now.slots.items in
    let ws = leaf_text c.args.ws in
    let same = seen_found read.units slots c.args.at c.seen.result c.in-Some.line read.lines s c.seen.ensures c.in-Some.is there in
    let (at, is) = some_is c.args.last (sym c.is_some.ensures ∙ c.if-is_some.true) in (
      at,
      is,
      found_up ws read slots all above s c.args.last up
          (ap (λ (f : Found). is_header f.base f.address) (sym same) ∙ sym c.is_header.ensures ∙ c.if-not-is_header.false)
          (sym (c.in_ok-begins_with.ensures s there) ∙ c.if-branch.true) at is,
    )
