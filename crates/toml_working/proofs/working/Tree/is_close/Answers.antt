use Rattle.std.proofs.Common.{false, subst}
use Rattle.toml_working.specs.Following.{FindsLandmark}
use Rattle.toml_working.specs.FollowingHeaders.{is_header_line, is_no_comment}
use Rattle.toml_working.specs.Starting.{read_of}
use Rattle.toml_working.proofs.FollowedEnd.{close_at, entry_found, entry_none, not_headed}
use Rattle.toml_working.proofs.working.Tree.is_close.Goals as goal

pub returns-in_default : goal.returns-in_default
returns-in_default c =
    let read = read_of c.args.before in
    let slots = c.args.self.now.slots.items in
    not_headed read slots c.args.place (subst (FindsLandmark is_header_line read slots c.args.place) c.in_default.is c.in_ok-header.ensures)

pub returns-in-Some-2 : goal.returns-in-Some-2
returns-in-Some-2 c =
    let read = read_of c.args.before in
    let slots = c.args.self.now.slots.items in
    let header = c.in-Some.header in
    close_at read slots c.args.place header c.is_entry_at.result (subst (FindsLandmark is_header_line read slots c.args.place) c.in-Some.is c.in_ok-header.ensures)
    (entry_found read slots header c.in-Some-2.line c.is_entry_at.result (subst (FindsLandmark is_no_comment read slots header) c.in-Some-2.is c.in_ok-line.ensures)
    c.is_entry_at.ensures)

pub returns-in-None : goal.returns-in-None
returns-in-None c =
    let read = read_of c.args.before in
    let slots = c.args.self.now.slots.items in
    let header = c.in-Some.header in
    close_at read slots c.args.place header false (subst (FindsLandmark is_header_line read slots c.args.place) c.in-Some.is c.in_ok-header.ensures)
    (entry_none read slots header (subst (FindsLandmark is_no_comment read slots header) c.in-None.is c.in_ok-line.ensures))
