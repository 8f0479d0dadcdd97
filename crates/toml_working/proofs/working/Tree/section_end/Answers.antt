use Rattle.std.proofs.Common.{◌≡◌, ◌∙◌, false, sym, subst}
use Rattle.std.specs.Prelude.{MatchOption}
use Rattle.toml_working.specs.FollowingHeaders.{is_header_line}
use Rattle.toml_working.specs.Standing.{Standing}
use Rattle.toml_working.specs.Starting.{read_of}
use Rattle.toml_working.proofs.Followed.{header_section, pair_of, pair_section}
use Rattle.toml_working.proofs.working.Tree.section_end.Goals as goal

pub returns-then-is_header_at : goal.returns-then-is_header_at
returns-then-is_header_at c s there bare low =
    let read = read_of c.args.before in
    let slots = c.args.self.now.slots.items in
    let at = c.args.at in
    header_section read slots at c.next.result s c.last_pair.result there c.next.ensures.slot (c.next.ensures.index low) (c.last_pair.ensures read.lines) low
    c.unwrap_or.result c.unwrap_or.ensures

pub returns-else-is_header_at : goal.returns-else-is_header_at
returns-else-is_header_at c s there bare low =
    let read = read_of c.args.before in
    let slots = c.args.self.now.slots.items in
    let at = c.args.at in
    let tells = subst (λ o. MatchOption o (c.is_header_at.result ≡ false) (λ (t : Standing). c.is_header_at.result ≡ is_header_line t)) there c.is_header_at.ensures in
    pair_section read slots at s c.last_pair-else-is_header_at.result there (pair_of s bare (sym tells ∙ c.if-is_header_at.false))
    (c.last_pair-else-is_header_at.ensures read.lines) c.unwrap_or-else-is_header_at.result c.unwrap_or-else-is_header_at.ensures
