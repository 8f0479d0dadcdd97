use Rattle.std.proofs.Common.{subst}
use Rattle.toml_layout.specs.Gaps.{SplitsLast}
use Rattle.toml_layout.specs.Items.{gap_parts, items_of}
use Rattle.toml_layout.specs.Margins.{IsMarginAlone, IsOnLine}
use Rattle.toml_layout.specs.PartOutlines.{outlined}
use Rattle.toml_layout.proofs.RoomParts.{alone_on_line, unwrapped}
use Rattle.toml_layout.proofs.tree.Entries.room_alone.Goals as goal

pub returns-in-Some : goal.returns-in-Some
returns-in-Some c =
    let m = items_of c.args.self.now in
    let lines = c.in-Some.split.0.now in
    let closing = c.in-Some.split.1.now in
    let own = c.in_ok-margin.margin.parts.items in
    let before = gap_parts c.in_ok-before.before in
    let behind = gap_parts c.in_ok-before.behind in
    alone_on_line m (items_of c.take_end.new.self) (items_of c.put_end.new.self) c.args.is_pair (gap_parts c.unwrap_or-end.result) c.in_ok-between.between.parts.items
    lines closing own before behind (gap_parts c.empty-in-Some.result)
    (unwrapped c.take_end.result c.empty.result c.unwrap_or-end.result m.end c.unwrap_or-end.ensures c.empty.ensures c.take_end.ensures.stood) c.in_ok-between.ensures
    (subst (λ all. SplitsLast all lines closing) c.deref.ensures.value c.in-Some.ensures)
    (subst (λ all. IsMarginAlone all lines closing (outlined own)) c.deref-in-Some.ensures.value c.in_ok-margin.ensures)
    (subst (λ begins. IsOnLine begins lines closing before behind) c.deref-in-Some-2.ensures.value c.in_ok-before.ensures) c.take_end.ensures.now c.put_end.ensures
    c.empty-in-Some.ensures
