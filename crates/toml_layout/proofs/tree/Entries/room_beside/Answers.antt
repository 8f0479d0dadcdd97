use Rattle.std.proofs.Common.{subst}
use Rattle.toml_layout.specs.Gaps.{SplitsLast}
use Rattle.toml_layout.specs.Items.{item, items_of}
use Rattle.toml_layout.specs.Rooms.{room_of}
use Rattle.toml_layout.proofs.RoomParts.{beside_on_line}
use Rattle.toml_layout.proofs.tree.Entries.room_beside.Goals as goal

pub returns-in-Some-past_last_newline : goal.returns-in-Some-past_last_newline
returns-in-Some-past_last_newline c =
    let line = c.in-Some-past_last_newline.line.now in
    let indent = c.in-Some-past_last_newline.indent.now in
    beside_on_line (items_of c.args.self.now) c.args.index c.args.is_pair (room_of c.room_on_line.new.self c.in_ok-room-in-Some-past_last_newline.room) (item c.in-Some.beside.now)
    c.in_ok-before.before.parts.items line indent c.in_ok-margin-in-Some-past_last_newline.margin.parts.items c.in-Some.ensures c.in_ok-before.ensures
    (subst (λ all. SplitsLast all line indent) c.deref.ensures.value c.in-Some-past_last_newline.ensures) c.in_ok-margin-in-Some-past_last_newline.ensures c.in_ok-room-in-Some-past_last_newline.ensures
