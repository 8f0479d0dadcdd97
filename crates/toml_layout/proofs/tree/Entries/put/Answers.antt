use Rattle.std.proofs.Common.{subst}
use Rattle.toml_layout.specs.Items.{items_of}
use Rattle.toml_layout.specs.Rooms.{RoomFor, room_of}
use Rattle.toml_layout.proofs.tree.Entries.put.Goals as goal

pub returns : goal.returns
returns c =
    let room = room_of c.room_for.new.self (c.in_ok-before.before, c.in_ok-before.after) in
    record {
      room = room;
      made = subst (λ b. RoomFor c.args.texts.layout (items_of c.args.self.now) c.args.index b room) c.is_some.ensures c.in_ok-before.ensures;
      now = c.in_ok-add.ensures;
    }
