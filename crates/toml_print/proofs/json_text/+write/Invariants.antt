use Rattle.std.proofs.Common.{◌+◌, ◌-◌, ◌*◌, length, take, map}
use Rattle.toml_names.specs.reader.Parts.{part_kinds, plain_members}
use Rattle.toml_print.proofs.Written.{AreWritten, MembersWritten, named_kinds}
use Rattle.toml_print.proofs.json_text.+write.Given as goal

-- the parts in a part have greater numbers
abbrev pub decreases-write_part : goal.decreases-write_part
decreases-write_part l = 2 * (length l.whole.now - l.id) + 1

abbrev pub decreases-write_items : goal.decreases-write_items
decreases-write_items l = 2 * (length l.whole.now - l.id)

abbrev pub decreases-write_members : goal.decreases-write_members
decreases-write_members l = 2 * (length l.whole.now - l.id)

abbrev pub invariant-write_items-loop-item : goal.invariant-write_items-loop-item
invariant-write_items-loop-item l = AreWritten l.style (map (part_kinds l.whole) (take l.item-index l.item-items)) l.fn.writer l.writer

abbrev pub invariant-write_members-loop-name : goal.invariant-write_members-loop-name
invariant-write_members-loop-name l = MembersWritten l.style (named_kinds l.whole (take l.name-index (plain_members l.name-items))) l.fn.writer l.writer
