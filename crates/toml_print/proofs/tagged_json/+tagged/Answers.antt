use Rattle.serde_json.proofs.Views.{view-Array, view-Object}
use Rattle.toml_print.proofs.Built.{items_more, items_done, members_more, members_done}
use Rattle.toml_names.proofs.Proved.{kind_at-array, kind_at-table}
use Rattle.toml_print.proofs.tagged_json.+tagged.Goals as goal

pub tagged_datum-returns-in_ok-tagged_items-in-Array : goal.tagged_datum-returns-in_ok-tagged_items-in-Array
tagged_datum-returns-in_ok-tagged_items-in-Array t c =
    rw (c.in-Array.is, view-Array, kind_at-array) (rw c.deref.ensures.value at c.in_ok-tagged_items-in-Array.ensures)

pub tagged_datum-returns-in_ok-tagged_members-in-Table : goal.tagged_datum-returns-in_ok-tagged_members-in-Table
tagged_datum-returns-in_ok-tagged_members-in-Table t c =
    rw (c.in-Table.is, view-Object, kind_at-table) c.in_ok-tagged_members-in-Table.ensures

pub tagged_items-loop-item-preserved : goal.tagged_items-loop-item-preserved
tagged_items-loop-item-preserved t c =
    items_more c.args.items.now c.loop-item.item-index c.item-item.result c.loop-item.list.items c.push.new.self.items c.in_ok-tagged_datum.field-0
    c.loop-item-test.true c.item-item.is c.loop-item.invariant c.in_ok-tagged_datum.ensures c.in_ok-push.ensures.items

pub tagged_items-returns : goal.tagged_items-returns
tagged_items-returns t c = items_done c.args.items.now c.loop-item.item-index c.loop-item.list.items c.loop-item-test.false c.loop-item.invariant

pub tagged_members-loop-name-preserved : goal.tagged_members-loop-name-preserved
tagged_members-loop-name-preserved t c =
    members_more c.args.members.now.entries c.loop-name.name-iterator c.next.new.self (c.in-Some.name.now, c.in-Some.member.now) c.loop-name.found.entries c.put.new.map.entries c.in_ok-value.value
    c.iter-name-items.ensures.ordered c.in-Some.ensures.steps c.loop-name.invariant c.in_ok-value.ensures (rw c.as_str.ensures.value at c.in_ok-put.ensures.ok)

pub tagged_members-returns : goal.tagged_members-returns
tagged_members-returns t c = members_done c.args.members.now.entries c.loop-name.name-iterator c.loop-name.found.entries c.iter-name-items.ensures.ordered c.in-None.ensures.steps.0 c.loop-name.invariant
