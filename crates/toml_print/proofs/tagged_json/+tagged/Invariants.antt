use Rattle.std.proofs.Common.{take, map}
use Rattle.serde_json.specs.View.{items_view}
use Rattle.toml_names.specs.model.Data.{kind_at}
use Rattle.toml_print.proofs.Built.{AreDone}
use Rattle.toml_print.proofs.Tagging.{TagItems}
use Rattle.toml_print.proofs.tagged_json.+tagged.Given as goal

abbrev pub invariant-tagged_items-loop-item : goal.invariant-tagged_items-loop-item
invariant-tagged_items-loop-item l = TagItems (map kind_at (take l.item-index l.items)) (items_view l.list.items)

abbrev pub invariant-tagged_members-loop-name : goal.invariant-tagged_members-loop-name
invariant-tagged_members-loop-name l = AreDone l.members.entries l.name-iterator l.found.entries
