use Rattle.toml_names.proofs.lemmas.model.Copies.{AreCopied, Completes}
use Rattle.toml_names.proofs.model.datum.+copy.Given as goal

abbrev pub invariant-copy_items-loop-item : goal.invariant-copy_items-loop-item
invariant-copy_items-loop-item l = AreCopied l.item-index l.items l.copies.items

abbrev pub invariant-copy_members-loop-name : goal.invariant-copy_members-loop-name
invariant-copy_members-loop-name l = Completes l.copies l.name-iterator l.members
