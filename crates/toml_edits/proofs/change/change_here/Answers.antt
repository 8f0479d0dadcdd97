use Rattle.std.proofs.Common.{arith, ◌≡◌, None, sym, subst}
use Rattle.std.proofs.lemmas.Result.{on_ok_weaker}
use Rattle.toml_names.specs.declared.model.datum.Datum.{Datum}
use Rattle.toml_names.specs.model.Addresses.{Address}
use Rattle.toml_names.specs.model.Data.{kind_at}
use Rattle.toml_names.proofs.Proved.{array-within, table-has}
use Rattle.toml_edits.specs.declared.change.DatumChange.{DatumChange}
use Rattle.toml_edits.specs.Changed.{IsApplicable, changed}
use Rattle.toml_edits.proofs.Elements.{array-added, array-removed, array-filled, table-put, table-renamed, table-lacks}
use Rattle.toml_edits.proofs.change.change_here.Goals as goal

applies : {x y : DatumChange} {d e : Datum} → x ≡ y → d ≡ e → IsApplicable x (kind_at d) → IsApplicable y (kind_at e)
applies {y = y} {d = d} p q h = subst (λ e. IsApplicable y (kind_at e)) q (subst (λ x. IsApplicable x (kind_at d)) p h)

turns : {x y : DatumChange} {d e : Datum} (f : Datum) → x ≡ y → d ≡ e → ((at : Address) → kind_at f at ≡ changed y (kind_at e) at) → (at : Address) → kind_at f at ≡ changed x (kind_at d) at
turns {x = x} {e = e} f p q h = subst (λ d. (at : Address) → kind_at f at ≡ changed x (kind_at d) at) (sym q) (subst (λ y. (at : Address) → kind_at f at ≡ changed y (kind_at e) at) (sym p) h)

pub add_element-done-requires : goal.add_element-done-requires
add_element-done-requires c =
    let h = array-filled c.in-Array.items c.in-AddElement.index (applies c.in-AddElement.is c.in-Array.is c.requires).1 in
    omega (arith, c.in-Array.items.ok)

pub rename_member-done-requires-clause-from : goal.rename_member-done-requires-clause-from
rename_member-done-requires-clause-from c = table-has c.in-Table-datum.members _ (applies c.in-Rename.is c.in-Table-datum.is c.requires).1

pub rename_member-done-requires-clause-to : goal.rename_member-done-requires-clause-to
rename_member-done-requires-clause-to c = table-lacks c.in-Table-datum.members _ (applies c.in-Rename.is c.in-Table-datum.is c.requires).2

pub remove-element-requires : goal.remove-element-requires
remove-element-requires c =
    let h = array-within c.in-Array-datum.items c.in-DropElement.index (applies c.in-DropElement.is c.in-Array-datum.is c.requires) in
    omega (arith, c.in-Array-datum.items.ok)

pub returns-in-Table-clause-ok : goal.returns-in-Table-clause-ok
returns-in-Table-clause-ok c = on_ok_weaker c.add_member-done.result (λ done. turns _ c.in-AddMember.is c.in-Table.is (table-put c.in-Table.members c.add_member-done.new.members _ _ done)) c.add_member-done.ensures.ok

pub returns-in-Array-clause-ok : goal.returns-in-Array-clause-ok
returns-in-Array-clause-ok c =
    let h = array-filled c.in-Array.items c.in-AddElement.index (applies c.in-AddElement.is c.in-Array.is c.requires).1 in
    on_ok_weaker c.add_element-done.result (λ done. turns _ c.in-AddElement.is c.in-Array.is (array-added c.in-Array.items c.add_element-done.new.items _ _ done h)) c.add_element-done.ensures.ok

pub returns-in-Table-datum-clause-ok : goal.returns-in-Table-datum-clause-ok
returns-in-Table-datum-clause-ok c =
    on_ok_weaker c.rename_member-done.result (λ done. turns _ c.in-Rename.is c.in-Table-datum.is (table-renamed c.in-Table-datum.members c.rename_member-done.new.members _ _ done)) c.rename_member-done.ensures.ok

pub returns-in-Table-datum-2-clause-ok : goal.returns-in-Table-datum-2-clause-ok
returns-in-Table-datum-2-clause-ok c = turns _ c.in-DropMember.is c.in-Table-datum-2.is (table-put c.in-Table-datum-2.members c.take_member-member.new.members _ None c.take_member-member.ensures.left)

pub returns-in-Array-datum-clause-ok : goal.returns-in-Array-datum-clause-ok
returns-in-Array-datum-clause-ok c = turns _ c.in-DropElement.is c.in-Array-datum.is (array-removed c.in-Array-datum.items c.remove-element.new.self _ c.remove-element.ensures.items)
