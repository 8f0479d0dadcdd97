use Rattle.std.proofs.Common.{◌≡◌, [], ◌∷◌, map, not, sym, ap, ◌∙◌, subst}
use Rattle.std.specs.Prelude.{IsTrue, ◌↔◌}
use Rattle.std.specs.declared.alloc.Global.{Global}
use Rattle.std.specs.declared.vec.Vec.{Vec}
use Rattle.toml_names.specs.reader.Parts.{part_kinds}
use Rattle.toml_edits.specs.Edits.{change}
use Rattle.toml_edits.specs.declared.edit.Edit.{Edit}
use Rattle.toml_one.specs.Wishes.{IsSet, IsSetAlone, PutsIn, put_at}
use Rattle.toml_one.proofs.Members.{set_is}
use Rattle.toml_one.proofs.Standing.{if_ok}
use Rattle.toml_one.proofs.wish.set_alone.Goals as goal

pub returns : goal.returns
returns c =
    let kinds = part_kinds c.args.names.now 0 in
    let place = c.args.place.now in
    let value = c.args.value.now in
    let found = c.in_ok-found.found in
    let puts = c.in_ok-puts_in.puts_in in
    let edit = c.in_ok-put.field-0 in
    let puts_in = subst (λ p. IsTrue puts ↔ PutsIn kinds p found) c.steps.ensures c.in_ok-puts_in.ensures in
    let set : IsSet kinds place value found (change edit ∷ []) = set_is kinds place value found puts (change edit) puts_in (c.in_ok-put.ensures ∙ ap (λ a. put_at (not puts) a value) c.in_ok-at.ensures) in
    if_ok (λ (v : Vec Edit Global). v.items ≡ edit ∷ []) (λ (v : Vec Edit Global). IsSetAlone kinds place value (map change v.items)) c.one.result
    (λ v same. (found, c.in_ok-found.ensures, subst (λ l. IsSet kinds place value found (map change l)) (sym same) set)) c.one.ensures
