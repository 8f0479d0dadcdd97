-- Where a `set` puts a new value in, and what a value is put behind.
use Rattle.std.proofs.Common.{◌≡◌, ℕ, Bool, true, false, not, List, [], ◌∷◌, ◌++◌, map, inl, inr, Option, Some, None, sym, refl, ap, ◌∙◌, subst}
use Rattle.std.specs.Prelude.{IsTrue, ◌↔◌, ◌&&◌, is_some}
use Rattle.std.proofs.lemmas.Bool.{false≢true}
use Rattle.std.proofs.lemmas.List.{map-append}
use Rattle.std.specs.declared.alloc.Global.{Global}
use Rattle.std.specs.declared.vec.Vec.{Vec}
use Rattle.toml_names.specs.mentions.Mentions.{Named}
use Rattle.toml_names.specs.model.Addresses.{Address}
use Rattle.toml_names.specs.model.Data.{Kinds}
use Rattle.toml_names.specs.reader.Parts.{part_kinds}
use Rattle.toml_names.specs.tree.Nodes.{Spot}
use Rattle.toml_places.specs.declared.place.PlaceStep.{PlaceStep}
use Rattle.toml_places.specs.Parts.{Stands}
use Rattle.toml_edits.specs.Edits.{Change, change}
use Rattle.toml_edits.specs.declared.edit.Edit.{Edit}
use Rattle.toml_one.specs.Kept.{Keeps}
use Rattle.toml_one.specs.Steps.{ends_behind}
use Rattle.toml_one.specs.Walking.{IsMadeAbove}
use Rattle.toml_one.specs.Wishes.{IsNewMember, IsSet, IsWithParents, PutsIn, or_nowhere, put_at}
use Rattle.toml_one.specs.declared.parents.Reached.{Reached}
use Rattle.toml_one.proofs.Standing.{part_there}
use Rattle.toml_one.proofs.Cutting.{up_more, up_whole, up_with_last}

-- where a part is something stands
pub some_is_there : (parts : List Spot) (part : Option ℕ) (kinds : Kinds) → Stands parts part kinds → is_some part ≡ true → ¬ (kinds [] ≡ None)
some_is_there parts part kinds stands some none = false≢true (sym (part_there parts part kinds stands ∙ ap is_some none) ∙ some)

-- the edit of a `set`
pub set_is : (kinds : Kinds) (place : List PlaceStep) (value : List ℕ) (found : Option Address) (puts : Bool) (c : Change) → IsTrue puts ↔ PutsIn kinds place found → c ≡ put_at (not puts) (or_nowhere found) value → IsSet kinds place value found (c ∷ [])
set_is kinds place value found true c puts is = inl (puts.0 refl, ap (λ d. d ∷ []) is)
set_is kinds place value found false c puts is = inr (λ h. false≢true (puts.1 h), ap (λ d. d ∷ []) is)

-- a new member's value is put in
pub member_puts : (kinds : Kinds) (place : List PlaceStep) (found : Option Address) (at : Address) (r : Bool) → found ≡ Some at → ends_behind place ≡ false → IsTrue r ↔ IsNewMember kinds at → IsTrue r ↔ PutsIn kinds place found
member_puts kinds place found at r is other member = subst (λ f. IsTrue r ↔ PutsIn kinds place f) (sym is) (λ t. inr (member.0 t), back)
  where
    back : PutsIn kinds place (Some at) → IsTrue r
    back (inl behind) = absurd (false≢true (sym other ∙ behind))
    back (inr h) = member.1 h

module _ (parts : List Spot) (ms : List Named) (place : List PlaceStep) (value : List ℕ) (may_set : Bool) (edits : Vec Edit Global) where
  -- the edits of a value behind those that make what is missing above
  pub with_parents_is : (end : Reached) (new : List Edit) (edit : Edit) → IsMadeAbove parts ms place (record { edits = edits; end = Some end }) → new ≡ edits.items ++ edit ∷ []
      → change edit ≡ put_at (may_set && is_some end.here.part) end.at value
      → Keeps (IsWithParents may_set (part_kinds parts 0) ms place value) (map change new)
  with_parents_is end new edit above grown is =
      let old = edits.items in
      let none = above.reached.0 in
      let reached = above.reached.1 in
      let whole : map change old ≡ above.all = above.edits ∙ up_whole above.all none in
      let there : is_some end.here.part ≡ is_some (above.end.kinds []) = part_there parts end.here.part above.end.kinds reached.stands in
      let put : change edit ≡ put_at (may_set && is_some (above.end.kinds [])) above.end.at value =
      is ∙ ap (λ b. put_at (may_set && b) end.at value) there ∙ ap (λ a. put_at (may_set && is_some (above.end.kinds [])) a value) reached.at in
      let last = put_at (may_set && is_some (above.end.kinds [])) above.end.at value in
      let is_all : map change new ≡ above.all ++ last ∷ [] = ap (map change) grown ∙ map-append change old (edit ∷ []) ∙ (λ i. whole i ++ put i ∷ []) in
      record { all = above.all ++ last ∷ []; are = (above.all, above.end, above.makes, refl); kept = is_all ∙ sym (up_with_last above.all last none) }

  -- and where they end too deep
  pub cut_parents : IsMadeAbove parts ms place (record { edits = edits; end = None }) → Keeps (IsWithParents may_set (part_kinds parts 0) ms place value) (map change edits.items)
  cut_parents above =
      let last = put_at (may_set && is_some (above.end.kinds [])) above.end.at value ∷ [] in
      record { all = above.all ++ last; are = (above.all, above.end, above.makes, refl); kept = above.edits ∙ sym (up_more above.all last above.reached) }
