-- The turns of the loops that build tagged JSON.
use Rattle.std.proofs.Common.{◌≡◌, ◌<◌, ◌≤◌, ◌+◌, ℕ, List, [], ◌∷◌, ◌++◌, length, get_or, take, map, String, Global, sym, ap, ◌∙◌, subst, append_assoc, string_bytes}
use Rattle.std.proofs.lemmas.List.{append-nil, map-append, take_all, take_more}
use Rattle.std.specs.Map.{keys_of}
use Rattle.serde_json.specs.Data.{array, object, put}
use Rattle.serde_json.specs.View.{view, items_view, members_view}
use Rattle.serde_json.specs.declared.value.Value.{Value}
use Rattle.toml_names.specs.declared.model.datum.Datum.{Datum}
use Rattle.toml_names.specs.model.Data.{kind_at, in_array, in_table}
use Rattle.toml_print.specs.Tagged.{IsTagged, kinds_of}
use Rattle.toml_print.proofs.Tagging.{AreSorted, Entry, TagItems, TagItems-push, TagMembers, TagMembers-put, array_tagged, keys_of-kinds, table_tagged}

pub items_more : (ds : List Datum) (i : ℕ) (d : Datum) (old new : List Value) (j : Value) → i < length ds → d ≡ get_or ds i d → TagItems (map kind_at (take i ds)) (items_view old) → IsTagged (kind_at d) (view j) → new ≡ old ++ j ∷ []
    → TagItems (map kind_at (take (i + 1) ds)) (items_view new)
items_more ds i d old new j at is t tagged pushed =
    let front : take (i + 1) ds ≡ take i ds ++ d ∷ [] = take_more ds i d at ∙ ap (λ x. take i ds ++ x ∷ []) (sym is) in
    let kinds : map kind_at (take (i + 1) ds) ≡ map kind_at (take i ds) ++ kind_at d ∷ [] = ap (map kind_at) front ∙ map-append kind_at (take i ds) (d ∷ []) in
    let views : map view new ≡ map view old ++ view j ∷ [] = ap (map view) pushed ∙ map-append view old (j ∷ []) in
    rw (kinds, views) (TagItems-push (map kind_at (take i ds)) (map view old) (kind_at d) (view j) t tagged)

pub items_done : (ds : List Datum) (i : ℕ) (js : List Value) → length ds ≤ i → TagItems (map kind_at (take i ds)) (items_view js) → IsTagged (in_array (map kind_at ds)) (array (items_view js))
items_done ds i js end t = array_tagged (map kind_at ds) (items_view js) (subst (λ front. TagItems (map kind_at front) (items_view js)) (take_all i ds end) t)

abbrev pub Member : Type 0
Member = String Global × Datum

-- what the loop has done: the members so far, and what is left
abbrev pub AreDone : List Member → List Member → List (String Global × Value) → Type 0
AreDone all left js = (done : List Member) × (all ≡ done ++ left) × TagMembers (map kinds_of done) (members_view js)

pub members_more : (all rest left : List Member) (e : Member) (old new : List (String Global × Value)) (j : Value) → AreSorted (keys_of all) → rest ≡ e ∷ left → AreDone all rest old → IsTagged (kind_at e.1) (view j)
    → members_view new ≡ put (string_bytes e.0) (view j) (members_view old) → AreDone all left new
members_more all rest left e old new j sorted next t tagged made =
    let done = t.0 in
    let parts : all ≡ done ++ e ∷ left = t.1 ∙ ap (λ es. done ++ es) next in
    let kinds : map kinds_of all ≡ map kinds_of done ++ kinds_of e ∷ map kinds_of left = ap (map kinds_of) parts ∙ map-append kinds_of done (e ∷ left) in
    let keys : keys_of all ≡ keys_of (map kinds_of done ++ kinds_of e ∷ map kinds_of left) = sym (keys_of-kinds all) ∙ ap (λ (es : List Entry). keys_of es) kinds in (
      done ++ e ∷ [],
      parts ∙ sym (append_assoc done (e ∷ []) left),
      rw (made, map-append) (TagMembers-put (map kinds_of done) (members_view old) (kinds_of e) (map kinds_of left) (view j) (subst AreSorted keys sorted) t.2 tagged),
    )

pub members_done : (all left : List Member) (js : List (String Global × Value)) → AreSorted (keys_of all) → left ≡ [] → AreDone all left js → IsTagged (in_table (map kinds_of all)) (object (members_view js))
members_done all left js sorted end t =
    let whole : t.0 ≡ all = sym (t.1 ∙ (ap (λ es. t.0 ++ es) end ∙ append-nil t.0)) in
    table_tagged (map kinds_of all) (members_view js) (subst AreSorted (sym (keys_of-kinds all)) sorted) (subst (λ es. TagMembers (map kinds_of es) (members_view js)) whole t.2)
