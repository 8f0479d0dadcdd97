-- What is put too deep is refused; and what is handed out of one edit.
use Rattle.std.proofs.Common.{◌≡◌, ℕ, ◌<◌, List, [], ◌∷◌, length, map, inl, inr, None, Result, sym, refl, ap, ◌∙◌, arith}
use Rattle.std.proofs.lemmas.Bool.{false≢true, ltb-true}
use Rattle.std.proofs.lemmas.Result.{IfOk-weaker}
use Rattle.std.specs.Prelude.{IfOk}
use Rattle.std.specs.declared.alloc.AllocError.{AllocError}
use Rattle.std.specs.declared.alloc.Global.{Global}
use Rattle.std.specs.declared.vec.Vec.{Vec}
use Rattle.toml_tree.specs.declared.profile.Profile.{Profile}
use Rattle.toml_names.specs.mentions.Mentions.{value_facts}
use Rattle.toml_names.specs.mentions.Rules.{IsShort, max_steps}
use Rattle.toml_names.specs.model.Addresses.{Address}
use Rattle.toml_names.specs.model.Data.{Kinds, fact_at}
use Rattle.toml_names.proofs.Proved.{first_is_data, values_join}
use Rattle.toml_places.specs.declared.place.PlaceStep.{PlaceStep}
use Rattle.toml_edits.specs.declared.fault.EditFault.TheVariants.{AddressLength, BadValue}
use Rattle.toml_edits.specs.declared.edit.Edit.{Edit}
use Rattle.toml_edits.specs.Edits.{Change, change, set, insert, rename, remove, new_section, new_element}
use Rattle.toml_edits.specs.Faults.{IsFault}
use Rattle.toml_edits.specs.ValueTexts.{IsValueText}
use Rattle.toml_one.specs.Kept.{Keeps, up_to_too_deep}
use Rattle.toml_one.specs.Laws.{DeepIsRefused}
use Rattle.toml_one.specs.Wishes.{IsOne, IsSetAlone, or_nowhere}
use Rattle.toml_one.proofs.Cutting.{up_one}

module _ (profile : Profile) (at : Address) (value : List ℕ) (kinds : Kinds) (deep : max_steps < length at) (free : IsFault profile (insert at value) kinds None) where
  not_short : (v : IsValueText profile value) → ¬ IsShort (value_facts v.tree)
  not_short v short = free AddressLength (inr (
    fact_at (value_facts v.tree),
    record { value = v; short = short; facts = first_is_data (value_facts v.tree) (values_join v.tree v.keeps) },
    [],
    refl,
    omega (arith, deep),
  ))

  no_value : ¬ IsValueText profile value
  no_value v = free AddressLength (inl (record { value = v; long = not_short v }))

pub deep_is_refused : DeepIsRefused
deep_is_refused profile (insert at value) kinds deep free = free BadValue (no_value profile at value kinds (ltb-true max_steps (length at) deep) free)
deep_is_refused profile (new_section at) kinds deep free = free AddressLength (ltb-true max_steps (length at) deep)
deep_is_refused profile (new_element at) kinds deep free = free AddressLength (ltb-true max_steps (length at) deep)
deep_is_refused profile (set at value) kinds deep free = false≢true deep
deep_is_refused profile (rename at to) kinds deep free = false≢true deep
deep_is_refused profile (remove at) kinds deep free = false≢true deep

-- one edit is handed out whole
one_kept : (P : List Change → Type 0) (cs : List Change) (c : Change) → cs ≡ c ∷ [] → P cs → Keeps P cs
one_kept P cs c is held = record { all = cs; are = held; kept = is ∙ sym (up_one c) ∙ ap up_to_too_deep (sym is) }

module _ (kinds : Kinds) (place : List PlaceStep) where
  one_is_kept : (edit : Address → Change) (cs : List Change) → IsOne kinds place edit cs → Keeps (IsOne kinds place edit) cs
  one_is_kept edit cs (found, is, same) = one_kept (IsOne kinds place edit) cs (edit (or_nowhere found)) same (found, is, same)

  alone_is_kept : (value : List ℕ) (cs : List Change) → IsSetAlone kinds place value cs → Keeps (IsSetAlone kinds place value) cs
  alone_is_kept value cs (found, is, inl made) = one_kept (IsSetAlone kinds place value) cs (insert (or_nowhere found) value) made.1 (found, is, inl made)
  alone_is_kept value cs (found, is, inr made) = one_kept (IsSetAlone kinds place value) cs (set (or_nowhere found) value) made.1 (found, is, inr made)

  module _ (r : Result (Vec Edit Global) AllocError) where
    pub one_ok : (edit : Address → Change) → IfOk r (λ es. IsOne kinds place edit (map change es.items)) → IfOk r (λ es. Keeps (IsOne kinds place edit) (map change es.items))
    one_ok edit is = IfOk-weaker r _ _ (λ es held. one_is_kept edit (map change es.items) held) is

    pub alone_ok : (value : List ℕ) → IfOk r (λ es. IsSetAlone kinds place value (map change es.items)) → IfOk r (λ es. Keeps (IsSetAlone kinds place value) (map change es.items))
    alone_ok value is = IfOk-weaker r _ _ (λ es held. alone_is_kept value (map change es.items) held) is
