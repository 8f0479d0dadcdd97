-- What edits tell of the data that they can touch, they tell of all data.
use Rattle.std.proofs.Math.Path.{fun_ext}
use Rattle.std.proofs.Common.{◌≡◌, inl, inr, ℕ, zero, suc, List, [], ◌∷◌, ◌++◌, append-nil, take, Option, Some, None, false, cond, refl, sym, ap, subst, ◌∙◌}
use Rattle.std.proofs.lemmas.Option.{same_Some}
use Rattle.std.specs.Prelude.{IsSome, slice_get}
use Rattle.toml_tree.specs.Spells.{Spells}
use Rattle.toml_tree.specs.Tree.{Doc}
use Rattle.toml_tree.specs.declared.profile.Profile.{Profile}
use Rattle.toml_tree.proofs.Proved.{one_tree}
use Rattle.toml_names.specs.declared.model.address.Step.TheVariants.{Index}
use Rattle.toml_names.specs.model.Addresses.{Address, element}
use Rattle.toml_names.specs.model.Data.{IsDataOf, Kinds, fact_at}
use Rattle.toml_names.specs.model.Hidden.{Cover, beside, near}
use Rattle.toml_names.specs.model.Documents.{IsDocumentIn}
use Rattle.toml_names.specs.mentions.Mentions.{named}
use Rattle.toml_names.specs.reader.Names.{AreGood}
use Rattle.toml_names.proofs.Proved.{lines_have_data}
use Rattle.toml_edits.specs.declared.fault.EditFault.{EditFault}
use Rattle.toml_edits.specs.Edits.{Change, place}
use Rattle.toml_edits.specs.Edits as edits
use Rattle.toml_edits.specs.Faults.{IsFault}
use Rattle.toml_edits.specs.Near.{AreNear, IsNear}
use Rattle.toml_edits.proofs.Proved.{leads_beside, fault_beside, one_lead}
use Rattle.toml_edits.specs.Lists.{Lead}
use Rattle.toml_editor.specs.Edited.{SoFar, OfDefined, RemovesFlat, TakesLastElement, MayBeRefused, MayBeSpread}
use Rattle.toml_editor.specs.Exact.{ShowsEdit}
use Rattle.toml_editor.specs.Making.{TellsAny}
use Rattle.toml_editor.specs.declared.fault.EditorFault.{EditorFault}
use Rattle.toml_editor.specs.declared.fault.EditorFault.TheVariants as faults

pub near_front : (hidden : Cover) (i : ℕ) (cs : List Change) → AreNear hidden cs → AreNear hidden (take i cs)
near_front hidden zero cs are = tt
near_front hidden (suc i) [] are = tt
near_front hidden (suc i) (c ∷ cs) are = (are.0, near_front hidden i cs are.1)

pub near_one : (hidden : Cover) (i : ℕ) (cs : List Change) (c : Change) → slice_get cs i ≡ Some c → AreNear hidden cs → IsNear hidden c
near_one hidden i [] c is are = cc
near_one hidden zero (d ∷ cs) c is are = subst (IsNear hidden) (same_Some d c is) are.0
near_one hidden (suc i) (d ∷ cs) c is are = near_one hidden i cs c is are.1

-- what is not hidden is that of the new data
shown : (hidden : Cover) (old new : Kinds) (a : Address) → hidden a ≡ false → new a ≡ beside hidden old new a
shown hidden old new a is = sym (ap (λ b. cond b (old a) (new a)) is)

-- the place of an edit is not hidden
place_shown : (hidden : Cover) (c : Change) (old new : Kinds) → IsNear hidden c → new (place c) ≡ beside hidden old new (place c)
place_shown hidden c old new is = shown hidden old new (place c) (is.fronts (place c) [] (sym (append-nil (place c))))

-- ---- what is told

fault_on : (profile : Profile) (hidden : Cover) (old : Kinds) (found : Option EditFault) (c : Change) (mid : Kinds) → IsNear hidden c → IsFault profile c mid found → IsFault profile c (beside hidden old mid) found
fault_on profile hidden old found c mid is h = fault_beside profile hidden c old mid is found h

spread_on : (hidden : Cover) (old : Kinds) (c : Change) (mid : Kinds) → IsNear hidden c → MayBeSpread c mid → MayBeSpread c (beside hidden old mid)
spread_on hidden old (edits.set at value) mid is (inl e) = inl (sym (place_shown hidden (edits.set at value) old mid is) ∙ e)
spread_on hidden old (edits.set at value) mid is (inr e) = inr (sym (place_shown hidden (edits.set at value) old mid is) ∙ e)
spread_on hidden old (edits.insert at value) mid is h = h
spread_on hidden old (edits.rename at to) mid is h = absurd h
spread_on hidden old (edits.remove at) mid is h = absurd h
spread_on hidden old (edits.new_section at) mid is h = h
spread_on hidden old (edits.new_element at) mid is h = h

last_on : (hidden : Cover) (old : Kinds) (c : Change) (mid : Kinds) → IsNear hidden c → TakesLastElement c mid → TakesLastElement c (beside hidden old mid)
last_on hidden old (edits.remove at) mid is (q, e, some, none) =
    (q, e, subst IsSome (place_shown hidden (edits.remove at) old mid is) some, sym (shown hidden old mid (element q 1) (is.elements q (Index 0 ∷ []) 1 e)) ∙ none)
last_on hidden old (edits.set at value) mid is h = absurd h
last_on hidden old (edits.insert at value) mid is h = absurd h
last_on hidden old (edits.rename at to) mid is h = absurd h
last_on hidden old (edits.new_section at) mid is h = absurd h
last_on hidden old (edits.new_element at) mid is h = absurd h

-- what may be refused by all data may be by those near it
pub refused_near : (hidden : Cover) (old : Kinds) (c : Change) (new : Kinds) → IsNear hidden c → MayBeRefused c (beside hidden old new) → MayBeRefused c new
refused_near hidden old (edits.set at value) new is (inl (inl e)) = inl (inl (place_shown hidden (edits.set at value) old new is ∙ e))
refused_near hidden old (edits.set at value) new is (inl (inr e)) = inl (inr (place_shown hidden (edits.set at value) old new is ∙ e))
refused_near hidden old (edits.set at value) new is (inr h) = absurd h
refused_near hidden old (edits.insert at value) new is h = h
refused_near hidden old (edits.rename at to) new is h = h
refused_near hidden old (edits.remove at) new is (inl h) = absurd h
refused_near hidden old (edits.remove at) new is (inr (q, e, some, none)) =
    inr (q, e, subst IsSome (sym (place_shown hidden (edits.remove at) old new is)) some, shown hidden old new (element q 1) (is.elements q (Index 0 ∷ []) 1 e) ∙ none)
refused_near hidden old (edits.new_section at) new is h = h
refused_near hidden old (edits.new_element at) new is h = h

-- where no table stands in what is removed by these, none does by all data
flat_on : (hidden : Cover) (old : Kinds) (c : Change) (new : Kinds) → IsNear hidden c → RemovesFlat c new → RemovesFlat c (beside hidden old new)
flat_on hidden old (edits.remove at) new is flat = λ s a there. flat s a (shown hidden old new (at ++ s ∷ a) (is.opened at (s ∷ a) (inl refl)) ∙ there)
flat_on hidden old (edits.set at value) new is flat = absurd flat
flat_on hidden old (edits.insert at value) new is flat = absurd flat
flat_on hidden old (edits.rename at to) new is flat = absurd flat
flat_on hidden old (edits.new_section at) new is flat = absurd flat
flat_on hidden old (edits.new_element at) new is flat = absurd flat

near_parted : (hidden : Cover) (front : List Change) (c : Change) → AreNear hidden (front ++ c ∷ []) → AreNear hidden front × IsNear hidden c
near_parted hidden [] c are = (tt, are.0)
near_parted hidden (d ∷ front) c are = let (others, last) = near_parted hidden front c are.1 in ((are.0, others), last)

-- what the data near the last edit tell of it is so of all data
pub shows_last : (profile : Profile) (hidden : Cover) (old : Kinds) (cs : List Change) → AreNear hidden cs → (near_first : Kinds)
    → ((a : Address) → near_first a ≡ near hidden old a) → (front : List Change) (c : Change) → cs ≡ front ++ c ∷ [] → (mid : Kinds) → Lead profile front old mid
    → (part : Kinds) → Lead profile front near_first part → ShowsEdit c part mid
shows_last profile hidden old cs are near_first of front c is mid lead part led =
    let (fronts, last) = near_parted hidden front c (subst (AreNear hidden) is are) in
    let mid_is : mid ≡ beside hidden old part =
    fun_ext (one_lead profile front old mid (beside hidden old part) lead (leads_beside profile hidden front old near_first part fronts of led)) in
    record {
      flat = λ flat. subst (RemovesFlat c) (sym mid_is) (flat_on hidden old c part last flat);
      refused = λ may. refused_near hidden old c part last (subst (MayBeRefused c) mid_is may);
    }

module _ (profile : Profile) (hidden : Cover) (old : Kinds) (cs : List Change) (are : AreNear hidden cs) where
  so : (i : ℕ) (P : Change → Kinds → Type 0) → ((c : Change) (mid : Kinds) → IsNear hidden c → P c mid → P c (beside hidden old mid)) → SoFar profile cs (near hidden old) i P → SoFar profile cs old i P
  so i P on (mid, lead, c, is, p) =
      (beside hidden old mid, leads_beside profile hidden (take i cs) old (near hidden old) mid (near_front hidden i cs are) (λ at. refl) lead, c, is, on c mid (near_one hidden i cs c is are) p)

  defined_on : (P : Change → Kinds → Type 0) → ((c : Change) (mid : Kinds) → IsNear hidden c → P c mid → P c (beside hidden old mid)) → (c : Change) (mid : Kinds) → IsNear hidden c → OfDefined profile P c mid → OfDefined profile P c (beside hidden old mid)
  defined_on P on c mid is (none, p) = (fault_on profile hidden old None c mid is none, on c mid is p)

  any_near : (fault : EditorFault) → TellsAny profile cs (near hidden old) fault → TellsAny profile cs old fault
  any_near (faults.Edit i f) h = so i (λ c kinds. IsFault profile c kinds (Some f)) (fault_on profile hidden old (Some f)) h
  any_near (faults.Spread i) h = so i (OfDefined profile MayBeSpread) (defined_on MayBeSpread (spread_on hidden old)) h
  any_near (faults.LastElement i) h = so i (OfDefined profile TakesLastElement) (defined_on TakesLastElement (last_on hidden old)) h
  any_near faults.NoMemory h = tt
  any_near (faults.Text f) h = absurd h
  any_near (faults.Syntax f) h = absurd h
  any_near (faults.Names f) h = absurd h
  any_near faults.TooLong h = absurd h
  any_near (faults.Unverified r) h = absurd h

  module _ (part : Kinds) (of : (a : Address) → part a ≡ near hidden old a) where
    -- what is told of the near data is told of all
    pub any_of_all : (fault : EditorFault) → TellsAny profile cs part fault → TellsAny profile cs old fault
    any_of_all fault h = any_near fault (subst (λ k. TellsAny profile cs k fault) (fun_ext of) h)

-- the lines of a document have data
pub has_data : (profile : Profile) (text : List ℕ) (d : Doc) → IsDocumentIn profile text → Spells d text → IsDataOf (named d.lines) (fact_at (named d.lines))
has_data profile text d document spelled = lines_have_data d.lines (subst (λ (e : Doc). AreGood e.lines) (one_tree document.1 d text document.2 spelled) document.3).0
