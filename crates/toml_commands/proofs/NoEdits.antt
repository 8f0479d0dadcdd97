-- Where something is refused there are no edits.
use Rattle.std.proofs.Common.{ℕ, List, inl, inr, map, Result}
use Rattle.std.proofs.lemmas.Result.{IfOk-weaker}
use Rattle.std.specs.Prelude.{IfOk}
use Rattle.std.specs.declared.alloc.AllocError.{AllocError}
use Rattle.std.specs.declared.alloc.Global.{Global}
use Rattle.std.specs.declared.vec.Vec.{Vec}
use Rattle.toml_tree.specs.declared.profile.Profile.{Profile}
use Rattle.toml_edits.specs.Edits.{Change, change}
use Rattle.toml_edits.specs.declared.edit.Edit.{Edit}
use Rattle.toml_places.specs.declared.place.PlaceStep.{PlaceStep}
use Rattle.toml_places.specs.Reads.{IsPlace}
use Rattle.toml_one.specs.Kept.{Keeps}
use Rattle.toml_one.specs.Wishes.{Wished}
use Rattle.toml_commands.specs.EditLists.{AreListedOrNone, IsListRefusal, IsRefusedList}
use Rattle.toml_commands.specs.Get.{IsBadPlace}
use Rattle.toml_commands.specs.One.{AreWished, AreWishedOrNone}
use Rattle.toml_commands.specs.Refusals.{IsRefused}
use Rattle.toml_delivery.specs.Outcomes.{Ends}
use Rattle.toml_delivery.specs.declared.ending.Ending.{Ending}
use Rattle.toml_delivery.specs.declared.ending.Ending.TheVariants.{Refused, NoMemory}

-- of a list
no_list : (edits : List ℕ) (e : Ending) (cs : List Change) → Ends (IsListRefusal edits) e → IsRefusedList e cs → AreListedOrNone edits cs
no_list edits (Refused r) cs is none = inr (r, is, none)
no_list edits NoMemory cs is none = absurd none

pub none_listed : (edits : List ℕ) (e : Ending) (result : Result (Vec Edit Global) AllocError) → Ends (IsListRefusal edits) e
    → IfOk result (λ es. IsRefusedList e (map change es.items)) → IfOk result (λ es. AreListedOrNone edits (map change es.items))
none_listed edits e result is none = IfOk-weaker result _ _ (λ es empty. no_list edits e (map change es.items) is empty) none

module _ (profile : Profile) (before place : List ℕ) (wish : Wished) where
  -- of a wish
  bad_place : (e : Ending) (cs : List Change) → Ends (IsBadPlace place) e → IsRefusedList e cs → AreWishedOrNone profile before place wish cs
  bad_place (Refused r) cs is none = inr (r, inl is, none)
  bad_place NoMemory cs is none = absurd none

  no_document : (e : Ending) (cs : List Change) → Ends (IsRefused profile before) e → IsRefusedList e cs → AreWishedOrNone profile before place wish cs
  no_document (Refused r) cs is none = inr (r, inr is, none)
  no_document NoMemory cs is none = absurd none

  pub none_of_place : (e : Ending) (result : Result (Vec Edit Global) AllocError) → Ends (IsBadPlace place) e
      → IfOk result (λ es. IsRefusedList e (map change es.items)) → IfOk result (λ es. AreWishedOrNone profile before place wish (map change es.items))
  none_of_place e result is none = IfOk-weaker result _ _ (λ es empty. bad_place e (map change es.items) is empty) none

  pub none_of_document : (e : Ending) (result : Result (Vec Edit Global) AllocError) → Ends (IsRefused profile before) e
      → IfOk result (λ es. IsRefusedList e (map change es.items)) → IfOk result (λ es. AreWishedOrNone profile before place wish (map change es.items))
  none_of_document e result is none = IfOk-weaker result _ _ (λ es empty. no_document e (map change es.items) is empty) none

  pub some_wished : (steps : List PlaceStep) (cs : List Change) → IsPlace place steps → Keeps (AreWished profile before steps wish) cs → AreWishedOrNone profile before place wish cs
  some_wished steps cs spelled kept = inl (steps, spelled, kept)
