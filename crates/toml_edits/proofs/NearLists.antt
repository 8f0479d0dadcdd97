-- Lists of edits: on data of which a part is hidden, and on all.
use Rattle.std.proofs.Common.{◌≡◌, ℕ, zero, suc, List, [], ◌∷◌, Option, Some, None, Bool, true, false, cond, refl, sym, ap, subst, ◌∙◌}
use mathlib.Core.Path.{fun_ext}
use Rattle.toml_tree.specs.declared.profile.Profile.{Profile}
use Rattle.toml_names.specs.model.Addresses.{Address}
use Rattle.toml_names.specs.model.Data.{Kinds}
use Rattle.toml_names.specs.model.Hidden.{Cover, near, beside}
use Rattle.toml_edits.specs.declared.fault.EditFault.{EditFault}
use Rattle.toml_edits.specs.After.{IsAfter}
use Rattle.toml_edits.specs.Edits.{Change}
use Rattle.toml_edits.specs.Faults.{IsFault}
use Rattle.toml_edits.specs.Lists.{Lead, IsFirstFault}
use Rattle.toml_edits.specs.Near.{AreNear, IsNear}
use Rattle.toml_edits.specs.NearLaws.{LeadsBeside, LeadsNear, HiddenStays, FaultsNear, FaultBeside}
use Rattle.toml_edits.proofs.HiddenFacts.{Agree, joined_new, moves_joined, moves_keep, moves_shown, shown_at, shown_not}
use Rattle.toml_edits.proofs.NearMoves.{moved}
use Rattle.toml_edits.proofs.NearRows.{same_fault}

-- ---- one edit

near_agrees : (h : Cover) (f : Kinds) → Agree h (near h f) f
near_agrees h f a low = shown_at h f a low

agrees_near : (h : Cover) (f : Kinds) → Agree h f (near h f)
agrees_near h f a low = sym (near_agrees h f a low)

module _ (profile : Profile) (h : Cover) (c : Change) (is_near : IsNear h c) where
  fault_all : (old : Kinds) → (found : Option EditFault) → IsFault profile c (near h old) found → IsFault profile c old found
  fault_all old = same_fault profile h (near h old) old (near_agrees h old) c is_near

  fault_near : (old : Kinds) → (found : Option EditFault) → IsFault profile c old found → IsFault profile c (near h old) found
  fault_near old = same_fault profile h old (near h old) (agrees_near h old) c is_near

  after_near : (old new : Kinds) → IsAfter profile c old new → IsAfter profile c (near h old) (near h new)
  after_near old new after =
      let m = moved profile h c old new is_near after in
      m.after (near h old) (near h new) (agrees_near h old) (moves_shown h m.carrier m.at m.value m.leaves m.apart old new m.moves)

  after_beside : (old new : Kinds) → IsAfter profile c (near h old) new → IsAfter profile c old (beside h old new)
  after_beside old new after =
      let m = moved profile h c (near h old) new is_near after in
      m.after old (beside h old new) (near_agrees h old) (moves_joined h m.carrier m.at m.value m.leaves m.apart old new m.moves)

  keeps : (old new : Kinds) → IsAfter profile c old new → (a : Address) → h a ≡ true → new a ≡ old a
  keeps old new after =
      let m = moved profile h c old new is_near after in
      moves_keep h m.carrier m.at m.value m.leaves m.apart old new m.moves

  -- near data become near data: what an edit makes of them has nothing that is hidden
  near_again : (old new : Kinds) → IsAfter profile c (near h old) new → near h (beside h old new) ≡ new
  near_again old new after = fun_ext (λ a. by a (h a) refl)
    where
      by : (a : Address) (b : Bool) → h a ≡ b → near h (beside h old new) a ≡ new a
      by a true is = shown_not h (beside h old new) a is ∙ sym (keeps (near h old) new after a is ∙ shown_not h old a is)
      by a false is = shown_at h (beside h old new) a is ∙ joined_new h old new a is

-- ---- lists

beside_twice : (h : Cover) (old mid new : Kinds) → beside h (beside h old mid) new ≡ beside h old new
beside_twice h old mid new = fun_ext (λ a. by a (h a))
  where
    by : (a : Address) (b : Bool) → cond b (cond b (old a) (mid a)) (new a) ≡ cond b (old a) (new a)
    by a true = refl
    by a false = refl

same_beside : (h : Cover) (old new : Kinds) (a : Address) (b : Bool) → cond b None (old a) ≡ new a → old a ≡ cond b (old a) (new a)
same_beside h old new a true is = refl
same_beside h old new a false is = is

led_beside : (profile : Profile) (h : Cover) (cs : List Change) (old new : Kinds) → AreNear h cs → Lead profile cs (near h old) new → Lead profile cs old (beside h old new)
led_beside profile h [] old new are lead = λ a. same_beside h old new a (h a) (lead a)
led_beside profile h (c ∷ cs) old new are (fault, mid, after, lead) =
    let all = beside h old mid in
    let rest : Lead profile cs all (beside h all new) = led_beside profile h cs all new are.1 (subst (λ (f : Kinds). Lead profile cs f new) (sym (near_again profile h c are.0 old mid after)) lead) in
    (fault_all profile h c are.0 old None fault, all, after_beside profile h c are.0 old mid after, subst (Lead profile cs all) (beside_twice h old mid new) rest)

pub leads_beside : LeadsBeside
leads_beside profile h cs old part new are same lead = led_beside profile h cs old new are (subst (λ (f : Kinds). Lead profile cs f new) (fun_ext same) lead)

pub leads_near : LeadsNear
leads_near profile h [] old new are lead = λ a. ap (λ k. cond (h a) None k) (lead a)
leads_near profile h (c ∷ cs) old new are (fault, mid, after, lead) =
    (fault_near profile h c are.0 old None fault, near h mid, after_near profile h c are.0 old mid after, leads_near profile h cs mid new are.1 lead)

pub hidden_stays : HiddenStays
hidden_stays profile h [] old new are lead a is = sym (lead a)
hidden_stays profile h (c ∷ cs) old new are (fault, mid, after, lead) a is = hidden_stays profile h cs mid new are.1 lead a is ∙ keeps profile h c are.0 old mid after a is

near_stops : (profile : Profile) (h : Cover) (cs : List Change) (old : Kinds) → AreNear h cs → (i : ℕ) (x : EditFault) → IsFirstFault profile cs old i x → IsFirstFault profile cs (near h old) i x
near_stops profile h [] old are i x stop = stop
near_stops profile h (c ∷ cs) old are zero x stop = fault_near profile h c are.0 old (Some x) stop
near_stops profile h (c ∷ cs) old are (suc i) x (fault, mid, after, stop) =
    (fault_near profile h c are.0 old None fault, near h mid, after_near profile h c are.0 old mid after, near_stops profile h cs mid are.1 i x stop)

all_stops : (profile : Profile) (h : Cover) (cs : List Change) (old : Kinds) → AreNear h cs → (i : ℕ) (x : EditFault) → IsFirstFault profile cs (near h old) i x → IsFirstFault profile cs old i x
all_stops profile h [] old are i x stop = stop
all_stops profile h (c ∷ cs) old are zero x stop = fault_all profile h c are.0 old (Some x) stop
all_stops profile h (c ∷ cs) old are (suc i) x (fault, mid, after, stop) =
    let all = beside h old mid in
    (fault_all profile h c are.0 old None fault, all, after_beside profile h c are.0 old mid after, all_stops profile h cs all are.1 i x (subst (λ (f : Kinds). IsFirstFault profile cs f i x) (sym (near_again profile h c are.0 old mid after)) stop))

pub faults_near : FaultsNear
faults_near profile h cs old are i x = (all_stops profile h cs old are i x, near_stops profile h cs old are i x)

pub fault_beside : FaultBeside
fault_beside profile h c old new is_near found = same_fault profile h new (beside h old new) (λ a low. sym (joined_new h old new a low)) c is_near found
