-- Lists of edits: where they carry things, which data they lead to, and where they stop.
use Rattle.std.proofs.Common.{◌≡◌, ◌⊎◌, inl, inr, ℕ, zero, suc, ◌<◌, ◌≤◌, List, [], ◌∷◌, ◌++◌, Option, Some, None, refl, sym, ap, subst, ◌∙◌, arith}
use mathlib.Core.Path.{fun_ext}
use Rattle.std.proofs.lemmas.Bool.{cases_lt}
use Rattle.std.specs.Prelude.{option_and_then}
use Rattle.toml_tree.specs.declared.profile.Profile.{Profile}
use Rattle.toml_names.specs.model.Addresses.{Address}
use Rattle.toml_names.specs.model.Data.{Kinds}
use Rattle.toml_edits.specs.declared.fault.EditFault.{EditFault}
use Rattle.toml_edits.specs.After.{IsAfter}
use Rattle.toml_edits.specs.Carry.{carry}
use Rattle.toml_edits.specs.Edits.{Change}
use Rattle.toml_edits.specs.Faults.{rank, Row, IsFault}
use Rattle.toml_edits.specs.ListLaws.{CarriedOn, OneLead, FaultOrLead, OneFirstFault}
use Rattle.toml_edits.specs.Lists.{carried, Lead, IsFirstFault}
use Rattle.toml_edits.proofs.FirstRows.{one_rank}
use Rattle.toml_edits.proofs.Once.{one_after}

on_from : (cs ds : List Change) → ((b : Address) → carried (cs ++ ds) b ≡ option_and_then (carried ds) (carried cs b))
    → (o : Option Address) → option_and_then (carried (cs ++ ds)) o ≡ option_and_then (carried ds) (option_and_then (carried cs) o)
on_from cs ds next None = refl
on_from cs ds next (Some b) = next b

pub carried_on : CarriedOn
carried_on [] ds a = refl
carried_on (c ∷ cs) ds a = on_from cs ds (λ b. carried_on cs ds b) (carry c a)

-- an edit makes one thing of data that are the same
after_same : (profile : Profile) (c : Change) (old other one two : Kinds) → old ≡ other → IsAfter profile c old one → IsAfter profile c other two → one ≡ two
after_same profile c old other one two same first second = fun_ext (one_after profile c other one two (subst (λ (f : Kinds). IsAfter profile c f one) same first) second)

lead_same : (profile : Profile) (cs : List Change) (old other one two : Kinds) → old ≡ other → Lead profile cs old one → Lead profile cs other two → (a : Address) → one a ≡ two a
lead_same profile [] old other one two same first second = λ a. sym (first a) ∙ ap (λ (f : Kinds). f a) same ∙ second a
lead_same profile (c ∷ cs) old other one two same (good, mid, after, first) (fine, mil, then, second) =
    lead_same profile cs mid mil one two (after_same profile c old other mid mil same after then) first second

pub one_lead : OneLead
one_lead profile cs old one two = lead_same profile cs old old one two refl

stops_or_leads : (profile : Profile) (cs : List Change) (old other new : Kinds) (i : ℕ) (fault : EditFault) → old ≡ other → IsFirstFault profile cs old i fault → Lead profile cs other new → ⊥
stops_or_leads profile [] old other new i fault same stop lead = stop
stops_or_leads profile (c ∷ cs) old other new zero fault same stop (good, mid, after, lead) = good fault (subst (λ (f : Kinds). Row profile c f fault) same stop.0)
stops_or_leads profile (c ∷ cs) old other new (suc i) fault same (fine, mil, then, stop) (good, mid, after, lead) =
    stops_or_leads profile cs mil mid new i fault (after_same profile c old other mil mid same then after) stop lead

pub fault_or_lead : FaultOrLead
fault_or_lead profile cs old new i fault = stops_or_leads profile cs old old new i fault refl

-- one row is the first
one_row : (profile : Profile) (c : Change) (kinds : Kinds) (x y : EditFault) → IsFault profile c kinds (Some x) → IsFault profile c kinds (Some y) → x ≡ y
one_row profile c kinds x y first second = by (cases_lt (rank x) (rank y)) (cases_lt (rank y) (rank x))
  where
    by : rank x < rank y ⊎ (rank y ≤ rank x) → rank y < rank x ⊎ (rank x ≤ rank y) → x ≡ y
    by (inl low) other = absurd (second.1 x low first.0)
    by (inr high) (inl low) = absurd (first.1 y low second.0)
    by (inr high) (inr low) = let same : rank x ≡ rank y = omega arith in one_rank x y same

stops_once : (profile : Profile) (cs : List Change) (old other : Kinds) (i j : ℕ) (x y : EditFault) → old ≡ other → IsFirstFault profile cs old i x → IsFirstFault profile cs other j y → (i ≡ j) × (x ≡ y)
stops_once profile [] old other i j x y same first second = absurd first
stops_once profile (c ∷ cs) old other zero zero x y same first second = (refl, one_row profile c other x y (subst (λ (f : Kinds). IsFault profile c f (Some x)) same first) second)
stops_once profile (c ∷ cs) old other zero (suc j) x y same first (good, mid, after, second) = absurd (good x (subst (λ (f : Kinds). Row profile c f x) same first.0))
stops_once profile (c ∷ cs) old other (suc i) zero x y same (good, mid, after, first) second = absurd (good y (subst (λ (f : Kinds). Row profile c f y) (sym same) second.0))
stops_once profile (c ∷ cs) old other (suc i) (suc j) x y same (good, mid, after, first) (fine, mil, then, second) =
    let rest = stops_once profile cs mid mil i j x y (after_same profile c old other mid mil same after then) first second in
    (ap suc rest.0, rest.1)

pub one_first_fault : OneFirstFault
one_first_fault profile cs old i j x y = stops_once profile cs old old i j x y refl
