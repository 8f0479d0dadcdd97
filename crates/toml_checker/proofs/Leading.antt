-- Edits one after the other: one more edit, the first that has a fault, and data that are the same.
use Rattle.std.proofs.Common.{◌≡◌, List, [], ◌∷◌, ◌++◌, length, Option, Some, None, refl, sym, ap, ◌∙◌, subst}
use Rattle.std.proofs.Math.Path.{fun_ext}
use Rattle.toml_tree.specs.declared.profile.Profile.{Profile}
use Rattle.toml_names.specs.model.Addresses.{Address}
use Rattle.toml_names.specs.model.Data.{Kinds, kind_at}
use Rattle.toml_edits.specs.declared.fault.EditFault.{EditFault}
use Rattle.toml_edits.specs.After.{IsAfter}
use Rattle.toml_edits.specs.Edits.{Change}
use Rattle.toml_edits.specs.Faults.{IsFault}
use Rattle.toml_edits.specs.Lists.{Lead, IsFirstFault}
use Rattle.toml_edits.proofs.Proved.{fault_or_lead}
use Rattle.toml_names.specs.declared.model.datum.Data.{Data}
use Rattle.toml_checker.specs.After.{GivesData}
use Rattle.toml_checker.specs.Documents.{AreDefined}

pub same_kinds : (one two : Kinds) → ((a : Address) → one a ≡ two a) → one ≡ two
same_kinds one two h = fun_ext h

-- data that are the same lead to the same,
pub lead_from : (profile : Profile) (cs : List Change) (one two new : Kinds) → one ≡ two → Lead profile cs one new → Lead profile cs two new
lead_from profile [] one two new is h = λ a. ap (λ (k : Kinds). k a) (sym is) ∙ h a
lead_from profile (c ∷ cs) one two new is h = (
  subst (λ k. IsFault profile c k None) is h.0,
  h.1,
  subst (λ k. IsAfter profile c k h.1) is h.2,
  h.3,
)

-- and what leads to data leads to all that are the same.
pub lead_to : (profile : Profile) (cs : List Change) (old one two : Kinds) → ((a : Address) → one a ≡ two a) → Lead profile cs old one → Lead profile cs old two
lead_to profile [] old one two is h = λ a. h a ∙ is a
lead_to profile (c ∷ cs) old one two is h = (h.0, h.1, h.2, lead_to profile cs h.1 one two is h.3)

pub lead_more : (profile : Profile) (cs : List Change) (c : Change) (old mid new : Kinds) → Lead profile cs old mid → IsFault profile c mid None → IsAfter profile c mid new → Lead profile (cs ++ c ∷ []) old new
lead_more profile [] c old mid new lead none after =
    let is : mid ≡ old = sym (same_kinds old mid lead) in
    (subst (λ k. IsFault profile c k None) is none, new, subst (λ k. IsAfter profile c k new) is after, (λ a. refl))
lead_more profile (d ∷ cs) c old mid new lead none after = (lead.0, lead.1, lead.2, lead_more profile cs c lead.1 mid new lead.3 none after)

first_fault : (profile : Profile) (cs ds : List Change) (c : Change) (old mid : Kinds) (fault : EditFault) → Lead profile cs old mid → IsFault profile c mid (Some fault) → IsFirstFault profile (cs ++ c ∷ ds) old (length cs) fault
first_fault profile [] ds c old mid fault lead is = subst (λ k. IsFault profile c k (Some fault)) (sym (same_kinds old mid lead)) is
first_fault profile (d ∷ cs) ds c old mid fault lead is = (lead.0, lead.1, lead.2, first_fault profile cs ds c lead.1 mid fault lead.3 is)

pub not_defined : (profile : Profile) (cs ds : List Change) (c : Change) (old mid : Kinds) (fault : EditFault) → Lead profile cs old mid → IsFault profile c mid (Some fault) → ¬ AreDefined profile (cs ++ c ∷ ds) old
not_defined profile cs ds c old mid fault lead is = λ defined. fault_or_lead profile (cs ++ c ∷ ds) old defined.0 (length cs) fault (first_fault profile cs ds c old mid fault lead is) defined.1

-- what the edits were found to give
pub given : (profile : Profile) (cs : List Change) (old : Data) (found : Option Data) (d : Data) → found ≡ Some d → GivesData profile cs old found → Lead profile cs (kind_at old.root) (kind_at d.root)
given profile cs old found d is h = subst (GivesData profile cs old) is h
