-- Edits made one after the other.
use Rattle.std.proofs.Common.{◌≡◌, ℕ, zero, suc, ◌+◌, ◌<◌, List, [], ◌∷◌, ◌++◌, length, take, get_or, map, Some, None, refl, sym, ap, subst, ◌∙◌, arith}
use Rattle.std.proofs.Math.Path.{fun_ext}
use Rattle.std.proofs.lemmas.List.{take_more}
use Rattle.std.specs.Prelude.{slice_get}
use Rattle.toml_tree.specs.declared.profile.Profile.{Profile}
use Rattle.toml_names.specs.model.Data.{Kinds}
use Rattle.toml_edits.specs.declared.edit.Edit.{Edit as Given}
use Rattle.toml_edits.specs.declared.draft.Draft.{Draft}
use Rattle.toml_edits.specs.After.{IsAfter}
use Rattle.toml_edits.specs.Applied.{IsApplied}
use Rattle.toml_edits.specs.Drafts.{drafted}
use Rattle.toml_edits.specs.Edits.{Change, change}
use Rattle.toml_edits.specs.Faults.{IsFault}
use Rattle.toml_edits.specs.Lists.{Lead}
use Rattle.toml_names.specs.model.Addresses.{Address}
use Rattle.toml_working.specs.Starting.{read_of}
use Rattle.toml_working.specs.declared.working.Tree.{Tree}
use Rattle.toml_editor.specs.Exact.{DoneOne}
use Rattle.toml_editor.specs.Made.{MakesEdit, RefusesEdit}
use Rattle.toml_editor.specs.declared.making.Read.{Read}
use Rattle.toml_editor.specs.Edited.{SoFar, OfDefined, TakesLastElement, MayBeSpread}
use Rattle.toml_editor.specs.Making.{IsMade, TellsOne, TellsAny}
use Rattle.toml_editor.specs.declared.fault.EditorFault.{EditorFault}
use Rattle.toml_editor.specs.declared.fault.EditorFault.TheVariants as faults

lead_more : (profile : Profile) (cs : List Change) (c : Change) (old : Kinds) (mid new : Draft) → Lead profile cs old (drafted mid) → IsMade profile c mid new → Lead profile (cs ++ c ∷ []) old (drafted new)
lead_more profile [] c old mid new lead made =
    let is : drafted mid ≡ old = sym (fun_ext lead) in
    (subst (λ k. IsFault profile c k None) is made.0, drafted new, subst (λ k. IsAfter profile c k (drafted new)) is made.1, (λ a. refl))
lead_more profile (d ∷ cs) c old mid new lead made = (lead.0, lead.1, lead.2, lead_more profile cs c lead.1 mid new lead.3 made)

map_push : (xs ys : List Given) → map change (xs ++ ys) ≡ map change xs ++ map change ys
map_push [] ys = refl
map_push (x ∷ xs) ys = ap (λ zs. change x ∷ zs) (map_push xs ys)

-- one more is taken
pub taken_on : (es : List Given) (i : ℕ) (e : Given) → i < length es → e ≡ get_or es i e → map change (take (i + 1) es) ≡ map change (take i es) ++ change e ∷ []
taken_on es i e low is = ap (map change) (take_more es i e low ∙ ap (λ x. take i es ++ x ∷ []) (sym is)) ∙ map_push (take i es) (e ∷ [])

pub led_on : (profile : Profile) (es : List Given) (i : ℕ) (e : Given) (old : Kinds) (mid new : Draft) → i < length es → e ≡ get_or es i e → Lead profile (map change (take i es)) old (drafted mid) → IsMade profile (change e) mid new → Lead profile (map change (take (i + 1) es)) old (drafted new)
led_on profile es i e old mid new low is lead made =
    subst (λ cs. Lead profile cs old (drafted new)) (sym (taken_on es i e low is)) (lead_more profile (map change (take i es)) (change e) old mid new lead made)

pub take_map : (n : ℕ) (es : List Given) → take n (map change es) ≡ map change (take n es)
take_map zero es = refl
take_map (suc n) [] = refl
take_map (suc n) (e ∷ es) = ap (λ cs. change e ∷ cs) (take_map n es)

pub get_map : (es : List Given) (i : ℕ) (e : Given) → i < length es → e ≡ get_or es i e → slice_get (map change es) i ≡ Some (change e)
get_map [] i e low is = absurd (omega arith)
get_map (x ∷ es) zero e low is = ap (λ y. Some (change y)) (sym is)
get_map (x ∷ es) (suc i) e low is = get_map es i e (omega arith) is

so_far : (profile : Profile) (es : List Given) (i j : ℕ) (e : Given) (old mid : Kinds) (P : Change → Kinds → Type 0) → i < length es → e ≡ get_or es i e → Lead profile (map change (take i es)) old mid → j ≡ i → P (change e) mid → SoFar profile (map change es) old j P
so_far profile es i j e old mid P low is lead same p =
    subst (λ n. SoFar profile (map change es) old n P) (sym same) (mid, subst (λ cs. Lead profile cs old mid) (sym (take_map i es)) lead, change e, get_map es i e low is, p)

pub any_of_one : (profile : Profile) (es : List Given) (i : ℕ) (e : Given) (old mid : Kinds) (fault : EditorFault) → i < length es → e ≡ get_or es i e → Lead profile (map change (take i es)) old mid → TellsOne profile i (change e) mid fault → TellsAny profile (map change es) old fault
any_of_one profile es i e old mid (faults.Edit j f) low is lead h = so_far profile es i j e old mid (λ c kinds. IsFault profile c kinds (Some f)) low is lead h.0 h.1
any_of_one profile es i e old mid (faults.Spread j) low is lead h = so_far profile es i j e old mid (OfDefined profile MayBeSpread) low is lead h.0 h.1
any_of_one profile es i e old mid (faults.LastElement j) low is lead h = so_far profile es i j e old mid (OfDefined profile TakesLastElement) low is lead h.0 h.1
any_of_one profile es i e old mid faults.NoMemory low is lead h = tt
any_of_one profile es i e old mid (faults.Text f) low is lead h = absurd h
any_of_one profile es i e old mid (faults.Syntax f) low is lead h = absurd h
any_of_one profile es i e old mid (faults.Names f) low is lead h = absurd h
any_of_one profile es i e old mid faults.TooLong low is lead h = absurd h
any_of_one profile es i e old mid (faults.Unverified r) low is lead h = absurd h

-- ---- data that were turned to an edit are the same

pub turned_made : (read : Read) (c : Change) (old mid new : Draft) (before after : Tree) → ((at : Address) → drafted mid at ≡ drafted old at) → MakesEdit read c mid new before after
    → MakesEdit read c old new before after
turned_made read c old mid new before after same made = record {
  applied = subst (λ k. IsApplied read.profile c k (drafted new)) (fun_ext same) made.applied;
  done = subst (λ k. DoneOne read.profile (read_of read.before) k c before after) (fun_ext same) made.done;
}

pub turned_told : (read : Read) (i : ℕ) (c : Change) (old mid : Draft) (tree : Tree) (fault : EditorFault) → ((at : Address) → drafted mid at ≡ drafted old at) → RefusesEdit read i c mid tree fault
    → RefusesEdit read i c old tree fault
turned_told read i c old mid tree fault same refuses = record {
  told = subst (λ k. TellsOne read.profile i c k fault) (fun_ext same) refuses.told;
  neither = refuses.neither;
}
