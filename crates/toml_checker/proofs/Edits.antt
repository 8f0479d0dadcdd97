-- A list of edits, parted at one of them.
use Rattle.std.proofs.Common.{◌≡◌, ℕ, ◌+◌, ◌<◌, ◌⊎◌, inl, inr, List, [], ◌∷◌, ◌++◌, length, take, drop, get_or, map, Some, None, refl, sym, ap, ◌∙◌, subst, append_assoc}
use Rattle.std.proofs.lemmas.List.{take_more, take-append-drop}
use Rattle.toml_tree.specs.declared.profile.Profile.{Profile}
use Rattle.toml_names.specs.model.Data.{Kinds}
use Rattle.toml_edits.specs.declared.edit.Edit.{Edit}
use Rattle.toml_edits.specs.declared.fault.EditFault.{EditFault}
use Rattle.toml_edits.specs.declared.fault.EditFault.TheVariants.{NoMemory}
use Rattle.toml_edits.specs.After.{IsAfter}
use Rattle.toml_edits.specs.Edits.{change}
use Rattle.toml_edits.specs.Faults.{IsFault}
use Rattle.toml_edits.specs.Lists.{Lead}
use Rattle.toml_checker.specs.Documents.{AreDefined}
use Rattle.toml_checker.proofs.Leading.{lead_more, not_defined}

map_joined : {A B : Type 0} (f : A → B) (xs ys : List A) → map f (xs ++ ys) ≡ map f xs ++ map f ys
map_joined f [] ys = refl
map_joined f (x ∷ xs) ys = ap (λ zs. f x ∷ zs) (map_joined f xs ys)

-- the edits so far, one more, and the rest
pub one_more : {A B : Type 0} (f : A → B) (es : List A) (i : ℕ) (e : A) → i < length es → e ≡ get_or es i e → map f (take (i + 1) es) ≡ map f (take i es) ++ f e ∷ []
one_more f es i e low is =
    ap (map f) (take_more es i e low ∙ ap (λ x. take i es ++ x ∷ []) (sym is)) ∙ map_joined f (take i es) (e ∷ [])

pub parted : {A B : Type 0} (f : A → B) (es : List A) (i : ℕ) (e : A) → i < length es → e ≡ get_or es i e → map f es ≡ map f (take i es) ++ f e ∷ map f (drop (i + 1) es)
parted f es i e low is =
    ap (map f) (sym (take-append-drop (i + 1) es)) ∙ map_joined f (take (i + 1) es) (drop (i + 1) es)
    ∙ ap (λ xs. xs ++ map f (drop (i + 1) es)) (one_more f es i e low is) ∙ append_assoc (map f (take i es)) (f e ∷ []) (map f (drop (i + 1) es))

pub led_on : (profile : Profile) (es : List Edit) (i : ℕ) (e : Edit) (old mid new : Kinds) → i < length es → e ≡ get_or es i e → Lead profile (map change (take i es)) old mid → IsFault profile (change e) mid None × IsAfter profile (change e) mid new → Lead profile (map change (take (i + 1) es)) old new
led_on profile es i e old mid new low is lead made = subst (λ cs. Lead profile cs old new) (sym (one_more change es i e low is)) (lead_more profile (map change (take i es)) (change e) old mid new lead made.0 made.1)

pub stopped : (profile : Profile) (es : List Edit) (i : ℕ) (e : Edit) (old mid : Kinds) (fault : EditFault) → i < length es → e ≡ get_or es i e → Lead profile (map change (take i es)) old mid → ¬ (fault ≡ NoMemory) → (fault ≡ NoMemory) ⊎ IsFault profile (change e) mid (Some fault) → ¬ AreDefined profile (map change es) old
stopped profile es i e old mid fault low is lead memory (inl none) = absurd (memory none)
stopped profile es i e old mid fault low is lead memory (inr row) =
    subst (λ cs. ¬ AreDefined profile cs old) (sym (parted change es i e low is)) (not_defined profile (map change (take i es)) (map change (drop (i + 1) es)) (change e) old mid fault lead row)
