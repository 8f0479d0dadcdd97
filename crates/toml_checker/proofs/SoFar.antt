-- What edits ask for, from the last to the first.
use Rattle.std.proofs.Common.{◌≡◌, ℕ, ◌+◌, ◌-◌, ◌<◌, ◌^◌, ◌↔◌, List, [], ◌∷◌, ◌++◌, length, drop, get_or, map, take, reverse, sym, ap, subst, ◌∙◌, arith}
use Rattle.std.proofs.lemmas.List.{drop_all, drop_more, length-map, reverse-append, take_rest}
use Rattle.toml_tree.specs.declared.profile.Profile.{Profile}
use Rattle.toml_names.specs.model.Addresses.{Address}
use Rattle.toml_edits.specs.declared.edit.Edit.{Edit}
use Rattle.toml_edits.specs.Edits.{Change, change}
use Rattle.toml_checker.specs.declared.debts.Debts.{Debts}
use Rattle.toml_checker.specs.declared.written.Written.{Written}
use Rattle.toml_checker.specs.Debts.{IsCovered, IsNothingOwed}
use Rattle.toml_checker.specs.Owed.{IsOwed}
use Rattle.toml_checker.specs.WrittenComments.{AreWrittenBy, HasValue, HaveValues, IsWrittenBy}

-- what the edits from one on ask for, as it was found so far
pub record IsSoFar (profile : Profile) (cs : List Change) (ds : Debts) (ws : List Written) : Type 0 where
  pub debts : (a : Address) → IsCovered ds a ↔ IsOwed cs a
  pub written : HaveValues profile cs → AreWrittenBy cs (reverse ws)

nothing : (profile : Profile) (ds : Debts) → IsNothingOwed ds → IsSoFar profile [] ds []
nothing profile ds none = record { debts = λ a. (λ h. none a h, λ h. absurd h); written = λ h. tt }

-- behind the last edit
pub at_end : (profile : Profile) (later : List Edit) (ds : Debts) → later ≡ [] → IsNothingOwed ds → IsSoFar profile (map change later) ds []
at_end profile later ds none owed = subst (λ es. IsSoFar profile (map change es) ds []) (sym none) (nothing profile ds owed)

pub none_behind : (es later : List Edit) → later ≡ drop (length es) es → later ≡ []
none_behind es later is = is ∙ drop_all (length es) es (omega arith)

pub parted : (es left later : List Edit) (count i : ℕ) (e : Edit) → count < length es → i ≡ length es - 1 - count → left ≡ drop i es → e ≡ get_or left 0 e → later ≡ drop (length es - count) es → left ≡ e ∷ later
parted es left later count i e low at is here behind =
    let next : i + 1 ≡ length es - count = omega (arith, at, low) in
    let split : left ≡ get_or es i e ∷ drop (i + 1) es = is ∙ drop_more es i e (omega (arith, at, low)) in
    let same : get_or es i e ≡ e = sym (here ∙ ap (λ xs. get_or xs 0 e) split) in
    split ∙ ap (λ x. x ∷ drop (i + 1) es) same ∙ ap (λ xs. e ∷ xs) (ap (λ k. drop k es) next ∙ sym behind)

pub from_on : (es : List Edit) (i : ℕ) → take (length es - i) (drop i es) ≡ drop i es
from_on es i = take_rest es i

-- one edit more in front
pub one_more : (profile : Profile) (c : Change) (cs : List Change) (debts new : Debts) (written more : List Written) (w : Written) → IsSoFar profile cs debts written → ((a : Address) → IsCovered new a ↔ IsOwed (c ∷ cs) a)
    → (HasValue profile c → IsWrittenBy c cs w) → more ≡ written ++ w ∷ [] → IsSoFar profile (c ∷ cs) new more
one_more profile c cs debts new written more w h owed is pushed = record {
  debts = owed;
  written = λ values. subst (AreWrittenBy (c ∷ cs)) (sym (ap reverse pushed ∙ reverse-append written (w ∷ []))) (is values.0, h.written values.1);
}

-- ---- a list with one edit more

pub few_are : (es : List Edit) → length es < 2 ^ 63 → length (map change es) < 2 ^ 63
few_are es h = rw length-map h

pub front_is : (es old : List Edit) (e f : Edit) → es ≡ e ∷ old → f ≡ get_or es 0 f → es ≡ f ∷ old
front_is es old e f is here = is ∙ ap (λ x. x ∷ old) (sym (here ∙ ap (λ xs. get_or xs 0 f) is))
