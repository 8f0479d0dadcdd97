-- One edit more in the code's tree, and all of a list.
use Rattle.std.proofs.Common.{◌≡◌, ℕ, Bool, false, ◌+◌, ◌-◌, ◌<◌, ◌≤◌, List, [], ◌∷◌, ◌++◌, length, drop, get_or, Option, Some, None, Bor, refl, sym, ap, subst, ◌∙◌, arith}
use Rattle.std.specs.Prelude.{map, Result, Ok, Err}
use Rattle.toml_names.specs.declared.model.address.Step.{Step}
use Rattle.toml_names.specs.declared.model.address.Step.TheVariants.{Name, Index}
use Rattle.toml_names.specs.model.Addresses.{Address}
use Rattle.toml_edits.specs.Carry.{parted}
use Rattle.toml_edits.specs.Edits.{Change, change}
use Rattle.toml_edits.specs.declared.edit.Edit.{Edit}
use Rattle.std.proofs.lemmas.List.{drop_all, drop_more}
use Rattle.toml_edits.proofs.LastStep.{parted_at_last}
use Rattle.toml_edits.specs.declared.moves.Moves.{Moves}
use Rattle.toml_edits.specs.declared.moves.Act.TheVariants as acts
use Rattle.toml_edits.specs.Trees.{Told, Tells, Marks, walk, seen_here, told_above}
use Rattle.toml_edits.specs.Fronts.{MadeFront, InsertedFront, RemovedFront, RenamedFront}
use Rattle.toml_edits.specs.Moves.{Entered, IsFresh, moves}
use Rattle.toml_edits.specs.Notes.{seen}
use Rattle.toml_edits.specs.Told.{IfTold, TellsOf}
use Rattle.toml_edits.proofs.Noting.{step_on, walk_none}
use Rattle.toml_edits.proofs.Entering.{fresh_down}

pub if_told : {E : Type 0} {P Q : Type 0} (r : Result Bool E) → (P → Q) → IfTold r P → IfTold r Q
if_told (Ok b) f h = λ e. f (h e)
if_told (Err x) f h = tt

parts : (at q : Address) (s t : Step) → at ≡ q ++ s ∷ [] → s ≡ t → parted at ≡ Some (q, t)
parts at q s t is same = ap parted is ∙ parted_at_last q s ∙ ap (λ (u : Step). Some (q, u)) same

pub made_told : (at q : Address) (s : Step) (old new : Moves) → at ≡ q ++ s ∷ [] → Entered acts.Stay q old new → MadeFront moves (parted at) (Some old) new
made_told at q s old new is h = subst (λ x. MadeFront moves x (Some old) new) (sym (parts at q s s is refl)) h.1

pub inserted_name : (at q : Address) (s : Step) (n : List ℕ) (old new : Moves) → at ≡ q ++ s ∷ [] → s ≡ Name n → Entered acts.Stay q old new → InsertedFront moves (parted at) (Some old) new
inserted_name at q s n old new is last h = subst (λ x. InsertedFront moves x (Some old) new) (sym (parts at q s (Name n) is last)) h.1

pub inserted_index : (at q : Address) (s : Step) (i : ℕ) (old new : Moves) → at ≡ q ++ s ∷ [] → s ≡ Index i → Entered (acts.DropAt i) q old new → InsertedFront moves (parted at) (Some old) new
inserted_index at q s i old new is last h = subst (λ x. InsertedFront moves x (Some old) new) (sym (parts at q s (Index i) is last)) h.1

pub renamed_name : (at q : Address) (s : Step) (n : List ℕ) (name to : Bor (List ℕ)) (old new : Moves) → at ≡ q ++ s ∷ [] → s ≡ Name n → name.now ≡ n → Entered (acts.Take name to) q old new → RenamedFront moves at (parted at) to.now (Some old) new
renamed_name at q s n name to old new is last same h = subst (λ x. RenamedFront moves at x to.now (Some old) new) (sym (parts at q s (Name name.now) is (last ∙ ap Name (sym same)))) h.1

pub renamed_index : (at q : Address) (s : Step) (i : ℕ) (to : List ℕ) (old new : Moves) → at ≡ q ++ s ∷ [] → s ≡ Index i → Entered acts.Mark at old new → RenamedFront moves at (parted at) to (Some old) new
renamed_index at q s i to old new is last h = subst (λ x. RenamedFront moves at x to (Some old) new) (sym (parts at q s (Index i) is last)) h.1

pub removed_name : (at q : Address) (s : Step) (n : List ℕ) (name : Bor (List ℕ)) (old new : Moves) → at ≡ q ++ s ∷ [] → s ≡ Name n → name.now ≡ n → Entered (acts.Lose name) q old new → RemovedFront moves (parted at) (Some old) new
removed_name at q s n name old new is last same h = subst (λ x. RemovedFront moves x (Some old) new) (sym (parts at q s (Name name.now) is (last ∙ ap Name (sym same)))) h.1

pub removed_index : (at q : Address) (s : Step) (i : ℕ) (old new : Moves) → at ≡ q ++ s ∷ [] → s ≡ Index i → Entered (acts.LoseAt i) q old new → RemovedFront moves (parted at) (Some old) new
removed_index at q s i old new is last h = subst (λ x. RemovedFront moves x (Some old) new) (sym (parts at q s (Index i) is last)) h.1

-- ---- a list

fresh_shows : (to : Told (Option (List ℕ))) (t : Moves) → IsFresh to t → (a : Address) → walk moves (Some t) a ≡ Some (seen [] a)
fresh_shows to t fresh [] = ap (λ (m : Marks). Some (Some (seen_here m))) fresh.1
fresh_shows to t fresh (s ∷ a) =
    ap (step_on moves (moves.marks t).renamed a) (fresh_down to t fresh s) ∙ ap (λ (m : Marks). told_above s m.renamed (walk moves None a)) fresh.1 ∙ ap (told_above s false) (walk_none moves a)

pub fresh_tells : (to : Told (Option (List ℕ))) (t : Moves) → IsFresh to t → TellsOf [] t
fresh_tells to t fresh = record { placed = tt; shows = λ n a low room. subst (λ x. Tells x (seen [] a)) (sym (fresh_shows to t fresh a)) refl }

pub none_told : (es : List Edit) (t : Moves) → TellsOf [] t → TellsOf (map change (drop (length es - 0) es)) t
none_told es t none = subst (λ ds. TellsOf (map change ds) t) (sym (drop_all (length es - 0) es (omega arith))) none

at_drop : (es : List Edit) (i : ℕ) (e : Edit) → i < length es → e ≡ get_or es i e → drop i es ≡ e ∷ drop (i + 1) es
at_drop es i e low is = drop_more es i e low ∙ ap (λ (x : Edit). x ∷ drop (i + 1) es) (sym is)

pub next_told : (es : List Edit) (count i : ℕ) (e : Edit) (old t : Moves) → count < length es → i ≡ length es - 1 - count → e ≡ get_or es i e → TellsOf (map change (drop (length es - count) es)) old
    → ((cs : List Change) → TellsOf cs old → TellsOf (change e ∷ cs) t) → TellsOf (map change (drop (length es - (count + 1)) es)) t
next_told es count i e old t low at is tells more =
    let p : length es - (count + 1) ≡ i = omega (arith, at) in
    let q : length es - count ≡ i + 1 = omega (arith, at, low) in
    let now : drop (length es - (count + 1)) es ≡ e ∷ drop (length es - count) es = ap (λ (k : ℕ). drop k es) p ∙ at_drop es i e (omega (arith, at, low)) is ∙ sym (ap (λ (k : ℕ). e ∷ drop k es) q) in
    subst (λ ds. TellsOf (map change ds) t) (sym now) (more (map change (drop (length es - count) es)) tells)

pub all_told : (es : List Edit) (count : ℕ) (t : Moves) → length es ≤ count → TellsOf (map change (drop (length es - count) es)) t → TellsOf (map change es) t
all_told es count t past tells = let none : length es - count ≡ 0 = omega (arith, past) in subst (λ (k : ℕ). TellsOf (map change (drop k es)) t) none tells
