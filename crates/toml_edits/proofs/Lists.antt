-- JSON items and members read one after the other.
use Rattle.std.proofs.Common.{◌≡◌, ℕ, suc, ◌+◌, ◌<◌, ◌≤◌, List, [], ◌∷◌, ◌++◌, length, take, drop, get_or, map, Option, Some, None, option_map, String, Global, refl, sym, ap, subst, ◌∙◌, arith}
use Rattle.std.proofs.lemmas.List.{drop_more, drop_all, take_more, take_all, append-nil, append_assoc, take-append-drop, length-take-le}
use Rattle.serde_json.specs.Data.{Data, null, boolean, number, string, array, object, Members}
use Rattle.serde_json.specs.Find.{as_object}
use Rattle.serde_json.specs.View.{view, items_view, members_view}
use Rattle.serde_json.specs.declared.value.Value.{Value}
use Rattle.toml_names.specs.declared.model.address.Step.{Step}
use Rattle.toml_names.specs.model.Addresses.{Address}
use Rattle.toml_edits.specs.declared.edit.Edit.{Edit}
use Rattle.toml_edits.specs.Edits.{Change, change}
use Rattle.toml_edits.specs.EditList.{step_of, then_step, steps_of, size, count, entry_of, AreEdits, IsFirstBad}

size_view : (es : List (String Global × Value)) → size (members_view es) ≡ length es
size_view [] = refl
size_view (e ∷ es) = ap suc (size_view es)

count_object : (d : Data) (ms : Members) → Some ms ≡ as_object d → size ms ≡ count d
count_object null ms is = cc
count_object (boolean b) ms is = cc
count_object (number n) ms is = cc
count_object (string s) ms is = cc
count_object (array ds) ms is = cc
count_object (object os) ms is = let same : ms ≡ os = cc in ap size same

-- the length of a map is the count of the object's members
pub count_is : (d : Data) (es : List (String Global × Value)) → Some (members_view es) ≡ as_object d → length es ≡ count d
count_is d es is = sym (size_view es) ∙ count_object d (members_view es) is

-- steps that were taken, before what is left
then_step-some : (s : Step) (o : Option Address) → then_step (Some s) o ≡ option_map (λ a. s ∷ a) o
then_step-some s None = refl
then_step-some s (Some a) = refl

push : (taken : Address) (s : Step) (o : Option Address) → option_map (λ a. taken ++ a) (option_map (λ a. s ∷ a) o) ≡ option_map (λ a. (taken ++ s ∷ []) ++ a) o
push taken s None = refl
push taken s (Some a) = ap Some (sym (append_assoc taken (s ∷ []) a))

abbrev pub TakenSteps : List Value → ℕ → Address → Type 0
TakenSteps xs i taken = option_map (λ a. taken ++ a) (steps_of (items_view (drop i xs))) ≡ steps_of (items_view xs)

none_taken : (o : Option Address) → option_map (λ a. [] ++ a) o ≡ o
none_taken None = refl
none_taken (Some a) = refl

pub steps_none : (xs : List Value) → TakenSteps xs 0 []
steps_none xs = none_taken (steps_of (items_view xs))

module _ (xs : List Value) (i : ℕ) (x : Value) (low : i < length xs) (is : get_or xs i x ≡ x) (taken : Address) (before : TakenSteps xs i taken) where
  here : steps_of (items_view (drop i xs)) ≡ then_step (step_of (view x)) (steps_of (items_view (drop (i + 1) xs)))
  here = ap (λ l. steps_of (items_view l)) (drop_more xs i x low ∙ ap (λ (y : Value). y ∷ drop (i + 1) xs) is)

  pub steps_more : (s : Step) → Some s ≡ step_of (view x) → TakenSteps xs (i + 1) (taken ++ s ∷ [])
  steps_more s step =
      let rest = steps_of (items_view (drop (i + 1) xs)) in
      sym (push taken s rest) ∙ ap (option_map (λ a. taken ++ a)) (sym (then_step-some s rest) ∙ ap (λ o. then_step o rest) step ∙ sym here) ∙ before

  pub steps_stop : None ≡ step_of (view x) → None ≡ steps_of (items_view xs)
  steps_stop none = ap (option_map (λ a. taken ++ a)) (ap (λ o. then_step o (steps_of (items_view (drop (i + 1) xs)))) none ∙ sym here) ∙ before

pub steps_all : (xs : List Value) (i : ℕ) (taken : Address) → length xs ≤ i → TakenSteps xs i taken → Some taken ≡ steps_of (items_view xs)
steps_all xs i taken past before =
    ap Some (sym (append-nil taken)) ∙ ap (λ l. option_map (λ a. taken ++ a) (steps_of (items_view l))) (sym (drop_all i xs past)) ∙ before

-- edits that were read
abbrev pub AreRead : List Value → ℕ → List Edit → Type 0
AreRead xs i es = AreEdits (items_view (take i xs)) (map change es)

one_more : (xs : List Value) (cs : List Change) (x : Value) (c : Change) → AreEdits (items_view xs) cs → entry_of (view x) ≡ Some c → AreEdits (items_view (xs ++ x ∷ [])) (cs ++ c ∷ [])
one_more [] [] x c are is = (is, tt)
one_more [] (d ∷ cs) x c are is = absurd are
one_more (y ∷ xs) [] x c are is = absurd are
one_more (y ∷ xs) (d ∷ cs) x c are is = (are.0, one_more xs cs x c are.1 is)

pub map_push : (es : List Edit) (e : Edit) → map change (es ++ e ∷ []) ≡ map change es ++ change e ∷ []
map_push [] e = refl
map_push (d ∷ es) e = ap (λ l. change d ∷ l) (map_push es e)

first_bad : (xs ys : List Value) (cs : List Change) (x : Value) → AreEdits (items_view xs) cs → entry_of (view x) ≡ None → IsFirstBad (items_view (xs ++ x ∷ ys)) (length xs)
first_bad [] ys cs x are is = is
first_bad (y ∷ xs) ys [] x are is = absurd are
first_bad (y ∷ xs) ys (c ∷ cs) x are is = (c, are.0, first_bad xs ys cs x are.1 is)

module _ (xs : List Value) (i : ℕ) (x : Value) (low : i < length xs) (is : get_or xs i x ≡ x) (es : List Edit) (are : AreRead xs i es) where
  pub edits_more : (e : Edit) → Some (change e) ≡ entry_of (view x) → AreRead xs (i + 1) (es ++ e ∷ [])
  edits_more e entry =
      subst (λ l. AreEdits (items_view l) (map change (es ++ e ∷ []))) (sym (take_more xs i x low ∙ ap (λ (y : Value). take i xs ++ y ∷ []) is))
      (subst (AreEdits (items_view (take i xs ++ x ∷ []))) (sym (map_push es e)) (one_more (take i xs) (map change es) x (change e) are (sym entry)))

  pub edits_stop : None ≡ entry_of (view x) → IsFirstBad (items_view xs) i
  edits_stop none =
      let whole : take i xs ++ x ∷ drop (i + 1) xs ≡ xs = ap (λ (y : Value). take i xs ++ y ∷ drop (i + 1) xs) (sym is) ∙ ap (λ l. take i xs ++ l) (sym (drop_more xs i x low)) ∙ take-append-drop i xs in
      let long : length (take i xs) ≡ i = length-take-le i xs (omega arith) in
      subst (λ l. IsFirstBad (items_view l) i) whole (subst (IsFirstBad (items_view (take i xs ++ x ∷ drop (i + 1) xs))) long (first_bad (take i xs) (drop (i + 1) xs) (map change es) x are (sym none)))

pub edits_all : (xs : List Value) (i : ℕ) (es : List Edit) → length xs ≤ i → AreRead xs i es → AreEdits (items_view xs) (map change es)
edits_all xs i es past are = subst (λ l. AreEdits (items_view l) (map change es)) (take_all i xs past) are
