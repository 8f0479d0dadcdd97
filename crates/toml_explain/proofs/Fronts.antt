-- How far steps lead in the data of a text, step by step, and which names stand there.
use Rattle.std.proofs.Common.{◌≡◌, ◌∙◌, ◌<◌, ◌+◌, ◌++◌, ℕ, zero, suc, List, [], ◌∷◌, length, take, get_or, Option, Some, refl, sym, ap, subst}
use Rattle.std.proofs.lemmas.List.{take_more}
use Rattle.std.proofs.lemmas.Option.{none-some, slice_get-get_or}
use Rattle.std.specs.Prelude.{IfSome, option_map, slice_get}
use Rattle.std.specs.Borrow.{Bor}
use Rattle.toml_names.specs.declared.model.address.Step.{Step}
use Rattle.toml_names.specs.model.Addresses.{Address}
use Rattle.toml_names.specs.model.Data.{Kinds}
use Rattle.toml_names.specs.tree.Nodes.{Spot}
use Rattle.toml_places.specs.Leading.{below_step, below_steps}
use Rattle.toml_places.specs.Parts.{Stands, kinds_in}
use Rattle.toml_names.specs.declared.model.address.Step.TheVariants.{Name}
use Rattle.toml_names.specs.reader.Parts.{AreMembers, part_kinds, plain_members}
use Rattle.toml_explain.specs.Standing.{IsMeant, IsNear, IsNearest}
use Rattle.toml_explain.specs.declared.standing.Front.{Front}

below_behind : (at : Address) (s : Step) (kinds : Kinds) → below_steps (at ++ s ∷ []) kinds ≡ below_step s (below_steps at kinds)
below_behind [] s kinds = refl
below_behind (t ∷ at) s kinds = below_behind at s (below_step t kinds)

-- what stands one step further
pub one_further : (parts : List Spot) (steps : Address) (kinds : Kinds) (i part : ℕ) (s d : Step) (next : Option ℕ) → i < length steps → s ≡ get_or steps i d
    → Stands parts (Some part) (below_steps (take i steps) kinds) → Stands parts next (below_step s (kinds_in parts (Some part))) → Stands parts next (below_steps (take (i + 1) steps) kinds)
one_further parts steps kinds i part s d next low is stands behind =
    let here : Kinds = below_steps (take i steps) kinds in
    let more : take (i + 1) steps ≡ take i steps ++ s ∷ [] = take_more steps i d low ∙ ap (λ x. take i steps ++ x ∷ []) (sym is) in
    let same : below_steps (take (i + 1) steps) kinds ≡ below_step s here = ap (λ (at : Address). below_steps at kinds) more ∙ below_behind (take i steps) s kinds in
    let known : kinds_in parts (Some part) ≡ here = (λ j at. sym (stands.1 at) j) in
    subst (Stands parts next) (sym same) (subst (λ (k : Kinds). Stands parts next (below_step s k)) known behind)

-- what holds of something holds of it by its name
pub some_holds : {A : Type 0} (P : A → Type 0) (o : Option A) (a : A) → o ≡ Some a → IfSome o P → P a
some_holds {A} P o a is h = subst (λ (x : Option A). IfSome x P) is h

-- the name of the member at a place
pub name_at : (members : List (Bor (List ℕ) × ℕ)) (i : ℕ) (d : Bor (List ℕ) × ℕ) (name : List ℕ) → i < length members → IsNear name (get_or members i d).0.now → IsNearest members name (get_or members i d).0
name_at members i d name low near = ((i, get_or members i d, slice_get-get_or members i d low, refl), near)

-- the same member, by its bytes
plain_at : (members : List (Bor (List ℕ) × ℕ)) (i : ℕ) (e : Bor (List ℕ) × ℕ) → slice_get members i ≡ Some e → slice_get (plain_members members) i ≡ Some (e.0.now, e.1)
plain_at [] i e is = absurd (none-some e is)
plain_at (m ∷ members) zero e is = ap (option_map (λ (x : Bor (List ℕ) × ℕ). (x.0.now, x.1))) is
plain_at (m ∷ members) (suc i) e is = plain_at members i e is

pub is_meant : (parts : List Spot) (front : Front) (steps : Address) (members : List (Bor (List ℕ) × ℕ)) → AreMembers parts front.part (plain_members members) → (wanted : List ℕ)
    → slice_get steps front.depth ≡ Some (Name wanted) → (near : Bor (List ℕ)) → IsNearest members wanted near → (name : List ℕ) → name ≡ near.now → IsMeant parts front steps name
is_meant parts front steps members are wanted asked near is name same =
    let e = is.0.1 in
    let named : e.0.now ≡ name = is.0.3 ∙ sym same in
    let here = plain_at members is.0.0 e is.0.2 in
    record {
      wanted = wanted;
      asked = asked;
      near = subst (IsNear wanted) (sym same) is.1;
      member = e.1;
      below = are.below is.0.0 (e.0.now, e.1) here;
      there = λ at. subst (λ n. part_kinds parts front.part (Name n ∷ at) ≡ part_kinds parts e.1 at) named (are.each is.0.0 (e.0.now, e.1) here at);
    }
