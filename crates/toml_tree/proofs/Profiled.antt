-- What profile 1 asks of a tree, handled alike in either profile.
use Rattle.std.proofs.Common.{◌≡◌, Bool, true, false, not, refl, sym, true≢false}
use Rattle.toml_tree.specs.Profiles.{HasPair, HasNoLastComma, Asks, OneIsInTwo}
use Rattle.toml_tree.specs.ReadingValues.{ends_in_comma, may_end}
use Rattle.toml_tree.specs.Tree.{Pairs, ClosePairs, LastPair, MorePairs}
use Rattle.toml_tree.specs.declared.profile.Profile.{Profile}
use Rattle.toml_tree.specs.declared.profile.Profile.TheVariants.{One, Two}

pub one_is_in_two : OneIsInTwo
one_is_in_two d text h = (h.0, tt)

pub asked : {A B : Type 0} (p : Profile) → (A → B) → Asks p A → Asks p B
asked One f h = f h
asked Two f h = tt

pub asked_both : (p : Profile) (A B : Type 0) → Asks p A → Asks p B → Asks p (A × B)
asked_both One A B h k = (h, k)
asked_both Two A B h k = tt

pub asked_three : (p : Profile) (A B C : Type 0) → Asks p A → Asks p B → Asks p C → Asks p (A × B × C)
asked_three One A B C h k l = (h, k, l)
asked_three Two A B C h k l = tt

pub asked_four : (p : Profile) (A B C D : Type 0) → Asks p A → Asks p B → Asks p C → Asks p D → Asks p (A × B × C × D)
asked_four One A B C D h k l m = (h, k, l, m)
asked_four Two A B C D h k l m = tt

pub asks_nothing : (p : Profile) → Asks p (Unit {0})
asks_nothing One = tt
asks_nothing Two = tt

-- no comma before `}`, by the test and by the relation
pairs_behind_comma : (ps : Pairs) → ends_in_comma true ps ≡ false → HasPair ps × HasNoLastComma ps
pairs_behind_comma (ClosePairs g) e = absurd (true≢false e)
pairs_behind_comma (LastPair g a v h) e = (tt, tt)
pairs_behind_comma (MorePairs g a v h ps) e = (tt, pairs_behind_comma ps e)

comma_behind_none : (ps : Pairs) → HasPair ps → HasNoLastComma ps → ends_in_comma true ps ≡ false
comma_behind_none (ClosePairs g) h k = absurd h
comma_behind_none (LastPair g a v h) _ k = refl
comma_behind_none (MorePairs g a v h ps) _ k = comma_behind_none ps k.0 k.1

no_last_comma : (ps : Pairs) → not (ends_in_comma false ps) ≡ true → HasNoLastComma ps
no_last_comma (ClosePairs g) e = tt
no_last_comma (LastPair g a v h) e = tt
no_last_comma (MorePairs g a v h ps) e = by (ends_in_comma true ps) refl e
  where
    by : (t : Bool) → ends_in_comma true ps ≡ t → not t ≡ true → HasPair ps × HasNoLastComma ps
    by true is e = absurd (true≢false (sym e))
    by false is e = pairs_behind_comma ps is

ends_in_none : (ps : Pairs) → HasNoLastComma ps → ends_in_comma false ps ≡ false
ends_in_none (ClosePairs g) k = refl
ends_in_none (LastPair g a v h) k = refl
ends_in_none (MorePairs g a v h ps) k = comma_behind_none ps k.0 k.1

pub ends_well : (p : Profile) (ps : Pairs) → may_end p ps ≡ true → Asks p (HasNoLastComma ps)
ends_well One ps e = no_last_comma ps e
ends_well Two ps e = tt

pub may_end_so : (p : Profile) (ps : Pairs) → Asks p (HasNoLastComma ps) → may_end p ps ≡ true
may_end_so One ps h = λ i. not (ends_in_none ps h i)
may_end_so Two ps h = refl
