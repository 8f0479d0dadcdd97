-- What edits owe, by debts.
use Rattle.std.proofs.Common.{◌≡◌, ℕ, ◌+◌, ◌<◌, ◌↔◌, ◌⊎◌, inl, inr, true, List, [], ◌∷◌, ◌++◌, length, drop, get_or, Option, Some, sym, ap, subst, ◌∙◌}
use Rattle.std.specs.Prelude.{option_map}
use Rattle.std.proofs.lemmas.List.{drop_more}
use Rattle.toml_names.specs.declared.model.address.Step.{Step}
use Rattle.toml_names.specs.declared.model.address_set.AddressSet.{AddressSet}
use Rattle.toml_names.specs.model.Addresses.{Address}
use Rattle.toml_names.specs.model.AddressSets.{reaches, reaches_in}
use Rattle.toml_edits.specs.Carry.{parted}
use Rattle.toml_edits.specs.Edits.{Change}
use Rattle.toml_edits.proofs.Proved.{parted_at_last}
use Rattle.toml_checker.specs.declared.debts.Debt.{Debt}
use Rattle.toml_checker.specs.declared.debts.Debts.{Debts}
use Rattle.toml_checker.specs.Debts.{AnyCovers, Covers, CoversMore, IsCovered, IsOwedBy, MayCover, ReachesWith}
use Rattle.toml_checker.specs.Owed.{IsOwed}
use Rattle.toml_checker.proofs.Reaching.{more_reached, now_reached, still_reached}

abbrev Parts : Type 0
Parts = Address × Step

pub parent_of : (at q : Address) (s : Step) (own : Address) → at ≡ q ++ s ∷ [] → own ≡ q → ◌≡◌ {A = Option Address} (Some own) (option_map (λ (w : Parts). w.0) (parted at))
parent_of at q s own is same = ap Some same ∙ sym (ap (option_map (λ (w : Parts). w.0)) (ap parted is ∙ parted_at_last q s))

pub one_covers : (ds : List Debt) (i : ℕ) (d : Debt) (a : Address) → i < length ds → d ≡ get_or ds i d → Covers d a → AnyCovers (drop i ds) a ↔ AnyCovers ds a → AnyCovers ds a
one_covers ds i d a low is h all =
    let here : drop i ds ≡ d ∷ drop (i + 1) ds = drop_more ds i d low ∙ ap (λ x. x ∷ drop (i + 1) ds) (sym is) in
    all.0 (subst (λ xs. AnyCovers xs a) (sym here) (inl h))

pub none_covers : (ds : List Debt) (a : Address) → ds ≡ [] → ¬ AnyCovers ds a
none_covers ds a none h = subst (λ (xs : List Debt). AnyCovers xs a) none h

-- what one debt covers more
pub pushed : (ds : List Debt) (d : Debt) (a : Address) → AnyCovers (ds ++ d ∷ []) a ↔ (Covers d a ⊎ AnyCovers ds a)
pushed [] d a = (λ h. h, λ h. h)
pushed (x ∷ ds) d a = parts (pushed ds d a)
  where
    parts : AnyCovers (ds ++ d ∷ []) a ↔ (Covers d a ⊎ AnyCovers ds a) → (Covers x a ⊎ AnyCovers (ds ++ d ∷ []) a) ↔ (Covers d a ⊎ (Covers x a ⊎ AnyCovers ds a))
    parts w = (there, back)
      where
        there : Covers x a ⊎ AnyCovers (ds ++ d ∷ []) a → Covers d a ⊎ (Covers x a ⊎ AnyCovers ds a)
        there (inl h) = inr (inl h)
        there (inr h) = by (w.0 h)
          where
            by : Covers d a ⊎ AnyCovers ds a → Covers d a ⊎ (Covers x a ⊎ AnyCovers ds a)
            by (inl k) = inl k
            by (inr k) = inr (inr k)

        back : Covers d a ⊎ (Covers x a ⊎ AnyCovers ds a) → Covers x a ⊎ AnyCovers (ds ++ d ∷ []) a
        back (inl h) = inr (w.1 (inl h))
        back (inr (inl h)) = inl h
        back (inr (inr h)) = inr (w.1 (inr h))

-- what the debts cover with one more: of the set, or of the others
pub long_more : (short : Option AddressSet) (long more : List Debt) (d : Debt) (a : Address) → more ≡ long ++ d ∷ [] → ((reaches_in short a ≡ true) ⊎ AnyCovers more a) ↔ (Covers d a ⊎ ((reaches_in short a ≡ true) ⊎ AnyCovers long a))
long_more short long more d a is = (there, back)
  where
    there : (reaches_in short a ≡ true) ⊎ AnyCovers more a → Covers d a ⊎ ((reaches_in short a ≡ true) ⊎ AnyCovers long a)
    there (inl h) = inr (inl h)
    there (inr h) = by ((pushed long d a).0 (subst (λ ds. AnyCovers ds a) is h))
      where
        by : Covers d a ⊎ AnyCovers long a → Covers d a ⊎ ((reaches_in short a ≡ true) ⊎ AnyCovers long a)
        by (inl k) = inl k
        by (inr k) = inr (inr k)

    back : Covers d a ⊎ ((reaches_in short a ≡ true) ⊎ AnyCovers long a) → (reaches_in short a ≡ true) ⊎ AnyCovers more a
    back (inl h) = inr (subst (λ ds. AnyCovers ds a) (sym is) ((pushed long d a).1 (inl h)))
    back (inr (inl h)) = inl h
    back (inr (inr h)) = inr (subst (λ ds. AnyCovers ds a) (sym is) ((pushed long d a).1 (inr h)))

pub short_more : (old : Option AddressSet) (new : AddressSet) (long : List Debt) (d : Debt) (way : Address) (a : Address) → way ≡ d.at → ReachesWith old new d.below way
    → ((reaches new a ≡ true) ⊎ AnyCovers long a) ↔ (Covers d a ⊎ ((reaches_in old a ≡ true) ⊎ AnyCovers long a))
short_more old new long d way a is more = (there, back)
  where
    own : ReachesWith old new d.below d.at
    own = subst (ReachesWith old new d.below) is more

    there : (reaches new a ≡ true) ⊎ AnyCovers long a → Covers d a ⊎ ((reaches_in old a ≡ true) ⊎ AnyCovers long a)
    there (inl h) = by (more_reached old new d.below d.at a own h)
      where
        by : Covers d a ⊎ (reaches_in old a ≡ true) → Covers d a ⊎ ((reaches_in old a ≡ true) ⊎ AnyCovers long a)
        by (inl k) = inl k
        by (inr k) = inr (inl k)
    there (inr h) = inr (inr h)

    back : Covers d a ⊎ ((reaches_in old a ≡ true) ⊎ AnyCovers long a) → (reaches new a ≡ true) ⊎ AnyCovers long a
    back (inl h) = inl (now_reached old new d.below d.at a own h)
    back (inr (inl h)) = inl (still_reached old new d.below d.at a own h)
    back (inr (inr h)) = inr h

pub none_owed : (P : Type 0) → P ↔ (⊥ ⊎ P)
none_owed P = (there, back)
  where
    there : P → ⊥ ⊎ P
    there h = inr h

    back : ⊥ ⊎ P → P
    back (inl h) = absurd h
    back (inr h) = h

-- one edit more in front, whose debt is known
pub owed_more : (c : Change) (later : List Change) (owed : Option Debt) (old new : Debts) (a : Address) → (MayCover owed a ↔ IsOwedBy c later a) → (IsCovered old a ↔ IsOwed later a) → CoversMore (MayCover owed) old new a
    → IsCovered new a ↔ IsOwed (c ∷ later) a
owed_more c later owed old new a one all push = ((λ h. out (push.0 h)), (λ h. push.1 (back h)))
  where
    out : MayCover owed a ⊎ IsCovered old a → IsOwedBy c later a ⊎ IsOwed later a
    out (inl h) = inl (one.0 h)
    out (inr h) = inr (all.0 h)

    back : IsOwedBy c later a ⊎ IsOwed later a → MayCover owed a ⊎ IsCovered old a
    back (inl h) = inl (one.1 h)
    back (inr h) = inr (all.1 h)
