-- What a misfit is. Mentions keep the rules exactly where none is found among them, what is found is the first offence, and what is no mention has no part in it.
use Rattle.toml_names.proofs.Common.{◌≡◌, Bool, true, false, List, [], ◌∷◌, ◌++◌, Some, refl, sym, ap, subst, ◌∙◌, true≢false, append_assoc, append-nil, Address, Named, fits, misfit, KeepsRules, IsFirstOffence, NoMisfit, MisfitIsFirst, rules, arith, ℕ, suc, ◌+◌, ◌<◌, not, ◌||◌, length, None, get_or, length-append, get_or_append_left, get_or_at, all_pairs_push, AllPass-from_list_all, list_all-from_AllPass, same_address, may_follow, filter, list_all, cond-true, cond-false, filter-append, Role, Bare, is_mention, RulesAreOfMentions}
use Rattle.toml_names.proofs.lemmas.model.Equal.{same_address-equal, same_address-self}

pub misfit-here : (earlier ms : List Named) (m : Named) → fits earlier m ≡ false → misfit earlier (m ∷ ms) ≡ Some m.address
misfit-here earlier ms m bad = rw bad

pub misfit-later : (earlier ms : List Named) (m : Named) → fits earlier m ≡ true → misfit earlier (m ∷ ms) ≡ misfit (earlier ++ m ∷ []) ms
misfit-later earlier ms m good = rw good

pub fits-from_misfit : (earlier ms : List Named) (m : Named) → misfit earlier (m ∷ ms) ≡ None → fits earlier m ≡ true
fits-from_misfit earlier ms m none = search rules

abbrev goes : Named → Named → Bool
goes e m = not (same_address e.address m.address) || may_follow e.role m.role

abbrev pub Goes : Named → Named → Type 0
Goes e m = e.address ≡ m.address → may_follow e.role m.role ≡ true

goes-Goes : (e m : Named) → goes e m ≡ true → Goes e m
goes-Goes e m h same = sym (ap (λ b. not b || may_follow e.role m.role) (ap (λ a. same_address a m.address) same ∙ same_address-self m.address)) ∙ h

Goes-goes : (e m : Named) → Goes e m → goes e m ≡ true
Goes-goes e m h = search (rules, same_address-equal)

pub at_each : (ms : List Named) (m : Named) → fits ms m ≡ true → (k : ℕ) (d : Named) → k < length ms → Goes (get_or ms k d) m
at_each ms m good k d low = goes-Goes (get_or ms k d) m (AllPass-from_list_all (λ e. goes e m) ms good k d low)

pub KeepsRules-nil : KeepsRules []
KeepsRules-nil i j d low high = absurd (omega arith)

pub KeepsRules-push : (ms : List Named) (m : Named) → KeepsRules ms → fits ms m ≡ true → KeepsRules (ms ++ m ∷ [])
KeepsRules-push ms m keeps good = all_pairs_push Goes ms m keeps (at_each ms m good)

pub KeepsRules-from_misfit : (ms earlier : List Named) → KeepsRules earlier → misfit earlier ms ≡ None → KeepsRules (earlier ++ ms)
KeepsRules-from_misfit [] earlier keeps none = rw append-nil keeps
KeepsRules-from_misfit (m ∷ ms) earlier keeps none =
    let good = fits-from_misfit earlier ms m none in
    let more = KeepsRules-from_misfit ms (earlier ++ m ∷ []) (KeepsRules-push earlier m keeps good) (sym (misfit-later earlier ms m good) ∙ none) in
    rw append_assoc at more

-- where the rules hold, a mention goes with each before it
pub fits-from_KeepsRules : (earlier ms : List Named) (m : Named) → KeepsRules (earlier ++ m ∷ ms) → fits earlier m ≡ true
fits-from_KeepsRules earlier ms m keeps =
    let long : length (earlier ++ m ∷ ms) ≡ length earlier + suc (length ms) = length-append earlier (m ∷ ms) in
    list_all-from_AllPass (λ e. goes e m) earlier (λ k d low.
    let both : Goes (get_or (earlier ++ m ∷ ms) k d) (get_or (earlier ++ m ∷ ms) (length earlier) d) = keeps k (length earlier) d low (omega arith) in
    Goes-goes (get_or earlier k d) m (rw (get_or_append_left earlier (m ∷ ms) d k low, get_or_at earlier m ms d (length earlier) refl) at both))

pub misfit-from_KeepsRules : (ms earlier : List Named) → KeepsRules (earlier ++ ms) → misfit earlier ms ≡ None
misfit-from_KeepsRules [] earlier keeps = refl
misfit-from_KeepsRules (m ∷ ms) earlier keeps =
    misfit-later earlier ms m (fits-from_KeepsRules earlier ms m keeps) ∙ misfit-from_KeepsRules ms (earlier ++ m ∷ []) (rw append_assoc keeps)

pub no_misfit : NoMisfit
no_misfit ms = (KeepsRules-from_misfit ms [] KeepsRules-nil, misfit-from_KeepsRules ms [])

-- a mention that does not go with the earlier ones breaks the rules
offends_here : (earlier : List Named) (m : Named) → fits earlier m ≡ false → ¬ KeepsRules (earlier ++ m ∷ [])
offends_here earlier m bad keeps = true≢false (sym (fits-from_misfit earlier [] m (misfit-from_KeepsRules (m ∷ []) earlier keeps)) ∙ bad)

-- the first of the new mentions is the offence
offence_here : (earlier ms : List Named) (m : Named) → KeepsRules earlier → fits earlier m ≡ false → IsFirstOffence earlier (m ∷ ms) m.address
offence_here earlier ms m keeps bad = record {
  before = [];
  mention = m;
  behind = ms;
  is = refl;
  address = refl;
  good = rw append-nil keeps;
  offends = rw append-nil (offends_here earlier m bad);
}

-- the first of the new mentions stands before the offence
offence_later : (earlier ms : List Named) (m : Named) (at : Address) → IsFirstOffence (earlier ++ m ∷ []) ms at → IsFirstOffence earlier (m ∷ ms) at
offence_later earlier ms m at o = record {
  before = m ∷ o.before;
  mention = o.mention;
  behind = o.behind;
  is = ap (λ l. m ∷ l) o.is;
  address = o.address;
  good = subst KeepsRules (append_assoc earlier (m ∷ []) o.before) o.good;
  offends = subst (λ l. ¬ KeepsRules (l ++ o.mention ∷ [])) (append_assoc earlier (m ∷ []) o.before) o.offends;
}

first_offence : (new earlier : List Named) (at : Address) → KeepsRules earlier → misfit earlier new ≡ Some at → IsFirstOffence earlier new at
first_offence [] earlier at keeps found = cc
first_offence (m ∷ ms) earlier at keeps found = grind (arith, offence_later, KeepsRules-push, misfit-later, misfit-here, offence_here, first_offence ms (earlier ++ m ∷ []) at)

pub misfit_is_first : MisfitIsFirst
misfit_is_first earlier new at keeps found = first_offence new earlier at keeps found

bare_follows : (r : Role) → may_follow r Bare ≡ true
bare_follows r = search rules

pub or_true : (b : Bool) → (b || true) ≡ true
or_true b = search rules

pub bare_fits : (ms : List Named) (m : Named) → m.role ≡ Bare → fits ms m ≡ true
bare_fits [] m bare = refl
bare_fits (e ∷ ms) m bare = rw (ap (may_follow e.role) bare ∙ bare_follows e.role, or_true (not (same_address e.address m.address)), bare_fits ms m bare) refl

-- what holds of all that is left out need not be asked of it
all_filtered : (q : Named → Bool) → ((x : Named) → is_mention x ≡ false → q x ≡ true) → (xs : List Named) → list_all q (filter is_mention xs) ≡ list_all q xs
all_filtered q h [] = refl
all_filtered q h (x ∷ xs) = search (rules, cond-true, cond-false, all_filtered q h xs)

misfit_filtered : (ms earlier : List Named) → misfit (filter is_mention earlier) (filter is_mention ms) ≡ misfit earlier ms
misfit_filtered [] earlier = refl
misfit_filtered (m ∷ ms) earlier = search (rules, cond-true, filter-append, all_filtered, or_true, cond-false, append-nil, bare_fits, misfit_filtered ms (earlier ++ m ∷ []))

pub rules_are_of_mentions : RulesAreOfMentions
rules_are_of_mentions ms = (
  (λ keeps. (no_misfit (filter is_mention ms)).0 (misfit_filtered ms [] ∙ (no_misfit ms).1 keeps)),
  (λ keeps. (no_misfit ms).0 (sym (misfit_filtered ms []) ∙ (no_misfit (filter is_mention ms)).1 keeps)),
)
