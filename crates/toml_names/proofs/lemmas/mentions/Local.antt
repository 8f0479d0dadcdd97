-- The mark of an address stands for all of its roles.
use Rattle.toml_names.proofs.Common.{◌≡◌, Bool, true, not, cond, ◌&&◌, ◌||◌, List, [], ◌∷◌, ◌++◌, Option, None, refl, sym, ap, ◌∙◌, rules, append_assoc, append-nil, Role, Address, same_address, mark_after, mark_from, mark_of, allows, LastRoleDecides, Named, may_follow, fits, misfit, KeepsRules}
use Rattle.std.proofs.lemmas.List.Folds.{list_all-append}
use Rattle.toml_names.proofs.lemmas.model.Equal.{same_address-equal}
use Rattle.toml_names.proofs.lemmas.mentions.Offences.{KeepsRules-push, fits-from_KeepsRules, misfit-from_KeepsRules, misfit-later, fits-from_misfit}

and_true : (b : Bool) → (b && true) ≡ b
and_true b = search rules

mark_from-push : (xs : List Named) (q : Option Role) (m : Named) (at : Address)
    → mark_from q (xs ++ m ∷ []) at ≡ cond (same_address m.address at) (mark_after (mark_from q xs at) m.role) (mark_from q xs at)
mark_from-push [] q m at = refl
mark_from-push (x ∷ xs) q m at = mark_from-push xs (cond (same_address x.address at) (mark_after q x.role) q) m at

-- the mark after one more
pub mark_of-push : (xs : List Named) (m : Named) (at : Address) → mark_of (xs ++ m ∷ []) at ≡ cond (same_address m.address at) (mark_after (mark_of xs at) m.role) (mark_of xs at)
mark_of-push xs m at = mark_from-push xs None m at

cases_here : (b : Bool) (q : Option Role) (e m : Role) (f : Bool) → f ≡ allows q m → (b ≡ true → allows q e ≡ true)
    → (f && (not b || may_follow e m)) ≡ allows (cond b (mark_after q e) q) m
cases_here b q e m f same goes = search rules

-- the marks stand for the mentions
abbrev pub AreMarked : List Named → Type 0
AreMarked ms = (m : Named) → fits ms m ≡ allows (mark_of ms m.address) m.role

pub AreMarked-push : (ms : List Named) (e : Named) → AreMarked ms → fits ms e ≡ true → AreMarked (ms ++ e ∷ [])
AreMarked-push ms e marked good m =
    rw (mark_of-push ms e m.address, list_all-append (λ x. not (same_address x.address m.address) || may_follow x.role m.role) ms (e ∷ []))
    rw and_true
    (cases_here (same_address e.address m.address) (mark_of ms m.address) e.role m.role (fits ms m) (marked m)
    (λ h. ap (λ a. allows (mark_of ms a) e.role) (sym (same_address-equal e.address m.address h)) ∙ sym (marked e) ∙ good))

pub AreMarked-more : (ms earlier : List Named) → AreMarked earlier → misfit earlier ms ≡ None → AreMarked (earlier ++ ms)
AreMarked-more [] earlier marked none = rw append-nil marked
AreMarked-more (m ∷ ms) earlier marked none =
    let good = fits-from_misfit earlier ms m none in
    let more = AreMarked-more ms (earlier ++ m ∷ []) (AreMarked-push earlier m marked good) (sym (misfit-later earlier ms m good) ∙ none) in
    rw append_assoc at more

-- under the rules the marks stand for the mentions
marked_under_rules : (ms : List Named) → KeepsRules ms → AreMarked ms
marked_under_rules ms keeps = AreMarked-more ms [] (λ m. refl) (misfit-from_KeepsRules ms [] keeps)

pub last_role_decides : LastRoleDecides
last_role_decides ms m keeps =
    let same = marked_under_rules ms keeps m in
    (λ more. sym same ∙ fits-from_KeepsRules ms [] m more, λ allowed. KeepsRules-push ms m keeps (same ∙ allowed))
