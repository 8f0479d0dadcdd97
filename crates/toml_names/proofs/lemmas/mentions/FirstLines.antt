-- Under the rules the mark of an address tells in which roles it was named, and so where what stands there stands in the text.
use Rattle.toml_names.proofs.Common.{◌≡◌, ℕ, Bool, true, false, cond, ◌&&◌, List, [], ◌∷◌, ◌++◌, Option, Some, None, refl, sym, ap, subst, ◌∙◌, true≢false, rules, cond-true, cond-false, append_assoc, append-nil, none-some, Role, Passed, Bare, Place, Address, same_address, fact_at, role_after, mark_after, mark_of, allows, Kind, Named, same_role, first_line, or_else, outside, first_of, place_of_mark, may_follow, fits, misfit, arith}
use Rattle.toml_names.specs.declared.model.place.Place.TheVariants as places
use Rattle.toml_names.specs.model.Places.{inside}
use Rattle.toml_names.proofs.lemmas.model.Equal.{same_address-equal}
use Rattle.toml_names.proofs.lemmas.mentions.Local.{AreMarked, AreMarked-push, mark_of-push}
use Rattle.toml_names.proofs.lemmas.mentions.Offences.{misfit-later, fits-from_misfit}
use Rattle.toml_names.proofs.lemmas.mentions.PlacesFound.{same_role-equal}

-- whether an address of the mark may have been named in the role
abbrev pub may_hold : Role → Role → Bool
may_hold _ Bare = true
may_hold Bare _ = false
may_hold _ Passed = true
may_hold q r = same_role q r

-- of a mark, if there is one
abbrev pub marks_hold : Option Role → Role → Bool
marks_hold None r = false
marks_hold (Some q) r = may_hold q r

-- the role of one more mention is held
held_here : (q : Option Role) (r : Role) → allows q r ≡ true → marks_hold (mark_after q r) r ≡ true
held_here q r h = grind arith

-- and what was held stays held
held_after : (q r s : Role) → may_follow q r ≡ true → may_hold q s ≡ true → may_hold (role_after q r) s ≡ true
held_after q r s h was = grind arith

marks_after : (q : Option Role) (r s : Role) → allows q r ≡ true → marks_hold q s ≡ true → marks_hold (mark_after q r) s ≡ true
marks_after q r s h was = search (rules, true≢false, held_after)

-- the first line in a role, with one more mention
abbrev hit : Named → Address → Role → Option ℕ
hit m at r = cond (same_address m.address at && same_role m.role r) (Some m.line) None

pub first_line-push : (ms : List Named) (m : Named) (at : Address) (r : Role) → first_line (ms ++ m ∷ []) at r ≡ first_of (first_line ms at r) (hit m at r)
first_line-push [] m at r = refl
first_line-push (x ∷ ms) m at r = search (rules, first_line-push ms m at r)

-- each role in which an address was named is held by its mark
abbrev pub AreHolding : List Named → Type 0
AreHolding ms = (at : Address) (r : Role) (l : ℕ) → first_line ms at r ≡ Some l → marks_hold (mark_of ms at) r ≡ true

pub first_none : (o : Option ℕ) → first_of o None ≡ o
first_none o = grind arith

-- what was hit is in the role
hit_role : (b : Bool) (m : Named) (r : Role) (l : ℕ) → cond (b && same_role m.role r) (Some m.line) None ≡ Some l → m.role ≡ r
hit_role b m r l is = search (rules, same_role-equal, none-some)

module _ (ms : List Named) (m : Named) (marked : AreMarked ms) (good : fits ms m ≡ true) (holding : AreHolding ms) where
  holding_here : (at : Address) (r : Role) (l : ℕ) → m.address ≡ at → first_of (first_line ms at r) (hit m at r) ≡ Some l → marks_hold (mark_after (mark_of ms at) m.role) r ≡ true
  holding_here at r l same is = by (first_line ms at r) refl is
    where
      by : (o : Option ℕ) → first_line ms at r ≡ o → first_of o (hit m at r) ≡ Some l → marks_hold (mark_after (mark_of ms at) m.role) r ≡ true
      by (Some j) was is = marks_after (mark_of ms at) m.role r (ap (λ a. allows (mark_of ms a) m.role) (sym same) ∙ sym (marked m) ∙ good) (holding at r j was)
      by None was is =
          ap (marks_hold (mark_after (mark_of ms at) m.role)) (sym (hit_role (same_address m.address at) m r l is))
          ∙ held_here (mark_of ms at) m.role (ap (λ a. allows (mark_of ms a) m.role) (sym same) ∙ sym (marked m) ∙ good)

  holding_push : AreHolding (ms ++ m ∷ [])
  holding_push at r l is = by (same_address m.address at) refl
    where
      by : (b : Bool) → same_address m.address at ≡ b → marks_hold (mark_of (ms ++ m ∷ []) at) r ≡ true
      by true same =
          ap (λ q. marks_hold q r) (mark_of-push ms m at ∙ cond-true _ _ _ same)
          ∙ holding_here at r l (same_address-equal m.address at same) (sym (first_line-push ms m at r) ∙ is)
      by false apart =
          let none : hit m at r ≡ None = ap (λ b. cond (b && same_role m.role r) (Some m.line) None) apart in
          ap (λ q. marks_hold q r) (mark_of-push ms m at ∙ cond-false _ _ _ apart)
          ∙ holding at r l (sym (first_none (first_line ms at r)) ∙ ap (first_of (first_line ms at r)) (sym none) ∙ sym (first_line-push ms m at r) ∙ is)

holding_more : (more ms : List Named) → AreMarked ms → AreHolding ms → misfit ms more ≡ None → AreHolding (ms ++ more)
holding_more [] ms marked holding none = subst AreHolding (sym (append-nil ms)) holding
holding_more (m ∷ more) ms marked holding none =
    let good = fits-from_misfit ms more m none in
    subst AreHolding (append_assoc ms (m ∷ []) more)
    (holding_more more (ms ++ m ∷ []) (AreMarked-push ms m marked good) (holding_push ms m marked good holding) (sym (misfit-later ms more m good) ∙ none))

pub holding_under_rules : (ms : List Named) → misfit [] ms ≡ None → AreHolding ms
holding_under_rules ms none = holding_more ms [] (λ m. refl) (λ at r l is. absurd (none-some l is)) none

-- an address of the mark was not named in a role that the mark does not hold
pub none_in : (ms : List Named) (at : Address) (q r : Role) → AreHolding ms → mark_of ms at ≡ Some q → may_hold q r ≡ false → first_line ms at r ≡ None
none_in ms at q r holding mark barred = search (rules, true≢false)

-- ---- where nothing stands

pub first_line-none : (ms : List Named) (at : Address) (r : Role) → fact_at ms at ≡ None → first_line ms at r ≡ None
first_line-none [] at r none = refl
first_line-none (m ∷ ms) at r none = search (rules, none-some, first_line-none ms at r)

pub inside-none : (ms : List Named) (at : Address) (line : ℕ) → fact_at ms at ≡ None → inside ms at line ≡ None
inside-none [] at line none = refl
inside-none (m ∷ ms) at line none = search (rules, none-some, inside-none ms at line)

pub inside-some : (ms : List Named) (at : Address) (line : ℕ) (k : Kind) → fact_at ms at ≡ Some k → inside ms at line ≡ Some (places.Inside line)
inside-some [] at line k some = absurd (none-some k some)
inside-some (m ∷ ms) at line k some = search (rules, inside-some ms at line k)

-- ---- the place by the mark

pub skip : (o : Option ℕ) (f : ℕ → Place) (rest : Option Place) → o ≡ None → or_else o f rest ≡ rest
skip o f rest is = ap (λ x. or_else x f rest) is

pub stop : (o : Option ℕ) (f : ℕ → Place) (rest : Option Place) (line : ℕ) → o ≡ Some line → or_else o f rest ≡ Some (f line)
stop o f rest line is = ap (λ x. or_else x f rest) is

pub outside-mark : (ms : List Named) (at : Address) (q : Role) (line : ℕ) → AreHolding ms → mark_of ms at ≡ Some q → first_line ms at q ≡ Some line → outside ms at ≡ place_of_mark q line
outside-mark ms at q line holding mark is = search (rules, stop, skip, none_in)
