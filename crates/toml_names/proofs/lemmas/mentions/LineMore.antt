-- The line of the first mention in a role, once more is named; and how roles change the mark.
use Rattle.toml_names.proofs.Common.{◌≡◌, ℕ, ◌<◌, ◌≤◌, Bool, true, false, cond, ◌&&◌, List, [], ◌∷◌, ◌++◌, Option, Some, None, refl, sym, ap, ◌∙◌, arith, rules, cond-true, cond-false, none-some, same_Some, Role, Passed, Bare, Address, same_address, fact_at, role_after, mark_after, mark_from, mark_of, Named, same_role, first_line, may_follow}
use Rattle.toml_names.proofs.lemmas.mentions.PlacesFound.{same_role-equal, same_role-self}
use Rattle.toml_names.proofs.lemmas.tree.NodePlaces.{same_address-apart, same_address-here}

-- how strong a role is against others: what is no mention gives way to all, a table that is passed to all but that
abbrev weight : Role → ℕ
weight Bare = 0
weight Passed = 1
weight _ = 2

weight-first : (q r : Role) → weight q ≤ weight (role_after q r)
weight-first q r = search rules

-- a mark that changes is the new role, which is stronger
record IsStronger (q r : Role) : Type 0 where
  is : role_after q r ≡ r
  more : weight q < weight r

-- the first line, or else the second
abbrev or_line : Option ℕ → Option ℕ → Option ℕ
or_line None q = q
or_line (Some i) q = Some i

line_push : (ms : List Named) (m : Named) (at : Address) (r : Role)
    → first_line (ms ++ m ∷ []) at r ≡ or_line (first_line ms at r) (cond (same_address m.address at && same_role m.role r) (Some m.line) None)
line_push [] m at r = refl
line_push (x ∷ ms) m at r = search (rules, line_push ms m at r)

module _ (ms : List Named) (m : Named) (at : Address) where
  or_none : (o : Option ℕ) → or_line o None ≡ o
  or_none o = search rules

  pub line_kept : (r : Role) (l : ℕ) → first_line ms at r ≡ Some l → first_line (ms ++ m ∷ []) at r ≡ Some l
  line_kept r l some = line_push ms m at r ∙ ap (λ o. or_line o (cond (same_address m.address at && same_role m.role r) (Some m.line) None)) some

  pub line_elsewhere : (r : Role) → (m.address ≡ at → ⊥) → first_line (ms ++ m ∷ []) at r ≡ first_line ms at r
  line_elsewhere r apart = search (rules, line_push, same_address-apart, or_none)

  pub line_new : m.address ≡ at → first_line ms at m.role ≡ None → first_line (ms ++ m ∷ []) at m.role ≡ Some m.line
  line_new is none =
      line_push ms m at m.role
      ∙ ap (λ o. or_line o (cond (same_address m.address at && same_role m.role m.role) (Some m.line) None)) none
      ∙ ap (λ b. cond (b && same_role m.role m.role) (Some m.line) None) (same_address-here m.address at is)
      ∙ ap (λ b. cond b (Some m.line) None) (same_role-self m.role)

-- where nothing is named no line names it
pub line_absent : (ms : List Named) (at : Address) (r : Role) → fact_at ms at ≡ None → first_line ms at r ≡ None
line_absent [] at r none = refl
line_absent (m ∷ ms) at r none = search (rules, none-some, cond-true, cond-false, line_absent ms at r)

-- no mark is weaker than the one before it
kept_weight : (ms : List Named) (at : Address) (q t : Role) → mark_from (Some q) ms at ≡ Some t → weight q ≤ weight t
kept_weight [] at q t is = let same : q ≡ t = same_Some q t is in rw same (omega arith)
kept_weight (m ∷ ms) at q t is = by (same_address m.address at) refl (kept_weight ms at (role_after q m.role) t) (kept_weight ms at q t)
  where
    by : (b : Bool) → same_address m.address at ≡ b → (mark_from (Some (role_after q m.role)) ms at ≡ Some t → weight (role_after q m.role) ≤ weight t)
        → (mark_from (Some q) ms at ≡ Some t → weight q ≤ weight t) → weight q ≤ weight t
    by true same here later =
        let more = here (ap (λ b. mark_from (cond b (Some (role_after q m.role)) (Some q)) ms at) (sym same) ∙ is) in
        let first = weight-first q m.role in
        omega arith
    by false apart here later = later (ap (λ b. mark_from (cond b (Some (role_after q m.role)) (Some q)) ms at) (sym apart) ∙ is)

role_weight : (ms : List Named) (at : Address) (o : Option Role) (r t : Role) → mark_from (mark_after o r) ms at ≡ Some t → weight r ≤ weight t
role_weight ms at o r t is = search (rules, kept_weight)

-- no mention is in a role that is stronger than the mark
line_weight : (ms : List Named) (at : Address) (o : Option Role) (r t : Role) (l : ℕ) → mark_from o ms at ≡ Some t → first_line ms at r ≡ Some l → weight r ≤ weight t
line_weight [] at o r t l is some = absurd (none-some l some)
line_weight (m ∷ ms) at o r t l is some = by (line_weight ms at (mark_after o m.role) r t l) (line_weight ms at o r t l) (same_address m.address at) refl (same_role m.role r) refl
  where
    by : (mark_from (mark_after o m.role) ms at ≡ Some t → first_line ms at r ≡ Some l → weight r ≤ weight t)
        → (mark_from o ms at ≡ Some t → first_line ms at r ≡ Some l → weight r ≤ weight t)
        → (b : Bool) → same_address m.address at ≡ b → (c : Bool) → same_role m.role r ≡ c → weight r ≤ weight t
    by here later true same true role =
        let weighed = role_weight ms at o m.role t (ap (λ b. mark_from (cond b (mark_after o m.role) o) ms at) (sym same) ∙ is) in
        rw (← same_role-equal m.role r role) weighed
    by here later true same false role =
        here (ap (λ b. mark_from (cond b (mark_after o m.role) o) ms at) (sym same) ∙ is)
        (sym (cond-false _ _ _ (ap (λ b. same_address m.address at && b) role ∙ ap (λ b. b && false) same)) ∙ some)
    by here later false apart _ role =
        later (ap (λ b. mark_from (cond b (mark_after o m.role) o) ms at) (sym apart) ∙ is)
        (sym (cond-false _ _ _ (ap (λ b. b && same_role m.role r) apart)) ∙ some)

-- One more mention where something is named: a mark that stays keeps its line, and one that changes takes the new line.
module _ (ms : List Named) (m : Named) (at : Address) (is : m.address ≡ at) (q : Role) (mark : mark_of ms at ≡ Some q) (goes : may_follow q m.role ≡ true)
    (l : ℕ) (line : first_line ms at q ≡ Some l) where
  pub line_noted : first_line (ms ++ m ∷ []) at (role_after q m.role) ≡ Some (cond (same_role (role_after q m.role) q) l m.line)
  line_noted = search (rules, line_weight, same_role-equal, line_kept, line_new)
