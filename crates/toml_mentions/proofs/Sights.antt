-- What is seen of a target, and what is kept of it.
use Rattle.std.proofs.Common.{◌≡◌, inl, inr, ◌<◌, ◌+◌, ℕ, zero, suc, Bool, true, false, List, [], ◌∷◌, ◌++◌, map, length, get_or, Option, Some, None, refl, sym, ap, ◌∙◌, subst, arith, append_assoc, append-nil}
use Rattle.std.specs.Prelude.{if◌then◌else◌}
use Rattle.std.proofs.lemmas.Option.{none-some}
use Rattle.toml_text.specs.declared.span.Span.{Span}
use Rattle.toml_names.specs.declared.mentions.mention.Role.{Role}
use Rattle.toml_names.specs.model.Addresses.{Address, same_address}
use Rattle.toml_names.specs.mentions.Rules.{may_follow}
use Rattle.toml_mentions.specs.Sought.{HasRole, IsSeen, Keeps, Part, Sees, Sight, clash_from, first_clash, first_sight, first_some, forbidden_by, forbidding, seen_clash, seen_of, sight_of, sights}
use Rattle.toml_mentions.specs.declared.seeker.Clash.{Clash}
use Rattle.toml_mentions.specs.declared.seeker.Mention.{Mention}
use Rattle.toml_mentions.specs.declared.seeker.Seeker.{Seeker}

-- those of two lists of parts
push_if : (b : Bool) (x : Sight) (xs ys : List Sight) → (if b then x ∷ (xs ++ ys) else xs ++ ys) ≡ (if b then x ∷ xs else xs) ++ ys
push_if true x xs ys = refl
push_if false x xs ys = refl

pub sights-append : (t : Address) (ps qs : List Part) → sights t (ps ++ qs) ≡ sights t ps ++ sights t qs
sights-append t [] qs = refl
sights-append t (p ∷ ps) qs =
    ap (λ (l : List Sight). if same_address p.address t then sight_of p ∷ l else l) (sights-append t ps qs)
    ∙ push_if (same_address p.address t) (sight_of p) (sights t ps) (sights t qs)

-- of one
pub sights_here : (t : Address) (p : Part) → same_address p.address t ≡ true → sights t (p ∷ []) ≡ sight_of p ∷ []
sights_here t p h = ap (λ b. if b then sight_of p ∷ [] else []) h

pub sights_apart : (t : Address) (p : Part) → same_address p.address t ≡ false → sights t (p ∷ []) ≡ []
sights_apart t p h = ap (λ b. if b then sight_of p ∷ [] else []) h

pub same_span : (s : Span) (start end : ℕ) → s.start ≡ start → s.end ≡ end → s ≡ record { start = start; end = end }
same_span s start end a b = ap (λ n. let r : Span = record { start = n; end = s.end } in r) a ∙ ap (λ n. let r : Span = record { start = start; end = n } in r) b

-- nothing is seen, and one thing behind the other
pub sees_none : (s : Seeker) → Sees s s []
sees_none s = record {
  target = refl;
  tables = refl;
  section = refl;
  seen = λ ss h. subst (IsSeen s.firsts.items s.clash) (sym (append-nil ss)) h;
}

pub sees_on : (a b c : Seeker) (xs ys : List Sight) → Sees a b xs → Sees b c ys → Sees a c (xs ++ ys)
sees_on a b c xs ys p q = record {
  target = q.target ∙ p.target;
  tables = q.tables ∙ p.tables;
  section = q.section ∙ p.section;
  seen = λ ss h. subst (IsSeen c.firsts.items c.clash) (append_assoc ss xs ys) (q.seen (ss ++ xs) (p.seen ss h));
}

pub sees_then : (a b c : Seeker) (ps qs : List Part) → Sees a b (sights a.target.now ps) → Sees b c (sights b.target.now qs) → Sees a c (sights a.target.now (ps ++ qs))
sees_then a b c ps qs p q =
    let here : Sees b c (sights a.target.now qs) = subst (λ t. Sees b c (sights t.now qs)) p.target q in
    subst (Sees a c) (sym (sights-append a.target.now ps qs)) (sees_on a b c (sights a.target.now ps) (sights a.target.now qs) p here)

-- the earliest that forbids, behind one sight more
some_assoc : {A : Type 0} (a b c : Option A) → first_some a (first_some b c) ≡ first_some (first_some a b) c
some_assoc None b c = refl
some_assoc (Some x) b c = refl

some_none : {A : Type 0} (a : Option A) → first_some a None ≡ a
some_none None = refl
some_none (Some x) = refl

forbid_push : (b : Bool) (s : Sight) (x y : Option Sight) → (if b then first_some x y else Some s) ≡ first_some (if b then x else Some s) y
forbid_push true s x y = refl
forbid_push false s x y = refl

pub forbidding_snoc : (r : Role) (ss : List Sight) (s : Sight) → forbidding r (ss ++ s ∷ []) ≡ first_some (forbidding r ss) (forbidding r (s ∷ []))
forbidding_snoc r [] s = refl
forbidding_snoc r (q ∷ ss) s =
    ap (λ o. if may_follow q.role r then o else Some q) (forbidding_snoc r ss s)
    ∙ forbid_push (may_follow q.role r) q (forbidding r ss) (forbidding r (s ∷ []))

-- the first clash, behind one sight more
clash_snoc_from : (earlier ss : List Sight) (s : Sight)
    → clash_from earlier (ss ++ s ∷ []) ≡ first_some (clash_from earlier ss) (forbidden_by (forbidding s.role (earlier ++ ss)) s)
clash_snoc_from earlier [] s =
    some_none (forbidden_by (forbidding s.role earlier) s) ∙ ap (λ l. forbidden_by (forbidding s.role l) s) (sym (append-nil earlier))
clash_snoc_from earlier (q ∷ ss) s =
    ap (first_some (forbidden_by (forbidding q.role earlier) q))
    (clash_snoc_from (earlier ++ q ∷ []) ss s
    ∙ ap (λ l. first_some (clash_from (earlier ++ q ∷ []) ss) (forbidden_by (forbidding s.role l) s)) (append_assoc earlier (q ∷ []) ss))
    ∙ some_assoc (forbidden_by (forbidding q.role earlier) q) (clash_from (earlier ++ q ∷ []) ss) (forbidden_by (forbidding s.role (earlier ++ q ∷ ss)) s)

clash_snoc : (ss : List Sight) (s : Sight) → first_clash (ss ++ s ∷ []) ≡ first_some (first_clash ss) (forbidden_by (forbidding s.role ss) s)
clash_snoc ss s = clash_snoc_from [] ss s

-- the first, behind one sight more
first_snoc : (ss : List Sight) (s : Sight) → first_sight (ss ++ s ∷ []) ≡ first_some (first_sight ss) (Some s)
first_snoc [] s = refl
first_snoc (q ∷ ss) s = refl

-- one sight more is kept
pub seen_more : (old new : List Mention) (before behind : Option Clash) (s : Sight)
    → seen_clash behind ≡ first_some (seen_clash before) (forbidden_by (forbidding s.role (map seen_of old)) s)
    → Keeps (map seen_of new) (map seen_of old) s → (ss : List Sight) → IsSeen old before ss → IsSeen new behind (ss ++ s ∷ [])
seen_more old new before behind s clash_is keeps ss h = record {
  first = keeps.first ∙ (first_snoc (map seen_of old) s ∙ (ap (λ o. first_some o (Some s)) h.first ∙ sym (first_snoc ss s)));
  earliest = λ r.
      keeps.forbid r ∙ (forbidding_snoc r (map seen_of old) s ∙ (ap (λ o. first_some o (forbidding r (s ∷ []))) (h.earliest r) ∙ sym (forbidding_snoc r ss s)));
  clash_is = clash_is
      ∙ (ap (λ o. first_some o (forbidden_by (forbidding s.role (map seen_of old)) s)) h.clash_is
      ∙ (ap (λ o. first_some (first_clash ss) (forbidden_by o s)) (h.earliest s.role) ∙ sym (clash_snoc ss s)));
}

-- a role that is there already adds nothing
allows_by : (b : Bool) (r : Role) (q s : Sight) (ss : List Sight) → (HasRole s.role ss → forbidding r ss ≡ None → may_follow s.role r ≡ true) → may_follow q.role r ≡ b
    → HasRole s.role (q ∷ ss) → (if b then forbidding r ss else Some q) ≡ None → may_follow s.role r ≡ true
allows_by true r q s ss rest is (inl same) none = ap (λ p. may_follow p r) (sym same) ∙ is
allows_by true r q s ss rest is (inr has) none = rest has none
allows_by false r q s ss rest is has none = absurd (none-some q (sym none))

allows : (r : Role) (ss : List Sight) (s : Sight) → HasRole s.role ss → forbidding r ss ≡ None → may_follow s.role r ≡ true
allows r [] s has none = absurd has
allows r (q ∷ ss) s has none = allows_by (may_follow q.role r) r q s ss (allows r ss s) refl has none

there_by : (r : Role) (ss : List Sight) (s : Sight) (o : Option Sight) → HasRole s.role ss → forbidding r ss ≡ o → forbidding r ss ≡ forbidding r (ss ++ s ∷ [])
there_by r ss s None has is =
    is ∙ sym (forbidding_snoc r ss s ∙ (ap (λ o. first_some o (forbidding r (s ∷ []))) is ∙ ap (λ b. if b then None else Some s) (allows r ss s has is)))
there_by r ss s (Some f) has is = is ∙ sym (forbidding_snoc r ss s ∙ ap (λ o. first_some o (forbidding r (s ∷ []))) is)

first_there : (ss : List Sight) (s : Sight) → HasRole s.role ss → first_sight ss ≡ first_sight (ss ++ s ∷ [])
first_there [] s has = absurd has
first_there (q ∷ ss) s has = refl

pub keeps_there : (ss : List Sight) (s : Sight) → HasRole s.role ss → Keeps ss ss s
keeps_there ss s has = record { forbid = λ r. there_by r ss s (forbidding r ss) has refl; first = first_there ss s has }

-- a mention in the list is in its role
pub has_role_at : (r : Role) (ms : List Mention) (i : ℕ) (d : Mention) → i < length ms → (seen_of (get_or ms i d)).role ≡ r → HasRole r (map seen_of ms)
has_role_at r [] i d low same = absurd (omega (arith, low))
has_role_at r (q ∷ ms) zero d low same = inl same
has_role_at r (q ∷ ms) (suc i) d low same = inr (has_role_at r ms i d (omega (arith, low)) same)

-- the earliest that forbids stands behind others that do not
pub forbids_at : (r : Role) (ms : List Mention) (i : ℕ) (m : Mention) → i < length ms
    → ((k : ℕ) (d : Mention) → k < i → may_follow (seen_of (get_or ms k d)).role r ≡ true) → may_follow (seen_of (get_or ms i m)).role r ≡ false
    → forbidding r (map seen_of ms) ≡ Some (seen_of (get_or ms i m))
forbids_at r [] i m low before here = absurd (omega (arith, low))
forbids_at r (q ∷ ms) zero m low before here = ap (λ b. if b then forbidding r (map seen_of ms) else Some (seen_of q)) here
forbids_at r (q ∷ ms) (suc i) m low before here =
    ap (λ b. if b then forbidding r (map seen_of ms) else Some (seen_of q)) (before zero q (omega arith))
    ∙ forbids_at r ms i m (omega (arith, low)) (λ k d below. before (suc k) d (omega (arith, below))) here

pub forbids_none : (r : Role) (ms : List Mention) → ((k : ℕ) (d : Mention) → k < length ms → may_follow (seen_of (get_or ms k d)).role r ≡ true) → forbidding r (map seen_of ms) ≡ None
forbids_none r [] each = refl
forbids_none r (q ∷ ms) each =
    ap (λ b. if b then forbidding r (map seen_of ms) else Some (seen_of q)) (each zero q (omega arith))
    ∙ forbids_none r ms (λ k d low. each (suc k) d (omega (arith, low)))
