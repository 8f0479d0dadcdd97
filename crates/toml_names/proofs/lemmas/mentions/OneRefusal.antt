-- Lines of which the names are refused are not good. Why they are refused is one fault: one line, and its first offence or a long address.
use Rattle.toml_names.proofs.Common.{◌≡◌, ◌<◌, ℕ, ◌+◌, ◌⊎◌, inl, inr, false, List, [], ◌∷◌, ◌++◌, take, Some, refl, sym, ap, subst, ◌∙◌, arith, rules, cases_order, append_assoc, append-nil, append_cancel_left, take-take, Line, Address, Named, named, AreGood, IsRedefined, IsLong, OneRefusal, fits, misfit, KeepsRules, IsFirstOffence, ◌≤◌, length-append, length, drop, get_or_append_left, take-append-drop, All-head, All-tail, All-cons, All-nil, root, named_by, named_from, IsShort, max_steps, RefusedAreBad}
use Rattle.toml_names.proofs.lemmas.mentions.Offences.{KeepsRules-push, fits-from_KeepsRules, misfit-here, misfit-later}
use Rattle.toml_names.specs.declared.fault.NameFault.TheVariants as faults

-- what keeps the rules keeps them up to any place
KeepsRules-front : (ms more : List Named) → KeepsRules (ms ++ more) → KeepsRules ms
KeepsRules-front ms more keeps = search (rules, get_or_append_left, length-append)

abbrev HasSteps : Named → Type 0
HasSteps m = length m.address ≤ max_steps

IsShort-front : (ms more : List Named) → IsShort (ms ++ more) → IsShort ms
IsShort-front [] more short = All-nil HasSteps
IsShort-front (m ∷ ms) more short = All-cons HasSteps m ms (All-head HasSteps m (ms ++ more) short) (IsShort-front ms more (All-tail HasSteps m (ms ++ more) short))

-- lines name more and more
named_rest : (ls : List Line) (earlier : List Named) (n : ℕ) → (rest : List Named) × (named_from earlier n ls ≡ earlier ++ rest)
named_rest [] earlier n = ([], sym (append-nil earlier))
named_rest (l ∷ ls) earlier n =
    let by = named_by earlier n l.expr in
    let r = named_rest ls (earlier ++ by) (n + 1) in
    (by ++ r.0, r.1 ∙ append_assoc earlier by r.0)

named_from-append : (xs ys : List Line) (earlier : List Named) (n : ℕ) → (rest : List Named) × (named_from earlier n (xs ++ ys) ≡ named_from earlier n xs ++ rest)
named_from-append [] ys earlier n = named_rest ys earlier n
named_from-append (x ∷ xs) ys earlier n = named_from-append xs ys (earlier ++ named_by earlier n x.expr) (n + 1)

named_front : (lines : List Line) (k : ℕ) → (rest : List Named) × (named lines ≡ named (take k lines) ++ rest)
named_front lines k =
    let r = named_from-append (take k lines) (drop k lines) (root ∷ []) 0 in
    (r.0, ap named (sym (take-append-drop k lines)) ∙ r.1)

-- of good lines each front is good
pub good_front : (lines : List Line) (k : ℕ) → AreGood lines → AreGood (take k lines)
good_front lines k good =
    let front = named_front lines k in
    (KeepsRules-front _ front.0 (subst KeepsRules front.1 good.0), IsShort-front _ front.0 (subst IsShort front.1 good.1))

-- an offence stays one, whatever follows
pub redefined_breaks : (lines : List Line) (line : ℕ) (at : Address) → IsRedefined lines line at → ¬ KeepsRules (named (take (line + 1) lines))
redefined_breaks lines line at h keeps =
    let o = h.offence in
    let earlier = named (take line lines) in
    let all : named (take (line + 1) lines) ≡ ((earlier ++ o.before) ++ o.mention ∷ []) ++ o.behind =
    h.is ∙ ap (λ l. earlier ++ l) o.is ∙ sym (append_assoc (earlier ++ o.before) (o.mention ∷ []) o.behind ∙ append_assoc earlier o.before (o.mention ∷ o.behind)) in
    o.offends (KeepsRules-front _ o.behind (subst KeepsRules all keeps))

pub refused_are_bad : RefusedAreBad
refused_are_bad lines (faults.Redefined line at) h memory good = redefined_breaks lines line at h (good_front lines (line + 1) good).0
refused_are_bad lines (faults.LongAddress line) h memory good = h.long (good_front lines (line + 1) good).1
refused_are_bad lines faults.NoMemory h memory good = absurd (memory refl)

-- behind mentions that go with all before them, the first that does not is the misfit
misfit_behind : (before earlier behind : List Named) (m : Named) → KeepsRules (earlier ++ before) → fits (earlier ++ before) m ≡ false → misfit earlier (before ++ m ∷ behind) ≡ Some m.address
misfit_behind [] earlier behind m keeps bad = misfit-here earlier behind m (rw append-nil at bad)
misfit_behind (x ∷ before) earlier behind m keeps bad =
    misfit-later earlier (before ++ m ∷ behind) x (fits-from_KeepsRules earlier before x keeps)
    ∙ misfit_behind before (earlier ++ x ∷ []) behind m (subst KeepsRules (sym (append_assoc earlier (x ∷ []) before)) keeps) (ap (λ l. fits l m) (append_assoc earlier (x ∷ []) before) ∙ bad)

offence_misfit : (earlier new : List Named) (at : Address) → IsFirstOffence earlier new at → misfit earlier new ≡ Some at
offence_misfit earlier new at o = search (rules, misfit_behind, KeepsRules-push)

one_offence : (earlier new more : List Named) (at other : Address) → IsFirstOffence earlier new at → IsFirstOffence earlier more other → new ≡ more → at ≡ other
one_offence earlier new more at other a b same =
    let found : Some at ≡ Some other = sym (offence_misfit earlier new at a) ∙ ap (misfit earlier) same ∙ offence_misfit earlier more other b in
    cc

one_redefined : (lines : List Line) (line : ℕ) (at other : Address) → IsRedefined lines line at → IsRedefined lines line other → at ≡ other
one_redefined lines line at other a b = one_offence (named (take line lines)) a.new b.new at other a.offence b.offence (append_cancel_left (named (take line lines)) a.new b.new (sym a.is ∙ b.is))

-- up to the line all is good, with it no more
record IsFirstBad (lines : List Line) (line : ℕ) : Type 0 where
  good : AreGood (take line lines)
  bad : ¬ AreGood (take (line + 1) lines)

redefined_first : (lines : List Line) (line : ℕ) (at : Address) → IsRedefined lines line at → IsFirstBad lines line
redefined_first lines line at h = record { good = h.good; bad = λ good. redefined_breaks lines line at h good.0 }

long_first : (lines : List Line) (line : ℕ) → IsLong lines line → IsFirstBad lines line
long_first lines line h = record { good = h.good; bad = λ good. h.long good.1 }

none_below : (lines : List Line) (i j : ℕ) → IsFirstBad lines i → IsFirstBad lines j → ¬ (i < j)
none_below lines i j a b low = a.bad (subst AreGood (take-take (i + 1) j lines (omega arith)) (good_front (take j lines) (i + 1) b.good))

one_line : (lines : List Line) (i j : ℕ) → IsFirstBad lines i → IsFirstBad lines j → i ≡ j
one_line lines i j a b = by (cases_order i j)
  where
    by : (i ≡ j) ⊎ ((i < j) ⊎ (j < i)) → i ≡ j
    by (inl same) = same
    by (inr (inl low)) = absurd (none_below lines i j a b low)
    by (inr (inr high)) = absurd (none_below lines j i b a high)

-- one line is not redefined and too long at once
not_both : (lines : List Line) (i j : ℕ) (at : Address) → IsRedefined lines i at → IsLong lines j → ⊥
not_both lines i j at a b =
    let same = one_line lines i j (redefined_first lines i at a) (long_first lines j b) in
    redefined_breaks lines i at a (subst (λ k. KeepsRules (named (take (k + 1) lines))) (sym same) b.keeps)

pub one_refusal : OneRefusal
one_refusal lines (faults.Redefined i at) (faults.Redefined j other) a b memory more =
    let same = one_line lines i j (redefined_first lines i at a) (redefined_first lines j other b) in
    let one : at ≡ other = one_redefined lines i at other a (subst (λ k. IsRedefined lines k other) (sym same) b) in
    λ k. faults.Redefined (same k) (one k)
one_refusal lines (faults.Redefined i at) (faults.LongAddress j) a b memory more = absurd (not_both lines i j at a b)
one_refusal lines (faults.LongAddress i) (faults.Redefined j other) a b memory more = absurd (not_both lines j i other b a)
one_refusal lines (faults.LongAddress i) (faults.LongAddress j) a b memory more = ap faults.LongAddress (one_line lines i j (long_first lines i a) (long_first lines j b))
one_refusal lines faults.NoMemory g a b memory more = absurd (memory refl)
one_refusal lines (faults.Redefined i at) faults.NoMemory a b memory more = absurd (more refl)
one_refusal lines (faults.LongAddress i) faults.NoMemory a b memory more = absurd (more refl)
