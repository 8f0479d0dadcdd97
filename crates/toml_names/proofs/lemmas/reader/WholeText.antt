-- Lines that are refused stay so with one line more.
use Rattle.toml_names.proofs.Common.{common_steps, ◌≡◌, ◌≤◌, ◌+◌, ℕ, List, [], ◌∷◌, ◌++◌, length, take, sym, subst, ap, ◌∙◌, arith, append_assoc, append-nil, length_push, Line, NameFault, Address, AreGood, named, IsRedefined, IsLong, RefusesNames, RefusesLine, IsShort, KeepsRules, IsFirstOffence}
use Rattle.toml_names.specs.declared.fault.NameFault.TheVariants as faults

-- the lines before one are the same with one line more
kept : (lines : List Line) (l : Line) (i : ℕ) → i ≤ length lines → take i (lines ++ l ∷ []) ≡ take i lines
kept lines l i low = grind (arith, common_steps)

module _ (lines : List Line) (l : Line) where
  pub refused_with : (fault : NameFault) → RefusesLine lines l fault → RefusesNames (lines ++ l ∷ []) fault
  refused_with (faults.Redefined n at) h = h.1
  refused_with (faults.LongAddress n) h = h.1
  refused_with faults.NoMemory h = tt

  redefined_still : (n : ℕ) (at : Address) → IsRedefined lines n at → IsRedefined (lines ++ l ∷ []) n at
  redefined_still n at h =
      let before = sym (kept lines l n (omega (arith, h.there))) in
      let with = sym (kept lines l (n + 1) (omega (arith, h.there))) in
      record {
        there = omega (arith, h.there, length_push lines l);
        good = subst AreGood before h.good;
        new = h.new;
        is = ap named (sym with) ∙ h.is ∙ ap (λ ls. named ls ++ h.new) before;
        offence = subst (λ ls. IsFirstOffence (named ls) h.new at) before h.offence;
      }

  long_still : (n : ℕ) → IsLong lines n → IsLong (lines ++ l ∷ []) n
  long_still n h =
      let before = sym (kept lines l n (omega (arith, h.there))) in
      let with = sym (kept lines l (n + 1) (omega (arith, h.there))) in
      record {
        there = omega (arith, h.there, length_push lines l);
        good = subst AreGood before h.good;
        keeps = subst (λ ls. KeepsRules (named ls)) with h.keeps;
        long = λ short. h.long (subst (λ ls. IsShort (named ls)) (sym with) short);
      }

  pub refused_still : (fault : NameFault) → RefusesNames lines fault → RefusesNames (lines ++ l ∷ []) fault
  refused_still (faults.Redefined n at) h = redefined_still n at h
  refused_still (faults.LongAddress n) h = long_still n h
  refused_still faults.NoMemory h = tt

-- and with any number of lines more
pub all_refused : (fault : NameFault) (more lines : List Line) → RefusesNames lines fault → RefusesNames (lines ++ more) fault
all_refused fault [] lines h = subst (λ ls. RefusesNames ls fault) (sym (append-nil lines)) h
all_refused fault (l ∷ more) lines h =
    subst (λ ls. RefusesNames ls fault) (append_assoc lines (l ∷ []) more) (all_refused fault more (lines ++ l ∷ []) (refused_still lines l fault h))
