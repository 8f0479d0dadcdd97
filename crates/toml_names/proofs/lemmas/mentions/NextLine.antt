-- What one more line names, by the table of the last header and by how many tables the arrays have, and what a reader of lines has after it.
use Rattle.toml_names.proofs.Common.{◌≡◌, ℕ, ◌+◌, ◌<◌, ◌≤◌, List, [], ◌∷◌, ◌++◌, length, take, Some, None, refl, get_or, arith, rules, if◌then◌else◌, take_more, length-take-le, All-tail, All-append, Line, Address, SectionGoesOn, Named, named, named_by, named_from, is_section, misfit, KeepsRules, IsShort, max_steps, AreGood, IsRedefined, IsLong, ◌∙◌, Assign, Value, child, element, Key, count_tables, entered, pair_named, followed, ends_table, ends_tables, section_from, section, header_end, ◌-◌, ◌==◌, cond, sym, ap, Expr, BlankLine, KeyValLine, TableLine, ArrayTableLine, AreAlike, AlikeNameTheSame, AlikeStayAlike, PairsLeaveAlike, key_names, part_name, rest_names, own_address, root, IsHeaderLine, HeaderIsSection}
use Rattle.toml_names.proofs.lemmas.mentions.Offences.{misfit_is_first, KeepsRules-from_misfit}
use Rattle.toml_names.proofs.lemmas.mentions.Within.{AreWithin, pair_within, count-append, no_tables-pair}

pub KeepsRules-more : (earlier new : List Named) → misfit earlier new ≡ None → KeepsRules earlier → KeepsRules (earlier ++ new)
KeepsRules-more earlier new none keeps = KeepsRules-from_misfit new earlier keeps none

pub IsShort-append : (earlier new : List Named) → IsShort earlier → IsShort new → IsShort (earlier ++ new)
IsShort-append earlier new = All-append (λ m. length m.address ≤ max_steps) earlier new

pub IsShort-behind : (earlier new : List Named) → IsShort (earlier ++ new) → IsShort new
IsShort-behind [] new short = short
IsShort-behind (m ∷ ms) new short = IsShort-behind ms new (All-tail (λ m. length m.address ≤ max_steps) m (ms ++ new) short)

named_from-push : (ls : List Line) (earlier : List Named) (n at : ℕ) (l : Line) → n + length ls ≡ at
    → named_from earlier n (ls ++ l ∷ []) ≡ named_from earlier n ls ++ named_by (named_from earlier n ls) at l.expr
named_from-push [] earlier n at l is = search rules
named_from-push (k ∷ ls) earlier n at l is = named_from-push ls (earlier ++ named_by earlier n k.expr) (n + 1) at l (omega arith)

-- what one more line names
pub named-more : (lines : List Line) (i : ℕ) (d : Line) → i < length lines
    → named (take (i + 1) lines) ≡ named (take i lines) ++ named_by (named (take i lines)) i (get_or lines i d).expr
named-more lines i d low = search (rules, take_more, named_from-push, length-take-le)

module _ (lines : List Line) (i : ℕ) (d : Line) (low : i < length lines) (good : AreGood (take i lines)) where
  abbrev earlier : List Named
  earlier = named (take i lines)

  abbrev new : List Named
  new = named_by earlier i (get_or lines i d).expr

  pub AreGood-more : misfit earlier new ≡ None → IsShort new → AreGood (take (i + 1) lines)
  AreGood-more none short = rw (named-more lines i d low) (KeepsRules-more earlier new none good.0, IsShort-append earlier new good.1 short)

  pub IsRedefined-at : (at : Address) → misfit earlier new ≡ Some at → IsRedefined lines i at
  IsRedefined-at at found = record {
    there = low;
    good = good;
    new = new;
    is = named-more lines i d low;
    offence = misfit_is_first earlier new at good.0 found;
  }

  pub IsLong-at : misfit earlier new ≡ None → ¬ IsShort new → IsLong lines i
  IsLong-at none long = record {
    there = low;
    good = good;
    keeps = rw (named-more lines i d low) (KeepsRules-more earlier new none good.0);
    long = λ short. long (IsShort-behind earlier new (rw (named-more lines i d low) at short));
  }

pub section_from-append : SectionGoesOn
section_from-append [] ys at = refl
section_from-append (x ∷ xs) ys at = section_from-append xs ys (if is_section x.role then x.address else at)

-- a pair leaves it
within_stays : (line : ℕ) (from at : Address) (ms : List Named) → AreWithin line from ms → section_from at ms ≡ at
within_stays line from at [] within = refl
within_stays line from at (m ∷ ms) within = rw within.0.no_header (within_stays line from at ms within.1)

pub section_pair : (ms : List Named) (line : ℕ) (from : Address) (a : Assign) (v : Value) → section (ms ++ pair_named line from a v) ≡ section ms
section_pair ms line from a v = grind (arith, section_from-append, within_stays, pair_within)

-- a header sets it, by its end
followed_section : (xs : Key) (line : ℕ) (ms : List Named) (end : Address → List Named) (n : List ℕ) (from at : Address)
    → section_from at (followed line ms end from (n ∷ xs)) ≡ section_from at (end (header_end ms from (n ∷ xs)))
followed_section [] line ms end n from at = refl
followed_section (x ∷ xs) line ms end n from at = followed_section xs line ms end x (entered ms (child from n)) at

module _ (ms : List Named) (line : ℕ) (n : List ℕ) (xs : Key) where
  pub section_table : section (ms ++ followed line ms (ends_table line) [] (n ∷ xs)) ≡ header_end ms [] (n ∷ xs)
  section_table = section_from-append ms (followed line ms (ends_table line) [] (n ∷ xs)) [] ∙ followed_section xs line ms (ends_table line) n [] (section ms)

  pub section_tables : section (ms ++ followed line ms (ends_tables line ms) [] (n ∷ xs)) ≡ element (header_end ms [] (n ∷ xs)) (count_tables ms (header_end ms [] (n ∷ xs)))
  section_tables = section_from-append ms (followed line ms (ends_tables line ms) [] (n ∷ xs)) [] ∙ followed_section xs line ms (ends_tables line ms) n [] (section ms)

header_section : (ms : List Named) (line : ℕ) (e : Expr) → IsHeaderLine e → own_address ms e ≡ Some (section (ms ++ named_by ms line e))
header_section ms line (BlankLine b) is = absurd is
header_section ms line (KeyValLine ws k b) is = absurd is
header_section ms line (TableLine ws h b) is = ap Some (sym (section_table ms line (part_name h.key.first) (rest_names h.key.rest)))
header_section ms line (ArrayTableLine ws h b) is = ap Some (sym (section_tables ms line (part_name h.key.first) (rest_names h.key.rest)))

pub header_is_section : HeaderIsSection
header_is_section before l is =
    let named_is = named_from-push before (root ∷ []) 0 (length before) l (omega arith) in
    header_section (named before) (length before) l.expr is ∙ ap (λ ms. Some (section ms)) (sym named_is)

module _ (xs ys : List Named) (alike : AreAlike xs ys) where
  entered_alike : (at : Address) → entered xs at ≡ entered ys at
  entered_alike at = ap (λ k. cond (k == 0) at (element at (k - 1))) (alike.counts at)

  followed_alike : (key : Key) (line : ℕ) (e f : Address → List Named) (at : Address) → ((here : Address) → e here ≡ f here) → followed line xs e at key ≡ followed line ys f at key
  followed_alike key line e f at same = search (rules, entered_alike)

  tables_alike : (line : ℕ) (at : Address) → ends_tables line xs at ≡ ends_tables line ys at
  tables_alike line at = rw (alike.counts at) refl

  names_alike : (line : ℕ) (e : Expr) → named_by xs line e ≡ named_by ys line e
  names_alike line (BlankLine b) = refl
  names_alike line (KeyValLine ws pair tail) = ap (λ s. pair_named line s pair.assign pair.value) alike.sections
  names_alike line (TableLine ws header tail) = followed_alike (key_names header.key) line (ends_table line) (ends_table line) [] (λ here. refl)
  names_alike line (ArrayTableLine ws header tail) = followed_alike (key_names header.key) line (ends_tables line xs) (ends_tables line ys) [] (tables_alike line)

pub alike_name_the_same : AlikeNameTheSame
alike_name_the_same xs ys alike line e = names_alike xs ys alike line e

pub alike_stay_alike : AlikeStayAlike
alike_stay_alike xs ys new alike = record {
  sections = section_from-append xs new [] ∙ ap (λ a. section_from a new) alike.sections ∙ sym (section_from-append ys new []);
  counts = λ at. count-append xs new at ∙ ap (λ k. k + count_tables new at) (alike.counts at) ∙ sym (count-append ys new at);
}

pub pairs_leave_alike : PairsLeaveAlike
pairs_leave_alike ms line at a v = search (rules, section_pair, count-append, no_tables-pair)
