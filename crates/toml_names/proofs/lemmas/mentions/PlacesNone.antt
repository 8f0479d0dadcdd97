-- Where no place is found, nothing is named: what is no mention, the root aside, lies inside a value.
use Rattle.toml_names.proofs.Common.{◌≡◌, ◌⊎◌, inl, inr, ℕ, ◌+◌, List, [], ◌∷◌, ◌++◌, Option, Some, None, refl, sym, subst, ⊎_elim, ◌∙◌, arith, rules, All, All-nil, All-cons, EachIs, Expr, BlankLine, KeyValLine, TableLine, ArrayTableLine, Line, Step, Role, Passed, Header, Dotted, Valued, Tables, Element, Bare, Address, IsAbove, child, below, InsideIsBelow, Key, key_names, Named, root, value_named, fronts, inside, followed, entered, ends_table, ends_tables, named, named_by, named_from, section, IsNamed, IsOutside, NoPlace, line_above, or_else, outside, in_value}
use Rattle.toml_names.specs.declared.model.place.Place.TheVariants as places
use Rattle.toml_names.specs.model.Places as spec
use Rattle.toml_names.proofs.Each.{Has, each_append, each_weaker, each_of_all, has_left, has_right, has_each, has_of_any, from_has}
use Rattle.toml_names.proofs.lemmas.mentions.Within.{IsWithin, inside_within}
use Rattle.toml_names.proofs.lemmas.mentions.PlacesFound.{not_in, none_above}
use Rattle.toml_names.proofs.lemmas.model.Equal.{same_address-self}

pub inside_is_below : InsideIsBelow
inside_is_below line v at = each_weaker (IsWithin line at) (λ m. IsAbove at m.address) (λ m w. w.below) (inside line at v) (inside_within line v at)

-- a value above the address
abbrev IsValueOver : Address → Named → Type 0
IsValueOver at m = (m.role ≡ Valued) × IsAbove m.address at

abbrev HasAbove : List Named → Address → Type 0
HasAbove ms at = Has (IsValueOver at) ms

-- what is no mention is the root, or lies inside a value
abbrev Lies : List Named → Named → Type 0
Lies all m = m.role ≡ Bare → (m.address ≡ []) ⊎ HasAbove all m.address

abbrev AllLie : List Named → List Named → Type 0
AllLie all = EachIs (Lies all)

lie-in : (all more ms : List Named) → ((at : Address) → HasAbove all at → HasAbove more at) → AllLie all ms → AllLie more ms
lie-in all more ms up = each_weaker (Lies all) (Lies more) (λ m lies bare. ⊎_elim inl (λ h. inr (up m.address h)) (lies bare)) ms

fronts_lie : (all : List Named) (line : ℕ) (key : Key) (at : Address) → AllLie all (fronts line at key)
fronts_lie all line [] at = tt
fronts_lie all line (n ∷ []) at = tt
fronts_lie all line (n ∷ m ∷ more) at = (λ bare. cc, fronts_lie all line (m ∷ more) (child at n))

followed_lie : (all : List Named) (line : ℕ) (earlier : List Named) (end : Address → List Named) (ends : (at : Address) → AllLie all (end at)) (key : Key) (at : Address) → AllLie all (followed line earlier end at key)
followed_lie all line earlier end ends [] at = tt
followed_lie all line earlier end ends (n ∷ []) at = ends (child at n)
followed_lie all line earlier end ends (n ∷ m ∷ more) at = (λ bare. cc, followed_lie all line earlier end ends (m ∷ more) (entered earlier (child at n)))

by_lie : (earlier : List Named) (line : ℕ) (e : Expr) → AllLie (named_by earlier line e) (named_by earlier line e)
by_lie earlier line (BlankLine b) = tt
by_lie earlier line (KeyValLine ws pair tail) =
    let at = section earlier in
    let key = key_names pair.assign.key in
    let w = below at key in
    let v = pair.value in
    let value = value_named line Valued w v in
    let all = fronts line at key ++ value ∷ inside line w v in
    each_append (Lies all) (fronts line at key) (value ∷ inside line w v) (fronts_lie all line key at)
    (λ bare. cc, each_weaker (IsWithin line w) (Lies all) (λ m within bare. inr (has_right (IsValueOver m.address) (fronts line at key) (value ∷ inside line w v) (inl (refl, within.below)))) (inside line w v) (inside_within line v w))
by_lie earlier line (TableLine ws header tail) = followed_lie _ line earlier (ends_table line) (λ at. (λ bare. cc, tt)) (key_names header.key) []
by_lie earlier line (ArrayTableLine ws header tail) = followed_lie _ line earlier (ends_tables line earlier) (λ at. (λ bare. cc, (λ bare. cc, tt))) (key_names header.key) []

from_lie : (ls : List Line) (earlier : List Named) (n : ℕ) → AllLie earlier earlier → AllLie (named_from earlier n ls) (named_from earlier n ls)
from_lie [] earlier n h = h
from_lie (l ∷ ls) earlier n h =
    let by = named_by earlier n l.expr in
    from_lie ls (earlier ++ by) (n + 1)
    (each_append (Lies (earlier ++ by)) earlier by (lie-in earlier (earlier ++ by) earlier (λ at. has_left (IsValueOver at) earlier by) h)
    (lie-in by (earlier ++ by) by (λ at. has_right (IsValueOver at) earlier by) (by_lie earlier n l.expr)))

lines_lie : (lines : List Line) → AllLie (named lines) (named lines)
lines_lie lines = from_lie lines (root ∷ []) 0 (λ bare. inl refl, tt)

outside_has_none : (ms : List Named) (at : Address) → IsOutside ms at → HasAbove ms at → ⊥
outside_has_none ms at outer = from_has (λ m. IsAbove m.address at → ¬ (m.role ≡ Valued)) (IsValueOver at) ⊥ (λ m none over. none over.1 over.0) ms (each_of_all _ ms outer)

-- nothing of the address is in the list
inside_none : (ms : List Named) (at : Address) (line : ℕ) → spec.inside ms at line ≡ None → All (λ m. ¬ (m.address ≡ at)) ms
inside_none [] at line h = All-nil (λ m. ¬ (m.address ≡ at))
inside_none (m ∷ ms) at line h = search (rules, All-cons, same_address-self, inside_none ms at line)

-- none of the roles
none_of : (v h e d t p : Option ℕ) → or_else v places.KeyVal (or_else h places.Header (or_else e places.Header (or_else d places.Dotted (or_else t places.Tables (or_else p places.Implicit None))))) ≡ None
    → (v ≡ None) × (h ≡ None) × (e ≡ None) × (d ≡ None) × (t ≡ None) × (p ≡ None)
none_of v h e d t p g = grind arith

only_bare : (r : Role) → ¬ (r ≡ Valued) → ¬ (r ≡ Header) → ¬ (r ≡ Element) → ¬ (r ≡ Dotted) → ¬ (r ≡ Tables) → ¬ (r ≡ Passed) → r ≡ Bare
only_bare r v h e d t p = grind arith

-- then no mention is at the address
abbrev IsBareAt : Address → Named → Type 0
IsBareAt at m = m.address ≡ at → m.role ≡ Bare

is_bare : (ms : List Named) (at : Address) → outside ms at ≡ None → All (IsBareAt at) ms
is_bare ms at none = grind (arith, none_of, not_in, only_bare)

none_in : (ms : List Named) (s : Step) (at : Address) → AllLie ms ms → (o : Option ℕ) → line_above ms (s ∷ at) ≡ o → in_value o ms (s ∷ at) ≡ None → ¬ IsNamed ms (s ∷ at)
none_in ms s at lie (Some line) e h found = subst (λ x. ¬ (x.address ≡ s ∷ at)) found.3 (inside_none ms (s ∷ at) line h found.0 found.1 found.2) found.4
none_in ms s at lie None e h found =
    from_has (Lies ms) (λ m. (m.address ≡ s ∷ at) × (m.role ≡ Bare)) ⊥
    (λ m lies it. ⊎_elim (λ root. let no : s ∷ at ≡ [] = sym it.0 ∙ root in cc) (λ up. outside_has_none ms (s ∷ at) (none_above ms (s ∷ at) e) (subst (HasAbove ms) it.0 up)) (lies it.1)) ms lie
    (has_each (IsBareAt (s ∷ at)) (λ m. m.address ≡ s ∷ at) _ (λ m bare is. (is, bare is)) ms (each_of_all (IsBareAt (s ∷ at)) ms (is_bare ms (s ∷ at) h)) (has_of_any _ ms found))

pub no_place : NoPlace
no_place = search (rules, none_in, lines_lie)
