-- The place that is found is one.
use Rattle.toml_names.proofs.Common.{◌≡◌, ℕ, suc, Bool, true, false, ◌&&◌, cond, List, [], ◌∷◌, ◌++◌, Option, Some, None, refl, ap, ◌∙◌, arith, rules, Any, All-nil, All-cons, Role, Passed, Header, Dotted, Valued, Tables, Element, Place, Step, Address, IsAbove, AboveIsAbove, same_address, is_above, Named, IsNamed, IsNotIn, IsFirstIn, IsInside, IsOutside, IsPlace, PlacesAreFound, same_role, first_line, line_above, or_else}
use Rattle.toml_names.specs.declared.model.place.Place.TheVariants as places
use Rattle.toml_names.specs.model.Places.{inside}
use Rattle.toml_names.proofs.lemmas.model.Equal.{same_step-equal, same_step-self, same_address-equal, same_address-self}

-- an address is above another where it is a beginning of it, and shorter
pub above_sound : (a b : Address) → is_above a b ≡ true → IsAbove a b
above_sound [] [] h = cc
above_sound [] (t ∷ b) h = (t, b, refl)
above_sound (s ∷ a) [] h = cc
above_sound (s ∷ a) (t ∷ b) h = search (rules, same_step-equal, above_sound a b)

beginning : (a : Address) (s : Step) (rest : Address) → is_above a (a ++ s ∷ rest) ≡ true
beginning [] s rest = refl
beginning (t ∷ a) s rest = rw (same_step-self t) (beginning a s rest)

pub above_complete : (a b : Address) → IsAbove a b → is_above a b ≡ true
above_complete a b h = ap (is_above a) h.2 ∙ beginning a h.0 h.1

pub above_is_above : AboveIsAbove
above_is_above a b = (above_sound a b, above_complete a b)

pub same_role-equal : (r q : Role) → same_role r q ≡ true → r ≡ q
same_role-equal r q h = search rules

pub same_role-self : (r : Role) → same_role r r ≡ true
same_role-self r = search rules

-- `Any` of a longer list
any_here : (P : Named → Type 0) (m : Named) (ms : List Named) → P m → Any P (m ∷ ms)
any_here P m ms p = (0, m, omega arith, refl, p)

any_later : (P : Named → Type 0) (m : Named) (ms : List Named) → Any P ms → Any P (m ∷ ms)
any_later P m ms h = (suc h.0, h.1, omega (arith, h.2), h.3, h.4)

-- the first line that names the address in the role
pub is_it : (m : Named) (at : Address) (role : Role) → (same_address m.address at && same_role m.role role) ≡ true → (m.address ≡ at) × (m.role ≡ role)
is_it m at role h = search (rules, same_address-equal, same_role-equal)

is_not_it : (m : Named) (at : Address) (role : Role) → (same_address m.address at && same_role m.role role) ≡ false → m.address ≡ at → ¬ (m.role ≡ role)
is_not_it m at role h a = search (rules, same_address-self, same_role-self)

abbrev Not : Role → Address → Named → Type 0
Not role at m = m.address ≡ at → ¬ (m.role ≡ role)

first_in : (ms : List Named) (at : Address) (role : Role) (line : ℕ) → first_line ms at role ≡ Some line → IsFirstIn role ms at line
first_in [] at role line h = cc
first_in (m ∷ ms) at role line h = by (same_address m.address at && same_role m.role role) refl h (first_in ms at role line)
  where
    by : (b : Bool) → (same_address m.address at && same_role m.role role) ≡ b → cond b (Some m.line) (first_line ms at role) ≡ Some line
        → (first_line ms at role ≡ Some line → IsFirstIn role ms at line) → IsFirstIn role (m ∷ ms) at line
    by true e g ih =
        let it = is_it m at role e in
        let of : m.line ≡ line = cc in
        record { before = []; mention = m; behind = ms; is = refl; address = it.0; in_role = it.1; of_line = of; none_before = All-nil (Not role at) }
    by false e g ih =
        let r = ih g in
        record {
          before = m ∷ r.before;
          mention = r.mention;
          behind = r.behind;
          is = ap (λ l. m ∷ l) r.is;
          address = r.address;
          in_role = r.in_role;
          of_line = r.of_line;
          none_before = All-cons (Not role at) m r.before (is_not_it m at role e) r.none_before;
        }

pub not_in : (ms : List Named) (at : Address) (role : Role) → first_line ms at role ≡ None → IsNotIn role at ms
not_in [] at role h = All-nil (Not role at)
not_in (m ∷ ms) at role h = search (rules, All-cons, is_not_it, not_in ms at role)

-- a value above
abbrev Above : Address → ℕ → Named → Type 0
Above at line m = IsAbove m.address at × (m.role ≡ Valued) × (m.line ≡ line)

abbrev NotAbove : Address → Named → Type 0
NotAbove at m = IsAbove m.address at → ¬ (m.role ≡ Valued)

is_value : (m : Named) (at : Address) → (is_above m.address at && same_role m.role Valued) ≡ true → IsAbove m.address at × (m.role ≡ Valued)
is_value m at h = search (rules, above_sound, same_role-equal)

pub above_in : (ms : List Named) (at : Address) (line : ℕ) → line_above ms at ≡ Some line → IsInside ms at line
above_in [] at line h = cc
above_in (m ∷ ms) at line h = by (is_above m.address at && same_role m.role Valued) refl h (above_in ms at line)
  where
    by : (b : Bool) → (is_above m.address at && same_role m.role Valued) ≡ b → cond b (Some m.line) (line_above ms at) ≡ Some line
        → (line_above ms at ≡ Some line → IsInside ms at line) → IsInside (m ∷ ms) at line
    by true e g ih = let it = is_value m at e in let of : m.line ≡ line = cc in any_here (Above at line) m ms (it.0, it.1, of)
    by false e g ih = any_later (Above at line) m ms (ih g)

pub none_above : (ms : List Named) (at : Address) → line_above ms at ≡ None → IsOutside ms at
none_above [] at h = All-nil (NotAbove at)
none_above (m ∷ ms) at h = search (rules, All-cons, above_complete, none_above ms at)

-- inside a value
inside_is : (ms : List Named) (at : Address) (line : ℕ) (p : Place) → inside ms at line ≡ Some p → (p ≡ places.Inside line) × IsNamed ms at
inside_is [] at line p h = cc
inside_is (m ∷ ms) at line p h = by (same_address m.address at) refl h (inside_is ms at line p)
  where
    by : (b : Bool) → same_address m.address at ≡ b → cond b (Some (places.Inside line)) (inside ms at line) ≡ Some p
        → (inside ms at line ≡ Some p → (p ≡ places.Inside line) × IsNamed ms at) → (p ≡ places.Inside line) × IsNamed (m ∷ ms) at
    by true e g ih = let is : p ≡ places.Inside line = cc in (is, any_here (λ n. n.address ≡ at) m ms (same_address-equal m.address at e))
    by false e g ih = let r = ih g in (r.0, any_later (λ n. n.address ≡ at) m ms r.1)

some_is : {A : Type 0} (x y : A) → Some x ≡ Some y → x ≡ y
some_is x y e = cc

module _ (ms : List Named) (at : Address) (outer : IsOutside ms at) (p : Place) where
  abbrev read : Role → Option ℕ
  read = first_line ms at

  from_tables : (o : Option ℕ) → read Tables ≡ o → IsNotIn Valued at ms → IsNotIn Header at ms → IsNotIn Element at ms → IsNotIn Dotted at ms
      → or_else o places.Tables (or_else (read Passed) places.Implicit None) ≡ Some p → IsPlace ms at p
  from_tables o e v hd el d h = search (rules, not_in, some_is, first_in)

  from_value : (o : Option ℕ) → read Valued ≡ o
      → or_else o places.KeyVal (or_else (read Header) places.Header (or_else (read Element) places.Header (or_else (read Dotted) places.Dotted (or_else (read Tables) places.Tables (or_else (read Passed) places.Implicit None))))) ≡ Some p → IsPlace ms at p
  from_value o e h = search (rules, from_tables, not_in, some_is, first_in)

pub places_are_found : PlacesAreFound
places_are_found = search (rules, some_is, from_value, none_above, inside_is, above_in)
