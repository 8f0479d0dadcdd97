-- Under the rules each thing has one place, the one that is found.
use Rattle.toml_names.proofs.Common.{AreValuesAt, ◌≡◌, ◌⊎◌, inl, inr, ℕ, Bool, true, false, List, [], ◌∷◌, ◌++◌, Option, Some, None, refl, sym, ap, subst, ◌∙◌, true≢false, rules, cond-true, All-head, All-tail, EachIs, Line, Step, Role, Passed, Header, Dotted, Valued, Tables, Element, Bare, Place, Address, IsAbove, BelowIsOfItsLine, is_lone, mark_of, Named, root, named, IsNamed, IsNotIn, IsFirstIn, IsInside, IsOutside, IsPlace, PlaceIsFound, first_line, line_above, outside, in_value, place_of_mark, KeepsRules}
use Rattle.toml_names.specs.declared.model.place.Place.TheVariants as places
use Rattle.toml_names.specs.model.Places.{inside}
use Rattle.toml_names.proofs.lemmas.mentions.AllLines.{named_from-is, lines_join, line_values_stand_alone}
use Rattle.toml_names.proofs.lemmas.mentions.BelowValues.{IsHere, below_values}
use Rattle.toml_names.proofs.Each.{Has, PairsAre, pairs_of_all, has_of_any, has_right, has_weaker, from_two, members_self, each_weaker, taken, of_member}
use Rattle.toml_names.proofs.lemmas.model.Equal.{same_address-self}
use Rattle.toml_names.proofs.lemmas.mentions.FirstLines.{AreHolding, holding_under_rules, may_hold, marks_hold, inside-some, outside-mark, skip, stop}
use Rattle.toml_names.proofs.lemmas.mentions.FactAt.{from_all}
use Rattle.toml_names.proofs.lemmas.mentions.OfOneKind.{first_is_data}
use Rattle.toml_names.proofs.lemmas.mentions.Offences.{misfit-from_KeepsRules}
use Rattle.toml_names.proofs.lemmas.mentions.PlacesFound.{above_in, none_above, is_it, same_role-self}

-- two things at one address, of which neither is lone
abbrev Share : Named → Named → Type 0
Share e l = e.address ≡ l.address → (is_lone e.role ≡ false) × (is_lone l.role ≡ false)

clash : {C : Type 0} (b : Bool) → b ≡ true → b ≡ false → C
clash b is is_not = absurd (true≢false (sym is ∙ is_not))

-- a thing that is lone at the address
abbrev IsLoneAt : Address → ℕ → Named → Type 0
IsLoneAt at line m = (m.address ≡ at) × (is_lone m.role ≡ true) × (m.line ≡ line)

-- where one is lone, all that is there is of its line,
one_line : (ms : List Named) → PairsAre Share ms → (at : Address) (l k : ℕ) → Has (IsLoneAt at l) ms → Has (IsHere at k) ms → l ≡ k
one_line ms share at l k =
    from_two Share (IsLoneAt at l) (IsHere at k) (l ≡ k) (λ m p q. sym p.2 ∙ q.1) (λ x y r p q. clash (is_lone x.role) p.1 (r (p.0 ∙ sym q.0)).0) (λ x y r q p. clash (is_lone y.role) p.1 (r (q.0 ∙ sym p.0)).1) ms share

-- and lone
all_lone : (ms : List Named) → PairsAre Share ms → (at : Address) (l : ℕ) → Has (IsLoneAt at l) ms → AreValuesAt at ms
all_lone ms share at l lone =
    each_weaker (λ m. Has (λ y. y ≡ m) ms) (λ m. m.address ≡ at → is_lone m.role ≡ true)
    (λ m there here.
    from_two Share (IsLoneAt at l) (λ y. y ≡ m) (is_lone m.role ≡ true) (λ x p q. subst (λ y. is_lone y.role ≡ true) q p.1)
    (λ x y r p q. clash (is_lone x.role) p.1 (r (p.0 ∙ sym here ∙ ap (λ z. z.address) (sym q))).0) (λ x y r q p. clash (is_lone y.role) p.1 (r (ap (λ z. z.address) q ∙ here ∙ sym p.0)).1) ms share lone there)
    ms (members_self ms)

-- ---- the root

-- nothing but the root is at its address
not_at_root : (lines : List Line) → PairsAre Share (named lines) → (r : Role) → ¬ (Bare ≡ r) → ¬ Has (λ m. (m.address ≡ []) × (m.role ≡ r)) (named lines)
not_at_root lines share r apart has =
    from_two Share (λ m. (m.address ≡ []) × (m.role ≡ Bare)) (λ m. (m.address ≡ []) × (m.role ≡ r)) ⊥ (λ m p q. apart (sym p.1 ∙ q.1))
    (λ x y s p q. clash (is_lone x.role) (ap is_lone p.1) (s (p.0 ∙ sym q.0)).0) (λ x y s q p. clash (is_lone y.role) (ap is_lone p.1) (s (q.0 ∙ sym p.0)).1)
    (named lines) share (subst (Has (λ m. (m.address ≡ []) × (m.role ≡ Bare))) (sym (named_from-is lines (root ∷ []) 0)) (inl (refl, refl))) has

-- ---- values above

compare : (a b c : Address) → IsAbove a c → IsAbove b c → (a ≡ b) ⊎ (IsAbove a b ⊎ IsAbove b a)
compare [] [] c h g = inl refl
compare [] (t ∷ b) c h g = inr (inl (t, b, refl))
compare (s ∷ a) [] c h g = inr (inr (s, a, refl))
compare (s ∷ a) (t ∷ b) [] (u, r, is) g = cc
compare (s ∷ a) (t ∷ b) (v ∷ c) (u, r, is) (w, q, to) =
    let head : s ≡ t = cc in
    let one : c ≡ a ++ u ∷ r = cc in
    let other : c ≡ b ++ w ∷ q = cc in
    lift (compare a b c (u, r, one) (w, q, other)) head
  where
    lift : (a ≡ b) ⊎ (IsAbove a b ⊎ IsAbove b a) → s ≡ t → (s ∷ a ≡ t ∷ b) ⊎ (IsAbove (s ∷ a) (t ∷ b) ⊎ IsAbove (t ∷ b) (s ∷ a))
    lift (inl e) head = inl (ap (λ x. x ∷ a) head ∙ ap (λ l. t ∷ l) e)
    lift (inr (inl (x, rest, e))) head = inr (inl (x, rest, ap (λ y. y ∷ b) (sym head) ∙ ap (λ l. s ∷ l) e))
    lift (inr (inr (x, rest, e))) head = inr (inr (x, rest, ap (λ y. y ∷ a) head ∙ ap (λ l. t ∷ l) e))

-- a value of the line above the address
abbrev IsValueAbove : Address → ℕ → Named → Type 0
IsValueAbove at line m = IsAbove m.address at × (m.role ≡ Valued) × (m.line ≡ line)

abbrev IsNoValueAbove : Address → Named → Type 0
IsNoValueAbove at m = IsAbove m.address at → ¬ (m.role ≡ Valued)

module _ (lines : List Line) (share : PairsAre Share (named lines)) where
  abbrev all : List Named
  all = named lines

  lone_at : (x : Named) → Has (λ y. y ≡ x) all → x.role ≡ Valued → Has (IsLoneAt x.address x.line) all
  lone_at x there value = has_weaker (λ y. y ≡ x) (IsLoneAt x.address x.line) (λ y is. (ap (λ z. z.address) is, ap (λ z. is_lone z.role) is ∙ ap is_lone value, ap (λ z. z.line) is)) all there

  no_root : (x : Named) → Has (λ y. y ≡ x) all → x.role ≡ Valued → ¬ (x.address ≡ [])
  no_root x there value is =
      not_at_root lines share Valued (λ e. cc) (has_weaker (λ y. y ≡ x) (λ m. (m.address ≡ []) × (m.role ≡ Valued)) (λ y e. (ap (λ z. z.address) e ∙ is, ap (λ z. z.role) e ∙ value)) all there)

  -- what is below a value is of its line
  below_one : (x y : Named) → Has (λ z. z ≡ x) all → Has (λ z. z ≡ y) all → x.role ≡ Valued → IsAbove x.address y.address → x.line ≡ y.line
  below_one x y first then value above =
      let lone = lone_at x first value in
      one_line all share x.address x.line y.line lone
      (of_member (λ m. IsAbove x.address m.address → Has (IsHere x.address m.line) all) all y (below_values x.address lines (no_root x first value) (all_lone all share x.address x.line lone)) then above)

  -- two values above one address are of one line
  one_above : (at : Address) (l k : ℕ) → Has (IsValueAbove at l) all → Has (IsValueAbove at k) all → l ≡ k
  one_above at l k one other =
      taken (IsValueAbove at l) (l ≡ k) all (λ x first p. taken (IsValueAbove at k) (l ≡ k) all (λ y then q. sym p.2 ∙ by x y first then p.1 q.1 (compare x.address y.address at p.0 q.0) ∙ q.2) other) one
    where
      by : (x y : Named) → Has (λ z. z ≡ x) all → Has (λ z. z ≡ y) all → x.role ≡ Valued → y.role ≡ Valued → (x.address ≡ y.address) ⊎ (IsAbove x.address y.address ⊎ IsAbove y.address x.address) → x.line ≡ y.line
      by x y first then value too (inl same) = one_line all share x.address x.line y.line (lone_at x first value) (has_weaker (λ z. z ≡ y) (IsHere x.address y.line) (λ z is. (ap (λ w. w.address) is ∙ sym same, ap (λ w. w.line) is)) all then)
      by x y first then value too (inr (inl above)) = below_one x y first then value above
      by x y first then value too (inr (inr above)) = sym (below_one y x then first too above)

  above_is : (at : Address) (line : ℕ) → IsInside all at line → line_above all at ≡ Some line
  above_is at line is = by (line_above all at) refl
    where
      by : (o : Option ℕ) → line_above all at ≡ o → line_above all at ≡ Some line
      by None none = from_all (IsNoValueAbove at) (IsValueAbove at line) (line_above all at ≡ Some line) all (none_above all at none) is (λ m not p. absurd (not p.0 p.1))
      by (Some k) found = found ∙ ap Some (one_above at k line (has_of_any _ all (above_in all at k found)) (has_of_any _ all is))

pub below_is_of_its_line : BelowIsOfItsLine
below_is_of_its_line lines keeps =
    let ms = named lines in
    let share = pairs_of_all Share ms (line_values_stand_alone lines keeps) in
    each_weaker (λ v. Has (λ z. z ≡ v) ms) (λ v. v.role ≡ Valued → EachIs (λ m. IsAbove v.address m.address → m.line ≡ v.line) ms)
    (λ v first value. each_weaker (λ m. Has (λ z. z ≡ m) ms) (λ m. IsAbove v.address m.address → m.line ≡ v.line) (λ m then above. sym (below_one lines share v m first then value above)) ms (members_self ms))
    ms (members_self ms)

outside_is : (ms : List Named) (at : Address) → IsOutside ms at → line_above ms at ≡ None
outside_is ms at out = search (rules, from_all, above_in)

-- ---- first lines

-- not named at the address in the role
abbrev IsNot : Role → Address → Named → Type 0
IsNot role at m = m.address ≡ at → ¬ (m.role ≡ role)

first_skip : (m : Named) (ms : List Named) (at : Address) (role : Role) → (m.address ≡ at → ¬ (m.role ≡ role)) → first_line (m ∷ ms) at role ≡ first_line ms at role
first_skip m ms at role not = search (rules, is_it)

none_first : (ms : List Named) (at : Address) (role : Role) → IsNotIn role at ms → first_line ms at role ≡ None
none_first [] at role none = refl
none_first (m ∷ ms) at role none = first_skip m ms at role (All-head (IsNot role at) m ms none) ∙ none_first ms at role (All-tail (IsNot role at) m ms none)

found_first : (before : List Named) (m : Named) (behind : List Named) (at : Address) (role : Role) → IsNotIn role at before → m.address ≡ at → m.role ≡ role
    → first_line (before ++ m ∷ behind) at role ≡ Some m.line
found_first [] m behind at role none here is = search (rules, same_address-self, same_role-self, cond-true)
found_first (x ∷ before) m behind at role none here is =
    first_skip x (before ++ m ∷ behind) at role (All-head (IsNot role at) x before none) ∙ found_first before m behind at role (All-tail (IsNot role at) x before none) here is

first_is : (ms : List Named) (at : Address) (role : Role) (line : ℕ) → IsFirstIn role ms at line → first_line ms at role ≡ Some line
first_is ms at role line f = search (rules, found_first)

has_first : (ms : List Named) (at : Address) (role : Role) (line : ℕ) → IsFirstIn role ms at line → Has (λ m. (m.address ≡ at) × (m.role ≡ role)) ms
has_first ms at role line f = subst (Has (λ m. (m.address ≡ at) × (m.role ≡ role))) (sym f.is) (has_right _ f.before (f.mention ∷ f.behind) (inl (f.address, f.in_role)))

-- ---- the place outside values

-- a mark other than of longer headers is told by any mention in its role
abbrev tells : Role → Bool
tells Passed = false
tells Bare = false
tells _ = true

mark_is : (m q : Role) → tells q ≡ true → may_hold m q ≡ true → m ≡ q
mark_is m q tell holds = search rules

place_told : (ms : List Named) (at : Address) (q : Role) (line : ℕ) → AreHolding ms → tells q ≡ true → IsFirstIn q ms at line → outside ms at ≡ place_of_mark q line
place_told ms at q line holding tell first = by (mark_of ms at) refl (holding at q line (first_is ms at q line first))
  where
    by : (o : Option Role) → mark_of ms at ≡ o → marks_hold (mark_of ms at) q ≡ true → outside ms at ≡ place_of_mark q line
    by None none holds = absurd (true≢false (sym holds ∙ ap (λ o. marks_hold o q) none))
    by (Some m) mark holds =
        let is : m ≡ q = mark_is m q tell (ap (λ o. marks_hold o q) (sym mark) ∙ holds) in
        outside-mark ms at q line holding (mark ∙ ap Some is) (first_is ms at q line first)

module _ (lines : List Line) (keeps : KeepsRules (named lines)) where
  share : PairsAre Share (named lines)
  share = pairs_of_all Share (named lines) (line_values_stand_alone lines keeps)

  holding : AreHolding (named lines)
  holding = holding_under_rules (named lines) (misfit-from_KeepsRules (named lines) [] keeps)

  at_root : (p : Place) → IsPlace (named lines) [] p → Some places.Root ≡ Some p
  at_root places.Root is = refl
  at_root (places.Inside line) is = absurd (none_above_root is.0)
    where
      no_cons : (a : Address) (s : Step) (r : Address) → ¬ ([] ≡ a ++ s ∷ r)
      no_cons [] s r is = cc
      no_cons (t ∷ a) s r is = cc

      none_above_root : ¬ IsInside (named lines) [] line
      none_above_root (k, m, low, e, up) = no_cons m.address up.0.0 up.0.1 up.0.2
  at_root (places.KeyVal line) is = absurd (not_at_root lines share Valued (λ e. cc) (has_first (named lines) [] Valued line is.1))
  at_root (places.Header line) (out, inl first) = absurd (not_at_root lines share Header (λ e. cc) (has_first (named lines) [] Header line first))
  at_root (places.Header line) (out, inr first) = absurd (not_at_root lines share Element (λ e. cc) (has_first (named lines) [] Element line first))
  at_root (places.Dotted line) is = absurd (not_at_root lines share Dotted (λ e. cc) (has_first (named lines) [] Dotted line is.1))
  at_root (places.Tables line) is = absurd (not_at_root lines share Tables (λ e. cc) (has_first (named lines) [] Tables line is.1))
  at_root (places.Implicit line) is = absurd (not_at_root lines share Passed (λ e. cc) (has_first (named lines) [] Passed line is.1))

  out_of : (at : Address) (p : Place) → IsOutside (named lines) at → outside (named lines) at ≡ Some p → in_value (line_above (named lines) at) (named lines) at ≡ Some p
  out_of at p out is = ap (λ o. in_value o (named lines) at) (outside_is (named lines) at out) ∙ is

  passed_only : (at : Address) (line : ℕ) → IsPlace (named lines) at (places.Implicit line) → outside (named lines) at ≡ Some (places.Implicit line)
  passed_only at line (out, first, only) =
      let ms = named lines in
      skip (first_line ms at Valued) places.KeyVal _ (none_first ms at Valued only.no_value)
      ∙ skip (first_line ms at Header) places.Header _ (none_first ms at Header only.no_header)
      ∙ skip (first_line ms at Element) places.Header _ (none_first ms at Element only.no_element)
      ∙ skip (first_line ms at Dotted) places.Dotted _ (none_first ms at Dotted only.no_key)
      ∙ skip (first_line ms at Tables) places.Tables _ (none_first ms at Tables only.no_tables)
      ∙ stop (first_line ms at Passed) places.Implicit None line (first_is ms at Passed line first)

  further : (s : Step) (at : Address) (p : Place) → IsPlace (named lines) (s ∷ at) p → in_value (line_above (named lines) (s ∷ at)) (named lines) (s ∷ at) ≡ Some p
  further s at places.Root is = let no : s ∷ at ≡ [] = is in cc
  further s at (places.Inside line) is =
      let ms = named lines in
      ap (λ o. in_value o ms (s ∷ at)) (above_is lines share (s ∷ at) line is.0) ∙ there is.1
    where
      there : IsNamed (named lines) (s ∷ at) → inside (named lines) (s ∷ at) line ≡ Some (places.Inside line)
      there (k, m, low, e, here) = inside-some (named lines) (s ∷ at) line m.kind ((first_is_data (named lines) (lines_join lines keeps) (s ∷ at) m.kind).1 (k, m, low, e, (here, refl)))
  further s at (places.KeyVal line) is = out_of (s ∷ at) _ is.0 (place_told (named lines) (s ∷ at) Valued line holding refl is.1)
  further s at (places.Header line) (out, inl first) = out_of (s ∷ at) _ out (place_told (named lines) (s ∷ at) Header line holding refl first)
  further s at (places.Header line) (out, inr first) = out_of (s ∷ at) _ out (place_told (named lines) (s ∷ at) Element line holding refl first)
  further s at (places.Dotted line) is = out_of (s ∷ at) _ is.0 (place_told (named lines) (s ∷ at) Dotted line holding refl is.1)
  further s at (places.Tables line) is = out_of (s ∷ at) _ is.0 (place_told (named lines) (s ∷ at) Tables line holding refl is.1)
  further s at (places.Implicit line) is = out_of (s ∷ at) _ is.0 (passed_only (s ∷ at) line is)

pub place_is_found : PlaceIsFound
place_is_found = search (rules, at_root, further)
