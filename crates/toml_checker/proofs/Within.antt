-- What lies in a protected unit stays with it.
use Rattle.std.proofs.Common.{◌≡◌, ◌⊎◌, inl, inr, ℕ, ◌+◌, ◌<◌, ◌≤◌, ◌^◌, List, [], ◌∷◌, ◌++◌, length, Option, Some, None, refl, sym, ap, subst, ◌∙◌, arith, append_assoc, length-append}
use Rattle.std.proofs.lemmas.List.{append-nil}
use Rattle.std.specs.Prelude.{option_map, option_and_then}
use Rattle.toml_names.specs.model.Addresses.{Address, IsAbove}
use Rattle.toml_names.specs.model.Indices.{IsLow}
use Rattle.toml_edits.specs.Carry.{carry}
use Rattle.toml_edits.specs.Edits.{Change, set, insert, rename, remove, new_section, new_element, place}
use Rattle.toml_edits.specs.Laws.{IsNotSet, Front}
use Rattle.toml_edits.specs.Lists.{carried}
use Rattle.toml_edits.proofs.Proved.{carried_along, carried_front}
use Rattle.toml_units.specs.declared.unit.UnitKind.{UnitKind}
use Rattle.toml_units.specs.declared.unit.UnitKind.TheVariants as kinds
use Rattle.toml_checker.specs.CarriedTo.{IsAtOrAbove}
use Rattle.toml_checker.specs.GoneAndChanged.{Removes, Sets, SetsAbove, SetsIt, Renames, PairIsGone, PairIsChanged, PartIsGone, LineIsGone, LineIsChanged, Standing, IsGone, IsChanged}
use Rattle.toml_checker.specs.Protected.{Stays}
use Rattle.toml_checker.proofs.Sent.{Arrives, sent}

-- ---- addresses

pub above_longer : (p a q : Address) → IsAtOrAbove p a → IsAtOrAbove p (a ++ q)
above_longer p a q w = (w.0 ++ q, ap (λ x. x ++ q) w.1 ∙ append_assoc p w.0 q)

-- what is at or above a ++ rest is at or above a, or below it
pub parts : (a rest p : Address) → IsAtOrAbove p (a ++ rest) → IsAtOrAbove p a ⊎ IsAbove a p
parts a rest [] w = inl (a, refl)
parts [] rest (s ∷ p) w = inr (s, p, refl)
parts (t ∷ a) rest (s ∷ p) w = by (parts a rest p (w.0, let e = w.1 in cc))
  where
    same : t ∷ a ++ rest ≡ s ∷ p ++ w.0 → t ≡ s
    same e = cc

    by : IsAtOrAbove p a ⊎ IsAbove a p → IsAtOrAbove (s ∷ p) (t ∷ a) ⊎ IsAbove (t ∷ a) (s ∷ p)
    by (inl v) = inl (v.0, ap (λ x. x ∷ a) (same w.1) ∙ ap (λ r. s ∷ r) v.1)
    by (inr v) = inr (v.0, v.1, ap (λ x. x ∷ p) (sym (same w.1)) ∙ ap (λ r. t ∷ r) v.2)

pub shorter_above : (a rest p : Address) → IsAbove (a ++ rest) p → IsAbove a p
shorter_above a [] p w = (w.0, w.1, w.2 ∙ ap (λ x. x ++ w.0 ∷ w.1) (append-nil a))
shorter_above a (t ∷ rest) p w = (t, rest ++ w.0 ∷ w.1, w.2 ∙ append_assoc a (t ∷ rest) (w.0 ∷ w.1))

above_at : (p a : Address) → IsAbove p a → IsAtOrAbove p a
above_at p a w = (w.0 ∷ w.1, w.2)

pub at_or_above : (p a : Address) → IsAtOrAbove p a → (p ≡ a) ⊎ IsAbove p a
at_or_above p a ([], is) = inl (sym (is ∙ append-nil p))
at_or_above p a (s ∷ r, is) = inr (s, r, is)

no_longer : (p a : Address) → IsAtOrAbove p a → length p ≤ length a
no_longer p a w = omega (arith, ap length w.1, length-append p w.0)

-- ---- what an edit leaves alone at an address

pub record Safe (c : Change) (a : Address) : Type 0 where
  pub kept : ¬ Removes c a
  pub unset : ¬ Sets c a

pub sets_above : (c : Change) (a : Address) → SetsAbove c a → Sets c a
sets_above (set at value) a w = above_at at a w
sets_above (insert at value) a w = absurd w
sets_above (rename at to) a w = absurd w
sets_above (remove at) a w = absurd w
sets_above (new_section at) a w = absurd w
sets_above (new_element at) a w = absurd w

sets_it : (c : Change) (a : Address) → SetsIt c a → Sets c a
sets_it (set at value) a e = ([], sym (append-nil at ∙ e))
sets_it (insert at value) a w = absurd w
sets_it (rename at to) a w = absurd w
sets_it (remove at) a w = absurd w
sets_it (new_section at) a w = absurd w
sets_it (new_element at) a w = absurd w

sets_split : (c : Change) (a : Address) → ¬ SetsAbove c a → ¬ SetsIt c a → ¬ Sets c a
sets_split (set at value) a n m w = by (at_or_above at a w)
  where
    by : (at ≡ a) ⊎ IsAbove at a → ⊥
    by (inl e) = m e
    by (inr v) = n v
sets_split (insert at value) a n m w = w
sets_split (rename at to) a n m w = w
sets_split (remove at) a n m w = w
sets_split (new_section at) a n m w = w
sets_split (new_element at) a n m w = w

pub not_set : (c : Change) (a : Address) → Safe c a → IsNotSet c a
not_set (set at value) a s = λ e. s.unset (sets_it (set at value) a e)
not_set (insert at value) a s = tt
not_set (rename at to) a s = tt
not_set (remove at) a s = tt
not_set (new_section at) a s = tt
not_set (new_element at) a s = tt

removes_longer : (c : Change) (l q : Address) → Removes c l → Removes c (l ++ q)
removes_longer (set at value) l q w = absurd w
removes_longer (insert at value) l q w = absurd w
removes_longer (rename at to) l q w = absurd w
removes_longer (remove at) l q w = above_longer at l q w
removes_longer (new_section at) l q w = absurd w
removes_longer (new_element at) l q w = absurd w

sets_longer : (c : Change) (l q : Address) → Sets c l → Sets c (l ++ q)
sets_longer (set at value) l q w = above_longer at l q w
sets_longer (insert at value) l q w = absurd w
sets_longer (rename at to) l q w = absurd w
sets_longer (remove at) l q w = absurd w
sets_longer (new_section at) l q w = absurd w
sets_longer (new_element at) l q w = absurd w

-- above what is left alone all is
pub safe_above : (c : Change) (l q : Address) → Safe c (l ++ q) → Safe c l
safe_above c l q s = record { kept = λ w. s.kept (removes_longer c l q w); unset = λ w. s.unset (sets_longer c l q w) }

-- and below it, where the edit is not
safe_below : (c : Change) (a rest : Address) → Safe c a → ¬ IsAbove a (place c) → Safe c (a ++ rest)
safe_below (set at value) a rest s n = record { kept = λ w. w; unset = λ w. by (parts a rest at w) }
  where
    by : IsAtOrAbove at a ⊎ IsAbove a at → ⊥
    by (inl v) = s.unset v
    by (inr v) = n v
safe_below (insert at value) a rest s n = record { kept = λ w. w; unset = λ w. w }
safe_below (rename at to) a rest s n = record { kept = λ w. w; unset = λ w. w }
safe_below (remove at) a rest s n = record { kept = λ w. by (parts a rest at w); unset = λ w. w }
  where
    by : IsAtOrAbove at a ⊎ IsAbove a at → ⊥
    by (inl v) = s.kept v
    by (inr v) = n v
safe_below (new_section at) a rest s n = record { kept = λ w. w; unset = λ w. w }
safe_below (new_element at) a rest s n = record { kept = λ w. w; unset = λ w. w }

line_safe : (c : Change) (l : Address) (base : Option ℕ) → Safe c l → ¬ LineIsGone c (Some l) base
line_safe c l None s (inl w) = s.kept w
line_safe c l None s (inr w) = s.unset w
line_safe c l (Some n) s (inl w) = s.kept w
line_safe c l (Some n) s (inr w) = s.unset (sets_above c l w)

pub part_safe : (c : Change) (a : Address) → ¬ PartIsGone c a → Safe c a
part_safe c a n = record { kept = λ w. n (inl w); unset = λ w. n (inr w) }

pub pair_safe : (c : Change) (a : Address) (n : ℕ) → ¬ PairIsGone c a → ¬ PairIsChanged c a n → Safe c a
pair_safe c a n gone changed = record { kept = λ w. gone (inl w); unset = sets_split c a (λ w. gone (inr w)) (λ w. changed (inl w)) }

-- ---- a unit in a unit

abbrev pub st : UnitKind → Address → Option ℕ → Address → Option ℕ → Standing
st k a b l lb = record { kind = k; address = Some a; base = b; line = Some l; line_base = lb }

-- how a unit of the second kind, so far below, lies in one of the first at an address
abbrev pub LiesBelow : UnitKind → Address → Address → Option ℕ → Type 0
LiesBelow kinds.Line a rest base = ⊥
LiesBelow kinds.TailComment a rest base = Unit {0}
LiesBelow kinds.InnerComment a rest base = Unit {0}
LiesBelow kinds.Element a rest base = Unit {0}
LiesBelow kinds.Pair a rest base = (n : ℕ) × (base ≡ Some n) × (length a ≤ n)

abbrev pub Holds : UnitKind → Option ℕ → Address → UnitKind → Address → Option ℕ → Address → Option ℕ → Type 0
Holds kinds.Line None a j rest base l lb = (rest ≡ []) × (j ≡ kinds.TailComment)
Holds kinds.Line (Some n) a j rest base l lb = LiesBelow j a rest base
Holds kinds.TailComment b a j rest base l lb = ⊥
Holds kinds.InnerComment b a j rest base l lb = ⊥
Holds kinds.Element b a j rest base l lb = LiesBelow j a rest base
Holds kinds.Pair None a j rest base l lb = ⊥
Holds kinds.Pair (Some n) a j rest base l lb = LiesBelow j a rest base

-- what one edit leaves of a unit in a unit
pub record Left (c : Change) (j : UnitKind) (a rest : Address) (base : Option ℕ) (l : Address) (lb : Option ℕ) : Type 0 where
  pub safe : Safe c a
  pub along : carry c (a ++ rest) ≡ option_map (λ x. x ++ rest) (carry c a)
  pub not_gone : ¬ IsGone j c (st j (a ++ rest) base l lb)
  pub not_changed : ¬ IsChanged j c (st j (a ++ rest) base l lb)

not_renamed : (c : Change) (a rest : Address) (n : ℕ) → length a ≤ n → ¬ IsAbove a (place c) → Renames c (a ++ rest) → n < length (place c) → ⊥
not_renamed (set at value) a rest n le apart w lt = w
not_renamed (insert at value) a rest n le apart w lt = w
not_renamed (remove at) a rest n le apart w lt = w
not_renamed (new_section at) a rest n le apart w lt = w
not_renamed (new_element at) a rest n le apart w lt = w
not_renamed (rename at to) a rest n le apart w lt = by (parts a rest at w)
  where
    by : IsAtOrAbove at a ⊎ IsAbove a at → ⊥
    by (inl v) = omega (arith, no_longer at a v)
    by (inr v) = apart v

left_below : (c : Change) (j : UnitKind) (a rest : Address) (base : Option ℕ) (l q : Address) (lb : Option ℕ) → a ≡ l ++ q → Safe c a → ¬ IsAbove a (place c) → LiesBelow j a rest base → Left c j a rest base l lb
left_below c j a rest base l q lb is s n lies = record { safe = s; along = carried_along c a rest n (not_set c a s); not_gone = gone j lies; not_changed = changed j base lies }
  where
    below : Safe c (a ++ rest)
    below = safe_below c a rest s n

    line : ¬ LineIsGone c (Some l) lb
    line = line_safe c l lb (safe_above c l q (subst (Safe c) is s))

    part : ¬ PartIsGone c (a ++ rest)
    part (inl w) = below.kept w
    part (inr w) = below.unset w

    pair : (b : Option ℕ) → ¬ LineIsGone c (Some (a ++ rest)) b
    pair b = line_safe c (a ++ rest) b below

    gone : (k : UnitKind) → LiesBelow k a rest base → ¬ IsGone k c (st k (a ++ rest) base l lb)
    gone kinds.Line h w = h
    gone kinds.TailComment h w = line w
    gone kinds.InnerComment h (inl w) = line w
    gone kinds.InnerComment h (inr w) = part w
    gone kinds.Element h w = part w
    gone kinds.Pair h w = pair base w

    pair_changed : (m : ℕ) → length a ≤ m → ¬ PairIsChanged c (a ++ rest) m
    pair_changed m le (inl w) = below.unset (sets_it c (a ++ rest) w)
    pair_changed m le (inr (inl w)) = n (shorter_above a rest (place c) w)
    pair_changed m le (inr (inr w)) = not_renamed c a rest m le n w.0 w.1

    changed : (k : UnitKind) (b : Option ℕ) → LiesBelow k a rest b → ¬ IsChanged k c (st k (a ++ rest) b l lb)
    changed kinds.Line b h w = h
    changed kinds.TailComment b h w = w
    changed kinds.InnerComment b h w = w
    changed kinds.Element b h w = n (shorter_above a rest (place c) w)
    changed kinds.Pair b h w = pair_changed h.0 h.2 (subst (λ o. LineIsChanged c (Some (a ++ rest)) o) h.1 w)

map_nil : (o : Option Address) → o ≡ option_map (λ x. x ++ []) o
map_nil None = refl
map_nil (Some a) = ap Some (sym (append-nil a))

left_header : (c : Change) (a : Address) (base : Option ℕ) (l q : Address) (lb : Option ℕ) → a ≡ l ++ q → Safe c a → Left c kinds.TailComment a [] base l lb
left_header c a base l q lb is s = record {
  safe = s;
  along = ap (carry c) (append-nil a) ∙ map_nil (carry c a);
  not_gone = line_safe c l lb (safe_above c l q (subst (Safe c) is s));
  not_changed = λ w. w;
}

pub left : (c : Change) (k : UnitKind) (b : Option ℕ) (j : UnitKind) (a rest : Address) (base : Option ℕ) (l q : Address) (lb : Option ℕ) → a ≡ l ++ q → Holds k b a j rest base l lb
    → ¬ IsGone k c (st k a b l lb) → ¬ IsChanged k c (st k a b l lb) → Left c j a rest base l lb
left c kinds.Line None j a rest base l q lb is h gone changed =
    subst (λ r. Left c j a r base l lb) (sym h.0) (subst (λ k. Left c k a [] base l lb) (sym h.1) (left_header c a base l q lb is (part_safe c a gone)))
left c kinds.Line (Some n) j a rest base l q lb is h gone changed = left_below c j a rest base l q lb is (pair_safe c a n gone changed) (λ w. changed (inr (inl w))) h
left c kinds.TailComment b j a rest base l q lb is h gone changed = absurd h
left c kinds.InnerComment b j a rest base l q lb is h gone changed = absurd h
left c kinds.Element b j a rest base l q lb is h gone changed = left_below c j a rest base l q lb is (part_safe c a gone) changed h
left c kinds.Pair None j a rest base l q lb is h gone changed = absurd h
left c kinds.Pair (Some n) j a rest base l q lb is h gone changed = left_below c j a rest base l q lb is (pair_safe c a n gone changed) (λ w. changed (inr (inl w))) h

-- what is left alone is carried to an address
pub arrives : (c : Change) (n : ℕ) → n < 2 ^ 64 → (a : Address) → IsLow n a → Safe c a → Arrives n (carry c a)
arrives c n room a low s = by (sent c n room a low)
  where
    by : Arrives n (carry c a) ⊎ (Removes c a ⊎ SetsAbove c a) → Arrives n (carry c a)
    by (inl w) = w
    by (inr (inl w)) = absurd (s.kept w)
    by (inr (inr w)) = absurd (s.unset (sets_above c a w))

below_as_long : (j : UnitKind) (a b rest : Address) (base : Option ℕ) → length b ≡ length a → LiesBelow j a rest base → LiesBelow j b rest base
below_as_long kinds.Line a b rest base e h = h
below_as_long kinds.TailComment a b rest base e h = tt
below_as_long kinds.InnerComment a b rest base e h = tt
below_as_long kinds.Element a b rest base e h = tt
below_as_long kinds.Pair a b rest base e h = (h.0, h.1, omega (arith, e, h.2))

holds_as_long : (k : UnitKind) (m : Option ℕ) (a b l r : Address) (j : UnitKind) (rest : Address) (base lb : Option ℕ) → length b ≡ length a → Holds k m a j rest base l lb → Holds k m b j rest base r lb
holds_as_long kinds.Line None a b l r j rest base lb e h = h
holds_as_long kinds.Line (Some n) a b l r j rest base lb e h = below_as_long j a b rest base e h
holds_as_long kinds.TailComment m a b l r j rest base lb e h = h
holds_as_long kinds.InnerComment m a b l r j rest base lb e h = h
holds_as_long kinds.Element m a b l r j rest base lb e h = below_as_long j a b rest base e h
holds_as_long kinds.Pair None a b l r j rest base lb e h = h
holds_as_long kinds.Pair (Some n) a b l r j rest base lb e h = below_as_long j a b rest base e h

abbrev pub Together : List Change → UnitKind → Address → Address → Option ℕ → Address → Option ℕ → Type 0
Together cs j a rest base l lb = Stays cs (st j (a ++ rest) base l lb) × (carried cs (a ++ rest) ≡ option_map (λ x. x ++ rest) (carried cs a))

-- where the unit, its line and the unit in it are carried to
stays_at : (cs : List Change) (k : UnitKind) (b : Option ℕ) (o p : Option Address) (a l : Address) (lb : Option ℕ) → o ≡ Some a → p ≡ Some l
    → Stays cs (record { kind = k; address = o; base = b; line = p; line_base = lb }) → Stays cs (st k a b l lb)
stays_at cs k b o p a l lb e f h = subst (λ x. Stays cs (record { kind = k; address = Some a; base = b; line = x; line_base = lb })) f (subst (λ x. Stays cs (record { kind = k; address = x; base = b; line = p; line_base = lb })) e h)

stays_from : (cs : List Change) (k : UnitKind) (b : Option ℕ) (o p : Option Address) (a l : Address) (lb : Option ℕ) → o ≡ Some a → p ≡ Some l
    → Stays cs (st k a b l lb) → Stays cs (record { kind = k; address = o; base = b; line = p; line_base = lb })
stays_from cs k b o p a l lb e f h = subst (λ x. Stays cs (record { kind = k; address = o; base = b; line = x; line_base = lb })) (sym f) (subst (λ x. Stays cs (record { kind = k; address = x; base = b; line = Some l; line_base = lb })) (sym e) h)

pub together : (cs : List Change) (n : ℕ) → n + length cs < 2 ^ 64 → (k : UnitKind) (b : Option ℕ) (j : UnitKind) (a rest : Address) (base : Option ℕ) (l q : Address) (lb : Option ℕ)
    → a ≡ l ++ q → IsLow n a → Holds k b a j rest base l lb → Stays cs (st k a b l lb) → Together cs j a rest base l lb
together [] n room k b j a rest base l q lb is low h s = (tt, refl)
together (c ∷ cs) n room k b j a rest base l q lb is low h s =
    let one = left c k b j a rest base l q lb is h s.0 s.1 in
    let to = arrives c n (omega arith) a low one.safe in
    let long : Front (carry c) a to.0 = carried_front c a [] to.0 (ap (carry c) (append-nil a) ∙ to.1) in
    let line : Front (carry c) l to.0 = carried_front c l q to.0 (ap (carry c) (sym is) ∙ to.1) in
    let same : length to.0 ≡ length a = ap length (same_arrival (carry c a) long.to to.0 long.carried to.1) ∙ long.same in
    let inner : carry c (a ++ rest) ≡ Some (to.0 ++ rest) = one.along ∙ ap (option_map (λ x. x ++ rest)) to.1 in
    let next = together cs (n + 1) (omega arith) k b j to.0 rest base line.to line.rest lb line.whole to.2 (holds_as_long k b a to.0 l line.to j rest base lb same h) (stays_at cs k b (carry c a) (carry c l) to.0 line.to lb to.1 line.carried s.2) in (
      (one.not_gone, one.not_changed, stays_from cs j base (carry c (a ++ rest)) (carry c l) (to.0 ++ rest) line.to lb inner line.carried next.0),
      ap (option_and_then (carried cs)) inner ∙ next.1 ∙ ap (λ o. option_map (λ x. x ++ rest) (option_and_then (carried cs) o)) (sym to.1),
    )
  where
    same_arrival : (o : Option Address) (x y : Address) → o ≡ Some x → o ≡ Some y → y ≡ x
    same_arrival o x y e f = cc
