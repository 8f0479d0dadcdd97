-- What holds what steps name is the value itself, or stands in one of its entries.
use Rattle.std.proofs.Common.{◌≡◌, ◌∙◌, ◌⊎◌, ℕ, zero, suc, Bool, true, false, Option, Some, None, List, [], ◌∷◌, ◌++◌, map, drop, inl, inr, refl, ap, sym, subst, append_assoc}
use Rattle.std.proofs.lemmas.Bool.{true≢false}
use Rattle.std.proofs.lemmas.Option.{none-some, same_Some}
use Rattle.std.specs.Prelude.{option_map}
use Rattle.toml_names.specs.declared.model.address.Step.{Step}
use Rattle.toml_names.specs.declared.model.address.Step.TheVariants.{Name, Index}
use Rattle.toml_names.specs.mentions.Keys.{Key}
use Rattle.toml_names.specs.model.Addresses.{Address}
use Rattle.toml_layout.specs.declared.tree.Value.{Value}
use Rattle.toml_layout.specs.Apart.{HasKeysApart}
use Rattle.toml_layout.specs.Holding.{ChangesHolder, HolderChange}
use Rattle.toml_layout.specs.Leading.{LeadsOn, key_in, led_by, value_in, with_value}
use Rattle.toml_layout.specs.OneOutline.{SetIsMade}
use Rattle.toml_layout.specs.OpenOutlines.{Enclosed, value}
use Rattle.toml_layout.specs.Outlines.{ValueOutline, Token, Listed, Braced, EntriesOutline, End, Entry}
use Rattle.toml_layout.specs.SetOutlines.{outlined_names}
use Rattle.toml_layout.specs.SettingIn.{SetsEntry, SetsIn}
use Rattle.toml_layout.proofs.HeldInside.{braced, listed, with_entry}
use Rattle.toml_layout.proofs.SetInside.{has_value, led_at, led_on, list_kept, list_set, set_here, table_kept, table_set, token_kept}

-- ---- a `set` makes one value, and can be made in each

pub one_set : (to : Address) (x old a b : ValueOutline) (d e : Bool) → HasKeysApart old → SetsIn to x old a d → SetsIn to x old b e → (a ≡ b) × (d ≡ e)
one_set to x old a b d e apart one other =
    let here = one apart [] in
    let there = other apart [] in
    (here.0 ∙ sym there.0, here.1 ∙ sym there.1)

abbrev CanSet : Address → ValueOutline → ValueOutline → Type 0
CanSet to x v = (w : ValueOutline) × (done : Bool) × SetsIn to x v w done

entry_set : (i : ℕ) (to : Address) (x v w : ValueOutline) (done : Bool) (old : Enclosed) → value_in old.entries i ≡ Some v → SetsIn to x v w done
    → SetsEntry i to x old (with_entry old i w) done
entry_set i to x v w done old has sets = record {
  found = λ u there. (w, subst (λ y. SetsIn to x y w done) (same_Some v u (sym has ∙ there)) sets, refl);
  missing = λ none. absurd (none-some v (sym none ∙ has));
}

no_entry : (i : ℕ) (to : Address) (x : ValueOutline) (old : Enclosed) → value_in old.entries i ≡ None → SetsEntry i to x old old false
no_entry i to x old none = record { found = λ v has. absurd (none-some v (sym none ∙ has)); missing = λ same. (refl, refl) }

abbrev pub enclosed : List ℕ → EntriesOutline → Enclosed
enclosed opening es = record { opening = opening; entries = es }

-- a pair that leads on is found, or there is none
abbrev IsLed : EntriesOutline → Address → Type 0
IsLed es to = LeadsOn es to None ⊎ ((i : ℕ) × (used : ℕ) × LeadsOn es to (Some (i, used)))

led_further : (before : List _) (a : Option _) (v : ValueOutline) (after : List _) (es : EntriesOutline) (to : Address) (o : Option ℕ)
    → led_by (option_map outlined_names a) to ≡ o → IsLed es to → IsLed (Entry before a v after es) to
led_further before a v after es to (Some used) is rest = inr (zero, used, is)
led_further before a v after es to None is (inr (i, used, leading)) = inr (suc i, used, leading)
led_further before a v after es to None is (inl none) = inl each
  where
    each : (i : ℕ) → led_by (key_in (Entry before a v after es) i) to ≡ None
    each zero = is
    each (suc i) = none i

find_led : (es : EntriesOutline) (to : Address) → IsLed es to
find_led (End gap) to = inl (λ i. refl)
find_led (Entry before a v after es) to = led_further before a v after es to (led_by (option_map outlined_names a) to) refl (find_led es to)

list_can : (x : ValueOutline) (opening : List ℕ) (es : EntriesOutline) (i : ℕ) (to : Address) (o : Option ValueOutline) → value_in es i ≡ o
    → ((v : ValueOutline) → value_in es i ≡ Some v → (steps : Address) → CanSet steps x v) → CanSet (Index i ∷ to) x (Listed opening es)
list_can x opening es i to None none each =
    (Listed opening es, false, list_set (Index i ∷ to) i x (enclosed opening es) (enclosed opening es) false refl (no_entry i to x (enclosed opening es) none))
list_can x opening es i to (Some v) has each =
    let (w, done, sets) = each v has to in
    let old = enclosed opening es in
    (Listed opening (with_value es i w), done, list_set (Index i ∷ to) i x old (with_entry old i w) done refl (entry_set i to x v w done old has sets))

table_can : (x : ValueOutline) (opening : List ℕ) (es : EntriesOutline) (to : Address) → ¬ (to ≡ []) → IsLed es to
    → ((i : ℕ) (v : ValueOutline) → value_in es i ≡ Some v → (steps : Address) → CanSet steps x v) → CanSet to x (Braced opening es)
table_can x opening es to some (inl none) each = (Braced opening es, false, table_kept to x opening es some none)
table_can x opening es to some (inr (i, used, leading)) each =
    let (k, key, long, led) = led_at (key_in es i) to used leading in
    let (v, has) = has_value es i k key in
    let (w, done, sets) = each i v has (drop used to) in
    let old = enclosed opening es in
    (Braced opening (with_value es i w), done, table_set to i used x old (with_entry old i w) done some leading (entry_set i (drop used to) x v w done old has sets))

pub some_steps : (s : Step) (to : Address) → ¬ (s ∷ to ≡ [])
some_steps s to e = cc

mutual
  can_set : (x v : ValueOutline) (to : Address) → CanSet to x v
  can_set x (Token text) [] = (x, true, set_here x (Token text))
  can_set x (Token text) (s ∷ to) = (Token text, false, token_kept (s ∷ to) x text (some_steps s to))
  can_set x (Listed opening es) [] = (x, true, set_here x (Listed opening es))
  can_set x (Listed opening es) (Name n ∷ to) = (Listed opening es, false, list_kept (Name n ∷ to) x opening es (some_steps (Name n) to) refl)
  can_set x (Listed opening es) (Index i ∷ to) = list_can x opening es i to (value_in es i) refl (can_set_in x es i)
  can_set x (Braced opening es) [] = (x, true, set_here x (Braced opening es))
  can_set x (Braced opening es) (s ∷ to) = table_can x opening es (s ∷ to) (some_steps s to) (find_led es (s ∷ to)) (can_set_in x es)

  can_set_in : (x : ValueOutline) (es : EntriesOutline) (i : ℕ) (v : ValueOutline) → value_in es i ≡ Some v → (to : Address) → CanSet to x v
  can_set_in x (End gap) i v has to = absurd (none-some v has)
  can_set_in x (Entry before a u after es) zero v has to = subst (CanSet to x) (same_Some u v has) (can_set x u to)
  can_set_in x (Entry before a u after es) (suc i) v has to = can_set_in x es i v has to

pub set_is_made : SetIsMade
set_is_made to new old = can_set new old to

-- ---- a holder is the value itself, or stands in one of its entries

value_put : (es : EntriesOutline) (i : ℕ) (v w : ValueOutline) → value_in es i ≡ Some v → value_in (with_value es i w) i ≡ Some w
value_put (End gap) i v w has = absurd (none-some v has)
value_put (Entry before a u after es) zero v w has = refl
value_put (Entry before a u after es) (suc i) v w has = value_put es i v w has

-- the steps lead through the entry with the index, of which this is the value
module _ (whole : Enclosed → ValueOutline) (entries_are : (c d : Enclosed) → whole c ≡ whole d → c.entries ≡ d.entries) (old : Enclosed) (i : ℕ) (v : ValueOutline)
    (has : value_in old.entries i ≡ Some v) (apart : HasKeysApart (whole old)) (all to : Address)
    (sets : (x w : ValueOutline) (done : Bool) → SetsEntry i to x old (with_entry old i w) done → SetsIn all x (whole old) (whole (with_entry old i w)) done) where
  set_through : (x now : ValueOutline) → SetsIn all x (whole old) now true → (w : ValueOutline) × SetsIn to x v w true × (now ≡ whole (with_entry old i w))
  set_through x now given =
      let (w, done, made) = can_set x v to in
      let one = one_set all x (whole old) now (whole (with_entry old i w)) true done apart given (sets x w done (entry_set i to x v w done old has made)) in
      (w, subst (λ d. SetsIn to x v w d) (sym one.1) made, one.0)

  set_same : (x : ValueOutline) → SetsIn all x (whole old) (whole old) true → SetsIn to x v v true
  set_same x given =
      let (w, made, is) = set_through x (whole old) given in
      let same : v ≡ w = same_Some v w (sym has ∙ ap (λ es. value_in es i) (entries_are old (with_entry old i w) is) ∙ value_put old.entries i v w has) in
      subst (λ y. SetsIn to x v y true) (sym same) made

  held_through : (makes : HolderChange) (steps : Address) (now : ValueOutline) (h : ChangesHolder SetsIn makes steps (whole old) now) → h.to ≡ all
      → (w : ValueOutline) × ChangesHolder SetsIn makes (to ++ h.rest) v w × (now ≡ whole (with_entry old i w))
  held_through makes steps now h is =
      let stood = subst (λ a. SetsIn a (value h.was) (whole old) (whole old) true) is h.stood in
      let (w, made, put) = set_through (value h.other) now (subst (λ a. SetsIn a (value h.other) (whole old) now true) is h.stands) in (
        w,
        record {
          to = to;
          rest = h.rest;
          split = refl;
          was = h.was;
          other = h.other;
          stood = set_same (value h.was) stood;
          stands = made;
          made = h.made;
        },
        put,
      )

-- it is the value itself
abbrev pub IsHere : HolderChange → Address → ValueOutline → ValueOutline → Type 0
IsHere makes steps v now = (was : Value) × (other : Value) × (v ≡ value was) × (now ≡ value other) × makes steps was other

-- it stands in the entry with the index, to which these steps lead
abbrev pub IsInEntry : HolderChange → Address → (Enclosed → ValueOutline) → Enclosed → ValueOutline → Address → ℕ → Type 0
IsInEntry makes steps whole old now front i = (rest : Address) × (u : ValueOutline) × (w : ValueOutline) × (steps ≡ front ++ rest)
    × (value_in old.entries i ≡ Some u) × (now ≡ whole (with_entry old i w)) × ChangesHolder SetsIn makes rest u w

listed_entries : (c d : Enclosed) → listed c ≡ listed d → c.entries ≡ d.entries
listed_entries c d same = cc

pub braced_entries : (c d : Enclosed) → braced c ≡ braced d → c.entries ≡ d.entries
braced_entries c d same = cc

module _ (makes : HolderChange) (steps : Address) (old : Enclosed) (now : ValueOutline) where
  here_if : (whole : Enclosed → ValueOutline) → HasKeysApart (whole old) → (h : ChangesHolder SetsIn makes steps (whole old) now) → h.to ≡ []
      → IsHere makes steps (whole old) now
  here_if whole apart h none =
      let stood = subst (λ a. SetsIn a (value h.was) (whole old) (whole old) true) none h.stood in
      let stands = subst (λ a. SetsIn a (value h.other) (whole old) now true) none h.stands in
      let was = one_set [] (value h.was) (whole old) (whole old) (value h.was) true true apart stood (set_here (value h.was) (whole old)) in
      let is = one_set [] (value h.other) (whole old) now (value h.other) true true apart stands (set_here (value h.other) (whole old)) in
      (h.was, h.other, was.0, is.0, subst (λ r. makes r h.was h.other) (sym (h.split ∙ ap (λ t. t ++ h.rest) none)) h.made)

  pub list_view : HasKeysApart (listed old) → ChangesHolder SetsIn makes steps (listed old) now
      → IsHere makes steps (listed old) now ⊎ ((i : ℕ) × IsInEntry makes steps listed old now (Index i ∷ []) i)
  list_view apart h = by h.to refl
    where
      never : (to : Address) → h.to ≡ to → SetsIn to (value h.was) (listed old) (listed old) false → ⊥
      never to is kept =
          true≢false (one_set to (value h.was) (listed old) (listed old) (listed old) true false apart
          (subst (λ a. SetsIn a (value h.was) (listed old) (listed old) true) is h.stood) kept).1

      entry : (i : ℕ) (to : Address) → h.to ≡ Index i ∷ to → (o : Option ValueOutline) → value_in old.entries i ≡ o → IsInEntry makes steps listed old now (Index i ∷ []) i
      entry i to is None none =
          absurd (never (Index i ∷ to) is (list_set (Index i ∷ to) i (value h.was) old old false refl (no_entry i to (value h.was) old none)))
      entry i to is (Some u) has =
          let (w, inner, put) = held_through listed listed_entries old i u has apart (Index i ∷ to) to
          (λ x y done sets. list_set (Index i ∷ to) i x old (with_entry old i y) done refl sets) makes steps now h is in
          (to ++ h.rest, u, w, h.split ∙ ap (λ t. t ++ h.rest) is, has, put, inner)

      by : (to : Address) → h.to ≡ to → IsHere makes steps (listed old) now ⊎ ((i : ℕ) × IsInEntry makes steps listed old now (Index i ∷ []) i)
      by [] is = inl (here_if listed apart h is)
      by (Name n ∷ to) is = absurd (never (Name n ∷ to) is (list_kept (Name n ∷ to) (value h.was) old.opening old.entries (some_steps (Name n) to) refl))
      by (Index i ∷ to) is = inr (i, entry i to is (value_in old.entries i) refl)

  pub table_view : HasKeysApart (braced old) → ChangesHolder SetsIn makes steps (braced old) now
      → IsHere makes steps (braced old) now ⊎ ((i : ℕ) × (k : Key) × (key_in old.entries i ≡ Some k) × IsInEntry makes steps braced old now (map Name k) i)
  table_view apart h = by h.to refl
    where
      entry : (s : Step) (to : Address) → h.to ≡ s ∷ to → IsLed old.entries (s ∷ to)
          → (i : ℕ) × (k : Key) × (key_in old.entries i ≡ Some k) × IsInEntry makes steps braced old now (map Name k) i
      entry s to is (inl none) =
          absurd (true≢false (one_set (s ∷ to) (value h.was) (braced old) (braced old) (braced old) true false apart
          (subst (λ a. SetsIn a (value h.was) (braced old) (braced old) true) is h.stood)
          (table_kept (s ∷ to) (value h.was) old.opening old.entries (some_steps s to) none)).1)
      entry s to is (inr (i, used, leading)) =
          let (k, key, long, led) = led_at (key_in old.entries i) (s ∷ to) used leading in
          let (u, has) = has_value old.entries i k key in
          let behind : map Name k ++ drop used (s ∷ to) ≡ s ∷ to = subst (λ n. map Name k ++ drop n (s ∷ to) ≡ s ∷ to) long (led_on k (s ∷ to) led) in
          let (w, inner, put) = held_through braced braced_entries old i u has apart (s ∷ to) (drop used (s ∷ to))
          (λ x y done sets. table_set (s ∷ to) i used x old (with_entry old i y) done (some_steps s to) leading sets) makes steps now h is in
          let way : steps ≡ map Name k ++ (drop used (s ∷ to) ++ h.rest) =
          h.split ∙ ap (λ t. t ++ h.rest) (is ∙ sym behind) ∙ append_assoc (map Name k) (drop used (s ∷ to)) h.rest in
          (i, k, key, (drop used (s ∷ to) ++ h.rest, u, w, way, has, put, inner))

      by : (to : Address) → h.to ≡ to
          → IsHere makes steps (braced old) now ⊎ ((i : ℕ) × (k : Key) × (key_in old.entries i ≡ Some k) × IsInEntry makes steps braced old now (map Name k) i)
      by [] is = inl (here_if braced apart h is)
      by (s ∷ to) is = inr (entry s to is (find_led old.entries (s ∷ to)))
