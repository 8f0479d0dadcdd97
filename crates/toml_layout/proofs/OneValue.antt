-- What an `insert` and a `remove` make of a value whose keys are apart is one: they lead to one array or inline table.
use Rattle.std.proofs.Common.{◌≡◌, ◌∙◌, ◌⊎◌, ℕ, zero, suc, true, false, ◌&&◌, Some, None, List, [], ◌∷◌, ◌++◌, All, map, length, drop, inl, inr, refl, ap, ap₂, sym, subst, subst₂}
use Rattle.std.proofs.lemmas.Bool.{true≢false}
use Rattle.std.proofs.lemmas.Option.{none-some, same_Some}
use Rattle.toml_names.specs.declared.model.address.Step.{Step}
use Rattle.toml_names.specs.declared.model.address.Step.TheVariants.{Name, Index}
use Rattle.toml_names.specs.mentions.Keys.{Key}
use Rattle.toml_names.specs.model.Addresses.{Address, same_step}
use Rattle.toml_names.proofs.Proved.{same_step-self}
use Rattle.toml_layout.specs.declared.tree.Value.{Value}
use Rattle.toml_layout.specs.Apart.{EachApart, HasKeysApart, KeysApart, begins_key, keys_of}
use Rattle.toml_layout.specs.Holding.{ChangesHolder, HolderChange}
use Rattle.toml_layout.specs.Leading.{LeadsOn, key_in, leads, led_by, value_in}
use Rattle.toml_layout.specs.OpenOutlines.{Enclosed, value}
use Rattle.toml_layout.specs.Outlines.{ValueOutline, Token, Listed, Braced, EntriesOutline, End, Entry}
use Rattle.toml_layout.specs.SetOutlines.{outlined_names}
use Rattle.toml_layout.specs.SettingIn.{SetsIn}
use Rattle.toml_layout.proofs.SetInside.{key_each, not_both, not_led, set_here, token_kept}
use Rattle.toml_layout.proofs.SameParts.{same_head, same_tail}
use Rattle.toml_layout.proofs.Small.{each_of_all}
use Rattle.toml_layout.proofs.HeldEntries.{IsHere, IsInEntry, braced_entries, enclosed, list_view, one_set, some_steps, table_view}
use Rattle.toml_layout.proofs.HeldInside.{braced, drop_front, leads_front, listed, with_entry}

-- ---- one holder

-- an array that the last step leads into, or a table of which no pair leads on
abbrev pub IsHolder : Address → ValueOutline → Type 0
IsHolder steps v =
    ((opening : List ℕ) × (es : EntriesOutline) × (i : ℕ) × (v ≡ Listed opening es) × (steps ≡ Index i ∷ []))
    ⊎ ((opening : List ℕ) × (es : EntriesOutline) × (parent : Address) × (last : Step) × (v ≡ Braced opening es) × (steps ≡ parent ++ last ∷ []) × LeadsOn es parent None)

holder_some : (steps : Address) (v : ValueOutline) → IsHolder steps v → ¬ (steps ≡ [])
holder_some steps v (inl (opening, es, i, is, at)) none = some_steps (Index i) [] (sym at ∙ none)
holder_some steps v (inr (opening, es, [], last, is, at, leads)) none = some_steps last [] (sym at ∙ none)
holder_some steps v (inr (opening, es, s ∷ parent, last, is, at, leads)) none = some_steps s (parent ++ last ∷ []) (sym at ∙ none)

joined_some : (to rest : Address) → ¬ (rest ≡ []) → ¬ (to ++ rest ≡ [])
joined_some [] rest some none = some none
joined_some (s ∷ to) rest some none = some_steps s (to ++ rest) none

not_token : (text : List ℕ) (steps : Address) → IsHolder steps (Token text) → ⊥
not_token text steps (inl (opening, es, i, is, at)) = let same : Token text ≡ Listed opening es = is in cc
not_token text steps (inr (opening, es, parent, last, is, at, leads)) = let same : Token text ≡ Braced opening es = is in cc

-- what leads to more than one step leads to those before the last
leads_parent : (k : Key) (rest parent : Address) (last : Step) → map Name k ++ rest ≡ parent ++ last ∷ [] → ¬ (rest ≡ []) → leads k parent ≡ true
leads_parent [] rest parent last is some = refl
leads_parent (n ∷ k) rest [] last is some = absurd (joined_some (map Name k) rest some (same_tail (Name n) last (map Name k ++ rest) [] is))
leads_parent (n ∷ k) rest (s ∷ parent) last is some =
    let head : Name n ≡ s = same_head (Name n) s (map Name k ++ rest) (parent ++ last ∷ []) is in
    ap₂ ◌&&◌ (ap (same_step (Name n)) (sym head) ∙ same_step-self (Name n))
    (leads_parent k rest parent last (same_tail (Name n) s (map Name k ++ rest) (parent ++ last ∷ []) is) some)

-- of the keys of a table one leads on
abbrev AreApart : Key → Key → Type 0
AreApart k l = (begins_key k l ≡ false) × (begins_key l k ≡ false)

led_once : (a b : Key) (es : EntriesOutline) (j : ℕ) (steps : Address) → All (AreApart a) (keys_of es) → key_in es j ≡ Some b → leads a steps ≡ true → leads b steps ≡ true → ⊥
led_once a b es j steps apart key one other =
    let both = key_each (AreApart a) es j b (each_of_all (AreApart a) (keys_of es) apart) key in
    true≢false (sym other ∙ not_both a b steps one both.0 both.1)

one_leading : (es : EntriesOutline) (steps : Address) → KeysApart (keys_of es) → (i j : ℕ) (k l : Key) → key_in es i ≡ Some k → key_in es j ≡ Some l
    → leads k steps ≡ true → leads l steps ≡ true → i ≡ j
one_leading (End gap) steps apart i j k l key other one two = absurd (none-some k key)
one_leading (Entry before a v after es) steps apart zero zero k l key other one two = refl
one_leading (Entry before None v after es) steps apart zero (suc j) k l key other one two = absurd (none-some k key)
one_leading (Entry before None v after es) steps apart (suc i) zero k l key other one two = absurd (none-some l other)
one_leading (Entry before None v after es) steps apart (suc i) (suc j) k l key other one two = ap suc (one_leading es steps apart i j k l key other one two)
one_leading (Entry before (Some a) v after es) steps apart zero (suc j) k l key other one two =
    absurd (led_once (outlined_names a) l es j steps apart.0 other (subst (λ n. leads n steps ≡ true) (sym (same_Some (outlined_names a) k key)) one) two)
one_leading (Entry before (Some a) v after es) steps apart (suc i) zero k l key other one two =
    absurd (led_once (outlined_names a) k es i steps apart.0 key (subst (λ n. leads n steps ≡ true) (sym (same_Some (outlined_names a) l other)) two) one)
one_leading (Entry before (Some a) v after es) steps apart (suc i) (suc j) k l key other one two =
    ap suc (one_leading es steps apart.1 i j k l key other one two)

-- a holder has steps left
abbrev pub Holding : HolderChange → Type 0
Holding makes = (steps : Address) (was other : Value) → makes steps was other → IsHolder steps (value was)

held_some : (makes : HolderChange) → Holding makes → (rest : Address) (u w : ValueOutline) → ChangesHolder SetsIn makes rest u w → ¬ (rest ≡ [])
held_some makes holds rest u w h none =
    joined_some h.to h.rest (holder_some h.rest (value h.was) (holds h.rest h.was h.other h.made)) (sym h.split ∙ none)

-- what is held by the value itself is not held in an entry
list_alone : (opening : List ℕ) (es : EntriesOutline) (steps rest : Address) (i : ℕ) → IsHolder steps (Listed opening es) → steps ≡ Index i ∷ rest → ¬ (rest ≡ []) → ⊥
list_alone opening es steps rest i (inl (o, fs, j, is, at)) way some = some (same_tail (Index i) (Index j) rest [] (sym way ∙ at))
list_alone opening es steps rest i (inr (o, fs, parent, last, is, at, leading)) way some = let same : Listed opening es ≡ Braced o fs = is in cc

table_alone : (opening : List ℕ) (es : EntriesOutline) (steps rest : Address) (i : ℕ) (k : Key) → IsHolder steps (Braced opening es) → key_in es i ≡ Some k
    → steps ≡ map Name k ++ rest → ¬ (rest ≡ []) → ⊥
table_alone opening es steps rest i k (inl (o, fs, j, is, at)) key way some = let same : Braced opening es ≡ Listed o fs = is in cc
table_alone opening es steps rest i k (inr (o, fs, parent, last, is, at, leading)) key way some =
    let same : es ≡ fs = braced_entries (enclosed opening es) (enclosed o fs) is in
    let none : led_by (Some k) parent ≡ None = ap (λ o. led_by o parent) (sym (ap (λ es. key_in es i) (sym same) ∙ key)) ∙ leading i in
    true≢false (sym (leads_parent k rest parent last (sym way ∙ at) some) ∙ not_led k parent none)

module _ (makes twin : HolderChange) (holds : Holding makes) (too : Holding twin)
    (one : (steps : Address) (was other same more : Value) → makes steps was other → twin steps same more → value was ≡ value same → value other ≡ value more) where
  abbrev pub AreOne : ValueOutline → Type 0
  AreOne u = (steps : Address) (w z : ValueOutline) → ChangesHolder SetsIn makes steps u w → ChangesHolder SetsIn twin steps u z → w ≡ z

  both_here : (steps : Address) (v now new : ValueOutline) → IsHere makes steps v now → IsHere twin steps v new → now ≡ new
  both_here steps v now new (was, other, is, now_is, made) (same, more, also, new_is, put) =
      now_is ∙ one steps was other same more made put (sym is ∙ also) ∙ sym new_is

  -- in one entry
  both_in : (whole : Enclosed → ValueOutline) (old : Enclosed) (steps : Address) (now new : ValueOutline) (front other : Address) (i j : ℕ) → i ≡ j
      → (rests : (rest more : Address) → steps ≡ front ++ rest → steps ≡ other ++ more → rest ≡ more) → ((u : ValueOutline) → value_in old.entries i ≡ Some u → AreOne u)
      → IsInEntry makes steps whole old now front i → IsInEntry twin steps whole old new other j → now ≡ new
  both_in whole old steps now new front other i j at rests each (rest, u, w, way, has, now_is, h) (more, x, z, back, there, new_is, g) =
      let left : more ≡ rest = sym (rests rest more way back) in
      let same : x ≡ u = same_Some x u (sym there ∙ ap (value_in old.entries) (sym at) ∙ has) in
      let done : w ≡ z = each u has rest w z h (subst₂ (λ r v. ChangesHolder SetsIn twin r v z) left same g) in
      now_is ∙ ap₂ (λ k y. whole (with_entry old k y)) at done ∙ sym new_is

  list_one : (opening : List ℕ) (es : EntriesOutline) → HasKeysApart (Listed opening es) → ((i : ℕ) (u : ValueOutline) → value_in es i ≡ Some u → AreOne u) → AreOne (Listed opening es)
  list_one opening es apart each steps now new h g =
      by (list_view makes steps (enclosed opening es) now apart h) (list_view twin steps (enclosed opening es) new apart g)
    where
      by : IsHere makes steps (Listed opening es) now ⊎ ((i : ℕ) × IsInEntry makes steps listed (enclosed opening es) now (Index i ∷ []) i)
          → IsHere twin steps (Listed opening es) new ⊎ ((i : ℕ) × IsInEntry twin steps listed (enclosed opening es) new (Index i ∷ []) i) → now ≡ new
      by (inl here) (inl there) = both_here steps (Listed opening es) now new here there
      by (inl (was, other, is, now_is, made)) (inr (j, (rest, u, w, way, has, new_is, in_it))) =
          absurd (list_alone opening es steps rest j (subst (IsHolder steps) (sym is) (holds steps was other made)) way (held_some twin too rest u w in_it))
      by (inr (i, (rest, u, w, way, has, now_is, in_it))) (inl (was, other, is, new_is, made)) =
          absurd (list_alone opening es steps rest i (subst (IsHolder steps) (sym is) (too steps was other made)) way (held_some makes holds rest u w in_it))
      by (inr (i, (rest, u, w, way, has, now_is, in_it))) (inr (j, (more, x, z, back, there, new_is, and_it))) =
          let whole : Index i ∷ rest ≡ Index j ∷ more = sym way ∙ back in
          let heads : Index i ≡ Index j = same_head (Index i) (Index j) rest more whole in
          let at : i ≡ j = cc in
          both_in listed (enclosed opening es) steps now new (Index i ∷ []) (Index j ∷ []) i j at
          (λ r s one_way other_way. same_tail (Index i) (Index j) r s (sym one_way ∙ other_way)) (each i) (rest, u, w, way, has, now_is, in_it)
          (more, x, z, back, there, new_is, and_it)

  table_one : (opening : List ℕ) (es : EntriesOutline) → HasKeysApart (Braced opening es) → ((i : ℕ) (u : ValueOutline) → value_in es i ≡ Some u → AreOne u)
      → AreOne (Braced opening es)
  table_one opening es apart each steps now new h g =
      by (table_view makes steps (enclosed opening es) now apart h) (table_view twin steps (enclosed opening es) new apart g)
    where
      by : IsHere makes steps (Braced opening es) now
          ⊎ ((i : ℕ) × (k : Key) × (key_in es i ≡ Some k) × IsInEntry makes steps braced (enclosed opening es) now (map Name k) i)
          → IsHere twin steps (Braced opening es) new
          ⊎ ((i : ℕ) × (k : Key) × (key_in es i ≡ Some k) × IsInEntry twin steps braced (enclosed opening es) new (map Name k) i) → now ≡ new
      by (inl here) (inl there) = both_here steps (Braced opening es) now new here there
      by (inl (was, other, is, now_is, made)) (inr (j, k, key, (rest, u, w, way, has, new_is, in_it))) =
          absurd (table_alone opening es steps rest j k (subst (IsHolder steps) (sym is) (holds steps was other made)) key way (held_some twin too rest u w in_it))
      by (inr (i, k, key, (rest, u, w, way, has, now_is, in_it))) (inl (was, other, is, new_is, made)) =
          absurd (table_alone opening es steps rest i k (subst (IsHolder steps) (sym is) (too steps was other made)) key way (held_some makes holds rest u w in_it))
      by (inr (i, k, key, (rest, u, w, way, has, now_is, in_it))) (inr (j, l, name, (more, x, z, back, there, new_is, and_it))) =
          let led : leads k steps ≡ true = ap (leads k) way ∙ leads_front k rest in
          let also : leads l steps ≡ true = ap (leads l) back ∙ leads_front l more in
          let at = one_leading es steps apart.0 i j k l key name led also in
          let names : k ≡ l = same_Some k l (sym key ∙ ap (key_in es) at ∙ name) in
          both_in braced (enclosed opening es) steps now new (map Name k) (map Name l) i j at
          (λ r s one_way other_way.
          sym (drop_front k r) ∙ ap (drop (length k)) (sym one_way ∙ other_way) ∙ ap (λ n. drop (length n) (map Name l ++ s)) names ∙ drop_front l s)
          (each i) (rest, u, w, way, has, now_is, in_it) (more, x, z, back, there, new_is, and_it)

  token_one : (text : List ℕ) → AreOne (Token text)
  token_one text steps now new h g = by h.to refl
    where
      by : (to : Address) → h.to ≡ to → now ≡ new
      by [] is =
          let was = one_set [] (value h.was) (Token text) (Token text) (value h.was) true true tt
          (subst (λ a. SetsIn a (value h.was) (Token text) (Token text) true) is h.stood) (set_here (value h.was) (Token text)) in
          absurd (not_token text h.rest (subst (IsHolder h.rest) (sym was.0) (holds h.rest h.was h.other h.made)))
      by (s ∷ to) is =
          absurd (true≢false (one_set (s ∷ to) (value h.was) (Token text) (Token text) (Token text) true false tt
          (subst (λ a. SetsIn a (value h.was) (Token text) (Token text) true) is h.stood) (token_kept (s ∷ to) (value h.was) text (some_steps s to))).1)

  mutual
    pub held_one : (v : ValueOutline) → HasKeysApart v → AreOne v
    held_one (Token text) apart = token_one text
    held_one (Listed opening es) apart = list_one opening es apart (each_one es apart)
    held_one (Braced opening es) apart = table_one opening es apart (each_one es apart.1)

    each_one : (es : EntriesOutline) → EachApart es → (i : ℕ) (u : ValueOutline) → value_in es i ≡ Some u → AreOne u
    each_one (End gap) apart i u has = absurd (none-some u has)
    each_one (Entry before a v after es) apart zero u has = subst AreOne (same_Some v u has) (held_one v apart.0)
    each_one (Entry before a v after es) apart (suc i) u has = each_one es apart.1 i u has
