-- The array or the inline table that holds what the steps name, in what stands around it.
use Rattle.std.proofs.Common.{◌≡◌, ◌∙◌, ℕ, zero, suc, Bool, true, false, ◌&&◌, cond, Option, Some, None, [], ◌∷◌, ◌++◌, map, length, drop, refl, sym, ap, subst, append_assoc}
use Rattle.std.proofs.lemmas.Bool.{true≢false}
use Rattle.std.proofs.lemmas.Option.{none-some, same_Some}
use Rattle.toml_names.specs.declared.model.address.Step.{Step}
use Rattle.toml_names.specs.declared.model.address.Step.TheVariants.{Name, Index}
use Rattle.toml_names.specs.mentions.Keys.{Key}
use Rattle.toml_names.specs.model.Addresses.{Address}
use Rattle.toml_names.proofs.Proved.{same_step-self}
use Rattle.toml_layout.specs.declared.tree.Value.{Value}
use Rattle.toml_layout.specs.Holding.{HolderChange, ChangesHolder, HoldsEntry, HoldsIn}
use Rattle.toml_layout.specs.Holders.{has_holder}
use Rattle.toml_layout.specs.Leading.{LeadsOn, first_index, key_in, leads, led_by, value_in, with_value}
use Rattle.toml_layout.specs.OpenOutlines.{Enclosed, value}
use Rattle.toml_layout.specs.Outlines.{ValueOutline, Listed, Braced, EntriesOutline, End, Entry}
use Rattle.toml_layout.specs.SetOutlines.{outlined_names}
use Rattle.toml_layout.specs.SettingIn.{SetsEntry, SetsIn}
use Rattle.toml_layout.proofs.Holders.{element_none, element_there, list_has, pair_there, parent_is, steps_there, table_has}
use Rattle.toml_layout.proofs.RenameInside.{leads_longer}
use Rattle.toml_layout.proofs.SetInside.{apart_in, has_value, led_at, led_on, list_set, set_here, table_set}

-- ---- the entry that leads on

-- with its own value it is as it was
own_value : (es : EntriesOutline) (i : ℕ) (v : ValueOutline) → value_in es i ≡ Some v → with_value es i v ≡ es
own_value (End gap) i v has = absurd (none-some v has)
own_value (Entry before a u after es) zero v has = ap (λ w. Entry before a w after es) (sym (same_Some u v has))
own_value (Entry before a u after es) (suc i) v has = ap (Entry before a u after) (own_value es i v has)

abbrev pub with_entry : Enclosed → ℕ → ValueOutline → Enclosed
with_entry old i w = record { opening = old.opening; entries = with_value old.entries i w }

-- what is set in it is set in the entries
one_entry : (to : Address) (x : ValueOutline) (i : ℕ) (v w : ValueOutline) (old : Enclosed) → value_in old.entries i ≡ Some v → SetsIn to x v w true
    → SetsEntry i to x old (with_entry old i w) true
one_entry to x i v w old has sets = record {
  found = λ u there. (w, subst (λ y. SetsIn to x y w true) (same_Some v u (sym has ∙ there)) sets, refl);
  missing = λ none. absurd (none-some v (sym none ∙ has));
}

-- the value that holds what the steps name, and what stands there now, is found by the steps to the entry and those behind
module _ (makes : HolderChange) (steps front : Address) (i : ℕ) (whole : Enclosed → ValueOutline) (old now : Enclosed) (v w : ValueOutline)
    (has : value_in old.entries i ≡ Some v)
    (sets : (to : Address) (x u : ValueOutline) → SetsEntry i to x old (with_entry old i u) true
    → SetsIn (front ++ to) x (whole old) (whole (with_entry old i u)) true) where
  further : (rest : Address) → steps ≡ front ++ rest → now ≡ with_entry old i w → ChangesHolder SetsIn makes rest v w
      → ChangesHolder SetsIn makes steps (whole old) (whole now)
  further rest way same h = record {
    to = front ++ h.to;
    rest = h.rest;
    split = way ∙ ap (λ s. front ++ s) h.split ∙ sym (append_assoc front h.to h.rest);
    was = h.was;
    other = h.other;
    stood = subst (λ e. SetsIn (front ++ h.to) (value h.was) (whole old) (whole e) true)
        (ap (λ (es : EntriesOutline). record old { entries = es }) (own_value old.entries i v has))
        (sets h.to (value h.was) v (one_entry h.to (value h.was) i v v old has h.stood));
    stands = subst (λ e. SetsIn (front ++ h.to) (value h.other) (whole old) (whole e) true) (sym same)
        (sets h.to (value h.other) w (one_entry h.to (value h.other) i v w old has h.stands));
    made = h.made;
  }

-- where its value stays all do
entry_stays : (old now : Enclosed) (i : ℕ) (v w : ValueOutline) → value_in old.entries i ≡ Some v → now ≡ with_entry old i w → w ≡ v → now ≡ old
entry_stays old now i v w has same is = same ∙ ap (with_entry old i) is ∙ ap (λ (es : EntriesOutline). record old { entries = es }) (own_value old.entries i v has)

-- ---- elements

abbrev pub listed : Enclosed → ValueOutline
listed e = Listed e.opening e.entries

abbrev pub braced : Enclosed → ValueOutline
braced e = Braced e.opening e.entries

pub list_holds : (makes : HolderChange) (steps : Address) (i : ℕ) (old now : Enclosed) (done : Bool) → steps ≡ Index i ∷ drop 1 steps → ¬ (drop 1 steps ≡ [])
    → HoldsEntry i (drop 1 steps) makes old now done → HoldsIn steps makes (Listed old.opening old.entries) (Listed now.opening now.entries) done
list_holds makes steps i old now done led some changes = by (value_in old.entries i) refl
  where
    by : (o : Option ValueOutline) → value_in old.entries i ≡ o → HoldsIn steps makes (listed old) (listed now) done
    by None none =
        let (same, off) = changes.missing none in
        let lacks = list_has old.opening old.entries i steps (drop 1 steps) led some ∙ element_none old.entries i (drop 1 steps) none in
        record { made = λ made. absurd (true≢false (sym made ∙ off)); stays = λ not. ap listed same; tells = λ apart. off ∙ sym lacks }
    by (Some v) has =
        let (w, inner, same) = changes.found v has in
        let there = list_has old.opening old.entries i steps (drop 1 steps) led some ∙ element_there old.entries i v (drop 1 steps) has in
        record {
          made = λ made. further makes steps (Index i ∷ []) i listed old now v w has
              (λ to x u sets. list_set (Index i ∷ to) i x old (with_entry old i u) true refl sets)
              (drop 1 steps) led same (inner.made made);
          stays = λ not. ap listed (entry_stays old now i v w has same (inner.stays not));
          tells = λ apart. inner.tells (apart_in old.entries i v apart has) ∙ sym there;
        }

-- ---- pairs

pub drop_front : (k : Key) (to : Address) → drop (length k) (map Name k ++ to) ≡ to
drop_front [] to = refl
drop_front (n ∷ k) to = drop_front k to

pub leads_front : (k : Key) (to : Address) → leads k (map Name k ++ to) ≡ true
leads_front [] to = refl
leads_front (n ∷ k) to = ap (λ b. b && leads k (map Name k ++ to)) (same_step-self (Name n)) ∙ leads_front k to

-- a key has a name
key_some : (es : EntriesOutline) (i : ℕ) (k : Key) → key_in es i ≡ Some k → ¬ (k ≡ [])
key_some (End gap) i k is e = absurd (none-some k is)
key_some (Entry before None v after es) zero k is e = absurd (none-some k is)
key_some (Entry before (Some a) v after es) zero k is e = let same : outlined_names a ≡ [] = same_Some (outlined_names a) k is ∙ e in cc
key_some (Entry before a v after es) (suc i) k is e = key_some es i k is e

steps_some : (k : Key) (to : Address) → ¬ (k ≡ []) → ¬ (map Name k ++ to ≡ [])
steps_some [] to some e = some refl
steps_some (n ∷ k) to some e = cc

pub table_holds : (makes : HolderChange) (steps parent : Address) (last : Step) (i used : ℕ) (old now : Enclosed) (done : Bool) → steps ≡ parent ++ last ∷ []
    → LeadsOn old.entries parent (Some (i, used)) → HoldsEntry i (drop used steps) makes old now done
    → HoldsIn steps makes (Braced old.opening old.entries) (Braced now.opening now.entries) done
table_holds makes steps parent last i used old now done split leading changes =
    let (k, key, long, led) = led_at (key_in old.entries i) parent used leading in
    let (v, has) = has_value old.entries i k key in
    let (w, inner, same) = changes.found v has in
    let longer = subst (λ s. leads k s ≡ true) (sym split) (leads_longer k parent last led) in
    let way : map Name k ++ drop used steps ≡ steps = subst (λ n. map Name k ++ drop n steps ≡ steps) long (led_on k steps longer) in
    let parent_led = subst (λ s. leads k s ≡ true) (sym (parent_is steps parent last split)) led in
    let some = steps_there steps parent last split in
    record {
      made = λ made. further makes steps (map Name k) i braced old now v w has
          (λ to x u sets. table_set (map Name k ++ to) i used x old (with_entry old i u) true (steps_some k to (key_some old.entries i k key))
          (ap (λ o. led_by o (map Name k ++ to)) key ∙ ap (λ b. cond b (Some (length k)) None) (leads_front k to) ∙ ap Some long)
          (subst (λ s. SetsEntry i s x old (with_entry old i u) true) (sym (ap (λ n. drop n (map Name k ++ to)) (sym long) ∙ drop_front k to)) sets))
          (drop used steps) (sym way) same (inner.made made);
      stays = λ not. ap braced (entry_stays old now i v w has same (inner.stays not));
      tells = λ apart. inner.tells (apart_in old.entries i v apart.1 has) ∙ ap (λ n. has_holder v (drop n steps)) (sym long)
          ∙ sym (table_has old.opening old.entries steps some ∙ pair_there old.entries i k v steps apart.0 key parent_led has);
    }

-- ---- the value itself

pub held_here : (makes : HolderChange) (steps : Address) (was other : Value) → has_holder (value was) steps ≡ true → makes steps was other
    → HoldsIn steps makes (value was) (value other) true
held_here makes steps was other there makes_it = record {
  made = λ made. record {
    to = [];
    rest = steps;
    split = refl;
    was = was;
    other = other;
    stood = set_here (value was) (value was);
    stands = set_here (value other) (value was);
    made = makes_it;
  };
  stays = λ not. absurd (true≢false not);
  tells = λ apart. sym there;
}

-- nothing holds it
pub not_held : (makes : HolderChange) (steps : Address) (v : ValueOutline) → has_holder v steps ≡ false → HoldsIn steps makes v v false
not_held makes steps v lacks = record { made = λ made. absurd (true≢false (sym made)); stays = λ not. refl; tells = λ apart. sym lacks }

-- the one step that is left
pub one_step : (steps parent : Address) (last : Step) (i : ℕ) → steps ≡ parent ++ last ∷ [] → parent ≡ [] → first_index steps ≡ Some i → steps ≡ Index i ∷ []
one_step steps parent last i split none first =
    let one : steps ≡ last ∷ [] = split ∙ ap (λ p. p ++ last ∷ []) none in
    one ∙ ap (λ s. s ∷ []) (by last (ap first_index (sym one) ∙ first))
  where
    by : (s : Step) → first_index (s ∷ []) ≡ Some i → s ≡ Index i
    by (Name n) e = absurd (none-some i e)
    by (Index j) e = ap Index (same_Some j i e)
