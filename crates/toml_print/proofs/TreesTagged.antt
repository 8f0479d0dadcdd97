-- The tagged JSON of a tree, and the tree of tagged JSON.
use Rattle.std.proofs.Common.{◌≡◌, ◌+◌, ℕ, Bool, true, false, List, ◌∷◌, ◌++◌, Contains, refl, sym, ap, ◌∙◌, subst, inl, inr, nat_cmp}
use Rattle.std.specs.Cmp.Lexicographic.{slice_cmp}
use Rattle.std.specs.List.Sorted.{IsStrictlySortedBy}
use Rattle.json.specs.Print.{quoted}
use Rattle.serde_json.specs.Data as json
use Rattle.serde_json.specs.Written.{comma_if, compact_text, items_text, members_text}
use Rattle.toml_names.specs.declared.model.address.Step.TheVariants.{Name, Index}
use Rattle.toml_names.specs.model.Data.{Kinds}
use Rattle.toml_print.specs.JsonTexts.{tagged, tagged_items, tagged_members, tagged_scalar, text_with, items_with, members_with}
use Rattle.toml_print.specs.Laws.{TreeIsTagged}
use Rattle.toml_print.specs.Tagged as json_is
use Rattle.toml_print.specs.Tagged.{IsTagged, HasKeys, keys, part}
use Rattle.toml_print.specs.TaggedText.{WritesTagged}
use Rattle.toml_print.specs.Trees.{Tree, scalar, array, table, Items, no_items, item, Members, no_members, member, names, AreNames, IsTreeOf, AreItems, AreMembers}
use Rattle.toml_print.specs.Writing.{Writes}

same_keys : (ms : Members) → keys (tagged_members ms) ≡ names ms
same_keys no_members = refl
same_keys (member n t ms) = ap (λ ns. n ∷ ns) (same_keys ms)

named_keys : (f : Kinds) (ms : Members) → AreNames f (names ms) → HasKeys f (tagged_members ms)
named_keys f ms are = record {
  each = λ n some. subst (λ (ks : List (List ℕ)). Contains ks n) (sym (same_keys ms)) (are.each n some);
  ascending = subst (IsStrictlySortedBy (slice_cmp nat_cmp)) (sym (same_keys ms)) are.ascending;
}

keyed_names : (f : Kinds) (ms : Members) → HasKeys f (tagged_members ms) → AreNames f (names ms)
keyed_names f ms has = record {
  each = λ n some. subst (λ (ks : List (List ℕ)). Contains ks n) (same_keys ms) (has.each n some);
  ascending = subst (IsStrictlySortedBy (slice_cmp nat_cmp)) (same_keys ms) has.ascending;
}

mutual
  is_tagged : (t : Tree) (f : Kinds) → IsTreeOf f t → IsTagged f (tagged t)
  is_tagged (scalar v) f is = inr (v, is, refl)
  is_tagged (array ts) f is = (is.0, are_tagged ts f 0 is.1)
  is_tagged (table ms) f is = inl (is.0, members_are_tagged ms f is.1, named_keys f ms is.2)

  are_tagged : (ts : Items) (f : Kinds) (i : ℕ) → AreItems f i ts → json_is.AreItems f i (tagged_items ts)
  are_tagged no_items f i is = is
  are_tagged (item t ts) f i is = (is_tagged t (part f (Index i)) is.0, are_tagged ts f (i + 1) is.1)

  members_are_tagged : (ms : Members) (f : Kinds) → AreMembers f ms → json_is.AreMembers f (tagged_members ms)
  members_are_tagged no_members f is = tt
  members_are_tagged (member n t ms) f is = (is_tagged t (part f (Name n)) is.0, members_are_tagged ms f is.1)

pub tree_is_tagged : TreeIsTagged
tree_is_tagged f t is = is_tagged t f is

mutual
  pub tree_of : (j : json.Data) (f : Kinds) → IsTagged f j → (t : Tree) × IsTreeOf f t × (j ≡ tagged t)
  tree_of json.null f is = absurd is
  tree_of (json.boolean b) f is = absurd is
  tree_of (json.number n) f is = absurd is
  tree_of (json.string s) f is = absurd is
  tree_of (json.array ds) f is = let r = items_of ds f 0 is.1 in (array r.0, (is.0, r.1), ap json.array r.2)
  tree_of (json.object ms) f (inl is) =
      let r = members_of ms f is.1 in
      (table r.0, (is.0, r.1, keyed_names f r.0 (subst (HasKeys f) r.2 is.2)), ap json.object r.2)
  tree_of (json.object ms) f (inr is) = (scalar is.0, is.1, ap json.object is.2)

  items_of : (ds : json.Items) (f : Kinds) (i : ℕ) → json_is.AreItems f i ds → (ts : Items) × AreItems f i ts × (ds ≡ tagged_items ts)
  items_of json.no_items f i is = (no_items, is, refl)
  items_of (json.item d ds) f i is =
      let first = tree_of d (part f (Index i)) is.0 in
      let more = items_of ds f (i + 1) is.1 in
      (item first.0 more.0, (first.1, more.1), ap (λ j. json.item j ds) first.2 ∙ ap (json.item (tagged first.0)) more.2)

  members_of : (ms : json.Members) (f : Kinds) → json_is.AreMembers f ms → (ts : Members) × AreMembers f ts × (ms ≡ tagged_members ts)
  members_of json.no_members f is = (no_members, tt, refl)
  members_of (json.member k d ms) f is =
      let first = tree_of d (part f (Name k)) is.0 in
      let more = members_of ms f is.1 in
      (member k first.0 more.0, (first.1, more.1), ap (λ j. json.member k j ms) first.2 ∙ ap (json.member k (tagged first.0)) more.2)

mutual
  -- the text of the tagged JSON is that of the tree in which scalars are told so
  pub tagged_text_is : (t : Tree) → compact_text (tagged t) ≡ text_with tagged_scalar t
  tagged_text_is (scalar v) = refl
  tagged_text_is (array ts) = ap (λ s. 0x5B ∷ s) (items_text_is ts false)
  tagged_text_is (table ms) = ap (λ s. 0x7B ∷ s) (members_text_is ms false)

  items_text_is : (ts : Items) (later : Bool) → items_text later (tagged_items ts) ≡ items_with tagged_scalar later ts
  items_text_is no_items later = refl
  items_text_is (item t ts) later =
      ap (λ s. comma_if later ++ (s ++ items_text true (tagged_items ts))) (tagged_text_is t)
      ∙ ap (λ s. comma_if later ++ (text_with tagged_scalar t ++ s)) (items_text_is ts true)

  members_text_is : (ms : Members) (later : Bool) → members_text later (tagged_members ms) ≡ members_with tagged_scalar later ms
  members_text_is no_members later = refl
  members_text_is (member n t ms) later =
      ap (λ s. comma_if later ++ (quoted n ++ 0x3A ∷ (s ++ members_text true (tagged_members ms)))) (tagged_text_is t)
      ∙ ap (λ s. comma_if later ++ (quoted n ++ 0x3A ∷ (text_with tagged_scalar t ++ s))) (members_text_is ms true)

pub writes_tagged : (f : Kinds) (old new : List ℕ) → Writes tagged_scalar f old new → WritesTagged f old new
writes_tagged f old new w = record {
  json = tagged w.tree;
  tagged = is_tagged w.tree f w.of_data;
  is = w.is ∙ ap (λ s. old ++ s) (sym (tagged_text_is w.tree));
}
