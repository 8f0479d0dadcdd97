-- The turns of the loops that write the tokens of JSON.
use Rattle.std.proofs.Common.{◌≡◌, ◌<◌, ◌≤◌, ◌+◌, ◌-◌, ◌*◌, ℕ, suc, List, [], ◌∷◌, ◌++◌, length, get_or, take, map, Option, Some, None, Ok, Contains, option_map, slice_get, Bor, refl, sym, ap, ◌∙◌, subst, arith, append_assoc, nat_cmp}
use Rattle.std.proofs.Math.Path.{fun_ext}
use Rattle.std.proofs.lemmas.List.{append-nil, map-append, take_all, take_more, length-map, get_or-map}
use Rattle.std.proofs.lemmas.Map.Made.{keys_of-map_values}
use Rattle.std.proofs.lemmas.Option.{slice_get-map, slice_get-get_or}
use Rattle.std.specs.Cmp.Lexicographic.{slice_cmp}
use Rattle.std.specs.List.Sorted.{IsStrictlySortedBy}
use Rattle.std.specs.Map.{keys_of}
use Rattle.json.specs.Token.{Token, begin_array, begin_object, end_array, end_object, key}
use Rattle.json.specs.Written.{Written, Writes}
use Rattle.toml_scalar.specs.Values.{ScalarValue}
use Rattle.toml_names.specs.declared.model.address.Step.TheVariants.{Name, Index}
use Rattle.toml_names.specs.mentions.Mentions.{a_scalar, an_array, a_table}
use Rattle.toml_names.specs.model.Addresses.{Address}
use Rattle.toml_names.specs.model.Data.{Kinds, within}
use Rattle.toml_names.specs.tree.Held.{below_in}
use Rattle.toml_names.specs.reader.Parts as parts
use Rattle.toml_names.specs.reader.Parts.{IsPart, part_kinds, plain_members}
use Rattle.toml_names.specs.tree.Nodes.{Spot}
use Rattle.toml_print.specs.Tagged.{part}
use Rattle.toml_print.specs.Trees.{Tree, scalar, array, table, Items, no_items, item, Members, no_members, member, names, IsTreeOf, AreItems, AreMembers}
use Rattle.toml_print.specs.Tokens.{WritesTokens, WritesTree, items_tokens, members_tokens, scalar_tokens, tree_tokens}
use Rattle.toml_print.specs.declared.style.Style.{Style}

-- a scalar
pub scalar_done : (style : Style) (f : Kinds) (v : ScalarValue) (old new : Written) → f [] ≡ Some (a_scalar v) → WritesTokens (scalar_tokens style v) old new → WritesTree style f old new
scalar_done style f v old new here writes = record { tree = scalar v; of_data = here; writes = writes }

-- a token that was written
pub token_written : {E : Type 0} (old new : Written) (t : Token) (u : Unit {0}) → Writes {E = E} (Ok u) old new t → WritesTokens (t ∷ []) old new
token_written old new t u w = (w.room.0, w.ok)

-- trees one behind the other
abbrev pub items_of : List Tree → Items
items_of [] = no_items
items_of (t ∷ ts) = item t (items_of ts)

-- item for item, the tree is that of the data
abbrev pub AreTrees : List Kinds → List Tree → Type 0
AreTrees [] [] = Unit {0}
AreTrees [] (t ∷ ts) = ⊥
AreTrees (f ∷ fs) [] = ⊥
AreTrees (f ∷ fs) (t ∷ ts) = IsTreeOf f t × AreTrees fs ts

-- one more item
AreTrees-push : (fs : List Kinds) (ts : List Tree) (f : Kinds) (t : Tree) → AreTrees fs ts → IsTreeOf f t → AreTrees (fs ++ f ∷ []) (ts ++ t ∷ [])
AreTrees-push [] [] f t h is = (is, tt)
AreTrees-push [] (u ∷ ts) f t h is = absurd h
AreTrees-push (e ∷ fs) [] f t h is = absurd h
AreTrees-push (e ∷ fs) (u ∷ ts) f t h is = (h.0, AreTrees-push fs ts f t h.1 is)

-- The items so far: whatever is to follow them, the tokens so far and those of that are the tokens of all.
pub record AreWritten (style : Style) (fs : List Kinds) (old new : Written) : Type 0 where
  pub items : List Tree
  pub trees : AreTrees fs items
  pub before : new.before ≡ old.before
  pub tokens : (rest : List Tree) → old.tokens ++ tree_tokens style (array (items_of (items ++ rest))) ≡ new.tokens ++ items_tokens style (items_of rest)

pub items_start : (style : Style) (old new : Written) → WritesTokens (begin_array ∷ []) old new → AreWritten style [] old new
items_start style old new opened = record {
  items = [];
  trees = tt;
  before = opened.0;
  tokens = λ rest. sym (append_assoc old.tokens (begin_array ∷ []) (items_tokens style (items_of rest))) ∙ ap (λ ts. ts ++ items_tokens style (items_of rest)) (sym opened.1);
}

item_more : (style : Style) (fs : List Kinds) (f : Kinds) (old now new : Written) → AreWritten style fs old now → WritesTree style f now new → AreWritten style (fs ++ f ∷ []) old new
item_more style fs f old now new t w =
    let j = w.tree in record {
      items = t.items ++ j ∷ [];
      trees = AreTrees-push fs t.items f j t.trees w.of_data;
      before = w.writes.0 ∙ t.before;
      tokens = λ rest.
          ap (λ ts. old.tokens ++ tree_tokens style (array (items_of ts))) (append_assoc t.items (j ∷ []) rest) ∙ t.tokens (j ∷ rest)
          ∙ sym (append_assoc now.tokens (tree_tokens style j) (items_tokens style (items_of rest))) ∙ ap (λ ts. ts ++ items_tokens style (items_of rest)) (sym w.writes.1);
    }

-- from an index on, the items of a list, and nothing behind them
items_listed : (f : Kinds) (fs : List Kinds) (i : ℕ) (ts : List Tree) → ((j : ℕ) (at : Address) → f (Index (i + j) ∷ at) ≡ within (slice_get fs j) at) → AreTrees fs ts → AreItems f i (items_of ts)
items_listed f [] i [] each t = let same : i ≡ i + 0 = omega arith in ap (λ k. f (Index k ∷ [])) same ∙ each 0 []
items_listed f [] i (u ∷ ts) each t = absurd t
items_listed f (g ∷ gs) i [] each t = absurd t
items_listed f (g ∷ gs) i (u ∷ ts) each t =
    let same : i ≡ i + 0 = omega arith in
    let here : part f (Index i) ≡ g = fun_ext (λ at. ap (λ k. f (Index k ∷ at)) same ∙ each 0 at) in (
      subst (λ (k : Kinds). IsTreeOf k u) (sym here) t.0,
      items_listed f gs (i + 1) ts (λ k at. let next : (i + 1) + k ≡ i + suc k = omega arith in ap (λ m. f (Index m ∷ at)) next ∙ each (suc k) at) t.1,
    )

module _ (style : Style) (nodes : List Spot) (id : ℕ) where
  within_is : (o : Option ℕ) (at : Address) → below_in nodes o at ≡ within (option_map (part_kinds nodes) o) at
  within_is None at = refl
  within_is (Some k) at = refl

  pub items_more : (items : List ℕ) (i d : ℕ) (old now new : Written) → i < length items → AreWritten style (map (part_kinds nodes) (take i items)) old now
      → WritesTree style (part_kinds nodes (get_or items i d)) now new → AreWritten style (map (part_kinds nodes) (take (i + 1) items)) old new
  items_more items i d old now new at t w =
      let e = get_or items i d in
      let kinds : map (part_kinds nodes) (take (i + 1) items) ≡ map (part_kinds nodes) (take i items) ++ part_kinds nodes e ∷ [] =
      ap (map (part_kinds nodes)) (take_more items i d at) ∙ map-append (part_kinds nodes) (take i items) (e ∷ []) in
      subst (λ fs. AreWritten style fs old new) (sym kinds) (item_more style (map (part_kinds nodes) (take i items)) (part_kinds nodes e) old now new t w)

  pub items_done : (items : List ℕ) (i : ℕ) (old now new : Written) → part_kinds nodes id [] ≡ Some an_array → parts.AreItems nodes id items → length items ≤ i
      → AreWritten style (map (part_kinds nodes) (take i items)) old now → WritesTokens (end_array ∷ []) now new → WritesTree style (part_kinds nodes id) old new
  items_done items i old now new here are end t closed =
      let all : AreTrees (map (part_kinds nodes) items) t.items = subst (λ front. AreTrees (map (part_kinds nodes) front) t.items) (take_all i items end) t.trees in
      record {
        tree = array (items_of t.items);
        of_data = (
          here,
          items_listed (part_kinds nodes id) (map (part_kinds nodes) items) 0 t.items
              (λ j at. let same : 0 + j ≡ j = omega arith in
              ap (λ k. part_kinds nodes id (Index k ∷ at)) same ∙ are.each j at ∙ within_is (slice_get items j) at ∙ ap (λ (o : Option Kinds). within o at) (sym (slice_get-map (part_kinds nodes) items j))) all,
        );
        writes = (
          closed.0 ∙ t.before,
          closed.1 ∙ (sym (t.tokens []) ∙ ap (λ ts. old.tokens ++ tree_tokens style (array (items_of ts))) (append-nil t.items)),
        );
      }

-- names and what stands at them
abbrev pub Named : Type 0
Named = List ℕ × Kinds

-- names and their trees
abbrev Told : Type 0
Told = List ℕ × Tree

abbrev made : List Told → Members
made [] = no_members
made (m ∷ ms) = member m.0 m.1 (made ms)

-- name for name, the tree is that of what is there
abbrev AreNamed : List Named → List Told → Type 0
AreNamed [] [] = Unit {0}
AreNamed [] (m ∷ ms) = ⊥
AreNamed (e ∷ es) [] = ⊥
AreNamed (e ∷ es) (m ∷ ms) = (m.0 ≡ e.0) × IsTreeOf e.1 m.1 × AreNamed es ms

-- one more member
AreNamed-push : (es : List Named) (ms : List Told) (e : Named) (t : Tree) → AreNamed es ms → IsTreeOf e.1 t → AreNamed (es ++ e ∷ []) (ms ++ (e.0, t) ∷ [])
AreNamed-push [] [] e t h is = (refl, is, tt)
AreNamed-push [] (m ∷ ms) e t h is = absurd h
AreNamed-push (f ∷ es) [] e t h is = absurd h
AreNamed-push (f ∷ es) (m ∷ ms) e t h is = (h.0, h.1, AreNamed-push es ms e t h.2 is)

-- The same of members.
pub record MembersWritten (style : Style) (es : List Named) (old new : Written) : Type 0 where
  pub members : List Told
  pub trees : AreNamed es members
  pub before : new.before ≡ old.before
  pub tokens : (rest : List Told) → old.tokens ++ tree_tokens style (table (made (members ++ rest))) ≡ new.tokens ++ members_tokens style (made rest)

pub members_start : (style : Style) (old new : Written) → WritesTokens (begin_object ∷ []) old new → MembersWritten style [] old new
members_start style old new opened = record {
  members = [];
  trees = tt;
  before = opened.0;
  tokens = λ rest. sym (append_assoc old.tokens (begin_object ∷ []) (members_tokens style (made rest))) ∙ ap (λ ts. ts ++ members_tokens style (made rest)) (sym opened.1);
}

-- a name and a part, and then the rest
member_parts : (now named new : List Token) (t : Token) (part rest : List Token) → named ≡ now ++ t ∷ [] → new ≡ named ++ part → now ++ t ∷ (part ++ rest) ≡ new ++ rest
member_parts now named new t part rest first second = rw (second, first) (simp append_assoc refl)

member_more : (style : Style) (es : List Named) (e : Named) (old now named new : Written) → MembersWritten style es old now → WritesTokens (key e.0 ∷ []) now named
    → WritesTree style e.1 named new → MembersWritten style (es ++ e ∷ []) old new
member_more style es e old now named new t name w =
    let j = w.tree in record {
      members = t.members ++ (e.0, j) ∷ [];
      trees = AreNamed-push es t.members e j t.trees w.of_data;
      before = w.writes.0 ∙ name.0 ∙ t.before;
      tokens = λ rest.
          ap (λ ms. old.tokens ++ tree_tokens style (table (made ms))) (append_assoc t.members ((e.0, j) ∷ []) rest) ∙ t.tokens ((e.0, j) ∷ rest)
          ∙ member_parts now.tokens named.tokens new.tokens (key e.0) (tree_tokens style j) (members_tokens style (made rest)) name.1 w.writes.1;
    }

members_listed : (f : Kinds) (es : List Named) (ms : List Told) → ((i : ℕ) (e : Named) → slice_get es i ≡ Some e → (at : Address) → f (Name e.0 ∷ at) ≡ e.1 at) → AreNamed es ms → AreMembers f (made ms)
members_listed f [] [] each t = tt
members_listed f [] (m ∷ ms) each t = absurd t
members_listed f (e ∷ es) [] each t = absurd t
members_listed f (e ∷ es) (m ∷ ms) each t =
    let here : part f (Name m.0) ≡ e.1 = fun_ext (λ at. ap (λ n. f (Name n ∷ at)) t.0 ∙ each 0 e refl at) in
    (subst (λ (k : Kinds). IsTreeOf k m.1) (sym here) t.1, members_listed f es ms (λ i d is. each (suc i) d is) t.2)

names_made : (es : List Named) (ms : List Told) → AreNamed es ms → names (made ms) ≡ keys_of es
names_made [] [] t = refl
names_made [] (m ∷ ms) t = absurd t
names_made (e ∷ es) [] t = absurd t
names_made (e ∷ es) (m ∷ ms) t = ap (λ k. k ∷ names (made ms)) t.0 ∙ ap (λ ks. e.0 ∷ ks) (names_made es ms t.2)

-- a name's bytes, and the part
abbrev plain : Bor (List ℕ) × ℕ → List ℕ × ℕ
plain e = (e.0.now, e.1)

-- what stands at the names of members
abbrev pub named_kinds : List Spot → List (List ℕ × ℕ) → List Named
named_kinds nodes = map (λ e. (e.0, part_kinds nodes e.1))

module _ (style : Style) (nodes : List Spot) (id : ℕ) where
  pub members_more : (members : List (Bor (List ℕ) × ℕ)) (i : ℕ) (d : Bor (List ℕ) × ℕ) (old now named new : Written) → i < length members
      → MembersWritten style (named_kinds nodes (take i (plain_members members))) old now → WritesTokens (key (get_or members i d).0.now ∷ []) now named
      → WritesTree style (part_kinds nodes (get_or members i d).1) named new → MembersWritten style (named_kinds nodes (take (i + 1) (plain_members members))) old new
  members_more members i d old now named new at t name w =
      let e = get_or members i d in
      let all : List (List ℕ × ℕ) = plain_members members in
      let p : List ℕ × ℕ = (e.0.now, e.1) in
      let low : i < length all = omega (arith, at, length-map members plain) in
      let one : get_or all i p ≡ p = get_or-map plain members i d p at in
      let front : take (i + 1) all ≡ take i all ++ p ∷ [] = take_more all i p low ∙ ap (λ x. take i all ++ x ∷ []) one in
      let kinds : named_kinds nodes (take (i + 1) all) ≡ named_kinds nodes (take i all) ++ (e.0.now, part_kinds nodes e.1) ∷ [] =
      ap (named_kinds nodes) front ∙ map-append (λ (x : List ℕ × ℕ). (x.0, part_kinds nodes x.1)) (take i all) (p ∷ []) in
      subst (λ (es : List Named). MembersWritten style es old new) (sym kinds) (member_more style (named_kinds nodes (take i all)) (e.0.now, part_kinds nodes e.1) old now named new t name w)

  -- the part at a member may be written next
  pub member_may : (members : List (Bor (List ℕ) × ℕ)) (i : ℕ) (d : Bor (List ℕ) × ℕ) → parts.AreMembers nodes id (plain_members members) → i < length members
      → (2 * (length nodes - (get_or members i d).1) + 1 < 2 * (length nodes - id)) × IsPart nodes (get_or members i d).1
  member_may members i d are at =
      let e = get_or members i d in
      let there : slice_get (plain_members members) i ≡ Some (e.0.now, e.1) =
      slice_get-map plain members i ∙ ap (option_map plain) (slice_get-get_or members i d at) in
      let b = are.below i (e.0.now, e.1) there in
      (omega (arith, b.later, b.part), b.part)

  named_each : (all : List (List ℕ × ℕ)) → parts.AreMembers nodes id all → (i : ℕ) (e : Named) → slice_get (named_kinds nodes all) i ≡ Some e → (at : Address) → part_kinds nodes id (Name e.0 ∷ at) ≡ e.1 at
  named_each all are i e is = by (slice_get all i) refl (sym (slice_get-map (λ (x : List ℕ × ℕ). (x.0, part_kinds nodes x.1)) all i) ∙ is)
    where
      by : (o : Option (List ℕ × ℕ)) → slice_get all i ≡ o → option_map (λ (x : List ℕ × ℕ). (x.0, part_kinds nodes x.1)) o ≡ Some e → (at : Address) → part_kinds nodes id (Name e.0 ∷ at) ≡ e.1 at
      by None there h = let no : ◌≡◌ {A = Option Named} None (Some e) = h in cc
      by (Some x) there h =
          let same : ◌≡◌ {A = Named} (x.0, part_kinds nodes x.1) e = cc in
          λ at. subst (λ (y : Named). part_kinds nodes id (Name y.0 ∷ at) ≡ y.1 at) same (are.each i x there at)

  pub members_done : (members : List (Bor (List ℕ) × ℕ)) (i : ℕ) (old now new : Written) → part_kinds nodes id [] ≡ Some a_table → parts.AreMembers nodes id (plain_members members)
      → length members ≤ i → MembersWritten style (named_kinds nodes (take i (plain_members members))) old now → WritesTokens (end_object ∷ []) now new → WritesTree style (part_kinds nodes id) old new
  members_done members i old now new here are end t closed =
      let all : List (List ℕ × ℕ) = plain_members members in
      let ms = t.members in
      let past : length all ≤ i = omega (arith, end, length-map members plain) in
      let trees : AreNamed (named_kinds nodes all) ms = subst (λ front. AreNamed (named_kinds nodes front) ms) (take_all i all past) t.trees in
      let same : names (made ms) ≡ keys_of all = names_made (named_kinds nodes all) ms trees ∙ keys_of-map_values (part_kinds nodes) all in
      record {
        tree = table (made ms);
        of_data = (
          here,
          members_listed (part_kinds nodes id) (named_kinds nodes all) ms (named_each all are) trees,
          record {
            each = λ n some. subst (λ (ks : List (List ℕ)). Contains ks n) (sym same) (are.all n some);
            ascending = subst (IsStrictlySortedBy (slice_cmp nat_cmp)) (sym same) are.ascending;
          },
        );
        writes = (
          closed.0 ∙ t.before,
          closed.1 ∙ (sym (t.tokens []) ∙ ap (λ ms. old.tokens ++ tree_tokens style (table (made ms))) (append-nil ms)),
        );
      }
