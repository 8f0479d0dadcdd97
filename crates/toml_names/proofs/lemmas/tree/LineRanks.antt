-- The addresses of lines, by the ranks of their nodes among the first mentions.
use Rattle.toml_names.proofs.Common.{◌≡◌, ℕ, ◌<◌, ◌==◌, ◌&&◌, Bool, true, false, cond, List, [], ◌∷◌, ◌++◌, ◌+◌, length, map, take, Option, Some, None, option_map, slice_get, slice_index_or, refl, sym, ap, subst, ◌∙◌, true≢false, arith, rules, length-map, get_or-map, map-append, take_more, slice_get-get_or, Line, Role, Bare, Address, same_address, Kinds, IsDataOf, fact_at, IsWithin, first_mentions, Joined, mark_from, mark_after, role_after, Named, named, is_mentioned, AreOwnAddresses, is_own, line_address, Spot, address_at, nowhere, IsTreeOf, IsReader, AreNames, ranked, rank_in}
use Rattle.toml_names.proofs.lemmas.mentions.AllLines.{lines_join}
use Rattle.toml_names.proofs.lemmas.model.Equal.{same_address-self}
use Rattle.toml_names.proofs.lemmas.mentions.Offences.{no_misfit}
use Rattle.toml_names.proofs.lemmas.mentions.OfOneKind.{data_by_facts}
use Rattle.toml_names.proofs.lemmas.reader.WholeValue.{root_at}

-- a mark of a mention stays one
mention_after : (q r : Role) → is_mentioned q ≡ true → is_mentioned (role_after q r) ≡ true
mention_after q r h = search rules

mark_from-mention : (ms : List Named) (q : Role) (at : Address) → is_mentioned q ≡ true → mark_from (Some q) ms at ≡ Some Bare → ⊥
mark_from-mention [] q at mention is = let bare : q ≡ Bare = cc in true≢false (sym mention ∙ ap is_mentioned bare)
mark_from-mention (m ∷ ms) q at mention is = by (same_address m.address at) is (mark_from-mention ms (role_after q m.role) at (mention_after q m.role mention)) (mark_from-mention ms q at mention)
  where
    by : (b : Bool) → mark_from (cond b (Some (role_after q m.role)) (Some q)) ms at ≡ Some Bare → (mark_from (Some (role_after q m.role)) ms at ≡ Some Bare → ⊥) → (mark_from (Some q) ms at ≡ Some Bare → ⊥) → ⊥
    by true is marked other = marked is
    by false is marked other = other is

own_after : (r : Role) → is_own r ≡ true → (ms : List Named) (at : Address) (o : Option Role) → mark_from (mark_after o r) ms at ≡ Some Bare → ⊥
own_after r own ms at o is = search (rules, mark_from-mention)

and_second : (x y : Bool) → (x && y) ≡ true → y ≡ true
and_second x y e = search rules

own_mark : (ms : List Named) (o : Option Role) (l : ℕ) (at : Address) → line_address ms l ≡ Some at → mark_from o ms at ≡ Some Bare → ⊥
own_mark [] o l at some is = let h : None ≡ Some at = some in cc
own_mark (m ∷ ms) o l at some is = by (m.line == l && is_own m.role) refl some (own_mark ms (cond (same_address m.address at) (mark_after o m.role) o) l at)
  where
    by : (b : Bool) → (m.line == l && is_own m.role) ≡ b → cond b (Some m.address) (line_address ms l) ≡ Some at
        → (line_address ms l ≡ Some at → mark_from (cond (same_address m.address at) (mark_after o m.role) o) ms at ≡ Some Bare → ⊥) → ⊥
    by true e here more =
        let at_is : m.address ≡ at = cc in
        let same : same_address m.address at ≡ true = ap (same_address m.address) (sym at_is) ∙ same_address-self m.address in
        own_after m.role (and_second (m.line == l) (is_own m.role) e) ms at o (ap (λ b. mark_from (cond b (mark_after o m.role) o) ms at) (sym same) ∙ is)
    by false e there more = more there is

-- a node of a line is no element of a value
pub own_node : (nodes : List Spot) (ms : List Named) (l id : ℕ) (d : Spot) → IsTreeOf nodes ms → id < length nodes → line_address ms l ≡ Some (address_at nodes id)
    → (slice_index_or nodes id d).role ≡ Bare → ⊥
own_node nodes ms l id d stands low is bare = own_mark ms None l (address_at nodes id) is (stands.marks id d low ∙ ap Some bare)

-- the rank of each node that is no element of a value
pub record AreRanks (ranks : List ℕ) (nodes : List Spot) (first : List Address) : Type 0 where
  pub all : length ranks ≡ length nodes
  pub places : (k : ℕ) (d : Spot) → k < length nodes → ((slice_index_or nodes k d).role ≡ Bare → ⊥) → slice_get first (slice_index_or ranks k 0) ≡ Some (address_at nodes k)

pub mapped-more : {X Y : Type 0} (f : X → Y) (xs : List X) (i : ℕ) (d : X) → i < length xs → map f (take i xs) ++ f (slice_index_or xs i d) ∷ [] ≡ map f (take (i + 1) xs)
mapped-more f xs i d low = sym (map-append f (take i xs) (slice_index_or xs i d ∷ [])) ∙ ap (map f) (sym (take_more xs i d low))

-- the ranks of one node more
pub ranks-more : (ranks : List ℕ) (nodes : List (Option ℕ)) (i : ℕ) (d : Option ℕ) → i < length nodes
    → map (rank_in ranks) (take i nodes) ++ rank_in ranks (slice_index_or nodes i d) ∷ [] ≡ map (rank_in ranks) (take (i + 1) nodes)
ranks-more ranks nodes i d low = mapped-more (rank_in ranks) nodes i d low

-- the addresses of the lines' nodes are the lines' own
pub are_own_addresses : (nodes : List Spot) (lines : List Line) (own : List (Option ℕ)) (at : ℕ) → IsReader nodes lines own at → (list : List (Option Address)) → list ≡ map (option_map (address_at nodes)) own → AreOwnAddresses lines list
are_own_addresses nodes lines own at reads list is = subst (AreOwnAddresses lines) (sym is) (record {
  count = length-map own (option_map (address_at nodes)) ∙ reads.own_count;
  each = λ l d low.
      let inside : l < length own = omega (arith, length-map own (option_map (address_at nodes)), low) in
      get_or-map (option_map (address_at nodes)) own l None d inside ∙ reads.owns l None inside;
})

module _ (nodes : List Spot) (lines : List Line) (own : List (Option ℕ)) (at : ℕ) (reads : IsReader nodes lines own at)
    (ranks : List ℕ) (first : List Address) (are : AreRanks ranks nodes first) where
  ranked_is : (node : Option ℕ) (l : ℕ) → IsWithin node nodes → option_map (address_at nodes) node ≡ line_address (named lines) l → ranked first (rank_in ranks node) ≡ line_address (named lines) l
  ranked_is None l within is = is
  ranked_is (Some id) l within is =
      ap (ranked first) (slice_get-get_or ranks id 0 (omega (arith, are.all, within)))
      ∙ are.places id nowhere within (own_node nodes (named lines) l id nowhere reads.stands within (sym is)) ∙ is

  pub owns_ranked : (l : ℕ) (d : Option ℕ) → l < length (map (rank_in ranks) own) → ranked first (slice_index_or (map (rank_in ranks) own) l d) ≡ line_address (named lines) l
  owns_ranked l d low =
      let inside : l < length own = omega (arith, length-map own (rank_in ranks), low) in
      ap (ranked first) (get_or-map (rank_in ranks) own l None d inside) ∙ ranked_is (slice_index_or own l None) l (reads.own_within l None inside) (reads.owns l None inside)

  pub are_names : (kinds : Kinds) → IsDataOf (named lines) kinds → first ≡ first_mentions (named lines) → AreNames nodes lines kinds first (map (rank_in ranks) own)
  are_names kinds facts firsts = search (rules, length-map, owns_ranked)

-- what the finished tree told, as names
module _ (nodes : List Spot) (lines : List Line) (own : List (Option ℕ)) (at : ℕ) (reads : IsReader nodes lines own at) where
  pub joined : Joined (named lines)
  joined = lines_join lines ((no_misfit (named lines)).0 reads.stands.good)

  pub root_facts : (kinds : Kinds) → ((rest : Address) → kinds rest ≡ fact_at (named lines) (address_at nodes 0 ++ rest)) → IsDataOf (named lines) kinds
  root_facts kinds told = data_by_facts (named lines) (named lines) kinds refl joined (λ rest. told rest ∙ ap (λ a. fact_at (named lines) (a ++ rest)) (root_at nodes (named lines) reads.stands))

  pub finished : (kinds : Kinds) (first : List Address) (ranks : List ℕ) (own' : List (Option ℕ))
      → IsDataOf (named lines) kinds → first ≡ first_mentions (named lines) → length ranks ≡ length nodes
      → ((k : ℕ) (d : Spot) → k < length nodes → ((slice_index_or nodes k d).role ≡ Bare → ⊥) → slice_get (first_mentions (named lines)) (slice_index_or ranks k 0) ≡ Some (address_at nodes k))
      → own' ≡ map (rank_in ranks) own → AreNames nodes lines kinds first own'
  finished kinds first ranks own' facts firsts all places is =
      subst (AreNames nodes lines kinds first) (sym is)
      (are_names nodes lines own at reads ranks first (record { all = all; places = λ k d low mention. ap (λ l. slice_get l (slice_index_or ranks k 0)) firsts ∙ places k d low mention }) kinds facts firsts)
