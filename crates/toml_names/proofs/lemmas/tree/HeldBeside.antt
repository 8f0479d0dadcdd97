-- Whether a tree of names is another one where a set of addresses hides it, and elsewhere has what data tell, level by level.
use Rattle.toml_names.proofs.Common.{◌≡◌, ◌↔◌, ℕ, ◌+◌, ◌<◌, ◌≤◌, Bool, true, false, cond, List, [], ◌∷◌, length, Option, Some, None, IsSome, is_some, IsTrue, refl, sym, ap, subst, ⊎_elim, ◌∙◌, true≢false, none-some, arith, cases_lt, bytes_eq, lookup, slice_get, slice_get_past, slice_index_or, EachIs, Step, Name, Index, Datum, Table, Address, Kinds, kind_at, kind_in, Holds, below_node, below_in, get_by_text, Kind, IsTree, Spot, nowhere}
use Rattle.toml_names.specs.declared.model.address_set.AddressSet.{AddressSet}
use Rattle.toml_names.specs.model.AddressSets.{below, hides, is_hidden, is_whole}
use Rattle.toml_names.specs.tree.EnteringLines.{IsWithin}
use Rattle.toml_names.specs.tree.HeldBeside.{HasMembers, HasNamesOf, HoldElements, HoldNames, HoldsAlone, HoldsBeside, HoldsName, IsHeld, ShowsBehind, kinds_at}
use Rattle.toml_names.specs.tree.SameBelow.{SameElements, SameIn, SameNames, child_of, element_of, step_in}
use Rattle.toml_names.specs.tree.Shown.{IsShownIn}
use Rattle.toml_names.proofs.lemmas.model.Alike.{Each, Entry, each_found, kind_there, part_there}
use Rattle.toml_names.proofs.lemmas.model.Changes.{step_there}
use Rattle.toml_names.proofs.lemmas.model.Levels.{table-member}
use Rattle.toml_names.proofs.lemmas.tree.Alike.{Pairs, some_in, pairs_found}
use Rattle.toml_names.proofs.lemmas.tree.Held.{here, at_name, at_index, there_index, no_longer}
use Rattle.toml_names.proofs.lemmas.tree.NearData.{none_hidden, hidden_below, Members}
use Rattle.toml_names.proofs.lemmas.tree.Shown.{none_shown, nothing_below, bare_below}

-- ---- one step

-- only what the kinds are counts
pub held_same : (nodes : List Spot) (id : Option ℕ) (others : List Spot) (o : Option ℕ) (s : Step) (part : Option AddressSet) (k l : Kinds) → ((at : Address) → k at ≡ l at)
    → IsHeld nodes id others o s part k → IsHeld nodes id others o s part l
held_same nodes id others o s part k l same held at = sym (ap (cond (hides part s at) (below_in others o at)) (same at)) ∙ held at

-- an element itself is not hidden
index_open : (part : Option AddressSet) (i : ℕ) → hides part (Index i) [] ≡ false
index_open None i = refl
index_open (Some t) i = refl

-- where nothing stands at a step nothing stands below it
none_at : (d : Datum) (s : Step) (at : Address) → (IsSome (kind_at d (s ∷ [])) → ⊥) → kind_at d (s ∷ at) ≡ None
none_at d s at not = by (kind_at d (s ∷ at)) refl
  where
    by : (k : Option Kind) → kind_at d (s ∷ at) ≡ k → kind_at d (s ∷ at) ≡ None
    by None is = is
    by (Some k) is = absurd (not (step_there d s at (ap is_some is)))

step_across : (others : List Spot) → IsTree others → (o : Option ℕ) → IsWithin o others → (s : Step) (at : Address) → below_in others o (s ∷ at) ≡ below_in others (step_in others o s) at
step_across others tree None within s at = refl
step_across others tree (Some k) within (Name n) at = at_name others tree k within n at
step_across others tree (Some k) within (Index i) at = at_index others tree k within i at

-- ---- a level

module _ (nodes : List Spot) (tree : IsTree nodes) (id : ℕ) (low : id < length nodes) (others : List Spot) (other_tree : IsTree others) (o : Option ℕ) (within : IsWithin o others) (set : AddressSet) (d : Datum) where
  -- a set that hides nothing
  pub whole_held : is_whole set ≡ true → Holds nodes id d ↔ HoldsBeside nodes id others o set d
  whole_held whole =
      let plain : (at : Address) → cond (is_hidden set at) (below_in others o at) (kind_at d at) ≡ kind_at d at = λ at. ap (λ b. cond b (below_in others o at) (kind_at d at)) (none_hidden set whole at) in
      (λ holds at. plain at ∙ holds at, λ holds at. sym (plain at) ∙ holds at)

  pub kind_held : HoldsBeside nodes id others o set d → kind_at d [] ≡ Some (slice_index_or nodes id nowhere).kind
  kind_held holds = holds [] ∙ here nodes tree id low

  abbrev pub AtNames : Type 0
  AtNames = (n : List ℕ) → IsHeld nodes (child_of nodes id n) others (step_in others o (Name n)) (Name n) (below set (Name n)) (kinds_at d (Name n))

  abbrev pub AtIndices : Type 0
  AtIndices = (i : ℕ) → IsHeld nodes (element_of nodes id i) others (step_in others o (Index i)) (Index i) (below set (Index i)) (kinds_at d (Index i))

  -- items that are what the datum has at its indices
  pub by_items : (items : List Datum) → ((i : ℕ) (at : Address) → kind_in (slice_get items i) at ≡ kind_at d (Index i ∷ at)) → HoldElements nodes id others o set items ↔ AtIndices
  by_items items are = (
    λ held i. held_same nodes (element_of nodes id i) others (step_in others o (Index i)) (Index i) (below set (Index i)) (kind_in (slice_get items i)) (kinds_at d (Index i)) (are i) (held i),
    λ held i. held_same nodes (element_of nodes id i) others (step_in others o (Index i)) (Index i) (below set (Index i)) (kinds_at d (Index i)) (kind_in (slice_get items i)) (λ at. sym (are i at)) (held i),
  )

  module _ (part : is_whole set ≡ false) where
    one_step : (s : Step) (at : Address) → cond (is_hidden set (s ∷ at)) (below_in others o (s ∷ at)) (kind_at d (s ∷ at)) ≡ cond (hides (below set s) s at) (below_in others (step_in others o s) at) (kind_at d (s ∷ at))
    one_step s at =
        ap (λ b. cond b (below_in others o (s ∷ at)) (kind_at d (s ∷ at))) (hidden_below set part s at)
        ∙ ap (λ k. cond (hides (below set s) s at) k (kind_at d (s ∷ at))) (step_across others other_tree o within s at)

    pub names_held : HoldsBeside nodes id others o set d → AtNames
    names_held holds n at = sym (one_step (Name n) at) ∙ holds (Name n ∷ at) ∙ at_name nodes tree id low n at

    pub indices_held : HoldsBeside nodes id others o set d → AtIndices
    indices_held holds i at = sym (one_step (Index i) at) ∙ holds (Index i ∷ at) ∙ at_index nodes tree id low i at

    pub held_by_parts : kind_at d [] ≡ Some (slice_index_or nodes id nowhere).kind → AtNames → AtIndices → HoldsBeside nodes id others o set d
    held_by_parts kind names indices [] = kind ∙ sym (here nodes tree id low)
    held_by_parts kind names indices (Name n ∷ at) = one_step (Name n) at ∙ names n at ∙ sym (at_name nodes tree id low n at)
    held_by_parts kind names indices (Index i ∷ at) = one_step (Index i) at ∙ indices i at ∙ sym (at_index nodes tree id low i at)

  -- ---- names

  pub members_had : AtNames → HasMembers nodes id set d
  members_had names n some kind = by (below set (Name n)) refl
    where
      by : (p : Option AddressSet) → below set (Name n) ≡ p → IsSome (child_of nodes id n)
      by None is = absurd (true≢false (sym (ap is_some (sym is) ∙ some)))
      by (Some t) is =
          let plain : cond (hides (below set (Name n)) (Name n) []) (below_in others (step_in others o (Name n)) []) (kind_at d (Name n ∷ [])) ≡ kind_at d (Name n ∷ []) =
          ap (λ p. cond (hides p (Name n) []) (below_in others (step_in others o (Name n)) []) (kind_at d (Name n ∷ []))) is in
          some_in nodes (child_of nodes id n) (subst IsSome (sym plain ∙ names n []) kind)

  pub others_had : AtNames → HasNamesOf nodes id others o set
  others_had names n none at hidden =
      sym (ap (λ b. cond b (below_in others (step_in others o (Name n)) at) (kind_at d (Name n ∷ at))) hidden) ∙ names n at ∙ none_shown nodes (child_of nodes id n) none at

  pub each_held : AtNames → HoldNames nodes id others o set d
  each_held names n k is = subst (λ c. IsHeld nodes c others (step_in others o (Name n)) (Name n) (below set (Name n)) (kinds_at d (Name n))) is (names n)

  pub names_by_parts : HasMembers nodes id set d → HasNamesOf nodes id others o set → HoldNames nodes id others o set d → AtNames
  names_by_parts members shown each n at = by (child_of nodes id n) refl
    where
      p : Option ℕ
      p = step_in others o (Name n)

      kind : Option Kind
      kind = kind_at d (Name n ∷ at)

      missing : child_of nodes id n ≡ None → (q : Option AddressSet) → below set (Name n) ≡ q → hides (below set (Name n)) (Name n) at ≡ false → kind ≡ None
      missing none None is plain = absurd (true≢false (ap (λ r. hides r (Name n) at) (sym is) ∙ plain))
      missing none (Some t) is plain = none_at d (Name n) at (λ some. true≢false (sym (members n (ap is_some is) some) ∙ ap is_some none))

      gone : child_of nodes id n ≡ None → (b : Bool) → hides (below set (Name n)) (Name n) at ≡ b → cond (hides (below set (Name n)) (Name n) at) (below_in others p at) kind ≡ None
      gone none true hidden = ap (λ b. cond b (below_in others p at) kind) hidden ∙ shown n none at hidden
      gone none false plain = ap (λ b. cond b (below_in others p at) kind) plain ∙ missing none (below set (Name n)) refl plain

      by : (c : Option ℕ) → child_of nodes id n ≡ c → cond (hides (below set (Name n)) (Name n) at) (below_in others p at) kind ≡ below_in nodes (child_of nodes id n) at
      by None is = gone is (hides (below set (Name n)) (Name n) at) refl ∙ sym (none_shown nodes (child_of nodes id n) is at)
      by (Some k) is = each n k is at ∙ sym (ap (λ (c : Option ℕ). below_in nodes c at) is)

-- ---- elements

module _ (nodes : List Spot) (tree : IsTree nodes) (id : ℕ) (low : id < length nodes) (others : List Spot) (o : Option ℕ) (set : AddressSet) (items : List Datum) where
  item_here : HoldElements nodes id others o set items → (i : ℕ) → kind_in (slice_get items i) [] ≡ below_in nodes (element_of nodes id i) []
  item_here held i = sym (ap (λ b. cond b (below_in others (step_in others o (Index i)) []) (kind_in (slice_get items i) [])) (index_open (below set (Index i)) i)) ∙ held i []

  pub lengths_held : HoldElements nodes id others o set items → length (slice_index_or nodes id nowhere).elements ≡ length items
  lengths_held held =
      let less = no_longer items (slice_index_or nodes id nowhere).elements (λ i some. part_there (slice_get items i) (subst IsSome (sym (item_here held i)) (there_index nodes tree id low i some))) in
      let more = no_longer (slice_index_or nodes id nowhere).elements items (λ i some. some_in nodes (element_of nodes id i) (subst IsSome (item_here held i) (kind_there (slice_get items i) some))) in
      omega (arith, less, more)

  pub behind_shown : HoldElements nodes id others o set items → ShowsBehind others o (length (slice_index_or nodes id nowhere).elements) set
  behind_shown held i past at hidden =
      sym (ap (λ b. cond b (below_in others (step_in others o (Index i)) at) (kind_in (slice_get items i) at)) hidden) ∙ held i at
      ∙ none_shown nodes (element_of nodes id i) (slice_get_past (slice_index_or nodes id nowhere).elements i past) at

-- what holds of an element that was read
pub held_item : (nodes others : List Spot) (part : Option AddressSet) (i : ℕ) (id across : Option ℕ) (item : Option Datum) (k : ℕ) (o : Option ℕ) (d : Datum) → id ≡ Some k → across ≡ o → item ≡ Some d
    → IsHeld nodes id others across (Index i) part (kind_in item) ↔ IsHeld nodes (Some k) others o (Index i) part (kind_at d)
held_item nodes others part i id across item k o d is there here =
    let left : (at : Address) → cond (hides part (Index i) at) (below_in others across at) (kind_in item at) ≡ cond (hides part (Index i) at) (below_in others o at) (kind_at d at) =
    λ at. ap (λ p. cond (hides part (Index i) at) (below_in others p at) (kind_in item at)) there ∙ ap (λ (e : Option Datum). cond (hides part (Index i) at) (below_in others o at) (kind_in e at)) here in
    let right : (at : Address) → below_in nodes id at ≡ below_node nodes k at = λ at. ap (λ (p : Option ℕ). below_in nodes p at) is in
    (λ held at. sym (left at) ∙ held at ∙ right at, λ held at. left at ∙ held at ∙ sym (right at))

-- the elements so far
abbrev pub HeldSoFar : List Spot → List ℕ → List Spot → Option ℕ → AddressSet → List Datum → ℕ → Type 0
HeldSoFar nodes elements others o set items count =
    (i : ℕ) → i < count → IsHeld nodes (slice_get elements i) others (step_in others o (Index i)) (Index i) (below set (Index i)) (kind_in (slice_get items i))

pub held_more : (nodes : List Spot) (elements : List ℕ) (others : List Spot) (o : Option ℕ) (set : AddressSet) (items : List Datum) (count : ℕ) → HeldSoFar nodes elements others o set items count
    → IsHeld nodes (slice_get elements count) others (step_in others o (Index count)) (Index count) (below set (Index count)) (kind_in (slice_get items count)) → HeldSoFar nodes elements others o set items (count + 1)
held_more nodes elements others o set items count all one i low =
    ⊎_elim (all i) (λ past. let same : count ≡ i = omega (arith, past, low) in
    subst (λ j. IsHeld nodes (slice_get elements j) others (step_in others o (Index j)) (Index j) (below set (Index j)) (kind_in (slice_get items j))) same one) (cases_lt i count)

pub held_all : (nodes : List Spot) (elements : List ℕ) (others : List Spot) (o : Option ℕ) (set : AddressSet) (items : List Datum) (count : ℕ) → length elements ≡ length items → length elements ≤ count
    → HeldSoFar nodes elements others o set items count → ShowsBehind others o (length elements) set
    → (i : ℕ) → IsHeld nodes (slice_get elements i) others (step_in others o (Index i)) (Index i) (below set (Index i)) (kind_in (slice_get items i))
held_all nodes elements others o set items count long end all shown i = ⊎_elim (λ low. all i (omega (arith, low, end))) (λ past at. gone past at (hides (below set (Index i)) (Index i) at) refl) (cases_lt i (length elements))
  where
    gone : length elements ≤ i → (at : Address) (b : Bool) → hides (below set (Index i)) (Index i) at ≡ b
        → cond (hides (below set (Index i)) (Index i) at) (below_in others (step_in others o (Index i)) at) (kind_in (slice_get items i) at) ≡ below_in nodes (slice_get elements i) at
    gone past at true hidden =
        ap (λ b. cond b (below_in others (step_in others o (Index i)) at) (kind_in (slice_get items i) at)) hidden ∙ shown i past at hidden ∙ sym (none_shown nodes (slice_get elements i) (slice_get_past elements i past) at)
    gone past at false plain =
        ap (λ b. cond b (below_in others (step_in others o (Index i)) at) (kind_in (slice_get items i) at)) plain
        ∙ ap (λ (p : Option Datum). kind_in p at) (slice_get_past items i (omega (arith, past, long))) ∙ sym (none_shown nodes (slice_get elements i) (slice_get_past elements i past) at)

-- an element that the set lacks
pub alone_held : (nodes : List Spot) (id : ℕ) (others : List Spot) (o : Option ℕ) (i : ℕ) (part : Option AddressSet) (d : Datum) → part ≡ None
    → HoldsAlone nodes id others o d ↔ IsHeld nodes (Some id) others o (Index i) part (kind_at d)
alone_held nodes id others o i part d none = subst (λ p. HoldsAlone nodes id others o d ↔ IsHeld nodes (Some id) others o (Index i) p (kind_at d)) (sym none)
    (λ alone. held alone, λ held. record { kind = held []; same = λ s at. held (s ∷ at) })
  where
    held : HoldsAlone nodes id others o d → IsHeld nodes (Some id) others o (Index i) None (kind_at d)
    held alone [] = alone.kind
    held alone (s ∷ at) = alone.same s at

-- ---- a node and another one

module _ (nodes : List Spot) (tree : IsTree nodes) (id : ℕ) (low : id < length nodes) (others : List Spot) (other_tree : IsTree others) (d : Datum) where
  pub alone_kind : (o : Option ℕ) → HoldsAlone nodes id others o d → kind_at d [] ≡ Some (slice_index_or nodes id nowhere).kind
  alone_kind o alone = alone.kind ∙ here nodes tree id low

  -- where the other tree has none
  pub alone_leaf : (o : Option ℕ) → o ≡ None → kind_at d [] ≡ Some (slice_index_or nodes id nowhere).kind
      → (((slice_index_or nodes id nowhere).children ≡ []) × ((slice_index_or nodes id nowhere).elements ≡ [])) ↔ HoldsAlone nodes id others o d
  alone_leaf o none kind = (
    λ bare. record { kind = kind ∙ sym (here nodes tree id low); same = λ s at. none_shown others o none (s ∷ at) ∙ sym (nothing_below nodes tree id low bare.0 bare.1 s at) },
    λ alone. bare_below nodes tree id low (λ s. sym (alone.same s []) ∙ none_shown others o none (s ∷ [])),
  )

  module _ (o : Option ℕ) (k : ℕ) (is : o ≡ Some k) (other_low : k < length others) where
    across : (at : Address) → below_in others o at ≡ below_node others k at
    across at = ap (λ (p : Option ℕ). below_in others p at) is

    pub alone_names : HoldsAlone nodes id others o d → SameNames nodes id others k
    alone_names alone n at = sym (at_name nodes tree id low n at) ∙ sym (alone.same (Name n) at) ∙ across (Name n ∷ at) ∙ at_name others other_tree k other_low n at

    pub alone_elements : HoldsAlone nodes id others o d → SameElements nodes id others k
    alone_elements alone i at = sym (at_index nodes tree id low i at) ∙ sym (alone.same (Index i) at) ∙ across (Index i ∷ at) ∙ at_index others other_tree k other_low i at

    pub alone_same : kind_at d [] ≡ Some (slice_index_or nodes id nowhere).kind → SameNames nodes id others k → SameElements nodes id others k → HoldsAlone nodes id others o d
    alone_same kind names elements = record { kind = kind ∙ sym (here nodes tree id low); same = same }
      where
        same : (s : Step) (at : Address) → below_in others o (s ∷ at) ≡ below_node nodes id (s ∷ at)
        same (Name n) at = across (Name n ∷ at) ∙ at_name others other_tree k other_low n at ∙ sym (names n at) ∙ sym (at_name nodes tree id low n at)
        same (Index i) at = across (Index i ∷ at) ∙ at_index others other_tree k other_low i at ∙ sym (elements i at) ∙ sym (at_index nodes tree id low i at)

-- ---- the loops over names

-- what is wanted stands at the name
abbrev pub IsHeldAt : List Spot → List Spot → Option ℕ → AddressSet → Datum → List ℕ × ℕ → Type 0
IsHeldAt nodes others o set d e = HoldsName nodes e.1 others o set d e.0

pub names_all : (nodes : List Spot) (id : ℕ) (others : List Spot) (o : Option ℕ) (set : AddressSet) (d : Datum) (es : Pairs) → es ≡ (slice_index_or nodes id nowhere).children
    → EachIs (IsHeldAt nodes others o set d) es → HoldNames nodes id others o set d
names_all nodes id others o set d es are each n k is = pairs_found (IsHeldAt nodes others o set d) es each n k (ap (lookup (bytes_eq n)) are ∙ is)

-- the node has the name, or nothing is hidden there
abbrev pub IsThere : List Spot → ℕ → List Spot → AddressSet → List ℕ × ℕ → Type 0
IsThere nodes id others set e = child_of nodes id e.0 ≡ None → IsShownIn others (Some e.1) (Name e.0) (below set (Name e.0))

pub names_there : (nodes : List Spot) (id : ℕ) (others : List Spot) (o : Option ℕ) (k : ℕ) (set : AddressSet) (es : Pairs) → o ≡ Some k → es ≡ (slice_index_or others k nowhere).children
    → EachIs (IsThere nodes id others set) es → HasNamesOf nodes id others o set
names_there nodes id others o k set es is are each n none at hidden = ap (λ p. below_in others (step_in others p (Name n)) at) is ∙ by (child_of others k n) refl
  where
    by : (c : Option ℕ) → child_of others k n ≡ c → below_in others (child_of others k n) at ≡ None
    by None gone = none_shown others (child_of others k n) gone at
    by (Some v) found = ap (λ (c : Option ℕ). below_in others c at) found ∙ pairs_found (IsThere nodes id others set) es each n v (ap (lookup (bytes_eq n)) are ∙ found) none at hidden

pub no_names_there : (nodes : List Spot) (id : ℕ) (others : List Spot) (o : Option ℕ) (set : AddressSet) → o ≡ None → HasNamesOf nodes id others o set
no_names_there nodes id others o set is n none at hidden = ap (λ p. below_in others (step_in others p (Name n)) at) is

-- the node has the name, unless the set lacks it
abbrev pub HasEachNamed : List Spot → ℕ → AddressSet → List Entry → Type 0
HasEachNamed nodes id set = Each (λ n d. IsSome (below set (Name n)) → IsSome (child_of nodes id n))

pub members_there : (nodes : List Spot) (id : ℕ) (set : AddressSet) (members : Members) → HasEachNamed nodes id set members.entries → HasMembers nodes id set (Table members)
members_there nodes id set members each n near some = from (get_by_text members n) refl (part_there (get_by_text members n) (subst IsSome (table-member members n []) some))
  where
    from : (o : Option Datum) → get_by_text members n ≡ o → IsSome (get_by_text members n) → IsSome (child_of nodes id n)
    from None is h = absurd (true≢false (sym h ∙ ap is_some is))
    from (Some d) is h = each_found (λ n d. IsSome (below set (Name n)) → IsSome (child_of nodes id n)) members.entries each n d is near

pub member_some : (members : Members) (n : List ℕ) (d : Datum) → get_by_text members n ≡ Some d → IsSome (kind_at (Table members) (Name n ∷ []))
member_some members n d is = subst IsSome (sym (table-member members n [])) (kind_there (get_by_text members n) (ap is_some is))

-- ---- a name

module _ (nodes : List Spot) (tree : IsTree nodes) (id : ℕ) (low : id < length nodes) (others : List Spot) (o : Option ℕ) (set : AddressSet) (d : Datum) (n : List ℕ) where
  -- one that the set lacks
  pub beside_held : below set (Name n) ≡ None → SameIn nodes (Some id) others (step_in others o (Name n)) ↔ HoldsName nodes id others o set d n
  beside_held none =
      let hidden : (at : Address) → cond (hides (below set (Name n)) (Name n) at) (below_in others (step_in others o (Name n)) at) (kind_at d (Name n ∷ at)) ≡ below_in others (step_in others o (Name n)) at =
      λ at. ap (λ p. cond (hides p (Name n) at) (below_in others (step_in others o (Name n)) at) (kind_at d (Name n ∷ at))) none in
      (λ same at. hidden at ∙ sym (same at), λ held at. sym (held at) ∙ hidden at)

  -- one that it has, with a member
  pub member_held : (t : AddressSet) (m : Datum) (p : Option ℕ) → below set (Name n) ≡ Some t → p ≡ step_in others o (Name n) → ((at : Address) → kind_at m at ≡ kind_at d (Name n ∷ at))
      → HoldsBeside nodes id others p t m ↔ HoldsName nodes id others o set d n
  member_held t m p has is same =
      let there : (at : Address) → cond (is_hidden t at) (below_in others p at) (kind_at m at) ≡ cond (hides (below set (Name n)) (Name n) at) (below_in others (step_in others o (Name n)) at) (kind_at d (Name n ∷ at)) =
      λ at. ap (λ q. cond (is_hidden t at) (below_in others q at) (kind_at m at)) is ∙ ap (cond (is_hidden t at) (below_in others (step_in others o (Name n)) at)) (same at)
      ∙ ap (λ q. cond (hides q (Name n) at) (below_in others (step_in others o (Name n)) at) (kind_at d (Name n ∷ at))) (sym has) in
      (λ holds at. sym (there at) ∙ holds at, λ held at. there at ∙ held at)

  -- or with none
  pub no_member_held : (t : AddressSet) → below set (Name n) ≡ Some t → kind_at d (Name n ∷ []) ≡ None → HoldsName nodes id others o set d n → ⊥
  no_member_held t has none held =
      let plain : cond (hides (below set (Name n)) (Name n) []) (below_in others (step_in others o (Name n)) []) (kind_at d (Name n ∷ [])) ≡ None =
      ap (λ p. cond (hides p (Name n) []) (below_in others (step_in others o (Name n)) []) (kind_at d (Name n ∷ []))) has ∙ none in
      none-some _ (sym plain ∙ held [] ∙ here nodes tree id low)

-- what the code answers
pub told_and : {A B : Type 0} (b : Bool) → IsTrue b ↔ A → A ↔ B → IsTrue b ↔ B
told_and b told is = (λ h. is.0 (told.0 h), λ x. told.1 (is.1 x))
