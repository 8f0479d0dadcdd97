-- Which of the addresses that are named are mentioned: the mark of an address tells. The first nodes that are mentions have them in order, and each its place among them.
use Rattle.toml_names.proofs.Common.{common_steps, ◌≡◌, ℕ, zero, suc, ◌+◌, ◌-◌, ◌<◌, ◌≤◌, Bool, true, false, cond, filter, List, [], ◌∷◌, ◌++◌, length, take, get_or, slice_get, Some, refl, sym, ap, ◌∙◌, subst, slice_index_or, add-one, arith, rules, cond-true, cond-false, append-nil, take_more, take_all, length_push, get_or_append_left, get_or_at, get_or_read, get_or_default, filter-append, slice_get-get_or, slice_get_within, get_or_from_slice_get, Role, Bare, Address, first_mentions, Joined, mark_of, Named, is_mentioned, IsTreeOf, Spot, addresses, address_at, nowhere, ◌||◌, All, Option, None, inl, inr, true≢false, append_assoc, All-nil, All-cons, All-head, All-tail, All-push, none-some, same_address, fact_at, is_named, first_named, is_lone, Joins, JoinAll, mark_after, is_mention}
use Rattle.toml_names.proofs.lemmas.tree.NodeAddresses.{length-addresses}
use Rattle.toml_names.proofs.lemmas.model.Equal.{same_address-equal, same_address-self}
use Rattle.toml_names.proofs.lemmas.mentions.FactAt.{fact_here, fact_behind, none_before}
use Rattle.toml_names.proofs.lemmas.mentions.Local.{mark_of-push}
use Rattle.toml_names.proofs.lemmas.mentions.OfOneKind.{IsOfFirst, AreOfOneKind, AreOfOneKind-push}

-- whether the address of this mark is mentioned
abbrev pub is_marked : Option Role → Bool
is_marked None = false
is_marked (Some r) = is_mentioned r

-- ---- the mark tells of each thing at the address

shared_after : (q : Option Role) (r : Role) → is_lone r ≡ false → is_marked (mark_after q r) ≡ true
shared_after q r h = search rules

shared_mentioned : (r : Role) → is_lone r ≡ false → is_mentioned r ≡ true
shared_mentioned r h = shared_after None r h

-- the mark of its address tells whether it is a mention
abbrev pub IsTold : List Named → Named → Type 0
IsTold ms m = is_marked (mark_of ms m.address) ≡ is_mentioned m.role

-- all that holds of what joined
record Tells (ms : List Named) : Type 0 where
  kinds : AreOfOneKind ms
  told : All (IsTold ms) ms
  unmarked : (at : Address) → fact_at ms at ≡ None → mark_of ms at ≡ None

mark_here : (ms : List Named) (m : Named) (at : Address) → m.address ≡ at → mark_of (ms ++ m ∷ []) at ≡ mark_after (mark_of ms at) m.role
mark_here ms m at same = mark_of-push ms m at ∙ cond-true _ _ _ (ap (same_address m.address) (sym same) ∙ same_address-self m.address)

mark_other : (ms : List Named) (m : Named) (at : Address) → same_address m.address at ≡ false → mark_of (ms ++ m ∷ []) at ≡ mark_of ms at
mark_other ms m at apart = mark_of-push ms m at ∙ cond-false _ _ _ apart

module _ (ms : List Named) (m : Named) (tells : Tells ms) where
  told_new : Joins ms m → IsTold (ms ++ m ∷ []) m
  told_new h1 = search (rules, mark_here, shared_after, shared_mentioned)

  told_all : Joins ms m → All (IsTold (ms ++ m ∷ [])) ms
  told_all joins i d low = by (same_address m.address (get_or ms i d).address) refl joins
    where
      by : (b : Bool) → same_address m.address (get_or ms i d).address ≡ b → Joins ms m → IsTold (ms ++ m ∷ []) (get_or ms i d)
      by false apart joins = ap is_marked (mark_other ms m (get_or ms i d).address apart) ∙ tells.told i d low
      by true same (inl free) =
          absurd (none-some (get_or ms i d).kind (sym free.absent ∙ ap (fact_at ms) (same_address-equal m.address (get_or ms i d).address same) ∙ tells.kinds i d low))
      by true same (inr again) =
          let at = same_address-equal m.address (get_or ms i d).address same in
          ap is_marked (mark_here ms m (get_or ms i d).address at) ∙ shared_after (mark_of ms (get_or ms i d).address) m.role again.shared
          ∙ sym (shared_mentioned (get_or ms i d).role (again.others i d low (sym at)))

unmarked_push : (ms : List Named) (m : Named) → Tells ms → (at : Address) → fact_at (ms ++ m ∷ []) at ≡ None → mark_of (ms ++ m ∷ []) at ≡ None
unmarked_push ms m tells at none = search (rules, none-some, fact_behind, none_before, fact_here, same_address-equal, mark_other)

Tells-push : (ms : List Named) (m : Named) → Tells ms → Joins ms m → Tells (ms ++ m ∷ [])
Tells-push ms m tells joins = search (rules, AreOfOneKind-push, All-push, told_all, told_new, unmarked_push)

Tells-more : (more ms : List Named) → Tells ms → JoinAll ms more → Tells (ms ++ more)
Tells-more [] ms tells join = subst Tells (sym (append-nil ms)) tells
Tells-more (m ∷ more) ms tells join = subst Tells (append_assoc ms (m ∷ []) more) (Tells-more more (ms ++ m ∷ []) (Tells-push ms m tells join.0) join.1)

Tells-one : (m : Named) → Tells (m ∷ [])
Tells-one m = record {
  kinds = All-cons (IsOfFirst (m ∷ [])) m [] (fact_here m [] m.address refl) (All-nil _);
  told = All-cons (IsTold (m ∷ [])) m [] (ap is_marked (mark_here [] m m.address refl)) (All-nil _);
  unmarked = λ at none. unmarked_push [] m Tells-none at none;
}
  where
    Tells-none : Tells []
    Tells-none = record { kinds = All-nil _; told = All-nil _; unmarked = λ at none. refl }

pub all_told : (ms : List Named) → Joined ms → All (IsTold ms) ms
all_told [] joined = All-nil _
all_told (m ∷ ms) joined = (Tells-more ms (m ∷ []) (Tells-one m) joined).told

-- ---- the first mentions among what is named first

-- the test tells the mentions by their addresses
abbrev Tells-by : (Address → Bool) → Named → Type 0
Tells-by test m = test m.address ≡ is_mention m

named_filtered : (test : Address → Bool) (ms : List Named) (at : Address) → All (Tells-by test) ms → test at ≡ true → is_named (filter is_mention ms) at ≡ is_named ms at
named_filtered test [] at tells here = refl
named_filtered test (m ∷ ms) at tells here = by (is_mention m) refl (same_address m.address at) refl (named_filtered test ms at (All-tail (Tells-by test) m ms tells) here)
  where
    by : (b : Bool) → is_mention m ≡ b → (c : Bool) → same_address m.address at ≡ c → is_named (filter is_mention ms) at ≡ is_named ms at
        → is_named (filter is_mention (m ∷ ms)) at ≡ is_named (m ∷ ms) at
    by true is c same rest = ap (λ l. is_named l at) (cond-true _ _ _ is) ∙ ap (λ b. same_address m.address at || b) rest
    by false not true same rest =
        absurd (true≢false (sym here ∙ ap test (sym (same_address-equal m.address at same)) ∙ All-head (Tells-by test) m ms tells ∙ not))
    by false not false apart rest = ap (λ l. is_named l at) (cond-false _ _ _ not) ∙ rest ∙ sym (ap (λ b. b || is_named ms at) apart)

-- what is named first, with one more
module _ (test : Address → Bool) (ms earlier : List Named) (m : Named) (before : All (Tells-by test) earlier) (head : Tells-by test m)
    (rest : filter test (first_named (earlier ++ m ∷ []) ms) ≡ first_named (filter is_mention (earlier ++ m ∷ [])) (filter is_mention ms)) where
  kept : (b c : Bool) → test m.address ≡ true → c ≡ b → (x y : List Address) → filter test x ≡ y → filter test (cond b x (m.address ∷ x)) ≡ cond c y (m.address ∷ y)
  kept b c here same x y e = search rules

  first_step : (b : Bool) → is_mention m ≡ b → filter test (first_named earlier (m ∷ ms)) ≡ first_named (filter is_mention earlier) (filter is_mention (m ∷ ms))
  first_step true is =
      kept (is_named earlier m.address) (is_named (filter is_mention earlier) m.address) (head ∙ is) (named_filtered test earlier m.address before (head ∙ is))
      (first_named (earlier ++ m ∷ []) ms) (first_named (filter is_mention earlier ++ m ∷ []) (filter is_mention ms))
      (rest ∙ ap (λ l. first_named l (filter is_mention ms)) (filter-append is_mention earlier (m ∷ []) ∙ ap (λ l. filter is_mention earlier ++ l) (cond-true _ _ _ is)))
      ∙ ap (first_named (filter is_mention earlier)) (sym (cond-true _ _ _ is))
  first_step false not = search (rules, filter-append, cond-false, append-nil)

first_filtered : (test : Address → Bool) (ms earlier : List Named) → All (Tells-by test) earlier → All (Tells-by test) ms
    → filter test (first_named earlier ms) ≡ first_named (filter is_mention earlier) (filter is_mention ms)
first_filtered test [] earlier before tells = refl
first_filtered test (m ∷ ms) earlier before tells =
    let head = All-head (Tells-by test) m ms tells in
    first_step test ms earlier m before head (first_filtered test ms (earlier ++ m ∷ []) (All-push (Tells-by test) earlier m before head) (All-tail (Tells-by test) m ms tells)) (is_mention m) refl

-- the addresses that are named, without those that are not mentioned, are the first mentions
pub first_mentions-marked : (ms : List Named) → Joined ms → filter (λ at. is_marked (mark_of ms at)) (first_named [] ms) ≡ first_mentions ms
first_mentions-marked ms joined = first_filtered (λ at. is_marked (mark_of ms at)) ms [] (All-nil _) (all_told ms joined)

-- of so many nodes
abbrev pub mentioned_upto : List Spot → ℕ → List Address
mentioned_upto nodes zero = []
mentioned_upto nodes (suc i) = cond (is_mentioned (slice_index_or nodes i nowhere).role) (mentioned_upto nodes i ++ address_at nodes i ∷ []) (mentioned_upto nodes i)

pub upto-mention : (nodes : List Spot) (i : ℕ) → is_mentioned (slice_index_or nodes i nowhere).role ≡ true → mentioned_upto nodes (i + 1) ≡ mentioned_upto nodes i ++ address_at nodes i ∷ []
upto-mention nodes i is = ap (mentioned_upto nodes) (add-one i) ∙ cond-true _ _ _ is

pub upto-other : (nodes : List Spot) (i : ℕ) → is_mentioned (slice_index_or nodes i nowhere).role ≡ false → mentioned_upto nodes (i + 1) ≡ mentioned_upto nodes i
upto-other nodes i is = ap (mentioned_upto nodes) (add-one i) ∙ cond-false _ _ _ is

-- no more than there are nodes
pub upto-few : (nodes : List Spot) (i : ℕ) → length (mentioned_upto nodes i) ≤ i
upto-few nodes zero = omega arith
upto-few nodes (suc i) = search (rules, length_push, upto-few nodes i)

-- the last of them, and after more nodes
last_of : (xs : List Address) (at : Address) → slice_get (xs ++ at ∷ []) (length xs) ≡ Some at
last_of xs at = slice_get-get_or (xs ++ at ∷ []) (length xs) at (omega (arith, length_push xs at)) ∙ ap Some (get_or_at xs at [] at (length xs) refl)

got_before : (xs : List Address) (at a : Address) (i : ℕ) → slice_get xs i ≡ Some a → slice_get (xs ++ at ∷ []) i ≡ Some a
got_before xs at a i is =
    let low = slice_get_within xs i a is in
    slice_get-get_or (xs ++ at ∷ []) i a (omega (arith, length_push xs at))
    ∙ ap Some (get_or_append_left xs (at ∷ []) a i low ∙ get_or_from_slice_get xs i a a is)

stays_got : (nodes : List Spot) (a : Address) (k i more : ℕ) → slice_get (mentioned_upto nodes k) i ≡ Some a → slice_get (mentioned_upto nodes (more + k)) i ≡ Some a
stays_got nodes a k i zero is = let same : k ≡ 0 + k = omega arith in subst (λ n. slice_get (mentioned_upto nodes n) i ≡ Some a) same is
stays_got nodes a k i (suc more) is =
    let same : (more + k) + 1 ≡ suc more + k = omega arith in
    subst (λ n. slice_get (mentioned_upto nodes n) i ≡ Some a) same (by (is_mentioned (slice_index_or nodes (more + k) nowhere).role) refl (stays_got nodes a k i more is))
  where
    by : (b : Bool) → is_mentioned (slice_index_or nodes (more + k) nowhere).role ≡ b → slice_get (mentioned_upto nodes (more + k)) i ≡ Some a → slice_get (mentioned_upto nodes ((more + k) + 1)) i ≡ Some a
    by true one before = ap (λ l. slice_get l i) (upto-mention nodes (more + k) one) ∙ got_before (mentioned_upto nodes (more + k)) (address_at nodes (more + k)) a i before
    by false none before = ap (λ l. slice_get l i) (upto-other nodes (more + k) none) ∙ before

mentions_itself : (r : Role) → (r ≡ Bare → ⊥) → is_mentioned r ≡ true
mentions_itself r other = search rules

-- a mention stands where as many mentions stand before it
pub stands_at_rank : (nodes : List Spot) (k : ℕ) → k < length nodes → ((slice_index_or nodes k nowhere).role ≡ Bare → ⊥)
    → slice_get (mentioned_upto nodes (length nodes)) (length (mentioned_upto nodes k)) ≡ Some (address_at nodes k)
stands_at_rank nodes k low other =
    let more : ℕ = length nodes - (k + 1) in
    let same : more + (k + 1) ≡ length nodes = omega arith in
    let here : slice_get (mentioned_upto nodes (k + 1)) (length (mentioned_upto nodes k)) ≡ Some (address_at nodes k) =
    ap (λ l. slice_get l (length (mentioned_upto nodes k))) (upto-mention nodes k (mentions_itself (slice_index_or nodes k nowhere).role other))
    ∙ last_of (mentioned_upto nodes k) (address_at nodes k) in
    subst (λ n. slice_get (mentioned_upto nodes n) (length (mentioned_upto nodes k)) ≡ Some (address_at nodes k)) same
    (stays_got nodes (address_at nodes k) (k + 1) (length (mentioned_upto nodes k)) more here)

-- they are the first mentions
module _ (nodes : List Spot) (ms : List Named) (stands : IsTreeOf nodes ms) where
  upto-filter : (i : ℕ) → i ≤ length nodes → mentioned_upto nodes i ≡ filter (λ at. is_marked (mark_of ms at)) (take i (addresses nodes))
  upto-filter zero low = refl
  upto-filter (suc i) low =
      let here : is_mentioned (slice_index_or nodes i nowhere).role ≡ is_marked (mark_of ms (address_at nodes i)) = ap is_marked (sym (stands.marks i nowhere (omega arith))) in
      by (is_mentioned (slice_index_or nodes i nowhere).role) refl (sym here) (upto-filter i (omega arith))
      ∙ ap (filter (λ at. is_marked (mark_of ms at))) (sym (take_more (addresses nodes) i [] (omega (arith, length-addresses nodes))) ∙ ap (λ n. take n (addresses nodes)) (add-one i))
    where
      by : (b : Bool) → is_mentioned (slice_index_or nodes i nowhere).role ≡ b → is_marked (mark_of ms (address_at nodes i)) ≡ is_mentioned (slice_index_or nodes i nowhere).role
          → mentioned_upto nodes i ≡ filter (λ at. is_marked (mark_of ms at)) (take i (addresses nodes))
          → mentioned_upto nodes (suc i) ≡ filter (λ at. is_marked (mark_of ms at)) (take i (addresses nodes) ++ address_at nodes i ∷ [])
      by true is same rest =
          cond-true _ _ _ is ∙ ap (λ l. l ++ address_at nodes i ∷ []) rest
          ∙ sym (filter-append (λ at. is_marked (mark_of ms at)) (take i (addresses nodes)) (address_at nodes i ∷ []) ∙ ap (λ l. filter (λ at. is_marked (mark_of ms at)) (take i (addresses nodes)) ++ l) (cond-true _ _ _ (same ∙ is)))
      by false is same rest =
          cond-false _ _ _ is ∙ rest
          ∙ sym (filter-append (λ at. is_marked (mark_of ms at)) (take i (addresses nodes)) (address_at nodes i ∷ []) ∙ ap (λ l. filter (λ at. is_marked (mark_of ms at)) (take i (addresses nodes)) ++ l) (cond-false _ _ _ (same ∙ is)) ∙ append-nil _)

  pub upto-first_mentions : Joined ms → mentioned_upto nodes (length nodes) ≡ first_mentions ms
  upto-first_mentions joined = search (rules, upto-filter, is_marked, take_all, length-addresses, first_mentions-marked)

-- ---- the ranks of so many nodes
pub record AreRanked (nodes : List Spot) (ranks : List ℕ) (count i : ℕ) : Type 0 where
  pub long : length ranks ≡ i
  pub counted : count ≡ length (mentioned_upto nodes i)
  pub each : (k : ℕ) → k < i → get_or ranks k 0 ≡ length (mentioned_upto nodes k)

pub ranked_none : (nodes : List Spot) (ranks : List ℕ) → ranks ≡ [] → AreRanked nodes ranks 0 0
ranked_none nodes ranks is = record { long = ap length is; counted = refl; each = λ k low. absurd (omega arith) }

pub role_read : (nodes : List Spot) (i : ℕ) (node : Spot) → i < length nodes → node ≡ slice_index_or nodes i node → is_mentioned (slice_index_or nodes i nowhere).role ≡ is_mentioned node.role
role_read nodes i node low is = ap (λ (s : Spot). is_mentioned s.role) (sym (get_or_read nodes i node low is nowhere))

module _ (nodes : List Spot) (ranks : List ℕ) (count i : ℕ) (node : Spot) (low : i < length nodes) (is : node ≡ slice_index_or nodes i node) (ranked : AreRanked nodes ranks count i) where
  pub ranked_mention : is_mentioned node.role ≡ true → AreRanked nodes (ranks ++ count ∷ []) (count + 1) (i + 1)
  ranked_mention mention = grind (arith, common_steps)

  pub ranked_other : is_mentioned node.role ≡ false → AreRanked nodes (ranks ++ count ∷ []) count (i + 1)
  ranked_other none = grind (arith, common_steps)

pub ranked_all : (nodes : List Spot) (ranks : List ℕ) (count i : ℕ) → length nodes ≤ i → AreRanked nodes ranks count i
    → (ms : List Named) (k : ℕ) (d : Spot) → IsTreeOf nodes ms → Joined ms → k < length nodes → ((slice_index_or nodes k d).role ≡ Bare → ⊥)
    → slice_get (first_mentions ms) (slice_index_or ranks k 0) ≡ Some (address_at nodes k)
ranked_all nodes ranks count i past ranked ms k d stands joined low other = grind (arith, upto-first_mentions, stands_at_rank, get_or_default)

-- ---- the first mentions among so many nodes
pub listed_all : (nodes : List Spot) (list : List Address) (i : ℕ) → length nodes ≤ i → i ≤ length nodes → list ≡ mentioned_upto nodes i
    → (ms : List Named) → IsTreeOf nodes ms → Joined ms → list ≡ first_mentions ms
listed_all nodes list i past within is ms stands joined =
    let all : i ≡ length nodes = omega arith in
    is ∙ ap (mentioned_upto nodes) all ∙ upto-first_mentions nodes ms stands joined
