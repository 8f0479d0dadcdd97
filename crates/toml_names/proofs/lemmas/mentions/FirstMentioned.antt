-- The addresses in the order of their first naming, one more at a time: the plain list of first mentions has each that is mentioned, once, in order, and no other list does.
use Rattle.toml_names.proofs.Common.{common_steps, ◌≡◌, ◌⊎◌, inl, inr, ℕ, ◌<◌, ◌↔◌, get_or, Bool, true, false, cond, ◌||◌, List, [], ◌∷◌, ◌++◌, length, filter, Any, AllPairs, Contains, refl, sym, ap, subst, ◌∙◌, true≢false, arith, rules, cond-true, cond-false, append_assoc, append-nil, Contains-get_or, Contains-append_left, Contains-push, Contains-push_cases, filter-append, all_pairs_push, Address, same_address, is_named, first_named, first_mentions, IsMentioned, ComesFirst, IsFirstMentions, FirstMentionsAreThese, Named, is_mention, Some, None, none-some, fact_at, Kind, zero, suc, ◌+◌, length-append, Contains-append_right, OneListOfFirstMentions}
use Rattle.toml_names.proofs.lemmas.model.Equal.{same_address-equal, same_address-self}
use Rattle.toml_names.proofs.lemmas.mentions.FactAt.{any_here, any_later}

pub not_named : (ms : List Named) (at : Address) → fact_at ms at ≡ None → is_named ms at ≡ false
not_named [] at none = refl
not_named (m ∷ ms) at none = search (rules, none-some, cond-true, cond-false, not_named ms at)

pub is_named-there : (ms : List Named) (at : Address) (k : Kind) → fact_at ms at ≡ Some k → is_named ms at ≡ true
is_named-there [] at k some = absurd (none-some k some)
is_named-there (m ∷ ms) at k some = search (rules, cond-false, is_named-there ms at k)

pub first_push : (ms earlier : List Named) (m : Named) → first_named earlier (ms ++ m ∷ []) ≡ first_named earlier ms ++ cond (is_named (earlier ++ ms) m.address) [] (m.address ∷ [])
first_push [] earlier m = ap (λ l. cond (is_named l m.address) [] (m.address ∷ [])) (sym (append-nil earlier))
first_push (x ∷ ms) earlier m = search (rules, append_assoc, first_push ms (earlier ++ x ∷ []) m)

-- what was not named comes last, and what was named comes in no second time
pub first-new : (ms : List Named) (m : Named) → fact_at ms m.address ≡ None → first_named [] (ms ++ m ∷ []) ≡ first_named [] ms ++ m.address ∷ []
first-new ms m none = first_push ms [] m ∙ ap (λ b. first_named [] ms ++ cond b [] (m.address ∷ [])) (not_named ms m.address none)

pub first-again : (ms : List Named) (m : Named) (k : Kind) → fact_at ms m.address ≡ Some k → first_named [] (ms ++ m ∷ []) ≡ first_named [] ms
first-again ms m k some = search (rules, first_push, is_named-there, append-nil)

module _ (P : Named → Type 0) where
  pub any_cases : (m : Named) (ms : List Named) → Any P (m ∷ ms) → P m ⊎ Any P ms
  any_cases m ms h1 = search rules

  any_left : (ms more : List Named) → Any P ms → Any P (ms ++ more)
  any_left ms more (k, x, low, is, p) = let c = Contains-append_left ms more x (k, low, is) in (c.0, x, c.1, c.2, p)

  any_push : (ms : List Named) (m : Named) → P m → Any P (ms ++ m ∷ [])
  any_push ms m p = let c = Contains-push ms m in (c.0, m, c.1, c.2, p)

  any_push_cases : (ms : List Named) (m : Named) → Any P (ms ++ m ∷ []) → Any P ms ⊎ P m
  any_push_cases ms m h1 = grind (arith, common_steps)

  any_split : (before behind : List Named) (m : Named) → P m → Any P (before ++ m ∷ behind)
  any_split [] behind m p = any_here P m behind p
  any_split (x ∷ before) behind m p = any_later P x (before ++ m ∷ behind) (any_split before behind m p)

-- where one more is split, it is at the last, or before it
split_push : (ms : List Named) (m : Named) (before : List Named) (x : Named) (behind : List Named) → ms ++ m ∷ [] ≡ before ++ x ∷ behind
    → (ms ≡ before) ⊎ ((rest : List Named) × (ms ≡ before ++ x ∷ rest))
split_push [] m [] x behind is = inl refl
split_push [] m (y ∷ before) x behind is = let none : [] ≡ before ++ x ∷ behind = cc in inl (absurd (no_end before x behind none))
  where
    no_end : (before : List Named) (x : Named) (behind : List Named) → ¬ ([] ≡ before ++ x ∷ behind)
    no_end [] x behind e = cc
    no_end (y ∷ before) x behind e = cc
split_push (z ∷ ms) m [] x behind is = let same : z ≡ x = cc in inr (ms, ap (λ h. h ∷ ms) same)
split_push (z ∷ ms) m (y ∷ before) x behind is =
    let same : z ≡ y = cc in
    let rest : ms ++ m ∷ [] ≡ before ++ x ∷ behind = cc in
    by same (split_push ms m before x behind rest)
  where
    by : z ≡ y → (ms ≡ before) ⊎ ((rest : List Named) × (ms ≡ before ++ x ∷ rest)) → (z ∷ ms ≡ y ∷ before) ⊎ ((rest : List Named) × (z ∷ ms ≡ y ∷ (before ++ x ∷ rest)))
    by same (inl e) = inl (λ k. same k ∷ e k)
    by same (inr r) = inr (r.0, λ k. same k ∷ r.1 k)

abbrev pub Mentions : Address → Named → Type 0
Mentions at m = (m.address ≡ at) × (is_mention m ≡ true)

-- what is found among the mentions
mentioned : (ms : List Named) (at : Address) → is_named (filter is_mention ms) at ≡ true → IsMentioned ms at
mentioned [] at found = absurd (true≢false (sym found))
mentioned (m ∷ ms) at found = by (is_mention m) refl (same_address m.address at) refl (mentioned ms at)
  where
    by : (b : Bool) → is_mention m ≡ b → (c : Bool) → same_address m.address at ≡ c → (is_named (filter is_mention ms) at ≡ true → IsMentioned ms at) → IsMentioned (m ∷ ms) at
    by true role true same ih = any_here (Mentions at) m ms (same_address-equal m.address at same, role)
    by true role false apart ih = any_later (Mentions at) m ms (ih (sym (ap (λ l. is_named l at) (cond-true _ _ _ role) ∙ ap (λ b. b || is_named (filter is_mention ms) at) apart) ∙ found))
    by false bare c e ih = any_later (Mentions at) m ms (ih (sym (ap (λ l. is_named l at) (cond-false _ _ _ bare)) ∙ found))

or_right : (b : Bool) → (b || true) ≡ true
or_right b = search rules

found : (ms : List Named) (at : Address) → IsMentioned ms at → is_named (filter is_mention ms) at ≡ true
found [] at (k, x, low, is, p) = absurd (omega (arith, low))
found (m ∷ ms) at any = by (is_mention m) refl (any_cases (Mentions at) m ms any) (found ms at)
  where
    here : Bool
    here = same_address m.address at

    by : (b : Bool) → is_mention m ≡ b → Mentions at m ⊎ IsMentioned ms at → (IsMentioned ms at → is_named (filter is_mention ms) at ≡ true) → is_named (filter is_mention (m ∷ ms)) at ≡ true
    by true role (inl h) ih =
        let same : here ≡ true = subst (λ a. same_address m.address a ≡ true) h.0 (same_address-self m.address) in
        ap (λ l. is_named l at) (cond-true _ _ _ role) ∙ ap (λ b. b || is_named (filter is_mention ms) at) same
    by true role (inr later) ih = ap (λ l. is_named l at) (cond-true _ _ _ role) ∙ ap (λ b. here || b) (ih later) ∙ or_right here
    by false bare (inl h) ih = absurd (true≢false (sym h.1 ∙ bare))
    by false bare (inr later) ih = ap (λ l. is_named l at) (cond-false _ _ _ bare) ∙ ih later

-- an order of mentions stays, as the first has one
first_stays : (ms : List Named) (m : Named) (at other : Address) → ComesFirst ms at other → IsMentioned ms at → ComesFirst (ms ++ m ∷ []) at other
first_stays ms m at other first there = search (rules, split_push)

module _ (ms : List Named) (list : List Address) (h : IsFirstMentions ms list) (m : Named) where
  listed : (k : ℕ) (d : Address) → k < length list → IsMentioned ms (get_or list k d)
  listed k d low = (h.all (get_or list k d)).0 (Contains-get_or list k d low)

  order_stays : AllPairs (ComesFirst (ms ++ m ∷ [])) list
  order_stays i j d before low = first_stays ms m (get_or list i d) (get_or list j d) (h.order i j d before low) (listed i d (omega arith))

  same_list : (is_mention m ≡ true → IsMentioned ms m.address) → IsFirstMentions (ms ++ m ∷ []) list
  same_list again = record {
    all = λ at. (
      (λ c. any_left (Mentions at) ms (m ∷ []) ((h.all at).0 c)),
      (λ any. (h.all at).1 (by at (any_push_cases (Mentions at) ms m any))),
    );
    once = h.once;
    order = order_stays;
  }
    where
      by : (at : Address) → IsMentioned ms at ⊎ Mentions at m → IsMentioned ms at
      by at (inl any) = any
      by at (inr p) = subst (IsMentioned ms) p.0 (again p.1)

  module _ (role : is_mention m ≡ true) (none : ¬ IsMentioned ms m.address) where
    behind_all : (at : Address) → IsMentioned ms at → ComesFirst (ms ++ m ∷ []) at m.address
    behind_all at there = first_stays ms m at m.address
        (λ before rest x is same role. absurd (none (subst (λ l. IsMentioned l m.address) (sym is) (any_split (Mentions m.address) before rest x (same, role))))) there

    all_more : (at : Address) → Contains (list ++ m.address ∷ []) at ↔ IsMentioned (ms ++ m ∷ []) at
    all_more at = (
      (λ c. there (Contains-push_cases list m.address at c)),
      (λ any. back (any_push_cases (Mentions at) ms m any)),
    )
      where
        there : Contains list at ⊎ (m.address ≡ at) → IsMentioned (ms ++ m ∷ []) at
        there (inl c) = any_left (Mentions at) ms (m ∷ []) ((h.all at).0 c)
        there (inr same) = any_push (Mentions at) ms m (same, role)

        back : IsMentioned ms at ⊎ Mentions at m → Contains (list ++ m.address ∷ []) at
        back (inl any) = Contains-append_left list (m.address ∷ []) at ((h.all at).1 any)
        back (inr p) = subst (Contains (list ++ m.address ∷ [])) p.0 (Contains-push list m.address)

    longer_list : IsFirstMentions (ms ++ m ∷ []) (list ++ m.address ∷ [])
    longer_list = record {
      all = all_more;
      once = all_pairs_push (λ at other. ¬ (at ≡ other)) list m.address h.once (λ k d low same. none (subst (IsMentioned ms) same (listed k d low)));
      order = all_pairs_push (ComesFirst (ms ++ m ∷ [])) list m.address order_stays (λ k d low. behind_all (get_or list k d) (listed k d low));
    }

one_more : (ms : List Named) (m : Named) → IsFirstMentions ms (first_mentions ms) → IsFirstMentions (ms ++ m ∷ []) (first_mentions (ms ++ m ∷ []))
one_more ms m h = by (is_mention m) refl (is_named left m.address) refl
  where
    left : List Named
    left = filter is_mention ms

    by : (b : Bool) → is_mention m ≡ b → (c : Bool) → is_named left m.address ≡ c → IsFirstMentions (ms ++ m ∷ []) (first_mentions (ms ++ m ∷ []))
    by false bare c e =
        let is : filter is_mention (ms ++ m ∷ []) ≡ left = filter-append is_mention ms (m ∷ []) ∙ ap (λ l. left ++ l) (cond-false _ _ _ bare) ∙ append-nil left in
        subst (IsFirstMentions (ms ++ m ∷ [])) (ap (first_named []) (sym is)) (same_list ms (first_mentions ms) h m (λ role. absurd (true≢false (sym role ∙ bare))))
    by true role true again =
        let is : filter is_mention (ms ++ m ∷ []) ≡ left ++ m ∷ [] = filter-append is_mention ms (m ∷ []) ∙ ap (λ l. left ++ l) (cond-true _ _ _ role) in
        let list : first_mentions (ms ++ m ∷ []) ≡ first_mentions ms =
        ap (first_named []) is ∙ first_push left [] m ∙ ap (λ b. first_named [] left ++ cond b [] (m.address ∷ [])) again ∙ append-nil (first_mentions ms) in
        subst (IsFirstMentions (ms ++ m ∷ [])) (sym list) (same_list ms (first_mentions ms) h m (λ _. mentioned ms m.address again))
    by true role false new =
        let is : filter is_mention (ms ++ m ∷ []) ≡ left ++ m ∷ [] = filter-append is_mention ms (m ∷ []) ∙ ap (λ l. left ++ l) (cond-true _ _ _ role) in
        let list : first_mentions (ms ++ m ∷ []) ≡ first_mentions ms ++ m.address ∷ [] =
        ap (first_named []) is ∙ first_push left [] m ∙ ap (λ b. first_named [] left ++ cond b [] (m.address ∷ [])) new in
        subst (IsFirstMentions (ms ++ m ∷ [])) (sym list) (longer_list ms (first_mentions ms) h m role (λ any. true≢false (sym (found ms m.address any) ∙ new)))

all_more_mentions : (ms earlier : List Named) → IsFirstMentions earlier (first_mentions earlier) → IsFirstMentions (earlier ++ ms) (first_mentions (earlier ++ ms))
all_more_mentions [] earlier h = rw append-nil h
all_more_mentions (m ∷ ms) earlier h = subst (λ l. IsFirstMentions l (first_mentions l)) (append_assoc earlier (m ∷ []) ms) (all_more_mentions ms (earlier ++ m ∷ []) (one_more earlier m h))

no_mentions : IsFirstMentions [] []
no_mentions = search rules

pub first_mentions_are_these : FirstMentionsAreThese
first_mentions_are_these ms = all_more_mentions ms [] no_mentions

-- where the one that has it stands
record Split (P : Named → Type 0) (ms : List Named) : Type 0 where
  before : List Named
  it : Named
  behind : List Named
  is : ms ≡ before ++ it ∷ behind
  has : P it

split_at_any : (P : Named → Type 0) (ms : List Named) → Any P ms → Split P ms
split_at_any P [] (k, x, low, is, p) = absurd (omega (arith, low))
split_at_any P (m ∷ ms) any = by (any_cases P m ms any) (split_at_any P ms)
  where
    by : P m ⊎ Any P ms → (Any P ms → Split P ms) → Split P (m ∷ ms)
    by (inl p) ih = record { before = []; it = m; behind = ms; is = refl; has = p }
    by (inr later) ih = let s = ih later in record { before = m ∷ s.before; it = s.it; behind = s.behind; is = ap (λ l. m ∷ l) s.is; has = s.has }

-- a mention of each before each of the other would go on for ever
descent : (n : ℕ) (ms : List Named) (at other : Address) → ComesFirst ms at other → ComesFirst ms other at
    → (before behind : List Named) (m : Named) → length before < n → ms ≡ before ++ m ∷ behind → Mentions at m → ⊥
descent zero ms at other first back before behind m low is has = absurd (omega arith)
descent (suc n) ms at other first back before behind m low is has =
    let s = split_at_any (Mentions other) before (back before behind m is has.0 has.1) in
    let long : length before ≡ length s.before + suc (length s.behind) = ap length s.is ∙ length-append s.before (s.it ∷ s.behind) in
    let all : ms ≡ s.before ++ s.it ∷ (s.behind ++ m ∷ behind) = is ∙ ap (λ l. l ++ m ∷ behind) s.is ∙ append_assoc s.before (s.it ∷ s.behind) (m ∷ behind) in
    descent n ms other at back first s.before (s.behind ++ m ∷ behind) s.it (omega (arith, long, low)) all s.has

-- it is mentioned, and before the other
abbrev Leads : List Named → Address → Address → Type 0
Leads ms at other = IsMentioned ms at × ComesFirst ms at other

never_both : (ms : List Named) (at other : Address) → Leads ms at other → Leads ms other at → ⊥
never_both ms at other a b =
    let s = split_at_any (Mentions at) ms a.0 in
    descent (suc (length s.before)) ms at other a.1 b.1 s.before s.behind s.it (omega arith) s.is s.has

contains_cases : (x : Address) (xs : List Address) (y : Address) → Contains (x ∷ xs) y → (x ≡ y) ⊎ Contains xs y
contains_cases x xs y h1 = search rules

contains_here : (x : Address) (xs : List Address) → Contains (x ∷ xs) x
contains_here x xs = (zero, omega arith, refl)

-- lists of one order, of which no two come each before the other, are equal where they have the same addresses
module _ (R : Address → Address → Type 0) (never : (x y : Address) → R x y → R y x → ⊥) where
  before_rest : (x : Address) (xs : List Address) (y : Address) → AllPairs R (x ∷ xs) → Contains xs y → R x y
  before_rest x xs y pairs (k, low, is) = subst (R x) is (pairs zero (suc k) y (omega arith) (omega (arith, low)))

  pairs_rest : (x : Address) (xs : List Address) → AllPairs R (x ∷ xs) → AllPairs R xs
  pairs_rest x xs pairs i j d before low = pairs (suc i) (suc j) d (omega arith) (omega arith)

  same_head : (x : Address) (a : List Address) (y : Address) (b : List Address) → AllPairs R (x ∷ a) → AllPairs R (y ∷ b) → Contains (x ∷ a) y → Contains (y ∷ b) x → x ≡ y
  same_head x a y b first second there back = by (contains_cases x a y there) (contains_cases y b x back)
    where
      by : (x ≡ y) ⊎ Contains a y → (y ≡ x) ⊎ Contains b x → x ≡ y
      by (inl same) _ = same
      by (inr _) (inl same) = sym same
      by (inr later) (inr other) = absurd (never x y (before_rest x a y first later) (before_rest y b x second other))

  in_rest : (x : Address) (a : List Address) (y : Address) (b : List Address) (z : Address) → AllPairs R (x ∷ a) → x ≡ y → (Contains (x ∷ a) z → Contains (y ∷ b) z) → Contains a z → Contains b z
  in_rest x a y b z pairs same over there = by (contains_cases y b z (over (Contains-append_right (x ∷ []) a z there)))
    where
      by : (y ≡ z) ⊎ Contains b z → Contains b z
      by (inl here) = let self : R z z = subst (λ w. R w z) (same ∙ here) (before_rest x a z pairs there) in absurd (never z z self self)
      by (inr later) = later

  one_order : (a b : List Address) → AllPairs R a → AllPairs R b → ((at : Address) → Contains a at ↔ Contains b at) → a ≡ b
  one_order [] [] first second same = refl
  one_order [] (y ∷ b) first second same = let none = (same y).1 (contains_here y b) in absurd (omega (arith, none.1))
  one_order (x ∷ a) [] first second same = let none = (same x).0 (contains_here x a) in absurd (omega (arith, none.1))
  one_order (x ∷ a) (y ∷ b) first second same =
      let head = same_head x a y b first second ((same y).1 (contains_here y b)) ((same x).0 (contains_here x a)) in
      let rest = one_order a b (pairs_rest x a first) (pairs_rest y b second) (λ z. (in_rest x a y b z first head (same z).0, in_rest y b x a z second (sym head) (same z).1)) in
      λ k. head k ∷ rest k

leading : (ms : List Named) (list : List Address) → IsFirstMentions ms list → AllPairs (Leads ms) list
leading ms list h i j d before low = ((h.all (get_or list i d)).0 (Contains-get_or list i d (omega arith)), h.order i j d before low)

pub one_list_of_first_mentions : OneListOfFirstMentions
one_list_of_first_mentions ms a b first second =
    one_order (Leads ms) (never_both ms) a b (leading ms a first) (leading ms b second) (λ at. ((λ c. (second.all at).1 ((first.all at).0 c)), (λ c. (first.all at).1 ((second.all at).0 c))))
