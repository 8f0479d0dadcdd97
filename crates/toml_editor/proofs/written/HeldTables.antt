-- An array or a table that stands in the value of a line, or is it, holds what is to stand in it: a table each name, and what is named there.
use Rattle.std.proofs.Common.{◌≡◌, ◌⊎◌, ◌∙◌, inl, inr, ℕ, zero, suc, ◌+◌, Bool, true, false, ◌&&◌, cond, All, Some, None, List, [], ◌∷◌, ◌++◌, map, length, drop, sym, ap, ap₂, subst, true≢false, append_assoc, append-nil, arith, refl}
use Rattle.std.proofs.lemmas.Bool.{and_parts}
use Rattle.std.proofs.lemmas.List.{append_cancel_left}
use Rattle.std.specs.List.{list_all, list_any}
use Rattle.std.specs.Str.{bytes_eq}
use Rattle.toml_tree.specs.Spells.{EachIs}
use Rattle.toml_tree.specs.Tree.{Piece, Assign, Value, Scalar, Array, Inline, Items, Close, Last, More, Pairs, ClosePairs, LastPair, MorePairs, Expr, BlankLine, KeyValLine, TableLine, ArrayTableLine, Line}
use Rattle.toml_names.specs.declared.mentions.mention.Role.{Role}
use Rattle.toml_names.specs.declared.mentions.mention.Role.TheVariants.{Bare, Valued}
use Rattle.toml_names.specs.declared.model.address.Step.{Step}
use Rattle.toml_names.specs.declared.model.address.Step.TheVariants.{Index, Name}
use Rattle.toml_names.specs.mentions.Clear.{AreValuesAt, IsClear}
use Rattle.toml_names.specs.mentions.Keys.{Key, key_names}
use Rattle.toml_names.specs.mentions.Mentions.{Kind, Named, a_table, elements, fronts, inside, kind_of, members, named, named_by, named_from, pair_named, root, section, value_named}
use Rattle.toml_names.specs.mentions.Rules.{KeepsRules}
use Rattle.toml_names.specs.model.Addresses.{Address, IsAbove, below, child, element, same_step}
use Rattle.toml_names.proofs.Proved.{clear_of_root, headers_are_clear, inside_is_below, same_step-equal}
use Rattle.toml_layout.specs.Apart.{EachApart, HasKeysApart, KeysApart, begins_key, keys_of}
use Rattle.toml_layout.specs.Beginnings.{begins}
use Rattle.toml_layout.specs.Holders.{element_holds, has_holder, is_name, pair_holds, parent_of}
use Rattle.toml_layout.specs.Leading.{leads}
use Rattle.toml_layout.specs.Outlines.{Braced, End, EntriesOutline, Entry, Listed}
use Rattle.toml_layout.specs.SetOutlines.{outlined_names}
use Rattle.toml_layout.specs.TreeOutlines.{assign_outline, items_outline, pairs_outline, value_outline}
use Rattle.toml_working.specs.HeldLines.{has_container_at}
use Rattle.toml_working.specs.Standing.{IsApart, holds, line_stands, standing, standing_from}
use Rattle.toml_editor.specs.LastTexts.{HasContainerAt}
use Rattle.toml_editor.proofs.Each.{each_back, each_front, each_weaker}
use Rattle.toml_editor.proofs.SetOutlined.{names_outlined}
use Rattle.toml_editor.proofs.written.Alike.{alike_self, each_from}
use Rattle.toml_editor.proofs.written.Clear.{below-cons}
use Rattle.toml_editor.proofs.written.Closed.{no_end}
use Rattle.toml_editor.proofs.written.DocumentSections.{begins_longer}
use Rattle.toml_editor.proofs.written.Pairwise.{Has, each_of_all, from_has, has_parts, taken}
use Rattle.toml_editor.proofs.written.SectionLeads.{line_steps}
use Rattle.toml_editor.proofs.written.SetKept.{values_at}
use Rattle.toml_editor.proofs.written.SetNamed.{fronts_clear, one_line}
use Rattle.toml_editor.proofs.written.StandingHas.{or_left, or_right}
use Rattle.toml_editor.proofs.written.StandingOrder.{any_value, rules_order}
use Rattle.toml_editor.proofs.written.TablesStay.{parent_is}
use Rattle.toml_editor.proofs.written.ValuesAbove.{IsOver, value_over, value_there}

-- ---- a key and its fronts

drop_front : (at rest : Address) → drop (length at) (at ++ rest) ≡ rest
drop_front [] rest = refl
drop_front (s ∷ at) rest = drop_front at rest

drop_names : (k : Key) (rest : Address) → drop (length k) (map Name k ++ rest) ≡ rest
drop_names [] rest = refl
drop_names (n ∷ k) rest = drop_names k rest

-- of two keys that lead to the same steps one is a beginning of the other
one_begins : (k l : Key) (steps : Address) → leads k steps ≡ true → leads l steps ≡ true → (begins_key k l ≡ true) ⊎ (begins_key l k ≡ true)
one_begins [] l steps h j = inl refl
one_begins (m ∷ k) [] steps h j = inr refl
one_begins (m ∷ k) (n ∷ l) [] h j = absurd (true≢false (sym h))
one_begins (m ∷ k) (n ∷ l) (s ∷ steps) h j =
    let (here, behind) = and_parts (same_step (Name m) s) (leads k steps) h in
    let (there, further) = and_parts (same_step (Name n) s) (leads l steps) j in
    let one : same_step (Name m) (Name n) ≡ true = subst (λ t. same_step (Name m) t ≡ true) (sym (same_step-equal (Name n) s there)) here in
    let two : same_step (Name n) (Name m) ≡ true = subst (λ t. same_step (Name n) t ≡ true) (sym (same_step-equal (Name m) s here)) there in
    elim (one_begins k l steps behind further) [
      | inl is ↦ inl (ap₂ (λ a b. a && b) one is)
      | inr is ↦ inr (ap₂ (λ a b. a && b) two is)
    ]

-- the steps are a proper front of the key
abbrev IsFront : Address → Key → Type 0
IsFront steps k = (front : Key) × (n : List ℕ) × (more : Key) × (k ≡ front ++ n ∷ more) × (steps ≡ map Name front)

-- the steps are at the key's value or below it, or such a front
abbrev Meets : Address → Key → Type 0
Meets steps k = (leads k steps ≡ true) ⊎ IsFront steps k

-- neither key is a beginning of the other
abbrev AreApart : Key → Key → Type 0
AreApart k l = (begins_key k l ≡ false) × (begins_key l k ≡ false)

-- what leads to a front begins the key
begins_front : (k front rest : Key) → leads k (map Name front) ≡ true → begins_key k (front ++ rest) ≡ true
begins_front [] front rest h = refl
begins_front (m ∷ k) [] rest h = absurd (true≢false (sym h))
begins_front (m ∷ k) (n ∷ front) rest h =
    let (here, behind) = and_parts (bytes_eq m n) (leads k (map Name front)) h in
    ap₂ (λ a b. a && b) here (begins_front k front rest behind)

-- the key itself is longer
front_not_led : (front : Key) (n : List ℕ) (more : Key) → leads (front ++ n ∷ more) (map Name front) ≡ false
front_not_led [] n more = refl
front_not_led (m ∷ front) n more = ap (λ b. bytes_eq m m && b) (front_not_led front n more) ∙ no (bytes_eq m m)
  where
    no : (b : Bool) → (b && false) ≡ false
    no true = refl
    no false = refl

-- where one of the keys meets the steps, one that is apart from all of them does not lead there
apart_not_led : (k : Key) (ks : List Key) (steps : Address) → All (AreApart k) ks → Has (Meets steps) ks → leads k steps ≡ false
apart_not_led k ks steps apart met = by (leads k steps) refl
  where
    at_front : (l : Key) → leads k steps ≡ true → IsFront steps l → begins_key k l ≡ true
    at_front l is (front, n, more, key, at) = ap (begins_key k) key ∙ begins_front k front (n ∷ more) (ap (leads k) (sym at) ∙ is)

    by : (b : Bool) → leads k steps ≡ b → leads k steps ≡ false
    by false is = is
    by true is =
        absurd (from_has (AreApart k) (Meets steps) ⊥
        (λ l two there. elim there [
          | inl led ↦ elim (one_begins k l steps is led) [
            | inl one ↦ true≢false (sym one ∙ two.0)
            | inr one ↦ true≢false (sym one ∙ two.1)
          ]
          | inr front ↦ true≢false (sym (at_front l is front) ∙ two.0)
        ])
        ks (each_of_all _ ks apart) met)

-- and none leads to the front of a key that is apart from all of them
none_leads : (k : Key) (ks : List Key) (steps : Address) → All (AreApart k) ks → IsFront steps k → EachIs (λ l. leads l steps ≡ false) ks
none_leads k ks steps apart (front, n, more, key, at) =
    each_weaker (AreApart k) (λ l. leads l steps ≡ false) (λ l two. by l two (leads l steps) refl) ks (each_of_all _ ks apart)
  where
    by : (l : Key) → AreApart k l → (b : Bool) → leads l steps ≡ b → leads l steps ≡ false
    by l two false is = is
    by l two true is = absurd (true≢false (sym (ap (begins_key l) key ∙ begins_front l front (n ∷ more) (ap (leads l) (sym at) ∙ is)) ∙ two.1))

-- What is of the kind stands at the address, and the step is one that it holds; only names follow what dotted keys make.
module _ (q : Address) (s : Step) (kind : Kind) (whole : (v : Value) → kind_of v ≡ kind → has_holder (value_outline v) (s ∷ []) ≡ true)
    (dotted : a_table ≡ kind → is_name s ≡ true) where
  abbrev last : Address
  last = s ∷ []

  abbrev IsIt : Named → Type 0
  IsIt m = (m.address ≡ q) × (m.kind ≡ kind)

  -- a table that a key passes
  passed : (key : Key) (n : ℕ) (at : Address) → Has IsIt (fronts n at key)
      → (a_table ≡ kind) × (front : Key) × (m : List ℕ) × (more : Key) × (key ≡ front ++ m ∷ more) × (q ≡ below at front)
  passed [] n at h = absurd h
  passed (k ∷ []) n at h = absurd h
  passed (k ∷ l ∷ more) n at (inl h) = (h.1, k ∷ [], l, more, refl, sym h.0)
  passed (k ∷ l ∷ more) n at (inr h) =
      let (is, front, m, rest, key, there) = passed (l ∷ more) n (child at k) h in
      (is, k ∷ front, m, rest, ap (λ x. k ∷ x) key, there ∙ below-cons at k front)

  -- else it stands at the value's address or below it
  reached : (v : Value) (n : ℕ) (role : Role) (at : Address) → Has IsIt (value_named n role at v ∷ inside n at v) → (rest : Address) × (q ≡ at ++ rest)
  reached v n role at (inl h) = ([], sym h.0 ∙ sym (append-nil at))
  reached v n role at (inr h) =
      from_has (λ m. IsAbove at m.address) IsIt ((rest : Address) × (q ≡ at ++ rest)) (λ m above is. (above.0 ∷ above.1, sym is.0 ∙ above.2)) (inside n at v)
      (inside_is_below n v at) h

  -- ---- in the outline of a value

  list_holds : (o : List ℕ) (es : EntriesOutline) (j : ℕ) (rest : Address) → element_holds es j (rest ++ last) ≡ true
      → has_holder (Listed o es) (Index j ∷ (rest ++ last)) ≡ true
  list_holds o es j [] held = held
  list_holds o es j (t ∷ rest) held = held

  brace_holds : (o : List ℕ) (es : EntriesOutline) (steps : Address) → pair_holds es (steps ++ last) ≡ true → has_holder (Braced o es) (steps ++ last) ≡ true
  brace_holds o es [] held = held
  brace_holds o es (t ∷ steps) held = held

  -- the table itself holds it where no pair leads on
  none_holds : (es : EntriesOutline) (steps : Address) → EachIs (λ k. leads k steps ≡ false) (keys_of es) → list_all is_name (steps ++ last) ≡ true
      → pair_holds es (steps ++ last) ≡ true
  none_holds (End gap) steps none all = all
  none_holds (Entry before None v after es) steps none all = none_holds es steps none all
  none_holds (Entry before (Some a) v after es) steps none all =
      let k = outlined_names a in
      ap (λ b. cond b (has_holder v (drop (length k) (steps ++ last))) (pair_holds es (steps ++ last))) (ap (leads k) (parent_is steps s) ∙ none.0)
      ∙ none_holds es steps none.1 all

  all_names : (front : Key) → is_name s ≡ true → list_all is_name (map Name front ++ last) ≡ true
  all_names [] is = ap (λ b. b && true) is
  all_names (n ∷ front) is = all_names front is

  abbrev IsListedAt : EntriesOutline → Address → ℕ → Type 0
  IsListedAt es at k = (j : ℕ) × (rest : Address) × (q ≡ element at (k + j) ++ rest) × (element_holds es j (rest ++ last) ≡ true)

  first : (at : Address) (k : ℕ) (rest : Address) → element at k ++ rest ≡ element at (k + 0) ++ rest
  first at k rest = ap (λ m. element at m ++ rest) (let e : k ≡ k + 0 = omega arith in e)

  -- a pair whose key meets the steps, once its value holds it
  pair_meets : (a : Assign) (v : Value) (n : ℕ) (at steps : Address) (es : EntriesOutline) → All (AreApart (outlined_names (assign_outline a))) (keys_of es)
      → ((rest : Address) → q ≡ below at (key_names a.key) ++ rest
      → Has IsIt (value_named n Valued (below at (key_names a.key)) v ∷ inside n (below at (key_names a.key)) v)
      → has_holder (value_outline v) (rest ++ last) ≡ true) → q ≡ at ++ steps
      → Has IsIt (pair_named n at a v)
      → (cond (leads (outlined_names (assign_outline a)) (parent_of (steps ++ last)))
      (has_holder (value_outline v) (drop (length (outlined_names (assign_outline a))) (steps ++ last))) (pair_holds es (steps ++ last)) ≡ true)
      × Meets steps (outlined_names (assign_outline a))
  pair_meets a v n at steps es apart held way h =
      let k = key_names a.key in
      let to = below at k in
      let names = outlined_names (assign_outline a) in
      elim (has_parts IsIt (fronts n at k) (value_named n Valued to v ∷ inside n to v) h) [
        | inl on ↦
            let (is, front, m, more, key, there) = passed k n at on in
            let split : steps ≡ map Name front = append_cancel_left at steps (map Name front) (sym way ∙ there) in
            let long : names ≡ front ++ m ∷ more = names_outlined a ∙ key in (
              ap (λ b. cond b (has_holder (value_outline v) (drop (length names) (steps ++ last))) (pair_holds es (steps ++ last)))
                  (ap (leads names) (parent_is steps s) ∙ ap₂ leads long split ∙ front_not_led front m more)
                  ∙ none_holds es steps (none_leads names (keys_of es) steps apart (front, m, more, long, split))
                  (ap (λ x. list_all is_name (x ++ last)) split ∙ all_names front (dotted is)),
              inr (front, m, more, long, split),
            )
        | inr there ↦
            let (rest, is) = reached v n Valued to there in
            let split : steps ≡ map Name k ++ rest = append_cancel_left at steps (map Name k ++ rest) (sym way ∙ is ∙ append_assoc at (map Name k) rest) in
            let lead : leads names steps ≡ true = ap₂ leads (names_outlined a) split ∙ begins_longer (map Name k) rest in (
              ap (λ b. cond b (has_holder (value_outline v) (drop (length names) (steps ++ last))) (pair_holds es (steps ++ last)))
                  (ap (leads names) (parent_is steps s) ∙ lead)
                  ∙ ap₂ (λ l x. has_holder (value_outline v) (drop (length l) (x ++ last))) (names_outlined a) split
                  ∙ ap (λ x. has_holder (value_outline v) (drop (length k) x)) (append_assoc (map Name k) rest last)
                  ∙ ap (has_holder (value_outline v)) (drop_names k (rest ++ last)) ∙ held rest is there,
              inl lead,
            )
      ]

  mutual
    value_holds : (v : Value) (n : ℕ) (role : Role) (at steps : Address) → HasKeysApart (value_outline v) → q ≡ at ++ steps
        → Has IsIt (value_named n role at v ∷ inside n at v) → has_holder (value_outline v) (steps ++ last) ≡ true
    value_holds v n role at steps apart way (inl h) =
        let none : steps ≡ [] = append_cancel_left at steps [] (sym way ∙ sym h.0 ∙ sym (append-nil at)) in
        ap (λ x. has_holder (value_outline v) (x ++ last)) none ∙ whole v h.1
    value_holds (Scalar k text) n role at steps apart way (inr h) = absurd h
    value_holds (Array t items) n role at steps apart way (inr h) =
        let (j, rest, is, held) = items_hold items n at 0 apart h in
        let split : steps ≡ Index (0 + j) ∷ rest =
        append_cancel_left at steps (Index (0 + j) ∷ rest) (sym way ∙ is ∙ append_assoc at (Index (0 + j) ∷ []) rest) in
        ap (λ x. has_holder (value_outline (Array t items)) (x ++ last)) (split ∙ ap (λ k. Index k ∷ rest) (let e : 0 + j ≡ j = omega arith in e))
        ∙ list_holds (0x5B ∷ []) (items_outline items) j rest held
    value_holds (Inline t pairs) n role at steps apart way (inr h) =
        brace_holds (0x7B ∷ []) (pairs_outline pairs) steps (pairs_hold pairs n at steps apart.0 apart.1 way h).0

    items_hold : (items : Items) (n : ℕ) (at : Address) (k : ℕ) → EachApart (items_outline items) → Has IsIt (elements n at k items)
        → IsListedAt (items_outline items) at k
    items_hold (Close g) n at k apart h = absurd h
    items_hold (Last g v b) n at k apart h =
        let (rest, is) = reached v n Bare (element at k) h in
        (zero, rest, is ∙ first at k rest, value_holds v n Bare (element at k) rest apart.0 is h)
    items_hold (More g v b more) n at k apart h =
        elim (has_parts IsIt (value_named n Bare (element at k) v ∷ inside n (element at k) v) (elements n at (k + 1) more) h) [
          | inl there ↦
              let (rest, is) = reached v n Bare (element at k) there in
              (zero, rest, is ∙ first at k rest, value_holds v n Bare (element at k) rest apart.0 is there)
          | inr later ↦
              let (j, rest, is, held) = items_hold more n at (k + 1) apart.1 later in
              (suc j, rest, is ∙ ap (λ m. element at m ++ rest) (let e : (k + 1) + j ≡ k + suc j = omega arith in e), held)
        ]

    pairs_hold : (pairs : Pairs) (n : ℕ) (at steps : Address) → KeysApart (keys_of (pairs_outline pairs)) → EachApart (pairs_outline pairs) → q ≡ at ++ steps
        → Has IsIt (members n at pairs) → (pair_holds (pairs_outline pairs) (steps ++ last) ≡ true) × Has (Meets steps) (keys_of (pairs_outline pairs))
    pairs_hold (ClosePairs g) n at steps keys apart way h = absurd h
    pairs_hold (LastPair g a v b) n at steps keys apart way h =
        let (holds, meets) = pair_meets a v n at steps (End None) keys.0 (λ rest. value_holds v n Valued (below at (key_names a.key)) rest apart.0) way h in
        (holds, inl meets)
    pairs_hold (MorePairs g a v b ps) n at steps keys apart way h =
        let k = outlined_names (assign_outline a) in
        elim (has_parts IsIt (pair_named n at a v) (members n at ps) h) [
          | inl there ↦
              let (holds, meets) =
              pair_meets a v n at steps (pairs_outline ps) keys.0 (λ rest. value_holds v n Valued (below at (key_names a.key)) rest apart.0) way there in
              (holds, inl meets)
          | inr later ↦
              let (holds, met) = pairs_hold ps n at steps keys.1 apart.1 way later in (
                ap (λ b. cond b (has_holder (value_outline v) (drop (length k) (steps ++ last))) (pair_holds (pairs_outline ps) (steps ++ last)))
                    (ap (leads k) (parent_is steps s) ∙ apart_not_led k (keys_of (pairs_outline ps)) steps keys.0 met) ∙ holds,
                inr met,
              )
        ]

  -- ---- on lines, where a line's value stands there or above

  module _ (a : Address) (not_root : ¬ (a ≡ [])) (over : (a ≡ q) ⊎ IsAbove a q) where
    no_clear : (ms : List Named) → EachIs (λ m. IsClear a m.address) ms → Has IsIt ms → ⊥
    no_clear ms clear h =
        from_has (λ m. IsClear a m.address) IsIt ⊥
        (λ m apart is. elim over [
          | inl same ↦ apart.apart (same ∙ sym is.0)
          | inr above ↦ apart.not_above (subst (IsAbove a) (sym is.0) above)
        ])
        ms clear h

    line_holds : (xs : List Named) (n : ℕ) (e : Expr) (newline : Piece) → IsClear a (section xs) → AreValuesAt a (xs ++ named_by xs n e)
        → IsApart (line_stands xs (record { expr = e; newline = newline })).outline.expr → Has IsIt (named_by xs n e)
        → has_container_at (q ++ last) (line_stands xs (record { expr = e; newline = newline })) ≡ true
    line_holds xs n (BlankLine b) newline clear values apart h = absurd h
    line_holds xs n (TableLine ws header tail) newline clear values apart h =
        absurd (no_clear _ (headers_are_clear a xs n (TableLine ws header tail) not_root tt values) h)
    line_holds xs n (ArrayTableLine ws header tail) newline clear values apart h =
        absurd (no_clear _ (headers_are_clear a xs n (ArrayTableLine ws header tail) not_root tt values) h)
    line_holds xs n (KeyValLine ws pair tail) newline clear values apart h =
        let k = key_names pair.assign.key in
        let to = below (section xs) k in
        let v = value_outline pair.value in
        let own = value_named n Valued to pair.value ∷ inside n to pair.value in
        elim (has_parts IsIt (fronts n (section xs) k) own h) [
          | inl on ↦
              let mine = each_front _ (fronts n (section xs) k) own (each_back _ xs (fronts n (section xs) k ++ own) values) in
              absurd (no_clear (fronts n (section xs) k) (fronts_clear a pair.value n k (section xs) clear mine) on)
          | inr there ↦
              let (rest, way) = reached pair.value n Valued to there in
              let split : q ++ last ≡ to ++ (rest ++ last) = ap (λ x. x ++ last) way ∙ append_assoc to rest last in
              ap₂ (λ b c. b && c) (ap (begins to) split ∙ begins_longer to (rest ++ last))
              (ap (λ x. has_holder v (drop (length to) x)) split ∙ ap (has_holder v) (drop_front to (rest ++ last))
              ∙ value_holds pair.value n Valued to rest apart way there)
        ]

    lines_hold : (ls : List Line) (xs : List Named) (n : ℕ) → IsClear a (section xs) → AreValuesAt a (named_from xs n ls)
        → EachIs (λ t. IsApart t.outline.expr) (standing_from xs n ls) → Has IsIt (named_from xs n ls)
        → Has IsIt xs ⊎ (list_any (has_container_at (q ++ last)) (standing_from xs n ls) ≡ true)
    lines_hold [] xs n clear values apart h = inl h
    lines_hold (l ∷ ls) xs n clear values apart h =
        let new = named_by xs n l.expr in
        let here = each_from _ ls (xs ++ new) (n + 1) values in
        elim (lines_hold ls (xs ++ new) (n + 1) (one_line a any_value xs xs n l.expr (alike_self xs) clear here).clear values apart.1 h) [
          | inr later ↦ inr (or_right (has_container_at (q ++ last) (line_stands xs l)) _ later)
          | inl sooner ↦ elim (has_parts IsIt xs new sooner) [
            | inl before ↦ inl before
            | inr there ↦ inr (or_left _ _ (line_holds xs n l.expr l.newline clear here apart.0 there))
          ]
        ]

    not_at_root : ¬ ([] ≡ q)
    not_at_root is = elim over [
      | inl same ↦ not_root (same ∙ sym is)
      | inr above ↦ no_end a above.0 above.1 (is ∙ above.2)
    ]

  pub kind_held : (lines : List Line) → KeepsRules (named lines) → list_any (holds q) (standing lines) ≡ true → Has IsIt (named lines)
      → HasContainerAt lines (q ++ last)
  kind_held lines keeps held there =
      taken (IsOver q) (HasContainerAt lines (q ++ last)) (named lines)
      (λ v among over.
      elim (lines_hold v.address over.not_root over.over lines (root ∷ []) 0 (clear_of_root v.address over.not_root)
      (values_at v.address lines (value_there q lines v among over) keeps) (each_of_all _ (standing lines) (rules_order lines keeps).apart) there) [
        | inr found ↦ found
        | inl (inl is) ↦ absurd (not_at_root v.address over.not_root over.over is.0)
        | inl (inr none) ↦ absurd none
      ])
      (value_over q lines held)

-- an inline table itself, where a key has a name at least
table_whole : (name : List ℕ) (v : Value) → kind_of v ≡ a_table → has_holder (value_outline v) (Name name ∷ []) ≡ true
table_whole name (Scalar k text) is = cc
table_whole name (Array t items) is = cc
table_whole name (Inline t pairs) is = by pairs
  where
    by : (ps : Pairs) → pair_holds (pairs_outline ps) (Name name ∷ []) ≡ true
    by (ClosePairs g) = refl
    by (LastPair g a v b) = refl
    by (MorePairs g a v b ps) = by ps

-- A table holds each name that is to stand in it.
pub table_held : (q : Address) (name : List ℕ) (lines : List Line) → KeepsRules (named lines) → list_any (holds q) (standing lines) ≡ true
    → Has (λ m. (m.address ≡ q) × (m.kind ≡ a_table)) (named lines) → HasContainerAt lines (child q name)
table_held q name lines keeps held there = kind_held q (Name name) a_table (table_whole name) (λ is. refl) lines keeps held there

-- What is named at a name stands in a table, which holds it.
pub name_held : (q : Address) (name : List ℕ) (lines : List Line) → KeepsRules (named lines) → list_any (holds q) (standing lines) ≡ true
    → Has (λ m. m.address ≡ child q name) (named lines) → HasContainerAt lines (child q name)
name_held q name lines keeps held there = table_held q name lines keeps held (line_steps lines keeps q (Name name) there)
