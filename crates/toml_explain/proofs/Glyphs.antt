-- What is shown of the characters of a line, and the columns that they take.
use Rattle.std.proofs.Common.{◌≡◌, ◌≢◌, ◌⊎◌, ℕ, ◌+◌, ◌-◌, ◌%◌, ◌==◌, ◌≤◌, ◌<◌, Bool, true, false, List, [], ◌∷◌, ◌++◌, map, Some, None, inl, inr, refl, sym, ap, ◌∙◌, subst, arith, append_assoc, append-nil}
use Rattle.std.specs.Prelude.{cond, encode_utf8, encode_utf8_all, length, min, nat_le, nat_lt, slice_range, unwrap_or}
use Rattle.std.proofs.lemmas.Bool.{cond_both, ltb-true, ltb-false, leb-true, leb-false}
use Rattle.std.proofs.lemmas.Bool.Decides.{nat_tests}
use Rattle.std.proofs.lemmas.Option.{none-some}
use Rattle.unicode_width.specs.Width.{alone, char_width}
use Rattle.toml_explain.specs.Openings.{shown_character}
use Rattle.toml_explain.specs.Shown.{ShowsRun, column_behind, columns_at, dots, is_genuine, max_columns, shown_line, shown_span}

-- a character that has a width, and one that has none
has_width : (c w : ℕ) → char_width false c ≡ Some w → ((0x20 ≤ c) × (c < 0x7F)) ⊎ (0xA0 ≤ c)
unfolding char_width
has_width c w =
    cond_both (nat_lt c 0x7F) _ _ (λ o. o ≡ Some w → ((0x20 ≤ c) × (c < 0x7F)) ⊎ (0xA0 ≤ c))
    (λ low. cond_both (nat_le 0x20 c) _ _ (λ o. o ≡ Some w → ((0x20 ≤ c) × (c < 0x7F)) ⊎ (0xA0 ≤ c)) (λ high is. inl (leb-true 0x20 c high, ltb-true c 0x7F low)) (λ no is. absurd (none-some w is)))
    (λ past. cond_both (nat_le 0xA0 c) _ _ (λ o. o ≡ Some w → ((0x20 ≤ c) × (c < 0x7F)) ⊎ (0xA0 ≤ c)) (λ high is. inr (leb-true 0xA0 c high)) (λ no is. absurd (none-some w is)))

has_none : (c : ℕ) → char_width false c ≡ None → (c < 0x20) ⊎ ((0x7F ≤ c) × (c < 0xA0))
unfolding char_width
has_none c =
    cond_both (nat_lt c 0x7F) _ _ (λ o. o ≡ None → (c < 0x20) ⊎ ((0x7F ≤ c) × (c < 0xA0)))
    (λ low. cond_both (nat_le 0x20 c) _ _ (λ o. o ≡ None → (c < 0x20) ⊎ ((0x7F ≤ c) × (c < 0xA0))) (λ high is. cc) (λ no is. inl (leb-false 0x20 c no)))
    (λ past. cond_both (nat_le 0xA0 c) _ _ (λ o. o ≡ None → (c < 0x20) ⊎ ((0x7F ≤ c) × (c < 0xA0))) (λ high is. cc) (λ no is. inr (ltb-false c 0x7F past, leb-false 0xA0 c no)))

is_itself : (c : ℕ) → ((0x20 ≤ c) × (c < 0x7F)) ⊎ (0xA0 ≤ c) → c ≢ 0xFEFF → shown_character c ≡ c
is_itself c (inl h) other = grind (arith, nat_tests)
is_itself c (inr h) other = grind (arith, nat_tests)

is_unknown : (c : ℕ) → c ≢ 9 → (c < 0x20) ⊎ ((0x7F ≤ c) × (c < 0xA0)) → shown_character c ≡ 0x3F
is_unknown c other (inl h) = grind (arith, nat_tests)
is_unknown c other (inr h) = grind (arith, nat_tests)

module _ (line : List ℕ) (start end c : ℕ) where
  pub tab_shown : c ≡ 9 → shown_span line (start, end, c) ≡ 9
  tab_shown is = subst (λ x. shown_span line (start, end, x) ≡ 9) (sym is) refl

  pub mark_shown : c ≡ 0xFEFF → shown_span line (start, end, c) ≡ 0x3F
  mark_shown is = subst (λ x. shown_span line (start, end, x) ≡ 0x3F) (sym is) refl

  pub no_character : is_genuine line start end c ≡ false → shown_span line (start, end, c) ≡ 0x3F
  no_character is = ap (λ b. cond b (shown_character c) 0x3F) is

  by_itself : is_genuine line start end c ≡ true → shown_span line (start, end, c) ≡ shown_character c
  by_itself is = ap (λ b. cond b (shown_character c) 0x3F) is

  pub wide_shown : is_genuine line start end c ≡ true → c ≢ 0xFEFF → (w : ℕ) → char_width false c ≡ Some w → shown_span line (start, end, c) ≡ c
  wide_shown genuine other w is = by_itself genuine ∙ is_itself c (has_width c w is) other

  pub none_shown : is_genuine line start end c ≡ true → c ≢ 9 → char_width false c ≡ None → shown_span line (start, end, c) ≡ 0x3F
  none_shown genuine other is = by_itself genuine ∙ is_unknown c other (has_none c is)

pub unknown_columns : (column : ℕ) → columns_at column 0x3F ≡ 1
unfolding char_width
unknown_columns column = refl

pub wide_columns : (column c w : ℕ) → c ≢ 9 → char_width false c ≡ Some w → columns_at column c ≡ w
wide_columns column c w other is =
    let test : (c == 9) ≡ false = grind (arith, nat_tests) in
    ap (λ b. cond b (8 - column % 8) (unwrap_or (char_width false c) 1)) test ∙ ap (λ o. unwrap_or o 1) is

-- the columns behind characters, where they are counted up to a limit
column_grows : (column : ℕ) (cs : List ℕ) → column ≤ column_behind column cs
column_grows column [] = omega arith
column_grows column (c ∷ cs) = let more = column_grows (column + columns_at column c) cs in omega (arith, more)

up_to : (a limit : ℕ) (cs : List ℕ) → min (column_behind (min a limit) cs) limit ≡ min (column_behind a cs) limit
up_to a limit cs = elim (nat_le a limit) as (λ t. nat_le a limit ≡ t → min (column_behind (min a limit) cs) limit ≡ min (column_behind a cs) limit) [
  | true ↦ λ e. let low = leb-true a limit e in let same : min a limit ≡ a = omega (arith, low) in ap (λ n. min (column_behind n cs) limit) same
  | false ↦ λ e.
      let high = leb-false a limit e in
      let one = column_grows (min a limit) cs in
      let other = column_grows a cs in
      omega (arith, high, one, other)
] refl

module _ (line : List ℕ) (s : ℕ × ℕ × ℕ) (it rest : List (ℕ × ℕ × ℕ)) (first : it ≡ s ∷ rest) where
  pub columns_more : (column next width shown limit total : ℕ) → shown ≡ shown_span line s → width ≡ columns_at column shown → next ≡ min (column + width) limit
      → min (column_behind column (map (shown_span line) it)) limit ≡ total → min (column_behind next (map (shown_span line) rest)) limit ≡ total
  columns_more column next width shown limit total drawn wide is before =
      let here : column + width ≡ column + columns_at column (shown_span line s) = ap (λ n. column + n) (wide ∙ ap (columns_at column) drawn) in
      ap (λ n. min (column_behind n (map (shown_span line) rest)) limit) (is ∙ ap (λ n. min n limit) here)
      ∙ (up_to (column + columns_at column (shown_span line s)) limit (map (shown_span line) rest)
      ∙ (ap (λ l. min (column_behind column (map (shown_span line) l)) limit) (sym first) ∙ before))

  -- the characters of a line, one after the other
  pub shown_more : (text new whole : List ℕ) (shown : ℕ) → shown ≡ shown_span line s → new ≡ text ++ encode_utf8 shown → text ++ encode_utf8_all (map (shown_span line) it) ≡ whole
      → new ++ encode_utf8_all (map (shown_span line) rest) ≡ whole
  shown_more text new whole shown drawn is before =
      let behind = encode_utf8_all (map (shown_span line) rest) in
      ap (λ l. l ++ behind) (is ∙ ap (λ c. text ++ encode_utf8 c) drawn)
      ∙ (append_assoc text (encode_utf8 (shown_span line s)) behind ∙ (ap (λ l. text ++ encode_utf8_all (map (shown_span line) l)) (sym first) ∙ before))

pub columns_end : (line : List ℕ) (it : List (ℕ × ℕ × ℕ)) → it ≡ [] → (column limit total : ℕ) → column ≤ limit → min (column_behind column (map (shown_span line) it)) limit ≡ total → column ≡ total
columns_end line it none column limit total low before =
    let here : min (column_behind column (map (shown_span line) it)) limit ≡ min column limit = ap (λ l. min (column_behind column (map (shown_span line) l)) limit) none in
    omega (arith, here, before, low)

pub shown_end : (line : List ℕ) (it : List (ℕ × ℕ × ℕ)) → it ≡ [] → (text whole : List ℕ) → text ++ encode_utf8_all (map (shown_span line) it) ≡ whole → text ≡ whole
shown_end line it none text whole before = sym (append-nil text) ∙ (ap (λ l. text ++ encode_utf8_all (map (shown_span line) l)) (sym none) ∙ before)

-- what is pushed of a line
pub is_run : (line start t1 t2 t3 t4 : List ℕ) (from to : ℕ) → from ≤ to → to ≤ length line → (column_behind 0 (shown_line line) ≤ max_columns → (from ≡ 0) × (to ≡ length line))
    → (a b : Bool) → a ≡ nat_lt 0 from → b ≡ nat_lt to (length line) → start ≡ [] → t1 ≡ start ++ dots a → (run : List ℕ) → run ≡ slice_range line from to
    → t2 ≡ t1 ++ encode_utf8_all (shown_line run) → t3 ≡ t2 → t4 ≡ t3 ++ dots b → ShowsRun line t4
is_run line start t1 t2 t3 t4 from to order within whole a b before behind e0 e1 run er e2 e3 e4 =
    let middle = encode_utf8_all (shown_line (slice_range line from to)) in
    let one : t1 ≡ dots a = e1 ∙ ap (λ l. l ++ dots a) e0 in
    let two : t2 ≡ dots a ++ middle = e2 ∙ ((λ i. one i ++ encode_utf8_all (shown_line (er i)))) in
    let four : t4 ≡ (dots a ++ middle) ++ dots b = e4 ∙ ap (λ l. l ++ dots b) (e3 ∙ two) in
    record {
      from = from;
      to = to;
      order = order;
      within = within;
      whole = whole;
      is = four ∙ (append_assoc (dots a) middle (dots b) ∙ (λ i. dots (before i) ++ (middle ++ dots (behind i))));
    }
