-- A list whose end is kept the other way round.
use Rattle.std.proofs.Common.{◌≡◌, ◌∙◌, ℕ, zero, suc, Some, ◌+◌, ◌-◌, ◌<◌, ◌≤◌, List, [], ◌∷◌, ◌++◌, length, take, drop, reverse, get_or, insert, remove, set, refl, sym, ap, ap₂, append_assoc, append-nil, arith}
use Rattle.std.proofs.lemmas.List.{drop_at, get_or-append_right, get_or-reverse, length-append, length-drop, length-reverse, reverse-append, set-append_left, set-append_right, set_split, take-append-drop, take_at}
use Rattle.std.proofs.lemmas.Option.{same_Some, slice_get_read}
use Rattle.std.specs.Prelude.{slice_get}
use Rattle.std.proofs.lemmas.List.Edits.{insert-append_right, remove-append_right}

module _ {X : Type 0} where
  -- ---- a list the other way round, parted

  parted : (b : List X) (p : ℕ) → reverse b ≡ reverse (drop p b) ++ reverse (take p b)
  parted b p = ap reverse (sym (take-append-drop p b)) ∙ reverse-append (take p b) (drop p b)

  as_long : (b : List X) (p k : ℕ) → k ≡ length b - p → length (reverse (drop p b)) ≡ k
  as_long b p k is = length-reverse (drop p b) ∙ length-drop p b ∙ sym is

  front : (b : List X) (p k : ℕ) → k ≡ length b - p → take k (reverse b) ≡ reverse (drop p b)
  front b p k is = ap (take k) (parted b p) ∙ take_at (reverse (drop p b)) (reverse (take p b)) k (as_long b p k is)

  rest : (b : List X) (p k : ℕ) → k ≡ length b - p → drop k (reverse b) ≡ reverse (take p b)
  rest b p k is = ap (drop k) (parted b p) ∙ drop_at (reverse (drop p b)) (reverse (take p b)) k (as_long b p k is)

  -- ---- an item more, an item less

  reverse_insert : (b : List X) (p k : ℕ) (x : X) → k ≡ length b - p → reverse (insert b p x) ≡ insert (reverse b) k x
  reverse_insert b p k x is =
      reverse-append (take p b) (x ∷ drop p b)
      ∙ ap (λ (r : List X). r ++ reverse (take p b)) (reverse-append (x ∷ []) (drop p b))
      ∙ append_assoc (reverse (drop p b)) (x ∷ []) (reverse (take p b))
      ∙ sym (ap₂ (λ (s t : List X). s ++ x ∷ t) (front b p k is) (rest b p k is))

  reverse_remove : (b : List X) (p k : ℕ) → p < length b → k ≡ length b - 1 - p → reverse (remove b p) ≡ remove (reverse b) k
  reverse_remove b p k low is =
      reverse-append (take p b) (drop (suc p) b)
      ∙ sym (ap₂ (λ (s t : List X). s ++ t) (front b (suc p) k (omega (arith, is))) (rest b p (suc k) (omega (arith, is, low))))

  -- ---- the whole list

  pub alone : (xs : List X) → xs ++ reverse [] ≡ xs
  alone xs = append-nil xs

  -- an item from before the gap goes behind it
  pub moved : (xs ys b : List X) (x : X) → ys ≡ xs ++ x ∷ [] → xs ++ reverse (b ++ x ∷ []) ≡ ys ++ reverse b
  moved xs ys b x is =
      ap (λ (r : List X). xs ++ r) (reverse-append b (x ∷ []))
      ∙ sym (append_assoc xs (x ∷ []) (reverse b))
      ∙ ap (λ (l : List X). l ++ reverse b) (sym is)

  pub far_item : (xs b : List X) (n m i p : ℕ) (x : X) → length xs ≡ n → length b ≡ m → n ≤ i → i - n < m → p ≡ m - 1 - (i - n) → x ≡ get_or b p x → x ≡ get_or (xs ++ reverse b) i x
  far_item xs b n m i p x len size past low place is =
      let within : i - n < length b = omega (arith, size, low) in
      let same : p ≡ length b - 1 - (i - n) = omega (arith, size, place) in
      is ∙ ap (λ q. get_or b q x) same ∙ sym (get_or-reverse b (i - n) x within) ∙ sym (get_or-append_right xs (reverse b) n i x len past)

  pub far_put : (xs b : List X) (n m i p : ℕ) (x : X) → length xs ≡ n → length b ≡ m → n ≤ i → i - n ≤ m → p ≡ m - (i - n) → xs ++ reverse (insert b p x) ≡ insert (xs ++ reverse b) i x
  far_put xs b n m i p x len size past low place =
      let same : i - n ≡ length b - p = omega (arith, size, low, place) in
      ap (λ (r : List X). xs ++ r) (reverse_insert b p (i - n) x same) ∙ sym (insert-append_right xs (reverse b) n i x len past)

  pub far_taken : (xs b : List X) (n m i p : ℕ) → length xs ≡ n → length b ≡ m → n ≤ i → i - n < m → p ≡ m - 1 - (i - n) → xs ++ reverse (remove b p) ≡ remove (xs ++ reverse b) i
  far_taken xs b n m i p len size past low place =
      let within : p < length b = omega (arith, size, low, place) in
      let same : i - n ≡ length b - 1 - p = omega (arith, size, low, place) in
      ap (λ (r : List X). xs ++ r) (reverse_remove b p (i - n) within same) ∙ sym (remove-append_right xs (reverse b) n i len past)

  -- so many items it has
  pub count : (xs b : List X) (n m : ℕ) → length xs ≡ n → length b ≡ m → length (xs ++ reverse b) ≡ n + m
  count xs b n m len size = length-append xs (reverse b) ∙ ap₂ (λ i j. i + j) len (length-reverse b ∙ size)

  -- an item is set
  pub near_set : (xs b : List X) (i : ℕ) (x : X) → i < length xs → set xs i x ++ reverse b ≡ set (xs ++ reverse b) i x
  near_set xs b i x low = sym (set-append_left xs (reverse b) i x low)

  reverse_set : (b : List X) (p k : ℕ) (x : X) → p < length b → k + p + 1 ≡ length b → reverse (set b p x) ≡ set (reverse b) k x
  reverse_set b p k x low is =
      let kept : k ≡ length b - suc p = omega (arith, is) in
      let within : k < length (reverse b) = omega (arith, is, length-reverse b) in
      ap reverse (set_split b p x low)
      ∙ reverse-append (take p b) (x ∷ drop (suc p) b)
      ∙ ap (λ (r : List X). r ++ reverse (take p b)) (reverse-append (x ∷ []) (drop (suc p) b))
      ∙ append_assoc (reverse (drop (suc p) b)) (x ∷ []) (reverse (take p b))
      ∙ sym (set_split (reverse b) k x within ∙ ap₂ (λ (s t : List X). s ++ x ∷ t) (front b (suc p) k kept) (rest b p (suc k) (omega (arith, is))))

  pub far_set : (xs b : List X) (i p : ℕ) (x : X) → p < length b → i + p + 1 ≡ length xs + length b → xs ++ reverse (set b p x) ≡ set (xs ++ reverse b) i x
  far_set xs b i p x low is =
      let past : length xs ≤ i = omega (arith, low, is) in
      let place : (i - length xs) + p + 1 ≡ length b = omega (arith, low, is) in
      ap (λ (r : List X). xs ++ r) (reverse_set b p (i - length xs) x low place) ∙ sym (set-append_right xs (reverse b) (length xs) i x refl past)

  -- ---- an item by its place

  pub some_at : (xs : List X) (i : ℕ) → i < length xs → (x : X) × (slice_get xs i ≡ Some x)
  some_at [] i low = absurd (omega (arith, low))
  some_at (x ∷ xs) zero low = (x, refl)
  some_at (x ∷ xs) (suc i) low = some_at xs i (omega (arith, low))

  pub near_get : (xs b : List X) (i : ℕ) → i < length xs → slice_get (xs ++ reverse b) i ≡ slice_get xs i
  near_get [] b i low = absurd (omega (arith, low))
  near_get (x ∷ xs) b zero low = refl
  near_get (x ∷ xs) b (suc i) low = near_get xs b i (omega (arith, low))

  read_at : (xs : List X) (i : ℕ) (x : X) → slice_get xs i ≡ Some x → x ≡ get_or xs i x
  read_at [] i x is = cc
  read_at (y ∷ xs) zero x is = sym (same_Some y x is)
  read_at (y ∷ xs) (suc i) x is = read_at xs i x is

  pub far_get : (xs b : List X) (i p : ℕ) → p < length b → i + p + 1 ≡ length xs + length b → slice_get (xs ++ reverse b) i ≡ slice_get b p
  far_get xs b i p low is =
      let (x, here) = some_at b p low in
      let past : length xs ≤ i = omega (arith, low, is) in
      let read = far_item xs b (length xs) (length b) i p x refl refl past (omega (arith, low, is)) (omega (arith, low, is)) (read_at b p x here) in
      slice_get_read (xs ++ reverse b) (length xs + length b) i x (sym (count xs b (length xs) (length b) refl refl)) (omega (arith, low, is)) read ∙ sym here
