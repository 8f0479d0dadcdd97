-- Counts of texts, up and down by one.
use Rattle.std.proofs.Common.{◌≡◌, ℕ, zero, suc, ◌+◌, ◌<◌, ◌≤◌, Bool, true, false, cond, List, [], length, take, get_or, Option, Some, unwrap_or, Bor, bytes_eq, refl, sym, ap, ◌∙◌, arith}
use Rattle.std.proofs.lemmas.Slice.Eq.{bytes_eq-Decides}
use Rattle.std.proofs.lemmas.List.Sums.{count_by_more_yes, count_by_more_no, sum_by-take-le}
use Rattle.std.proofs.Math.Seq.{take-length}
use Rattle.toml_checker.specs.Counts.{seen}

abbrev pub Counter : Type 0
Counter = List ℕ → Option ℕ

same_text : (x y : List ℕ) → bytes_eq x y ≡ true → x ≡ y
same_text x y h = (bytes_eq-Decides x y).0 h

at_set : (b : Bool) (w : ℕ) (o : Option ℕ) → unwrap_or (cond b (Some w) o) 0 ≡ cond b w (unwrap_or o 0)
at_set true w o = refl
at_set false w o = refl

one_more_at : (f : Counter) (x t : List ℕ) (w : ℕ) → w ≡ unwrap_or (f x) 0 + 1 → (b : Bool) → bytes_eq x t ≡ b → cond b w (unwrap_or (f t) 0) ≡ cond b (unwrap_or (f t) 0 + 1) (unwrap_or (f t) 0)
one_more_at f x t w e false is = refl
one_more_at f x t w e true is = e ∙ ap (λ y. unwrap_or (f y) 0 + 1) (same_text x t is)

-- one text set to one more
pub one_more : (f g : Counter) (x : List ℕ) (w : ℕ) → ((t : List ℕ) → g t ≡ cond (bytes_eq x t) (Some w) (f t)) → w ≡ unwrap_or (f x) 0 + 1
    → (t : List ℕ) → unwrap_or (g t) 0 ≡ cond (bytes_eq x t) (unwrap_or (f t) 0 + 1) (unwrap_or (f t) 0)
one_more f g x w h e t = ap (λ o. unwrap_or o 0) (h t) ∙ at_set (bytes_eq x t) w (f t) ∙ one_more_at f x t w e (bytes_eq x t) refl

one_less_at : (f : Counter) (x t : List ℕ) (w : ℕ) → w + 1 ≡ unwrap_or (f x) 0 → (b : Bool) → bytes_eq x t ≡ b → unwrap_or (f t) 0 ≡ cond b (cond b w (unwrap_or (f t) 0) + 1) (cond b w (unwrap_or (f t) 0))
one_less_at f x t w e false is = refl
one_less_at f x t w e true is = sym (e ∙ ap (λ y. unwrap_or (f y) 0) (same_text x t is))

pub one_less : (f g : Counter) (x : List ℕ) (w : ℕ) → ((t : List ℕ) → g t ≡ cond (bytes_eq x t) (Some w) (f t)) → w + 1 ≡ unwrap_or (f x) 0
    → (t : List ℕ) → unwrap_or (f t) 0 ≡ cond (bytes_eq x t) (unwrap_or (g t) 0 + 1) (unwrap_or (g t) 0)
one_less f g x w h e t = one_less_at f x t w e (bytes_eq x t) refl ∙ sym (ap (λ n. cond (bytes_eq x t) (n + 1) n) (ap (λ o. unwrap_or o 0) (h t) ∙ at_set (bytes_eq x t) w (f t)))

sides : (x y : List ℕ) (b : Bool) → bytes_eq x y ≡ b → (c : Bool) → bytes_eq y x ≡ c → b ≡ c
sides x y true e true f = refl
sides x y false e false f = refl
sides x y true e false f = let same : x ≡ y = same_text x y e in let g : bytes_eq y x ≡ true = (bytes_eq-Decides y x).1 (sym same) in cc
sides x y false e true f = let same : y ≡ x = same_text y x f in let g : bytes_eq x y ≡ true = (bytes_eq-Decides x y).1 (sym same) in cc

pub swapped_test : (x y : List ℕ) → bytes_eq x y ≡ bytes_eq y x
swapped_test x y = sides x y (bytes_eq x y) refl (bytes_eq y x) refl

seen_at : (ts : List (Bor (List ℕ))) (i : ℕ) (d : Bor (List ℕ)) (t : List ℕ) → i < length ts → (b : Bool) → bytes_eq (get_or ts i d).now t ≡ b → seen t (take (i + 1) ts) ≡ cond b (seen t (take i ts) + 1) (seen t (take i ts))
seen_at ts i d t h true e = count_by_more_yes (λ x. bytes_eq t x.now) ts i d h (swapped_test t (get_or ts i d).now ∙ e)
seen_at ts i d t h false e = count_by_more_no (λ x. bytes_eq t x.now) ts i d h (swapped_test t (get_or ts i d).now ∙ e)

-- one more text of a list
pub seen-take : (ts : List (Bor (List ℕ))) (i : ℕ) (d : Bor (List ℕ)) (t : List ℕ) → i < length ts → seen t (take (i + 1) ts) ≡ cond (bytes_eq (get_or ts i d).now t) (seen t (take i ts) + 1) (seen t (take i ts))
seen-take ts i d t h = seen_at ts i d t h (bytes_eq (get_or ts i d).now t) refl

pub seen_within : (ts : List (Bor (List ℕ))) (i : ℕ) (t : List ℕ) → seen t (take i ts) ≤ seen t ts
seen_within ts i t = sum_by-take-le (λ x. cond (bytes_eq t x.now) 1 0) ts i

no_text : Bor (List ℕ)
no_text = record { ref_ptr = (0, 0); now = [] }

-- one taken, one more seen
pub moved_on : (b : Bool) (old new seen all : ℕ) → old ≡ cond b (new + 1) new → old + seen ≡ all → new + cond b (seen + 1) seen ≡ all
moved_on true old new seen all e h = omega arith
moved_on false old new seen all e h = omega arith

pub none_left : (n : ℕ) → (0 < n → false ≡ true) → n ≤ 0
none_left zero h = omega arith
none_left (suc n) h = let bad : false ≡ true = h (omega arith) in cc

pub all_seen : (ts : List (Bor (List ℕ))) (i : ℕ) (t : List ℕ) → length ts ≤ i → i ≤ length ts → seen t (take i ts) ≡ seen t ts
all_seen ts i t low high = let e : i ≡ length ts = omega arith in rw (e, take-length) refl
