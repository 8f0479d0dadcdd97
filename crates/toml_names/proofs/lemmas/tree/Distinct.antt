-- Names in a table that are distinct, by their bytes: where they lead, as more come and go.
use Rattle.toml_names.proofs.Common.{common_steps, ◌≡◌, ℕ, zero, suc, ◌+◌, ◌-◌, ◌<◌, ◌≤◌, true, false, List, [], ◌∷◌, ◌++◌, length, take, Result, IfOk, OnErr, Option, Some, None, IfSome, IfNone, slice_get, get_or, ltb, refl, sym, ap, subst, ◌∙◌, arith, rules, cond-false, false_from_ne_true, false≢true, Decides-ltb, append_assoc, length-map, none-some, same_Some, slice_get-map, slice_get-get_or, bytes_eq-Decides, cow_str_bytes, Global, CowStr, lookup, option_map, bytes_eq, children_of, AreDistinct, Bool, take-map, length_push, unwrap_or, same_name}
use Rattle.std.proofs.lemmas.List.{length-append}
use Rattle.std.proofs.Math.Seq.{take-append-add}
use Rattle.indexmap.specs.IndexMap.{insert_entry}

pub lookup-children_of : (n : List ℕ) (es : List (CowStr Global × ℕ)) → lookup (bytes_eq n) (children_of es) ≡ lookup (λ k. bytes_eq n (cow_str_bytes k)) es
lookup-children_of n [] = refl
lookup-children_of n (e ∷ es) = search (rules, lookup-children_of n es)

pub children_of-push : (es : List (CowStr Global × ℕ)) (k : CowStr Global) (id : ℕ) → children_of (es ++ (k, id) ∷ []) ≡ children_of es ++ (cow_str_bytes k, id) ∷ []
children_of-push es k id = grind (arith, common_steps)

pub children_of-front : (es : List (CowStr Global × ℕ)) → children_of (take (length es - 1) es) ≡ take (length (children_of es) - 1) (children_of es)
children_of-front es = sym (take-map (λ (e : CowStr Global × ℕ). (cow_str_bytes e.0, e.1)) (length es - 1) es) ∙ ap (λ n. take (n - 1) (children_of es)) (sym (length-map es (λ (e : CowStr Global × ℕ). (cow_str_bytes e.0, e.1))))

-- what inserting a name that may be there leaves: the same pairs, or one more
module _ (eq : CowStr Global → CowStr Global → Bool) (k : CowStr Global) where
  insert_entry-same : (es : List (CowStr Global × ℕ)) (v : ℕ) → lookup (eq k) es ≡ Some v → insert_entry eq es k v ≡ es
  insert_entry-same [] v is = cc
  insert_entry-same (e ∷ es) v is = search (rules, same_Some, insert_entry-same es v)

  insert_entry-none : (es : List (CowStr Global × ℕ)) (v : ℕ) → lookup (eq k) es ≡ None → insert_entry eq es k v ≡ es ++ (k, v) ∷ []
  insert_entry-none [] v is = refl
  insert_entry-none (e ∷ es) v is = search (rules, insert_entry-none es v)

-- where a name led, or nowhere, by whether there is one pair more
module _ (k : CowStr Global) (es new : List (CowStr Global × ℕ)) (id led : ℕ) (made : new ≡ insert_entry same_name es k led) where
  pub led-same : led ≡ unwrap_or (lookup (same_name k) es) id → length new ≡ length es → (Some led ≡ lookup (bytes_eq (cow_str_bytes k)) (children_of es)) × (new ≡ es)
  led-same is long = search (rules, insert_entry-none, insert_entry-same, lookup-children_of, length_push)

  pub led-more : led ≡ unwrap_or (lookup (same_name k) es) id → (length new ≡ length es → ⊥) → (None ≡ lookup (bytes_eq (cow_str_bytes k)) (children_of es)) × (new ≡ es ++ (k, id) ∷ [])
  led-more is long = search (rules, insert_entry-none, insert_entry-same, lookup-children_of)

abbrev Pairs : Type 0
Pairs = List (List ℕ × ℕ)

lookup-left : (n : List ℕ) (xs ys : Pairs) (v : ℕ) → lookup (bytes_eq n) xs ≡ Some v → lookup (bytes_eq n) (xs ++ ys) ≡ Some v
lookup-left n [] ys v is = cc
lookup-left n (e ∷ es) ys v is = search (rules, lookup-left n es ys v)

lookup-right : (n : List ℕ) (xs ys : Pairs) → lookup (bytes_eq n) xs ≡ None → lookup (bytes_eq n) (xs ++ ys) ≡ lookup (bytes_eq n) ys
lookup-right n [] ys is = refl
lookup-right n (e ∷ es) ys is = search (rules, lookup-right n es ys)

lookup-take : (n : List ℕ) (k : ℕ) (xs : Pairs) → lookup (bytes_eq n) xs ≡ None → lookup (bytes_eq n) (take k xs) ≡ None
lookup-take n zero xs is = refl
lookup-take n (suc k) [] is = refl
lookup-take n (suc k) (e ∷ es) is = search (rules, lookup-take n k es)

AreDistinct-take : (k : ℕ) (xs : Pairs) → AreDistinct xs → AreDistinct (take k xs)
AreDistinct-take zero xs are = tt
AreDistinct-take (suc k) [] are = tt
AreDistinct-take (suc k) (e ∷ es) are = (lookup-take e.0 k es are.0, AreDistinct-take k es are.1)

-- what is left of the names
pub AreDistinct-front : (k : ℕ) (all left : Pairs) → AreDistinct all → left ≡ take k all → AreDistinct left
AreDistinct-front k all left are is = subst AreDistinct (sym is) (AreDistinct-take k all are)

pub AreDistinct-push : (xs : Pairs) (n : List ℕ) (v : ℕ) → AreDistinct xs → lookup (bytes_eq n) xs ≡ None → AreDistinct (xs ++ (n, v) ∷ [])
AreDistinct-push [] n v are none = (refl, tt)
AreDistinct-push (e ∷ es) n v are none = search (rules, none-some, false_from_ne_true, false≢true, bytes_eq-Decides, lookup-right, cond-false, AreDistinct-push es n v are.1)

-- the pair at a place is found by its name
pub found_at : (xs : Pairs) → AreDistinct xs → (i : ℕ) (n : List ℕ) (v : ℕ) → slice_get xs i ≡ Some (n, v) → lookup (bytes_eq n) xs ≡ Some v
found_at [] are i n v is = cc
found_at (e ∷ es) are zero n v is = search (rules, same_Some, bytes_eq-Decides)
found_at (e ∷ es) are (suc i) n v is = search (rules, none-some, bytes_eq-Decides, found_at es are.1 i n v is)

slice_get-left : (xs ys : Pairs) (i : ℕ) → i < length xs → slice_get (xs ++ ys) i ≡ slice_get xs i
slice_get-left [] ys i low = absurd (omega arith)
slice_get-left (x ∷ xs) ys zero low = refl
slice_get-left (x ∷ xs) ys (suc i) low = slice_get-left xs ys i (omega arith)

slice_get-right : (xs ys : Pairs) (i : ℕ) → length xs ≤ i → slice_get ys (i - length xs) ≡ slice_get (xs ++ ys) i
slice_get-right [] ys i high = let same : i - 0 ≡ i = omega arith in ap (slice_get ys) same
slice_get-right (x ∷ xs) ys zero high = absurd (omega arith)
slice_get-right (x ∷ xs) ys (suc i) high = let same : suc i - suc (length xs) ≡ i - length xs = omega arith in ap (slice_get ys) same ∙ slice_get-right xs ys i (omega arith)

-- the names are a few, and those behind them
module _ (few behind now : Pairs) (are : few ++ behind ≡ now) where
  pub found_in_few : (n : List ℕ) (v : ℕ) → Some v ≡ lookup (bytes_eq n) few → Some v ≡ lookup (bytes_eq n) now
  found_in_few n v is = sym (lookup-left n few behind v (sym is)) ∙ ap (lookup (bytes_eq n)) are

  pub found_behind : (n : List ℕ) → lookup (bytes_eq n) few ≡ None → lookup (bytes_eq n) behind ≡ lookup (bytes_eq n) now
  found_behind n none = sym (lookup-right n few behind none) ∙ ap (lookup (bytes_eq n)) are

  pub pair_in_few : (i : ℕ) → i < length few → slice_get few i ≡ slice_get now i
  pair_in_few i low = sym (slice_get-left few behind i low) ∙ ap (λ l. slice_get l i) are

  pub pair_behind : (i : ℕ) → length few ≤ i → slice_get behind (i - length few) ≡ slice_get now i
  pair_behind i high = slice_get-right few behind i high ∙ ap (λ l. slice_get l i) are

  pub dropped_behind : (left : Pairs) → 0 < length behind → left ≡ take (length behind - 1) behind → few ++ left ≡ take (length now - 1) now
  dropped_behind left some is =
      let long : length (few ++ behind) ≡ length few + length behind = length-append few behind in
      let last : length few + (length behind - 1) ≡ length (few ++ behind) - 1 = before (length behind) some long in
      ap (λ l. few ++ l) is ∙ sym (take-append-add few behind (length behind - 1)) ∙ ap (λ n. take n (few ++ behind)) last ∙ ap (λ l. take (length l - 1) l) are
    where
      before : (b : ℕ) → 0 < b → length (few ++ behind) ≡ length few + b → length few + (b - 1) ≡ length (few ++ behind) - 1
      before zero some long = absurd (omega arith)
      before (suc b) some long = omega (arith, long)

  pub dropped_few : (left left_behind : Pairs) → (0 < length behind → ⊥) → left ≡ take (length few - 1) few → left_behind ≡ take (length behind - 1) behind
      → left ++ left_behind ≡ take (length now - 1) now
  dropped_few left left_behind some is front = grind (arith, common_steps)

-- a name that may have come behind the few
module _ {E : Type 0} (few : Pairs) (k : CowStr Global) (id : ℕ) (old new : List (CowStr Global × ℕ)) (are : AreDistinct (few ++ children_of old)) (none : lookup (bytes_eq (cow_str_bytes k)) few ≡ None) where
  pub AreDistinct-led : (r : Result (Option ℕ) E) → IfOk r (λ to. to ≡ lookup (bytes_eq (cow_str_bytes k)) (children_of old)) → IfOk r (λ to. IfSome to (λ there. new ≡ old))
      → IfOk r (λ to. IfNone to (new ≡ old ++ (k, id) ∷ [])) → OnErr r (new ≡ old) → AreDistinct (few ++ children_of new)
  AreDistinct-led r found known inserted unchanged = search (rules, lookup-right, children_of-push, append_assoc, AreDistinct-push)

-- a name that was not found among the few
pub not_in_few : (spelled name : List ℕ) (read few : List (CowStr Global × ℕ)) (to : Option ℕ) → to ≡ lookup (bytes_eq spelled) (children_of read) → spelled ≡ name → read ≡ few → to ≡ None
    → lookup (bytes_eq name) (children_of few) ≡ None
not_in_few spelled name read few to found named are none = cc

-- an entry that was read, by the name's bytes
abbrev pub pair_of : CowStr Global × ℕ → List ℕ × ℕ
pair_of e = (cow_str_bytes e.0, e.1)

pub entry_at : (es : List (CowStr Global × ℕ)) (i : ℕ) (e : CowStr Global × ℕ) → true ≡ ltb i (length es) → e ≡ get_or es i e → slice_get (children_of es) i ≡ Some (cow_str_bytes e.0, e.1)
entry_at es i e low is = slice_get-map pair_of es i ∙ ap (option_map pair_of) (slice_get-get_or es i e ((Decides-ltb i (length es)).0 (sym low)) ∙ ap Some (sym is))

pub past_few : (es : List (CowStr Global × ℕ)) (i : ℕ) → false ≡ ltb i (length es) → length (children_of es) ≤ i
past_few es i past = grind (arith, common_steps)

pub within_few : (es : List (CowStr Global × ℕ)) (i : ℕ) → true ≡ ltb i (length es) → i < length (children_of es)
within_few es i low = let long : length (children_of es) ≡ length es = length-map es pair_of in omega (arith, long, (Decides-ltb i (length es)).0 (sym low))
