-- Key parts stand in the expression of their line.
use Rattle.std.proofs.Common.{◌≡◌, ◌⊎◌, inl, inr, ◌≤◌, ◌+◌, ℕ, zero, suc, List, [], ◌∷◌, ◌++◌, length, Some, refl, subst, arith, length-append}
use Rattle.std.specs.Prelude.{slice_get}
use Rattle.std.proofs.lemmas.Option.{none-some}
use Rattle.toml_tree.specs.Inner.{ExprSpellsItself}
use Rattle.toml_tree.specs.Pieces.{expr_start}
use Rattle.toml_tree.specs.Spells.{EachIs, Part, Placed, StartsAt, all_parts, array_header_parts, assign_parts, blank_parts, dotted_parts, equals_parts, expr_parts, gap_parts, header_parts, items_parts, joined, key_parts, keyval_parts, pairs_parts, part_text, piece, symbol, value_parts}
use Rattle.toml_tree.specs.Tree.{Piece, Dotted, Key, Assign, Value, Scalar, Array, Inline, Items, Close, Last, More, Pairs, ClosePairs, LastPair, MorePairs, Header, Expr, BlankLine, KeyValLine, TableLine, ArrayTableLine}
use Rattle.toml_units.specs.Ends.{expr_end}
use Rattle.toml_units.proofs.Proved.{line_ends}
use Rattle.toml_mentions.specs.Mentioned.{item_pieces, key_pieces, last_part, mention_pieces, pair_pieces, parts_behind, value_pieces}

-- a piece is one of the parts
abbrev IsIn : Piece → List Part → Type 0
IsIn p [] = ⊥
IsIn p (q ∷ ps) = (q ≡ piece p) ⊎ IsIn p ps

-- so its place is among theirs
within : (p : Piece) (ps : List Part) (at : ℕ) → Placed at ps → IsIn p ps → (at ≤ p.start) × (p.start ≤ at + length (joined ps))
within p [] at placed h = absurd h
within p (q ∷ ps) at placed (inl is) =
    let here : p.start ≡ at = subst (λ r. StartsAt r at) is placed.0 in
    (omega (arith, here), omega (arith, here))
within p (q ∷ ps) at placed (inr h) =
    let rest = within p ps (at + length (part_text q)) placed.1 h in
    let long = length-append (part_text q) (joined ps) in
    (omega (arith, rest.0), omega (arith, rest.1, long))

in_front : (p : Piece) (xs ys : List Part) → IsIn p xs → IsIn p (xs ++ ys)
in_front p [] ys h = absurd h
in_front p (x ∷ xs) ys (inl is) = inl is
in_front p (x ∷ xs) ys (inr h) = inr (in_front p xs ys h)

in_back : (p : Piece) (xs ys : List Part) → IsIn p ys → IsIn p (xs ++ ys)
in_back p [] ys h = h
in_back p (x ∷ xs) ys h = inr (in_back p xs ys h)

-- so of several
abbrev AreIn : List Piece → List Part → Type 0
AreIn qs ps = EachIs (λ q. IsIn q ps) qs

weaker : (qs : List Piece) (xs ys : List Part) → ((q : Piece) → IsIn q xs → IsIn q ys) → AreIn qs xs → AreIn qs ys
weaker [] xs ys f h = tt
weaker (q ∷ qs) xs ys f h = (f q h.0, weaker qs xs ys f h.1)

front : (qs : List Piece) (xs ys : List Part) → AreIn qs xs → AreIn qs (xs ++ ys)
front qs xs ys = weaker qs xs (xs ++ ys) (λ q. in_front q xs ys)

back : (qs : List Piece) (xs ys : List Part) → AreIn qs ys → AreIn qs (xs ++ ys)
back qs xs ys = weaker qs ys (xs ++ ys) (λ q. in_back q xs ys)

behind_one : (qs : List Piece) (x : Part) (xs : List Part) → AreIn qs xs → AreIn qs (x ∷ xs)
behind_one qs x xs = weaker qs xs (x ∷ xs) (λ q h. inr h)

both : (qs rs : List Piece) (ps : List Part) → AreIn qs ps → AreIn rs ps → AreIn (qs ++ rs) ps
both [] rs ps a b = b
both (q ∷ qs) rs ps a b = (a.0, both qs rs ps a.1 b)

-- a key
behind_in : (ds : List Dotted) → AreIn (parts_behind ds) (all_parts dotted_parts ds)
behind_in [] = tt
behind_in (d ∷ ds) = (
  in_front d.part (dotted_parts d) (all_parts dotted_parts ds) (inr (inr (inr (inl refl)))),
  back (parts_behind ds) (dotted_parts d) (all_parts dotted_parts ds) (behind_in ds),
)

key_in : (k : Key) → AreIn (key_pieces k) (key_parts k)
key_in k = (inl refl, behind_one (parts_behind k.rest) (piece k.first) (all_parts dotted_parts k.rest) (behind_in k.rest))

last_in : (p : Piece) (ds : List Dotted) (ps : List Part) → AreIn (p ∷ parts_behind ds) ps → IsIn (last_part p ds) ps
last_in p [] ps h = h.0
last_in p (d ∷ ds) ps h = last_in d.part ds ps h.1

assign_in : (a : Assign) → AreIn (key_pieces a.key) (assign_parts a)
assign_in a = front (key_pieces a.key) (key_parts a.key) (equals_parts a.before_equals a.after_equals) (key_in a.key)

-- a value
pair_in : (a : Assign) (v : Value) (after : List Part) → AreIn (value_pieces v) (value_parts v) → AreIn (key_pieces a.key ++ value_pieces v) (assign_parts a ++ (value_parts v ++ after))
pair_in a v after h =
    both (key_pieces a.key) (value_pieces v) (assign_parts a ++ (value_parts v ++ after)) (front (key_pieces a.key) (assign_parts a) (value_parts v ++ after) (assign_in a))
    (back (value_pieces v) (assign_parts a) (value_parts v ++ after) (front (value_pieces v) (value_parts v) after h))

mutual
  value_in : (v : Value) → AreIn (value_pieces v) (value_parts v)
  value_in (Scalar kind p) = tt
  value_in (Array whole items) = weaker (item_pieces items) (items_parts items) (value_parts (Array whole items)) (λ q h. inr (inr h)) (items_in items)
  value_in (Inline whole pairs) = weaker (pair_pieces pairs) (pairs_parts pairs) (value_parts (Inline whole pairs)) (λ q h. inr (inr h)) (pairs_in pairs)

  items_in : (is : Items) → AreIn (item_pieces is) (items_parts is)
  items_in (Close g) = tt
  items_in (Last g v h) =
      back (value_pieces v) (gap_parts g) (value_parts v ++ (gap_parts h ++ symbol (0x5D ∷ []) ∷ [])) (front (value_pieces v) (value_parts v) (gap_parts h ++ symbol (0x5D ∷ []) ∷ []) (value_in v))
  items_in (More g v h is) =
      let rest = symbol (0x2C ∷ []) ∷ items_parts is in
      back (value_pieces v ++ item_pieces is) (gap_parts g) (value_parts v ++ (gap_parts h ++ rest))
      (both (value_pieces v) (item_pieces is) (value_parts v ++ (gap_parts h ++ rest)) (front (value_pieces v) (value_parts v) (gap_parts h ++ rest) (value_in v))
      (back (item_pieces is) (value_parts v) (gap_parts h ++ rest) (back (item_pieces is) (gap_parts h) rest (behind_one (item_pieces is) (symbol (0x2C ∷ [])) (items_parts is) (items_in is)))))

  pairs_in : (ps : Pairs) → AreIn (pair_pieces ps) (pairs_parts ps)
  pairs_in (ClosePairs g) = tt
  pairs_in (LastPair g a v h) =
      back (key_pieces a.key ++ value_pieces v) (gap_parts g) (assign_parts a ++ (value_parts v ++ (gap_parts h ++ symbol (0x7D ∷ []) ∷ [])))
      (pair_in a v (gap_parts h ++ symbol (0x7D ∷ []) ∷ []) (value_in v))
  pairs_in (MorePairs g a v h ps) =
      let rest = symbol (0x2C ∷ []) ∷ pairs_parts ps in
      let after = assign_parts a ++ (value_parts v ++ (gap_parts h ++ rest)) in
      back ((key_pieces a.key ++ value_pieces v) ++ pair_pieces ps) (gap_parts g) after
      (both (key_pieces a.key ++ value_pieces v) (pair_pieces ps) after (pair_in a v (gap_parts h ++ rest) (value_in v))
      (back (pair_pieces ps) (assign_parts a) (value_parts v ++ (gap_parts h ++ rest))
      (back (pair_pieces ps) (value_parts v) (gap_parts h ++ rest) (back (pair_pieces ps) (gap_parts h) rest (behind_one (pair_pieces ps) (symbol (0x2C ∷ [])) (pairs_parts ps) (pairs_in ps))))))

-- a header
header_in : (h : Header) → AreIn (key_pieces h.key) (header_parts h)
header_in h =
    weaker (key_pieces h.key) (key_parts h.key ++ (piece h.after ∷ symbol (0x5D ∷ []) ∷ [])) (header_parts h) (λ q i. inr (inr i))
    (front (key_pieces h.key) (key_parts h.key) (piece h.after ∷ symbol (0x5D ∷ []) ∷ []) (key_in h.key))

-- a line
expr_in : (e : Expr) → AreIn (mention_pieces e) (expr_parts e)
expr_in (BlankLine b) = tt
expr_in (KeyValLine ws k tail) =
    behind_one (key_pieces k.assign.key ++ value_pieces k.value) (piece ws) (keyval_parts k ++ blank_parts tail)
    (front (key_pieces k.assign.key ++ value_pieces k.value) (keyval_parts k) (blank_parts tail)
    (both (key_pieces k.assign.key) (value_pieces k.value) (assign_parts k.assign ++ value_parts k.value) (front (key_pieces k.assign.key) (assign_parts k.assign) (value_parts k.value) (assign_in k.assign))
    (back (value_pieces k.value) (assign_parts k.assign) (value_parts k.value) (value_in k.value))))
expr_in (TableLine ws h tail) =
    behind_one (key_pieces h.key) (piece ws) (header_parts h ++ blank_parts tail) (front (key_pieces h.key) (header_parts h) (blank_parts tail) (header_in h))
expr_in (ArrayTableLine ws h tail) =
    let pieces = key_pieces h.key ++ last_part h.key.first h.key.rest ∷ [] in
    behind_one pieces (piece ws) (array_header_parts h ++ blank_parts tail)
    (front pieces (array_header_parts h) (blank_parts tail)
    (behind_one pieces (symbol (0x5B ∷ [])) (header_parts h ++ symbol (0x5D ∷ []) ∷ [])
    (front pieces (header_parts h) (symbol (0x5D ∷ []) ∷ [])
    (both (key_pieces h.key) (last_part h.key.first h.key.rest ∷ []) (header_parts h) (header_in h) (last_in h.key.first h.key.rest (header_parts h) (header_in h), tt)))))

each_at : (P : Piece → Type 0) (ps : List Piece) (n : ℕ) (p : Piece) → EachIs P ps → slice_get ps n ≡ Some p → P p
each_at P [] n p h is = absurd (none-some p is)
each_at P (q ∷ ps) zero p h is = let same : q ≡ p = cc in subst P same h.0
each_at P (q ∷ ps) (suc n) p h is = each_at P ps n p h.1 is

-- the place of a key part is in the expression
pub part_within : (e : Expr) → ExprSpellsItself e → (n : ℕ) (p : Piece) → slice_get (mention_pieces e) n ≡ Some p → (expr_start e ≤ p.start) × (p.start ≤ expr_end e)
part_within e itself n p is =
    let there : IsIn p (expr_parts e) = each_at (λ q. IsIn q (expr_parts e)) (mention_pieces e) n p (expr_in e) is in
    let got = within p (expr_parts e) (expr_start e) itself.placed there in
    let ends : expr_start e + length (joined (expr_parts e)) ≡ expr_end e = line_ends e (expr_start e) (joined (expr_parts e)) [] itself in
    (got.0, omega (arith, got.1, ends))
