-- Under the table rules the keys of each inline table are apart.
use Rattle.std.proofs.Common.{◌≡◌, inl, inr, map, ℕ, ◌+◌, true, false, List, [], ◌∷◌, ◌++◌, All, refl, sym, ap, ◌∙◌, subst, true≢false}
use Rattle.std.proofs.lemmas.Bool.{and_parts, false_from_ne_true}
use Rattle.std.specs.Str.{bytes_eq}
use Rattle.toml_tree.specs.Spells.{EachIs}
use Rattle.toml_tree.specs.Tree.{Assign, Value, Scalar, Array, Inline, Items, Close, Last, More, Pairs, ClosePairs, LastPair, MorePairs, Expr, BlankLine, KeyValLine, TableLine, ArrayTableLine, Line}
use Rattle.toml_names.specs.declared.mentions.mention.Role.TheVariants.{Valued}
use Rattle.toml_names.specs.declared.model.address.Step.TheVariants.{Name}
use Rattle.toml_names.specs.mentions.Keys.{Key, key_names, part_name, rest_names}
use Rattle.toml_names.specs.mentions.Mentions.{Named, named, named_by, named_from, root, section, fronts, value_named, pair_named, inside, elements, members}
use Rattle.toml_names.specs.mentions.Rules.{KeepsRules, may_follow}
use Rattle.toml_names.specs.model.Addresses.{Address, child, element, below}
use Rattle.toml_names.proofs.Proved.{same_step-equal}
use Rattle.toml_layout.specs.Apart.{HasKeysApart, EachApart, KeysApart, begins_key, keys_of}
use Rattle.toml_layout.specs.SetOutlines.{outlined_names}
use Rattle.toml_working.specs.Standing.{Standing, IsApart, standing, standing_from}
use Rattle.toml_layout.specs.TreeOutlines.{assign_outline, value_outline, items_outline, pairs_outline, line_outline}
use Rattle.toml_editor.proofs.Each.{each_front, each_back, each_weaker}
use Rattle.toml_editor.proofs.SetOutlined.{names_outlined}
use Rattle.toml_editor.proofs.written.Alike.{pairs_from}
use Rattle.toml_editor.proofs.written.Clear.{below-cons}
use Rattle.toml_editor.proofs.written.Pairwise.{PairsAre, pairs_front, pairs_back, pairs_between, Goes, Has, all_of_each, from_has, has_append_right, pairs_of_all}

-- a mention that goes with no value at its address
record Strong (at : Address) (m : Named) : Type 0 where
  address : m.address ≡ at
  before : may_follow m.role Valued ≡ false
  behind : may_follow Valued m.role ≡ false

-- what a pair names, and more
abbrev block : ℕ → Address → Key → Named → List Named → List Named
block line at k m rest = fronts line at k ++ (m ∷ rest)

-- a key of which another one is a beginning names something strong at the end of that
front_named : (k : Key) (n : List ℕ) (l : Key) (line : ℕ) (at : Address) (v : Value) (to : Address) (rest : List Named) → begins_key (n ∷ k) l ≡ true → to ≡ below at l
    → Has (Strong (below at (n ∷ k))) (block line at l (value_named line Valued to v) rest)
front_named k n [] line at v to rest is end = absurd (true≢false (sym is))
front_named [] n (m ∷ []) line at v to rest is end =
    let same : Name n ≡ Name m = same_step-equal (Name n) (Name m) (and_parts (bytes_eq n m) true is).0 in
    inl (record { address = end ∙ ap (λ s. at ++ s ∷ []) (sym same); before = refl; behind = refl })
front_named [] n (m ∷ o ∷ l) line at v to rest is end =
    let same : Name n ≡ Name m = same_step-equal (Name n) (Name m) (and_parts (bytes_eq n m) true is).0 in
    inl (record { address = ap (λ s. at ++ s ∷ []) (sym same); before = refl; behind = refl })
front_named (q ∷ k) n (m ∷ []) line at v to rest is end = absurd (true≢false (sym (and_parts (bytes_eq n m) false is).1))
front_named (q ∷ k) n (m ∷ o ∷ l) line at v to rest is end =
    let (here, behind) = and_parts (bytes_eq n m) (begins_key (q ∷ k) (o ∷ l)) is in
    let same : Name n ≡ Name m = same_step-equal (Name n) (Name m) here in
    let way : below (child at m) (q ∷ k) ≡ below at (n ∷ q ∷ k) = below-cons at m (q ∷ k) ∙ ap (λ s. at ++ s ∷ map Name (q ∷ k)) (sym same) in
    inr (subst (λ a. Has (Strong a) (block line (child at m) (o ∷ l) (value_named line Valued to v) rest)) way
    (front_named k q (o ∷ l) line (child at m) v to rest behind (end ∙ sym (below-cons at m (o ∷ l)))))

-- what two pairs of one inline table name goes with each other, so neither key is a beginning of the other
module _ (line : ℕ) (at : Address) where
  abbrev of_pair : Assign → Value → List Named
  of_pair a v = pair_named line at a v

  -- a pair's own mention
  abbrev IsOwn : Assign → Named → Type 0
  IsOwn a m = (m.address ≡ below at (key_names a.key)) × (m.role ≡ Valued)

  own_named : (a : Assign) (v : Value) → Has (IsOwn a) (of_pair a v)
  own_named a v =
      let to = below at (key_names a.key) in
      has_append_right (IsOwn a) (fronts line at (key_names a.key)) (value_named line Valued to v ∷ inside line to v) (inl (refl, refl))

  no_front : (a b : Assign) (v w : Value) → EachIs (λ x. EachIs (Goes x) (of_pair b w)) (of_pair a v)
      → (begins_key (key_names a.key) (key_names b.key) ≡ false) × (begins_key (key_names b.key) (key_names a.key) ≡ false)
  no_front a b v w goes = (
    false_from_ne_true _ (λ is.
        from_has (λ x. EachIs (Goes x) (of_pair b w)) (IsOwn a) ⊥ (λ x each own.
        from_has (Goes x) (Strong (below at (key_names a.key))) ⊥ (λ y go strong.
        true≢false (sym (go (own.0 ∙ sym strong.address)) ∙ ap (λ r. may_follow r y.role) own.1 ∙ strong.behind))
        (of_pair b w) each (strong_in b a w is)) (of_pair a v) goes (own_named a v)),
    false_from_ne_true _ (λ is.
        from_has (λ x. EachIs (Goes x) (of_pair b w)) (Strong (below at (key_names b.key))) ⊥ (λ x each strong.
        from_has (Goes x) (IsOwn b) ⊥ (λ y go own.
        true≢false (sym (go (strong.address ∙ sym own.0)) ∙ ap (may_follow x.role) own.1 ∙ strong.before))
        (of_pair b w) each (own_named b w)) (of_pair a v) goes (strong_in a b v is)),
  )
    where
      strong_in : (c d : Assign) (u : Value) → begins_key (key_names d.key) (key_names c.key) ≡ true → Has (Strong (below at (key_names d.key))) (of_pair c u)
      strong_in c d u is =
          let to = below at (key_names c.key) in
          front_named (rest_names d.key.rest) (part_name d.key.first) (key_names c.key) line at u to (inside line to u) is refl

abbrev Apart : Key → Key → Type 0
Apart k l = (begins_key k l ≡ false) × (begins_key l k ≡ false)

outlined_apart : (a b : Assign) → Apart (key_names a.key) (key_names b.key) → Apart (outlined_names (assign_outline a)) (outlined_names (assign_outline b))
outlined_apart a b two =
    subst (λ k. Apart k (outlined_names (assign_outline b))) (sym (names_outlined a)) (subst (Apart (key_names a.key)) (sym (names_outlined b)) two)

-- the first key from all others
first_apart : (line : ℕ) (at : Address) (a : Assign) (v : Value) (ps : Pairs) → EachIs (λ x. EachIs (Goes x) (members line at ps)) (pair_named line at a v)
    → EachIs (Apart (outlined_names (assign_outline a))) (keys_of (pairs_outline ps))
first_apart line at a v (ClosePairs g) goes = tt
first_apart line at a v (LastPair g b w h) goes = (outlined_apart a b (no_front line at a b v w goes), tt)
first_apart line at a v (MorePairs g b w h ps) goes = (
  outlined_apart a b (no_front line at a b v w (each_weaker (λ x. EachIs (Goes x) (pair_named line at b w ++ members line at ps)) (λ x. EachIs (Goes x) (pair_named line at b w))
      (λ x. each_front (Goes x) (pair_named line at b w) (members line at ps)) (pair_named line at a v) goes)),
  first_apart line at a v ps (each_weaker (λ x. EachIs (Goes x) (pair_named line at b w ++ members line at ps)) (λ x. EachIs (Goes x) (members line at ps))
      (λ x. each_back (Goes x) (pair_named line at b w) (members line at ps)) (pair_named line at a v) goes),
)

-- what stands in a pair's value
pair_inside : (line : ℕ) (at : Address) (a : Assign) (v : Value) → PairsAre Goes (pair_named line at a v) → PairsAre Goes (inside line (below at (key_names a.key)) v)
pair_inside line at a v goes =
    let to = below at (key_names a.key) in
    (pairs_back Goes (fronts line at (key_names a.key)) (value_named line Valued to v ∷ inside line to v) goes).1

mutual
  pub value_apart : (v : Value) (line : ℕ) (at : Address) → PairsAre Goes (inside line at v) → HasKeysApart (value_outline v)
  value_apart (Scalar kind p) line at goes = tt
  value_apart (Array whole items) line at goes = items_apart items line at 0 goes
  value_apart (Inline whole pairs) line at goes = pairs_apart pairs line at goes

  items_apart : (items : Items) (line : ℕ) (at : Address) (i : ℕ) → PairsAre Goes (elements line at i items) → EachApart (items_outline items)
  items_apart (Close g) line at i goes = tt
  items_apart (Last g v h) line at i goes = (value_apart v line (element at i) goes.1, tt)
  items_apart (More g v h is) line at i goes =
      let here = element at i in (
        value_apart v line here (pairs_front Goes (inside line here v) (elements line at (i + 1) is) goes.1),
        items_apart is line at (i + 1) (pairs_back Goes (inside line here v) (elements line at (i + 1) is) goes.1),
      )

  pairs_apart : (pairs : Pairs) (line : ℕ) (at : Address) → PairsAre Goes (members line at pairs) → KeysApart (keys_of (pairs_outline pairs)) × EachApart (pairs_outline pairs)
  pairs_apart (ClosePairs g) line at goes = (tt, tt)
  pairs_apart (LastPair g a v h) line at goes =
      ((all_of_each (Apart (outlined_names (assign_outline a))) [] tt, tt), (value_apart v line (below at (key_names a.key)) (pair_inside line at a v goes), tt))
  pairs_apart (MorePairs g a v h ps) line at goes =
      let others = pairs_apart ps line at (pairs_back Goes (pair_named line at a v) (members line at ps) goes) in
      let first = first_apart line at a v ps (pairs_between Goes (pair_named line at a v) (members line at ps) goes) in
      let own = value_apart v line (below at (key_names a.key)) (pair_inside line at a v (pairs_front Goes (pair_named line at a v) (members line at ps) goes)) in
      ((all_of_each (Apart (outlined_names (assign_outline a))) (keys_of (pairs_outline ps)) first, others.0), (own, others.1))

-- ---- lines

lines_apart : (ls : List Line) (xs : List Named) (n : ℕ) → PairsAre Goes (named_from xs n ls) → EachIs (λ (s : Standing). IsApart s.outline.expr) (standing_from xs n ls)
lines_apart [] xs n goes = tt
lines_apart (l ∷ ls) xs n goes =
    (by l.expr (pairs_back Goes xs (named_by xs n l.expr) (pairs_from Goes ls (xs ++ named_by xs n l.expr) (n + 1) goes)), lines_apart ls (xs ++ named_by xs n l.expr) (n + 1) goes)
  where
    by : (e : Expr) → PairsAre Goes (named_by xs n e) → IsApart (line_outline (record { expr = e; newline = l.newline })).expr
    by (BlankLine b) own = tt
    by (KeyValLine ws pair tail) own =
        value_apart pair.value n (below (section xs) (key_names pair.assign.key)) (pair_inside n (section xs) pair.assign pair.value own)
    by (TableLine ws header tail) own = tt
    by (ArrayTableLine ws header tail) own = tt

pub kept_apart : (lines : List Line) → KeepsRules (named lines) → All (λ (s : Standing). IsApart s.outline.expr) (standing lines)
kept_apart lines keeps =
    all_of_each (λ (s : Standing). IsApart s.outline.expr) (standing lines) (lines_apart lines (root ∷ []) 0 (pairs_of_all Goes (named lines) keeps))
