-- The parts of lines stand for the mentions of the lines, one for one and in their order.
use Rattle.std.proofs.Common.{◌≡◌, ◌+◌, ℕ, suc, Bool, true, false, List, [], ◌∷◌, ◌++◌, map, length, refl, sym, ap, ◌∙◌, subst, arith, append_assoc, append-nil}
use Rattle.std.specs.Prelude.{cond, filter}
use Rattle.std.proofs.lemmas.List.{map-append}
use Rattle.toml_tree.specs.Tree.{Piece, Dotted, Key, Assign, Value, Scalar, Array, Inline, Items, Close, Last, More, Pairs, ClosePairs, LastPair, MorePairs, Expr, BlankLine, KeyValLine, TableLine, ArrayTableLine, Line}
use Rattle.toml_names.specs.declared.mentions.mention.Role.{Role}
use Rattle.toml_names.specs.declared.mentions.mention.Role.TheVariants as roles
use Rattle.toml_names.specs.declared.model.address.Step.TheVariants.{Name}
use Rattle.toml_names.specs.model.Addresses.{Address, below, child, element}
use Rattle.toml_names.specs.mentions.Keys.{key_names, part_name, rest_names}
use Rattle.toml_names.specs.mentions.Mentions.{Named, count_tables, elements, ends_table, ends_tables, entered, followed, fronts, inside, is_mention, is_mentioned, members, named, named_by, named_from, pair_named, root, section, table_at, value_named}
use Rattle.toml_mentions.specs.Mentioned.{item_pieces, key_pieces, last_part, mention_pieces, pair_pieces, parts_behind, value_pieces}
use Rattle.toml_mentions.specs.Sought.{Part, all_parts, element_parts, followed_parts, inside_parts, key_end, key_parts, member_parts, pair_parts, parts_by, parts_from, table_parts, tables_parts}

-- what the rules look at
pub record At : Type 0 where
  pub address : Address
  pub role : Role

abbrev pub at_named : Named → At
at_named m = record { address = m.address; role = m.role }

abbrev pub at_part : Part → At
at_part p = record { address = p.address; role = p.role }

-- of mentions, what is none left out, and of parts
abbrev pub ats : List Named → List At
ats ms = map at_named (filter is_mention ms)

abbrev pub part_ats : List Part → List At
part_ats = map at_part

filter_push : (b : Bool) (m : Named) (xs ys : List Named) → cond b (m ∷ (xs ++ ys)) (xs ++ ys) ≡ cond b (m ∷ xs) xs ++ ys
filter_push true m xs ys = refl
filter_push false m xs ys = refl

filter_append : (xs ys : List Named) → filter is_mention (xs ++ ys) ≡ filter is_mention xs ++ filter is_mention ys
filter_append [] ys = refl
filter_append (m ∷ xs) ys =
    ap (λ l. cond (is_mention m) (m ∷ l) l) (filter_append xs ys) ∙ filter_push (is_mention m) m (filter is_mention xs) (filter is_mention ys)

pub ats-append : (xs ys : List Named) → ats (xs ++ ys) ≡ ats xs ++ ats ys
ats-append xs ys = ap (map at_named) (filter_append xs ys) ∙ map-append at_named (filter is_mention xs) (filter is_mention ys)

both : (xs ys : List Named) (ps qs : List Part) → ats xs ≡ part_ats ps → ats ys ≡ part_ats qs → ats (xs ++ ys) ≡ part_ats (ps ++ qs)
both xs ys ps qs p q = ats-append xs ys ∙ (ap (λ l. l ++ ats ys) p ∙ (ap (λ l. part_ats ps ++ l) q ∙ sym (map-append at_part ps qs)))

-- a key
end_is : (at : Address) (p : Piece) (ds : List Dotted) → below at (part_name p ∷ rest_names ds) ≡ key_end at p ds
end_is at p [] = refl
end_is at p (d ∷ ds) =
    sym (append_assoc at (Name (part_name p) ∷ []) (map Name (part_name d.part ∷ rest_names ds))) ∙ end_is (child at (part_name p)) d.part ds

keys_are : (line : ℕ) (at : Address) (p : Piece) (ds : List Dotted) (m : Named) → at_named m ≡ record { address = key_end at p ds; role = roles.Valued }
    → ats (fronts line at (part_name p ∷ rest_names ds) ++ m ∷ []) ≡ part_ats (key_parts at p ds)
keys_are line at p [] m is = one_valued m (key_end at p []) is
  where
    one_valued : (m : Named) (at : Address) → at_named m ≡ record { address = at; role = roles.Valued } → ats (m ∷ []) ≡ record { address = at; role = roles.Valued } ∷ []
    one_valued m at is =
        let role : m.role ≡ roles.Valued = ap (λ (a : At). a.role) is in
        let there : is_mention m ≡ true = ap (λ r. is_mentioned r) role in
        ap (λ b. map at_named (cond b (m ∷ []) [])) there ∙ ap (λ a. a ∷ []) is
keys_are line at p (d ∷ ds) m is = ap (λ l. record { address = child at (part_name p); role = roles.Dotted } ∷ l) (keys_are line (child at (part_name p)) d.part ds m is)

-- a value
pair_is : (line : ℕ) (at : Address) (a : Assign) (v : Value) (ms : List Named) (qs : List Part) → ats ms ≡ part_ats qs
    → ats (fronts line at (key_names a.key) ++ (value_named line roles.Valued (below at (key_names a.key)) v ∷ ms)) ≡ part_ats (key_parts at a.key.first a.key.rest ++ qs)
pair_is line at a v ms qs is =
    let m = value_named line roles.Valued (below at (key_names a.key)) v in
    let where_is : at_named m ≡ record { address = key_end at a.key.first a.key.rest; role = roles.Valued } =
    ap (λ (q : Address). let r : At = record { address = q; role = roles.Valued } in r) (end_is at a.key.first a.key.rest) in
    ap ats (sym (append_assoc (fronts line at (key_names a.key)) (m ∷ []) ms))
    ∙ both (fronts line at (key_names a.key) ++ m ∷ []) ms (key_parts at a.key.first a.key.rest) qs (keys_are line at a.key.first a.key.rest m where_is) is

along : (line : ℕ) (at : Address) (a : Assign) (v : Value) → inside_parts (key_end at a.key.first a.key.rest) v ≡ inside_parts (below at (key_names a.key)) v
along line at a v = ap (λ q. inside_parts q v) (sym (end_is at a.key.first a.key.rest))

mutual
  inside_is : (line : ℕ) (at : Address) (v : Value) → ats (inside line at v) ≡ part_ats (inside_parts at v)
  inside_is line at (Scalar kind p) = refl
  inside_is line at (Array whole items) = elements_is line at 0 items
  inside_is line at (Inline whole pairs) = members_is line at pairs

  elements_is : (line : ℕ) (at : Address) (i : ℕ) (items : Items) → ats (elements line at i items) ≡ part_ats (element_parts at i items)
  elements_is line at i (Close g) = refl
  elements_is line at i (Last g v h) = inside_is line (element at i) v
  elements_is line at i (More g v h is) =
      both (inside line (element at i) v) (elements line at (i + 1) is) (inside_parts (element at i) v) (element_parts at (i + 1) is) (inside_is line (element at i) v) (elements_is line at (i + 1) is)

  members_is : (line : ℕ) (at : Address) (pairs : Pairs) → ats (members line at pairs) ≡ part_ats (member_parts at pairs)
  members_is line at (ClosePairs g) = refl
  members_is line at (LastPair g a v h) =
      pair_is line at a v (inside line (below at (key_names a.key)) v) (inside_parts (key_end at a.key.first a.key.rest) v)
      (inside_is line (below at (key_names a.key)) v ∙ ap part_ats (sym (along line at a v)))
  members_is line at (MorePairs g a v h ps) =
      both (pair_named line at a v) (members line at ps) (pair_parts at a v) (member_parts at ps)
      (pair_is line at a v (inside line (below at (key_names a.key)) v) (inside_parts (key_end at a.key.first a.key.rest) v)
      (inside_is line (below at (key_names a.key)) v ∙ ap part_ats (sym (along line at a v)))) (members_is line at ps)

-- a header
followed_is : (line : ℕ) (earlier : List Named) (end : Address → List Named) (end_parts : Address → Piece → List Part) → ((at : Address) (p : Piece) → ats (end at) ≡ part_ats (end_parts at p))
    → (at : Address) (p : Piece) (ds : List Dotted) → ats (followed line earlier end at (part_name p ∷ rest_names ds)) ≡ part_ats (followed_parts earlier end_parts at p ds)
followed_is line earlier end end_parts same at p [] = same (child at (part_name p)) p
followed_is line earlier end end_parts same at p (d ∷ ds) =
    ap (λ l. record { address = entered earlier (child at (part_name p)); role = roles.Passed } ∷ l)
    (followed_is line earlier end end_parts same (entered earlier (child at (part_name p))) d.part ds)

-- a line
pub line_is : (earlier : List Named) (line : ℕ) (e : Expr) → ats (named_by earlier line e) ≡ part_ats (parts_by earlier e)
line_is earlier line (BlankLine b) = refl
line_is earlier line (KeyValLine ws k tail) =
    pair_is line (section earlier) k.assign k.value (inside line (below (section earlier) (key_names k.assign.key)) k.value)
    (inside_parts (key_end (section earlier) k.assign.key.first k.assign.key.rest) k.value)
    (inside_is line (below (section earlier) (key_names k.assign.key)) k.value ∙ ap part_ats (sym (along line (section earlier) k.assign k.value)))
line_is earlier line (TableLine ws h tail) = followed_is line earlier (ends_table line) table_parts (λ at p. refl) [] h.key.first h.key.rest
line_is earlier line (ArrayTableLine ws h tail) = followed_is line earlier (ends_tables line earlier) (tables_parts earlier) (λ at p. refl) [] h.key.first h.key.rest

-- lines
pub lines_are : (earlier : List Named) (line : ℕ) (ls : List Line) → ats (named_from earlier line ls) ≡ ats earlier ++ part_ats (parts_from earlier line ls)
lines_are earlier line [] = sym (append-nil (ats earlier))
lines_are earlier line (l ∷ ls) =
    let more = named_by earlier line l.expr in
    lines_are (earlier ++ more) (line + 1) ls
    ∙ (ap (λ a. a ++ part_ats (parts_from (earlier ++ more) (line + 1) ls)) (ats-append earlier more ∙ ap (λ a. ats earlier ++ a) (line_is earlier line l.expr))
    ∙ (append_assoc (ats earlier) (part_ats (parts_by earlier l.expr)) (part_ats (parts_from (earlier ++ more) (line + 1) ls))
    ∙ ap (λ a. ats earlier ++ a) (sym (map-append at_part (parts_by earlier l.expr) (parts_from (earlier ++ more) (line + 1) ls)))))

pub all_are : (ls : List Line) → ats (named ls) ≡ part_ats (all_parts ls)
all_are ls = lines_are (root ∷ []) 0 ls

-- lines and one line more
pub named_more : (earlier : List Named) (n : ℕ) (ls : List Line) (l : Line) → named_from earlier n (ls ++ l ∷ []) ≡ named_from earlier n ls ++ named_by (named_from earlier n ls) (n + length ls) l.expr
named_more earlier n [] l = ap (λ k. earlier ++ named_by earlier k l.expr) (none_more n)
  where
    none_more : (n : ℕ) → n ≡ n + 0
    none_more n = omega arith
named_more earlier n (k ∷ ls) l =
    named_more (earlier ++ named_by earlier n k.expr) (n + 1) ls l
    ∙ ap (λ m. named_from (earlier ++ named_by earlier n k.expr) (n + 1) ls ++ named_by (named_from (earlier ++ named_by earlier n k.expr) (n + 1) ls) m l.expr) (one_more n (length ls))
  where
    one_more : (a b : ℕ) → a + 1 + b ≡ a + suc b
    one_more a b = omega arith

parts_more_from : (earlier : List Named) (n : ℕ) (ls : List Line) (l : Line) → parts_from earlier n (ls ++ l ∷ []) ≡ parts_from earlier n ls ++ parts_by (named_from earlier n ls) l.expr
parts_more_from earlier n [] l = append-nil (parts_by earlier l.expr)
parts_more_from earlier n (k ∷ ls) l =
    ap (λ a. parts_by earlier k.expr ++ a) (parts_more_from (earlier ++ named_by earlier n k.expr) (n + 1) ls l)
    ∙ sym (append_assoc (parts_by earlier k.expr) (parts_from (earlier ++ named_by earlier n k.expr) (n + 1) ls) (parts_by (named_from (earlier ++ named_by earlier n k.expr) (n + 1) ls) l.expr))

pub parts_more : (ls : List Line) (l : Line) → all_parts (ls ++ l ∷ []) ≡ all_parts ls ++ parts_by (named ls) l.expr
parts_more ls l = parts_more_from (root ∷ []) 0 ls l

pub parts_split : (earlier : List Named) (n : ℕ) (xs ys : List Line) → parts_from earlier n (xs ++ ys) ≡ parts_from earlier n xs ++ parts_from (named_from earlier n xs) (n + length xs) ys
parts_split earlier n [] ys = ap (λ k. parts_from earlier k ys) (none_more n)
  where
    none_more : (n : ℕ) → n ≡ n + 0
    none_more n = omega arith
parts_split earlier n (k ∷ xs) ys =
    ap (λ a. parts_by earlier k.expr ++ a) (parts_split (earlier ++ named_by earlier n k.expr) (n + 1) xs ys
    ∙ ap (λ m. parts_from (earlier ++ named_by earlier n k.expr) (n + 1) xs ++ parts_from (named_from (earlier ++ named_by earlier n k.expr) (n + 1) xs) m ys) (one_more n (length xs)))
    ∙ sym (append_assoc (parts_by earlier k.expr) (parts_from (earlier ++ named_by earlier n k.expr) (n + 1) xs) (parts_from (named_from (earlier ++ named_by earlier n k.expr) (n + 1) xs) (n + suc (length xs)) ys))
  where
    one_more : (a b : ℕ) → a + 1 + b ≡ a + suc b
    one_more a b = omega arith

-- the key parts by their pieces
abbrev pub pieces : List Part → List Piece
pieces = map (λ (p : Part). p.piece)

both_pieces : (ps qs : List Part) (xs ys : List Piece) → pieces ps ≡ xs → pieces qs ≡ ys → pieces (ps ++ qs) ≡ xs ++ ys
both_pieces ps qs xs ys p q = map-append (λ (r : Part). r.piece) ps qs ∙ (ap (λ l. l ++ pieces qs) p ∙ ap (λ l. xs ++ l) q)

key_pieces_are : (at : Address) (p : Piece) (ds : List Dotted) → pieces (key_parts at p ds) ≡ p ∷ parts_behind ds
key_pieces_are at p [] = refl
key_pieces_are at p (d ∷ ds) = ap (λ l. p ∷ l) (key_pieces_are (child at (part_name p)) d.part ds)

mutual
  inside_pieces : (at : Address) (v : Value) → pieces (inside_parts at v) ≡ value_pieces v
  inside_pieces at (Scalar kind p) = refl
  inside_pieces at (Array whole items) = element_pieces at 0 items
  inside_pieces at (Inline whole pairs) = member_pieces at pairs

  element_pieces : (at : Address) (i : ℕ) (items : Items) → pieces (element_parts at i items) ≡ item_pieces items
  element_pieces at i (Close g) = refl
  element_pieces at i (Last g v h) = inside_pieces (element at i) v
  element_pieces at i (More g v h is) =
      both_pieces (inside_parts (element at i) v) (element_parts at (i + 1) is) (value_pieces v) (item_pieces is) (inside_pieces (element at i) v) (element_pieces at (i + 1) is)

  member_pieces : (at : Address) (pairs : Pairs) → pieces (member_parts at pairs) ≡ pair_pieces pairs
  member_pieces at (ClosePairs g) = refl
  member_pieces at (LastPair g a v h) =
      both_pieces (key_parts at a.key.first a.key.rest) (inside_parts (key_end at a.key.first a.key.rest) v) (key_pieces a.key) (value_pieces v) (key_pieces_are at a.key.first a.key.rest)
      (inside_pieces (key_end at a.key.first a.key.rest) v)
  member_pieces at (MorePairs g a v h ps) =
      both_pieces (pair_parts at a v) (member_parts at ps) (key_pieces a.key ++ value_pieces v) (pair_pieces ps)
      (both_pieces (key_parts at a.key.first a.key.rest) (inside_parts (key_end at a.key.first a.key.rest) v) (key_pieces a.key) (value_pieces v) (key_pieces_are at a.key.first a.key.rest)
      (inside_pieces (key_end at a.key.first a.key.rest) v)) (member_pieces at ps)

table_pieces : (earlier : List Named) (at : Address) (p : Piece) (ds : List Dotted) → pieces (followed_parts earlier table_parts at p ds) ≡ p ∷ parts_behind ds
table_pieces earlier at p [] = refl
table_pieces earlier at p (d ∷ ds) = ap (λ l. p ∷ l) (table_pieces earlier (entered earlier (child at (part_name p))) d.part ds)

tables_pieces : (earlier : List Named) (at : Address) (p : Piece) (ds : List Dotted) → pieces (followed_parts earlier (tables_parts earlier) at p ds) ≡ (p ∷ parts_behind ds) ++ last_part p ds ∷ []
tables_pieces earlier at p [] = refl
tables_pieces earlier at p (d ∷ ds) = ap (λ l. p ∷ l) (tables_pieces earlier (entered earlier (child at (part_name p))) d.part ds)

pub line_pieces : (earlier : List Named) (e : Expr) → pieces (parts_by earlier e) ≡ mention_pieces e
line_pieces earlier (BlankLine b) = refl
line_pieces earlier (KeyValLine ws k tail) =
    both_pieces (key_parts (section earlier) k.assign.key.first k.assign.key.rest) (inside_parts (key_end (section earlier) k.assign.key.first k.assign.key.rest) k.value) (key_pieces k.assign.key)
    (value_pieces k.value) (key_pieces_are (section earlier) k.assign.key.first k.assign.key.rest) (inside_pieces (key_end (section earlier) k.assign.key.first k.assign.key.rest) k.value)
line_pieces earlier (TableLine ws h tail) = table_pieces earlier [] h.key.first h.key.rest
line_pieces earlier (ArrayTableLine ws h tail) = tables_pieces earlier [] h.key.first h.key.rest
