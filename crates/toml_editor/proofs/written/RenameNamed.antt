-- What is named after a `rename`.
use Rattle.std.proofs.Common.{◌≡◌, ℕ, ◌+◌, ◌-◌, ◌==◌, ◌&&◌, Bool, true, false, cond, List, [], ◌∷◌, ◌++◌, map, refl, sym, ap, ap₂, ◌∙◌, subst, true≢false, arith}
use Rattle.std.proofs.lemmas.List.{map-append}
use Rattle.std.proofs.lemmas.Bool.{cond-false}
use Rattle.toml_scalar.specs.Spelling.{spelled}
use Rattle.toml_tree.specs.Bare.{fresh}
use Rattle.toml_tree.specs.Spells.{EachIs}
use Rattle.toml_tree.specs.Tree.{Piece, Dotted, Assign, Value, Scalar, Array, Inline, Items, Close, Last, More, Pairs, ClosePairs, LastPair, MorePairs, Expr, BlankLine, KeyValLine, TableLine, ArrayTableLine, Line, Header}
use Rattle.toml_tree.specs.Tree as tree
use Rattle.toml_names.specs.declared.mentions.mention.Role.{Role}
use Rattle.toml_names.specs.declared.mentions.mention.Role.TheVariants as roles
use Rattle.toml_names.specs.model.Addresses.{Address, same_address, child, element, below}
use Rattle.toml_names.specs.mentions.Keys.{Key, key_names, part_name, rest_names}
use Rattle.toml_names.specs.mentions.Mentions.{Named, named_by, named_from, root, value_named, table_at, kind_of, inside, elements, members, fronts, pair_named, section, section_from, is_section, is_tables, count_tables, entered, followed, ends_table, ends_tables}
use Rattle.toml_names.specs.mentions.Clear.{IsClear}
use Rattle.toml_names.proofs.Proved.{not_named_is_clear}
use Rattle.toml_editor.specs.RenameLaws.{moved, moved_one, RenameNames}
use Rattle.toml_working.specs.Lines.{lines_from}
use Rattle.toml_working.specs.Renaming.{rename_part, rename_rest, rename_key, rename_assign, rename_value, rename_items, rename_pairs, rename_header, rename_expr, rename_line, rename_lines}
use Rattle.toml_editor.proofs.written.Clear.{below-cons, same_is}
use Rattle.toml_editor.proofs.Each.{each_front, each_back}
use Rattle.toml_editor.proofs.written.Alike.{adds, count_cons, each_from}
use Rattle.toml_editor.proofs.written.FreshKeys.{spelled_again}
use Rattle.toml_editor.proofs.written.Moved.{moved_root, moved_name, moved_index, moved_same}

-- the names of a key with the parts that stand for p renamed
abbrev pub new_names : Address → List ℕ → (Address → Address) → Address → Key → Key
new_names p to enter at [] = []
new_names p to enter at (n ∷ ns) = cond (same_address (child at n) p) to n ∷ new_names p to enter (enter (child at n)) ns

part_named : (p : Address) (to : List ℕ) (here : Address) (part : Piece) → part_name (rename_part p to here part) ≡ cond (same_address here p) to (part_name part)
part_named p to here part = by (same_address here p)
  where
    by : (b : Bool) → part_name (cond b (fresh (spelled to)) part) ≡ cond b to (part_name part)
    by true = spelled_again to
    by false = refl

rest_named : (p : Address) (to : List ℕ) (enter : Address → Address) (ds : List Dotted) (here : Address) → rest_names (rename_rest p to enter here ds) ≡ new_names p to enter (enter here) (rest_names ds)
rest_named p to enter [] here = refl
rest_named p to enter (d ∷ ds) here =
    ap₂ (λ x y. x ∷ y) (part_named p to (child (enter here) (part_name d.part)) d.part) (rest_named p to enter ds (child (enter here) (part_name d.part)))

pub key_named : (p : Address) (to : List ℕ) (enter : Address → Address) (at : Address) (k : tree.Key) → key_names (rename_key p to enter at k) ≡ new_names p to enter at (key_names k)
key_named p to enter at k = ap₂ (λ x y. x ∷ y) (part_named p to (child at (part_name k.first)) k.first) (rest_named p to enter k.rest (child at (part_name k.first)))

module _ (q : Address) (n to : List ℕ) where
  abbrev pub p : Address
  p = child q n

  abbrev pub go : Address → Address
  go = moved q n to

  abbrev pub one : Named → Named
  one = moved_one q n to

  pub child_moved : (at : Address) (m : List ℕ) → child (go at) (cond (same_address (child at m) p) to m) ≡ go (child at m)
  child_moved at m = sym (moved_name n to q at m)

  pub element_moved : (at : Address) (i : ℕ) → element (go at) i ≡ go (element at i)
  element_moved at i = sym (moved_index n to q at i)

  both : (xs ys xs' ys' : List Named) → xs' ≡ map one xs → ys' ≡ map one ys → xs' ++ ys' ≡ map one (xs ++ ys)
  both xs ys xs' ys' a b = ap₂ (λ s t. s ++ t) a b ∙ sym (map-append one xs ys)

  -- ---- keys of pairs

  abbrev pub stay : Address → Address
  stay here = here

  fronts_moved : (ns : Key) (m : List ℕ) (line : ℕ) (at : Address) → fronts line (go at) (new_names p to stay at (m ∷ ns)) ≡ map one (fronts line at (m ∷ ns))
  fronts_moved [] m line at = refl
  fronts_moved (k ∷ ns) m line at =
      ap (λ (a : Address). table_at line roles.Dotted a ∷ fronts line a (new_names p to stay (child at m) (k ∷ ns))) (child_moved at m)
      ∙ ap (λ l. table_at line roles.Dotted (go (child at m)) ∷ l) (fronts_moved ns k line (child at m))

  pub below_moved : (ns : Key) (m : List ℕ) (at : Address) → below (go at) (new_names p to stay at (m ∷ ns)) ≡ go (below at (m ∷ ns))
  below_moved [] m at = child_moved at m
  below_moved (k ∷ ns) m at =
      sym (below-cons (go at) (cond (same_address (child at m) p) to m) (new_names p to stay (child at m) (k ∷ ns)))
      ∙ ap (λ (a : Address). below a (new_names p to stay (child at m) (k ∷ ns))) (child_moved at m)
      ∙ below_moved ns k (child at m)
      ∙ ap go (below-cons at m (k ∷ ns))

  kind_same : (at : Address) (v : Value) → kind_of (rename_value p to at v) ≡ kind_of v
  kind_same at (Scalar kind text) = refl
  kind_same at (Array whole items) = refl
  kind_same at (Inline whole pairs) = refl

  block_moved : (v : Value) (line : ℕ) (role : Role) (to' at : Address) → to' ≡ go at → inside line (go at) (rename_value p to at v) ≡ map one (inside line at v)
      → value_named line role to' (rename_value p to at v) ∷ inside line to' (rename_value p to at v) ≡ map one (value_named line role at v ∷ inside line at v)
  block_moved v line role to' at is within =
      ap (λ (a : Address). value_named line role a (rename_value p to at v) ∷ inside line a (rename_value p to at v)) is
      ∙ ap₂ (λ k l. record { address = go at; role = role; kind = k; line = line } ∷ l) (kind_same at v) within

  pair_moved : (a : Assign) (v : Value) (line : ℕ) (at : Address) → ((here : Address) → inside line (go here) (rename_value p to here v) ≡ map one (inside line here v))
      → pair_named line (go at) (rename_assign p to at a) (rename_value p to (below at (key_names a.key)) v) ≡ map one (pair_named line at a v)
  pair_moved a v line at within =
      let here = below at (key_names a.key) in
      let names : key_names (rename_key p to stay at a.key) ≡ new_names p to stay at (key_names a.key) = key_named p to stay at a.key in
      ap (λ k. fronts line (go at) k ++ (value_named line roles.Valued (below (go at) k) (rename_value p to here v) ∷ inside line (below (go at) k) (rename_value p to here v))) names
      ∙ both (fronts line at (key_names a.key)) (value_named line roles.Valued here v ∷ inside line here v) _ _
      (fronts_moved (rest_names a.key.rest) (part_name a.key.first) line at)
      (block_moved v line roles.Valued _ here (below_moved (rest_names a.key.rest) (part_name a.key.first) at) (within here))

  mutual
    inside_moved : (v : Value) (line : ℕ) (at : Address) → inside line (go at) (rename_value p to at v) ≡ map one (inside line at v)
    inside_moved (Scalar kind text) line at = refl
    inside_moved (Array whole items) line at = elements_moved items line at 0
    inside_moved (Inline whole pairs) line at = members_moved pairs line at

    elements_moved : (items : Items) (line : ℕ) (at : Address) (i : ℕ) → elements line (go at) i (rename_items p to at i items) ≡ map one (elements line at i items)
    elements_moved (Close g) line at i = refl
    elements_moved (Last g v h) line at i = block_moved v line roles.Bare (element (go at) i) (element at i) (element_moved at i) (inside_moved v line (element at i))
    elements_moved (More g v h is) line at i =
        both (value_named line roles.Bare (element at i) v ∷ inside line (element at i) v) (elements line at (i + 1) is) _ _
        (block_moved v line roles.Bare (element (go at) i) (element at i) (element_moved at i) (inside_moved v line (element at i)))
        (elements_moved is line at (i + 1))

    members_moved : (pairs : Pairs) (line : ℕ) (at : Address) → members line (go at) (rename_pairs p to at pairs) ≡ map one (members line at pairs)
    members_moved (ClosePairs g) line at = refl
    members_moved (LastPair g a v h) line at = pair_moved a v line at (λ here. inside_moved v line here)
    members_moved (MorePairs g a v h ps) line at =
        both (pair_named line at a v) (members line at ps) _ _ (pair_moved a v line at (λ here. inside_moved v line here)) (members_moved ps line at)

  -- ---- what was named before

  pub section_moved : (ms : List Named) (at : Address) → section_from (go at) (map one ms) ≡ go (section_from at ms)
  section_moved [] at = refl
  section_moved (m ∷ ms) at = ap (λ a. section_from a (map one ms)) (by (is_section m.role)) ∙ section_moved ms (cond (is_section m.role) m.address at)
    where
      by : (b : Bool) → cond b (go m.address) (go at) ≡ go (cond b m.address at)
      by true = refl
      by false = refl

  abbrev pub Free : Address → Type 0
  Free = IsClear (child q to)

  abbrev pub AllFree : List Named → Type 0
  AllFree = EachIs (λ m. Free m.address)

  pub count_moved : (ms : List Named) (at : Address) → AllFree ms → Free at → count_tables (map one ms) (go at) ≡ count_tables ms at
  count_moved [] at free here = refl
  count_moved (m ∷ ms) at free here =
      let more = count_moved ms at free.1 here in
      let same : adds (go at) (one m) ≡ adds at m = ap (λ b. cond (b && is_tables m.role) 1 0) (moved_same n to q m.address at free.0 here) in
      omega (arith, more, same, count_cons m ms at, count_cons (one m) (map one ms) (go at))

  -- an array that is counted is named
  counted : (ms : List Named) (at : Address) → AllFree ms → (count_tables ms at == 0) ≡ false → Free at
  counted [] at free some = absurd (true≢false some)
  counted (m ∷ ms) at free some = by (λ k. counted ms at free.1 k) (same_address m.address at) refl
    where
      by : ((count_tables ms at == 0) ≡ false → Free at) → (b : Bool) → same_address m.address at ≡ b → Free at
      by more true same = subst Free (same_is m.address at same) free.0
      by more false other =
          let none : adds at m ≡ 0 = cond-false _ _ _ (ap (λ x. x && is_tables m.role) other) in
          let same : count_tables (m ∷ ms) at ≡ count_tables ms at = omega (arith, none, count_cons m ms at) in
          more (ap (λ k. k == 0) (sym same) ∙ some)

  -- ---- headers

  module _ (xs : List Named) (free : AllFree xs) where
    pub entered_free : (at : Address) → Free (entered xs at) → Free at
    entered_free at mentioned = by (count_tables xs at == 0) refl mentioned
      where
        by : (b : Bool) → (count_tables xs at == 0) ≡ b → Free (cond b at (element at (count_tables xs at - 1))) → Free at
        by true is here = here
        by false other here = counted xs at free other

    pub entered_moved : (at : Address) → Free at → entered (map one xs) (go at) ≡ go (entered xs at)
    entered_moved at here =
        ap (λ k. cond (k == 0) (go at) (element (go at) (k - 1))) (count_moved xs at free here)
        ∙ by (count_tables xs at == 0)
      where
        by : (b : Bool) → cond b (go at) (element (go at) (count_tables xs at - 1)) ≡ go (cond b at (element at (count_tables xs at - 1)))
        by true = refl
        by false = element_moved at (count_tables xs at - 1)

    followed_moved : (ns : Key) (m : List ℕ) (line : ℕ) (e f : Address → List Named) (at : Address) → ((here : Address) → AllFree (e here) → f (go here) ≡ map one (e here)) → AllFree (followed line xs e at (m ∷ ns))
        → followed line (map one xs) f (go at) (new_names p to (entered xs) at (m ∷ ns)) ≡ map one (followed line xs e at (m ∷ ns))
    followed_moved [] m line e f at ends all = ap f (child_moved at m) ∙ ends (child at m) all
    followed_moved (k ∷ ns) m line e f at ends all =
        let here : Free (child at m) = entered_free (child at m) all.0 in
        let enters : entered (map one xs) (child (go at) (cond (same_address (child at m) p) to m)) ≡ go (entered xs (child at m)) = ap (entered (map one xs)) (child_moved at m) ∙ entered_moved (child at m) here in
        ap (λ (a : Address). table_at line roles.Passed a ∷ followed line (map one xs) f a (new_names p to (entered xs) (entered xs (child at m)) (k ∷ ns))) enters
        ∙ ap (λ l. table_at line roles.Passed (go (entered xs (child at m))) ∷ l) (followed_moved ns k line e f (entered xs (child at m)) ends all.1)

    tables_moved : (line : ℕ) (here : Address) → AllFree (ends_tables line xs here) → ends_tables line (map one xs) (go here) ≡ map one (ends_tables line xs here)
    tables_moved line here all =
        ap₂ (λ k (a : Address). record { address = go here; role = roles.Tables; kind = Rattle.toml_names.specs.mentions.Mentions.an_array; line = line } ∷ table_at line roles.Element a ∷ []) (count_moved xs here free all.0)
        (ap (λ k. element (go here) k) (count_moved xs here free all.0) ∙ element_moved here (count_tables xs here))

    -- a key from the root
    header_moved : (h : Header) (line : ℕ) (e f : Address → List Named) → ((here : Address) → AllFree (e here) → f (go here) ≡ map one (e here)) → AllFree (followed line xs e [] (key_names h.key))
        → followed line (map one xs) f [] (key_names (rename_header p to xs h).key) ≡ map one (followed line xs e [] (key_names h.key))
    header_moved h line e f ends all =
        ap (λ k. followed line (map one xs) f [] k) (key_named p to (entered xs) [] h.key)
        ∙ ap (λ a. followed line (map one xs) f a (new_names p to (entered xs) [] (key_names h.key))) (sym (moved_root n to q))
        ∙ followed_moved (rest_names h.key.rest) (part_name h.key.first) line e f [] ends all

    pub line_moved : (line : ℕ) (e : Expr) → AllFree (named_by xs line e) → named_by (map one xs) line (rename_expr p to xs e) ≡ map one (named_by xs line e)
    line_moved line (BlankLine b) all = refl
    line_moved line (KeyValLine ws kv tail) all =
        ap (λ s. pair_named line s (rename_assign p to (section xs) kv.assign) (rename_value p to (below (section xs) (key_names kv.assign.key)) kv.value))
        (ap (λ a. section_from a (map one xs)) (sym (moved_root n to q)) ∙ section_moved xs [])
        ∙ pair_moved kv.assign kv.value line (section xs) (λ here. inside_moved kv.value line here)
    line_moved line (TableLine ws h tail) all = header_moved h line (ends_table line) (ends_table line) (λ here free. refl) all
    line_moved line (ArrayTableLine ws h tail) all = header_moved h line (ends_tables line xs) (ends_tables line (map one xs)) (tables_moved line) all

  lines_moved : (ls : List Line) (xs : List Named) (line : ℕ) → AllFree (named_from xs line ls) → named_from (map one xs) line (lines_from (rename_line p to) xs line ls) ≡ map one (named_from xs line ls)
  lines_moved [] xs line all = refl
  lines_moved (l ∷ ls) xs line all =
      let new = named_by xs line l.expr in
      let so_far = each_from (λ m. Free m.address) ls (xs ++ new) (line + 1) all in
      let free = each_front (λ m. Free m.address) xs new so_far in
      ap (λ r. named_from (map one xs ++ r) (line + 1) (lines_from (rename_line p to) (xs ++ new) (line + 1) ls)) (line_moved xs free line l.expr (each_back (λ m. Free m.address) xs new so_far))
      ∙ ap (λ r. named_from r (line + 1) (lines_from (rename_line p to) (xs ++ new) (line + 1) ls)) (sym (map-append one xs new))
      ∙ lines_moved ls (xs ++ new) (line + 1) all

pub rename_names : RenameNames
rename_names q n to lines free keeps =
    ap (λ a. named_from (record { address = a; role = roles.Bare; kind = Rattle.toml_names.specs.mentions.Mentions.a_table; line = 0 } ∷ []) 0 (rename_lines (child q n) to lines)) (sym (moved_root n to q))
    ∙ lines_moved q n to lines (root ∷ []) 0 (not_named_is_clear lines (child q to) keeps free)
