-- Each index in what a text names is below its length, since each element takes a byte, and so does each header.
use Rattle.toml_names.proofs.Common.{common_steps, ◌≡◌, ℕ, ◌+◌, ◌<◌, ◌≤◌, Bool, true, false, cond, List, [], ◌∷◌, ◌++◌, map, length, drop, ap, refl, arith, length-append, rules, length-drop, EachIs, Part, joined, value_parts, items_parts, pairs_parts, gap_parts, assign_parts, blank_parts, header_parts, array_header_parts, expr_parts, lines_parts, line_parts, symbol, Piece, Blank, Assign, Value, Scalar, Array, Inline, Items, Close, Last, More, Pairs, ClosePairs, LastPair, MorePairs, Expr, BlankLine, KeyValLine, TableLine, ArrayTableLine, Line, Name, Index, Passed, Address, child, element, below, Key, part_name, rest_names, Named, root, named_by, named_from, table_at, inside, elements, members, fronts, pair_named, section, section_from, is_section, count_tables, entered, followed, ends_table, ends_tables, sizes_add}
use Rattle.toml_tree.specs.Spells.{piece, mark_of}
use Rattle.toml_tree.specs.Tree as spelled
use Rattle.toml_names.specs.model.Indices.{IsLow, IsLowStep, IndicesAreLow, ValueIndicesAreLow}
use Rattle.toml_names.proofs.lemmas.mentions.Counting.{adds_none, count_cons}
use Rattle.toml_names.proofs.Each.{each_append}
use Rattle.toml_names.proofs.lemmas.mentions.Within.{count-append, no_tables-pair}
use Rattle.toml_tree.specs.Parts.{size}

sizes_add_four : (a b c d : List Part) → size (a ++ (b ++ (c ++ d))) ≡ size a + (size b + (size c + size d))
sizes_add_four a b c d = omega (arith, sizes_add a (b ++ (c ++ d)), sizes_add b (c ++ d), sizes_add c d)

module _ (n : ℕ) where
  abbrev AllLow : List Named → Type 0
  AllLow = EachIs (λ m. IsLow n m.address)

  low_names : (key : Key) → IsLow n (map Name key)
  low_names [] = tt
  low_names (name ∷ key) = (tt, low_names key)

  low_child : (at : Address) (name : List ℕ) → IsLow n at → IsLow n (child at name)
  low_child at name low = each_append (IsLowStep n) at (Name name ∷ []) low (tt, tt)

  low_element : (at : Address) (i : ℕ) → IsLow n at → i < n → IsLow n (element at i)
  low_element at i low h = each_append (IsLowStep n) at (Index i ∷ []) low (h, tt)

  low_below : (at : Address) (key : Key) → IsLow n at → IsLow n (below at key)
  low_below at key low = each_append (IsLowStep n) at (map Name key) low (low_names key)

  fronts_low : (line : ℕ) (key : Key) (at : Address) → IsLow n at → AllLow (fronts line at key)
  fronts_low line [] at low = tt
  fronts_low line (name ∷ []) at low = tt
  fronts_low line (name ∷ m ∷ more) at low = (low_child at name low, fronts_low line (m ∷ more) (child at name) (low_child at name low))

  pair_low : (line : ℕ) (a : Assign) (v : Value) (at : Address) → IsLow n at → ((to : Address) → IsLow n to → AllLow (inside line to v)) → AllLow (pair_named line at a v)
  pair_low line a v at low within = search (rules, low_below, each_append, fronts_low)

  mutual
    inside_low : (line : ℕ) (v : Value) (at : Address) → IsLow n at → size (value_parts v) ≤ n → AllLow (inside line at v)
    inside_low line (Scalar kind p) at low fits = tt
    inside_low line (Array whole items) at low fits = elements_low line items at 0 low (omega arith)
    inside_low line (Inline whole pairs) at low fits = members_low line pairs at low (omega arith)

    elements_low : (line : ℕ) (items : Items) (at : Address) (i : ℕ) → IsLow n at → i + size (items_parts items) ≤ n → AllLow (elements line at i items)
    elements_low line (Close g) at i low fits = tt
    elements_low line (Last g v h) at i low fits =
        let all = sizes_add_four (gap_parts g) (value_parts v) (gap_parts h) (symbol (0x5D ∷ []) ∷ []) in
        let here = low_element at i low (omega (arith, all)) in
        (here, inside_low line v (element at i) here (omega (arith, all)))
    elements_low line (More g v h is) at i low fits =
        let all = sizes_add_four (gap_parts g) (value_parts v) (gap_parts h) (symbol (0x2C ∷ []) ∷ items_parts is) in
        let here = low_element at i low (omega (arith, all)) in
        (here, each_append (λ m. IsLow n m.address) (inside line (element at i) v) (elements line at (i + 1) is) (inside_low line v (element at i) here (omega (arith, all))) (elements_low line is at (i + 1) low (omega (arith, all))))

    members_low : (line : ℕ) (pairs : Pairs) (at : Address) → IsLow n at → size (pairs_parts pairs) ≤ n → AllLow (members line at pairs)
    members_low line (ClosePairs g) at low fits = tt
    members_low line (LastPair g a v h) at low fits =
        let all = sizes_add_four (gap_parts g) (assign_parts a) (value_parts v) (gap_parts h ++ symbol (0x7D ∷ []) ∷ []) in
        pair_low line a v at low (λ to at_low. inside_low line v to at_low (omega (arith, all)))
    members_low line (MorePairs g a v h ps) at low fits =
        let end = symbol (0x2C ∷ []) ∷ pairs_parts ps in
        let all = sizes_add_four (gap_parts g) (assign_parts a) (value_parts v) (gap_parts h ++ end) in
        let fit : size (value_parts v) ≤ n = omega (arith, all) in
        let rest : size (pairs_parts ps) ≤ n = omega (arith, all, sizes_add (gap_parts h) end) in
        each_append (λ m. IsLow n m.address) (pair_named line at a v) (members line at ps) (pair_low line a v at low (λ to at_low. inside_low line v to at_low fit)) (members_low line ps at low rest)

  -- ---- headers

  entered_low : (xs : List Named) (used : ℕ) (at : Address) → count_tables xs at ≤ used → used ≤ n → IsLow n at → IsLow n (entered xs at)
  entered_low xs used at counted fits low = grind (arith, common_steps)

  followed_low : (ns : Key) (name : List ℕ) (line : ℕ) (xs : List Named) (used : ℕ) (end : Address → List Named) (at : Address) → ((q : Address) → count_tables xs q ≤ used) → used ≤ n
      → ((here : Address) → IsLow n here → AllLow (end here)) → IsLow n at → AllLow (followed line xs end at (name ∷ ns))
  followed_low [] name line xs used end at counted fits ends low = ends (child at name) (low_child at name low)
  followed_low (m ∷ ns) name line xs used end at counted fits ends low =
      let here = entered_low xs used (child at name) (counted (child at name)) fits (low_child at name low) in
      (here, followed_low ns m line xs used end (entered xs (child at name)) counted fits ends here)

  section_low : (ms : List Named) (at : Address) → IsLow n at → AllLow ms → IsLow n (section_from at ms)
  section_low [] at low all = low
  section_low (m ∷ ms) at low all = section_low ms (cond (is_section m.role) m.address at) (by (is_section m.role)) all.1
    where
      by : (b : Bool) → IsLow n (cond b m.address at)
      by true = all.0
      by false = low

-- ---- how many arrays of tables a line names

followed_counts : (ns : Key) (name : List ℕ) (line : ℕ) (xs : List Named) (end : Address → List Named) (at q : Address) → ((here : Address) → count_tables (end here) q ≤ 1)
    → count_tables (followed line xs end at (name ∷ ns)) q ≤ 1
followed_counts [] name line xs end at q ends = ends (child at name)
followed_counts (m ∷ ns) name line xs end at q ends =
    let here = entered xs (child at name) in
    omega (arith, adds_none (table_at line Passed here) q refl, count_cons (table_at line Passed here) (followed line xs end here (m ∷ ns)) q, followed_counts ns m line xs end here q ends)

table_counts : (line : ℕ) (q here : Address) → count_tables (ends_table line here) q ≤ 1
table_counts line q here = search rules

tables_counts : (line : ℕ) (xs : List Named) (q here : Address) → count_tables (ends_tables line xs here) q ≤ 1
tables_counts line xs q here = search rules

-- a header has a byte
some_behind : (ws : Piece) (ps : List Part) → 1 ≤ size ps → 1 ≤ size (piece ws ∷ ps)
some_behind ws ps some = let all = length-append ws.text (joined ps) in omega (arith, all)

table_some : (ws : Piece) (header : spelled.Header) (tail : Blank) → 1 ≤ size (expr_parts (TableLine ws header tail))
table_some ws header tail = some_behind ws (header_parts header ++ blank_parts tail) (omega arith)

tables_some : (ws : Piece) (header : spelled.Header) (tail : Blank) → 1 ≤ size (expr_parts (ArrayTableLine ws header tail))
tables_some ws header tail = some_behind ws (array_header_parts header ++ blank_parts tail) (omega arith)

new_counts : (xs : List Named) (line : ℕ) (e : Expr) (q : Address) → count_tables (named_by xs line e) q ≤ size (expr_parts e)
new_counts xs line (BlankLine b) q = let none : count_tables [] q ≡ 0 = refl in omega arith
new_counts xs line (KeyValLine ws kv tail) q = let none = no_tables-pair line (section xs) kv.assign kv.value q in omega (arith, none)
new_counts xs line (TableLine ws header tail) q =
    omega (arith, followed_counts (rest_names header.key.rest) (part_name header.key.first) line xs (ends_table line) [] q (table_counts line q), table_some ws header tail)
new_counts xs line (ArrayTableLine ws header tail) q =
    omega (arith, followed_counts (rest_names header.key.rest) (part_name header.key.first) line xs (ends_tables line xs) [] q (tables_counts line xs q), tables_some ws header tail)

-- ---- lines

module _ (n : ℕ) where
  value_fits : (ws : Piece) (a : Assign) (v : Value) (tail : List Part) → size (value_parts v) ≤ size (piece ws ∷ ((assign_parts a ++ value_parts v) ++ tail))
  value_fits ws a v tail = search (rules, length-append, sizes_add)

  line_low : (xs : List Named) (line : ℕ) (e : Expr) (used : ℕ) → AllLow n xs → ((q : Address) → count_tables xs q ≤ used) → used + size (expr_parts e) ≤ n → AllLow n (named_by xs line e)
  line_low xs line (BlankLine b) used low counted fits = tt
  line_low xs line (KeyValLine ws kv tail) used low counted fits =
      let fit = value_fits ws kv.assign kv.value (blank_parts tail) in
      pair_low n line kv.assign kv.value (section xs) (section_low n xs [] tt low) (λ to at_low. inside_low n line kv.value to at_low (omega (arith, fit, fits)))
  line_low xs line (TableLine ws header tail) used low counted fits =
      followed_low n (rest_names header.key.rest) (part_name header.key.first) line xs used (ends_table line) [] counted (omega (arith, fits)) (λ here h. (h, tt)) tt
  line_low xs line (ArrayTableLine ws header tail) used low counted fits =
      followed_low n (rest_names header.key.rest) (part_name header.key.first) line xs used (ends_tables line xs) [] counted (omega (arith, fits))
      (λ here h. (h, (low_element n here (count_tables xs here) h (let count = counted here in omega (arith, count, fits, tables_some ws header tail)), tt))) tt

  lines_low : (ls : List Line) (xs : List Named) (line used : ℕ) → AllLow n xs → ((q : Address) → count_tables xs q ≤ used) → used + size (lines_parts ls) ≤ n → AllLow n (named_from xs line ls)
  lines_low [] xs line used low counted fits = low
  lines_low (l ∷ ls) xs line used low counted fits =
      let new = named_by xs line l.expr in
      let all = sizes_add (line_parts l) (lines_parts ls) in
      let one = sizes_add (expr_parts l.expr) (piece l.newline ∷ []) in
      lines_low ls (xs ++ new) (line + 1) (used + size (expr_parts l.expr))
      (each_append (λ m. IsLow n m.address) xs new low (line_low xs line l.expr used low counted (omega (arith, all, one, fits))))
      (λ q. let both = count-append xs new q in let old = counted q in let more = new_counts xs line l.expr q in omega (arith, both, old, more))
      (omega (arith, all, one, fits))

pub indices_are_low : IndicesAreLow
indices_are_low d text spells =
    let mark = length (mark_of text) in
    let same : size (lines_parts d.lines) ≡ length (drop mark text) = ap length spells.lines.text_is in
    lines_low (length text) d.lines (root ∷ []) 0 0 (tt, tt) root_counts (omega (arith, length-drop mark text, same))
  where
    root_counts : (q : Address) → count_tables (root ∷ []) q ≤ 0
    root_counts q =
        let none : count_tables [] q ≡ 0 = refl in
        omega (arith, adds_none root q refl, count_cons root [] q, none)

pub value_indices_are_low : ValueIndicesAreLow
value_indices_are_low v at text spells =
    let same : size (value_parts v) ≡ length text = ap length spells.text_is in
    (tt, inside_low (length text) 0 v [] tt (omega (arith, same)))
