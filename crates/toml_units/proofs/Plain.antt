-- The plain function gives the units.
use Rattle.std.proofs.Common.{◌≡◌, ℕ, ◌+◌, ◌-◌, ◌≤◌, List, [], ◌∷◌, ◌++◌, length, map, Option, Some, None, refl, sym, ap, subst, arith, append_assoc, length-append}
use Rattle.std.proofs.lemmas.List.{length-map}
use Rattle.toml_tree.specs.Spells.{Part, symbol, piece, Placed, joined, blank_parts, gap_parts, assign_parts, value_parts, items_parts, pairs_parts, keyval_parts, expr_parts, line_parts, lines_parts, IsAssign, IsValue, AreItems, ArePairs, depth, items_depth, pairs_depth, max_depth, IsExpr, AreLines}
use Rattle.toml_tree.specs.Tree.{Gap, Value, Scalar, Array, Inline, Items, Close, Last, More, Pairs, ClosePairs, LastPair, MorePairs, KeyVal, Expr, BlankLine, KeyValLine, TableLine, ArrayTableLine, Line}
use Rattle.toml_tree.specs.Pieces.{expr_start}
use Rattle.toml_tree.specs.Parts.{size}
use Rattle.toml_tree.proofs.Proved.{placed_front, placed_back}
use Rattle.toml_names.specs.declared.model.address.Step.TheVariants.{Name}
use Rattle.toml_names.specs.model.Addresses.{Address, element, below}
use Rattle.toml_names.specs.mentions.Keys.{key_names}
use Rattle.toml_names.specs.mentions.Mentions.{Named, root, section, named_by}
use Rattle.toml_names.specs.reader.Names.{own_address}
use Rattle.toml_units.specs.declared.unit.UnitKind.TheVariants as kinds
use Rattle.toml_units.specs.Plain.{spanned, pair_span, plain_inside, plain_elements, plain_members, plain_value, plain_line, own_base, line_spans, plain_from, PlainIsUnits, PlainIsInside}
use Rattle.toml_units.specs.Units.{gap_units, element_unit, pair_unit, pair_address, inside, elements, members, value_units, tail_units, inside_line, line_base, line_units, units_from}
use Rattle.toml_units.proofs.Ends.{pair_ends, line_ends}
use Rattle.toml_units.proofs.MovedUnits.{both_images, between_images}

pair_plain : (k : KeyVal) (at : Address) (n : ℕ) → IsAssign k.assign → IsValue k.value → depth k.value ≤ max_depth → Placed n (keyval_parts k) → pair_span at k ≡ spanned (pair_unit at k)
pair_plain k at n assign form deep placed =
    let e = pair_ends k n (joined (keyval_parts k)) at (record { form = (assign, form, deep); text_is = refl; placed = placed }) in
    λ i. record { kind = kinds.Pair; start = k.assign.key.first.start; stop = sym e i; address = Some (pair_address at k.assign); base = Some (length at) }

-- a pair behind a gap
pair_placed : (g : Gap) (k : KeyVal) (last : List Part) (n : ℕ) → Placed n (gap_parts g ++ (assign_parts k.assign ++ (value_parts k.value ++ last))) → Placed (n + size (gap_parts g)) (keyval_parts k ++ last)
pair_placed g k last n placed =
    subst (λ (ps : List Part). Placed (n + size (gap_parts g)) ps) (sym (append_assoc (assign_parts k.assign) (value_parts k.value) last))
    (placed_back (gap_parts g) (assign_parts k.assign ++ (value_parts k.value ++ last)) n placed)

pair_inside : (k : KeyVal) (at : Address) (last : List Part) (n : ℕ) → IsAssign k.assign → IsValue k.value → depth k.value ≤ max_depth → Placed n (keyval_parts k ++ last)
    → ((m : ℕ) → Placed m (value_parts k.value) → plain_inside (pair_address at k.assign) k.value ≡ map spanned (inside (pair_address at k.assign) k.value))
    → pair_span at k ∷ plain_inside (pair_address at k.assign) k.value ≡ map spanned (pair_unit at k ∷ inside (pair_address at k.assign) k.value)
pair_inside k at last n assign form deep placed inner =
    let pk = placed_front (keyval_parts k) last n placed in
    let first = pair_plain k at n assign form deep pk in
    let rest = inner (n + size (assign_parts k.assign)) (placed_back (assign_parts k.assign) (value_parts k.value) n pk) in
    λ j. first j ∷ rest j

mutual
  pub inside_plain : (v : Value) (at : Address) (n : ℕ) → IsValue v → depth v ≤ max_depth → Placed n (value_parts v) → plain_inside at v ≡ map spanned (inside at v)
  inside_plain (Scalar kind p) at n form deep placed = refl
  inside_plain (Array whole items) at n form deep placed = elements_plain items at 0 _ form.1 (omega arith) placed.1.1
  inside_plain (Inline whole pairs) at n form deep placed = members_plain pairs at _ form.1 (omega arith) placed.1.1

  elements_plain : (items : Items) (at : Address) (i n : ℕ) → AreItems items → items_depth items ≤ max_depth → Placed n (items_parts items) → plain_elements at i items ≡ map spanned (elements at i items)
  elements_plain (Close g) at i n form deep placed = refl
  elements_plain (Last g v h) at i n form deep placed =
      let last : List Part = symbol (0x5D ∷ []) ∷ [] in
      let p1 = placed_back (gap_parts g) (value_parts v ++ (gap_parts h ++ last)) n placed in
      let rest = inside_plain v (element at i) (n + size (gap_parts g)) form.1 deep (placed_front (value_parts v) (gap_parts h ++ last) (n + size (gap_parts g)) p1) in
      between_images spanned _ _ _ (gap_units at g) (element_unit (element at i) v ∷ inside (element at i) v) (gap_units at h) refl (λ j. spanned (element_unit (element at i) v) ∷ rest j) refl
  elements_plain (More g v h is) at i n form deep placed =
      let last : List Part = symbol (0x2C ∷ []) ∷ items_parts is in
      let n1 = n + size (gap_parts g) in
      let n2 = n1 + size (value_parts v) in
      let p1 = placed_back (gap_parts g) (value_parts v ++ (gap_parts h ++ last)) n placed in
      let p3 = placed_back (gap_parts h) last n2 (placed_back (value_parts v) (gap_parts h ++ last) n1 p1) in
      let shallow : depth v ≤ max_depth = omega arith in
      let low : items_depth is ≤ max_depth = omega arith in
      let rest = inside_plain v (element at i) n1 form.1 shallow (placed_front (value_parts v) (gap_parts h ++ last) n1 p1) in
      between_images spanned _ _ _ (gap_units at g) (element_unit (element at i) v ∷ inside (element at i) v) (gap_units at h ++ elements at (i + 1) is) refl (λ j. spanned (element_unit (element at i) v) ∷ rest j)
      (both_images spanned _ _ (gap_units at h) (elements at (i + 1) is) refl (elements_plain is at (i + 1) _ form.3 low p3.1))

  members_plain : (pairs : Pairs) (at : Address) (n : ℕ) → ArePairs pairs → pairs_depth pairs ≤ max_depth → Placed n (pairs_parts pairs) → plain_members at pairs ≡ map spanned (members at pairs)
  members_plain (ClosePairs g) at n form deep placed = refl
  members_plain (LastPair g a v h) at n form deep placed =
      let k : KeyVal = record { assign = a; value = v } in
      let last : List Part = symbol (0x7D ∷ []) ∷ [] in
      between_images spanned _ _ _ (gap_units at g) (pair_unit at k ∷ inside (pair_address at a) v) (gap_units at h) refl
      (pair_inside k at (gap_parts h ++ last) (n + size (gap_parts g)) form.1 form.2 deep (pair_placed g k (gap_parts h ++ last) n placed) (λ m p. inside_plain v (pair_address at a) m form.2 deep p)) refl
  members_plain (MorePairs g a v h ps) at n form deep placed =
      let k : KeyVal = record { assign = a; value = v } in
      let last : List Part = symbol (0x2C ∷ []) ∷ pairs_parts ps in
      let n1 = n + size (gap_parts g) in
      let p1 = pair_placed g k (gap_parts h ++ last) n placed in
      let p3 = placed_back (gap_parts h) last (n1 + size (keyval_parts k)) (placed_back (keyval_parts k) (gap_parts h ++ last) n1 p1) in
      let shallow : depth v ≤ max_depth = omega arith in
      let low : pairs_depth ps ≤ max_depth = omega arith in
      between_images spanned _ _ _ (gap_units at g) (pair_unit at k ∷ inside (pair_address at a) v) (gap_units at h ++ members at ps) refl
      (pair_inside k at (gap_parts h ++ last) n1 form.1 form.2 shallow p1 (λ m p. inside_plain v (pair_address at a) m form.2 shallow p))
      (both_images spanned _ _ (gap_units at h) (members at ps) refl (members_plain ps at _ form.4 low p3.1))

value_plain : (at : Option Address) (v : Value) (n : ℕ) → IsValue v → depth v ≤ max_depth → Placed n (value_parts v) → plain_value at v ≡ map spanned (value_units at v)
value_plain None v n form deep placed = refl
value_plain (Some at) v n form deep placed = inside_plain v at n form deep placed

line_plain : (at : Option Address) (e : Expr) (n : ℕ) → IsExpr e → Placed n (expr_parts e) → plain_line at e ≡ map spanned (inside_line at e)
line_plain at (BlankLine b) n form placed = refl
line_plain at (KeyValLine ws k b) n form placed =
    let n1 = n + length ws.text in
    both_images spanned _ _ (value_units at k.value) (tail_units at b)
    (value_plain at k.value _ form.1.1 form.1.2 (placed_back (assign_parts k.assign) (value_parts k.value) n1 (placed_front (keyval_parts k) (blank_parts b) n1 placed.1))) refl
line_plain at (TableLine ws h b) n form placed = refl
line_plain at (ArrayTableLine ws h b) n form placed = refl

-- without its key's parts an address is that of the table
pub base_is : (earlier : List Named) (e : Expr) → own_base (own_address earlier e) e ≡ line_base earlier e
base_is earlier (BlankLine b) = refl
base_is earlier (KeyValLine ws k b) =
    let names = key_names k.assign.key in
    let long = length-append (section earlier) (map Name names) in
    let e : length (below (section earlier) names) - length names ≡ length (section earlier) = omega (arith, long, length-map names Name) in
    ap Some e
base_is earlier (TableLine ws h b) = refl
base_is earlier (ArrayTableLine ws h b) = refl

whole_line : (earlier : List Named) (e : Expr) (n : ℕ) → IsExpr e → Placed n (expr_parts e) → line_spans (own_address earlier e) e ≡ map spanned (line_units earlier e)
whole_line earlier e n form placed =
    let stop = line_ends e n (joined (expr_parts e)) earlier (record { form = form; text_is = refl; placed = placed }) in
    let rest = line_plain (own_address earlier e) e n form placed in
    let base = base_is earlier e in
    λ j. record { kind = kinds.Line; start = expr_start e; stop = sym stop j; address = own_address earlier e; base = base j } ∷ rest j

lines_plain : (ls : List Line) (earlier : List Named) (k n : ℕ) → AreLines ls → Placed n (lines_parts ls) → plain_from earlier k ls ≡ map spanned (units_from earlier k ls)
lines_plain [] earlier k n form placed = refl
lines_plain (l ∷ []) earlier k n form placed =
    both_images spanned _ _ (line_units earlier l.expr) [] (whole_line earlier l.expr n form.0 (placed_front (expr_parts l.expr) (piece l.newline ∷ []) n (placed_front (line_parts l) [] n placed))) refl
lines_plain (l ∷ m ∷ ls) earlier k n form placed =
    let lp = line_parts l in
    let more = lines_parts (m ∷ ls) in
    let old = earlier ++ named_by earlier k l.expr in
    both_images spanned _ _ (line_units earlier l.expr) (units_from old (k + 1) (m ∷ ls)) (whole_line earlier l.expr n form.0 (placed_front (expr_parts l.expr) (piece l.newline ∷ []) n (placed_front lp more n placed)))
    (lines_plain (m ∷ ls) old (k + 1) (n + size lp) form.2 (placed_back lp more n placed))

pub plain_is_units : PlainIsUnits
plain_is_units d text h = lines_plain d.lines (root ∷ []) 0 _ h.lines.forms h.lines.placed

pub plain_is_inside : PlainIsInside
plain_is_inside v at n text h = inside_plain v at n h.form h.shallow h.placed
