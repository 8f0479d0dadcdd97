-- The units after a `rename`.
use Rattle.std.proofs.Common.{◌≡◌, ◌<◌, inl, inr, ℕ, ◌+◌, Option, Some, None, option_map, option_and_then, List, [], ◌∷◌, ◌++◌, map, length, refl, sym, ap, ◌∙◌, subst, append_assoc, append-nil, arith}
use Rattle.std.proofs.lemmas.List.{map-append, length-append}
use Rattle.toml_tree.specs.Pieces.{piece_of, expr_piece}
use Rattle.toml_tree.specs.Spells.{joined, value_parts, keyval_parts, blank_parts, expr_parts, IsValue, AreItems, ArePairs, IsExpr, AreLines, EachIs}
use Rattle.toml_tree.specs.Tree.{Piece, Assign, GapLine, Gap, Value, Scalar, Array, Inline, Items, Close, Last, More, Pairs, ClosePairs, LastPair, MorePairs, Expr, BlankLine, KeyValLine, TableLine, ArrayTableLine, Line, Header}
use Rattle.toml_tree.specs.Tree as tree
use Rattle.toml_names.specs.declared.mentions.mention.Role.TheVariants as roles
use Rattle.toml_names.specs.declared.model.address.Step.TheVariants.{Index}
use Rattle.toml_names.specs.mentions.Keys.{Key, key_names, part_name, rest_names}
use Rattle.toml_names.specs.mentions.Mentions.{Named, named_by, named_from, root, section, section_from, entered, count_tables, followed, ends_table, ends_tables}
use Rattle.toml_names.specs.model.Addresses.{Address, IsAbove, child, element, below}
use Rattle.toml_names.specs.reader.Names.{header_end, own_address}
use Rattle.toml_names.proofs.Proved.{not_named_is_clear}
use Rattle.toml_edits.specs.Carry.{carry}
use Rattle.toml_edits.specs.Edits.{Change, rename}
use Rattle.toml_units.specs.Units.{TextUnit, comment_units, gap_line_units, gap_units, element_unit, pair_unit, inside, elements, members, inside_line, line_base, line_units, units_from, units}
use Rattle.toml_units.specs.declared.unit.UnitKind.{UnitKind}
use Rattle.toml_units.specs.declared.unit.UnitKind.TheVariants as kinds
use Rattle.toml_checker.specs.GoneAndChanged.{LineIsChanged}
use Rattle.toml_working.specs.Lines.{lines_from}
use Rattle.toml_editor.specs.RenameLaws.{moved, moved_one}
use Rattle.toml_editor.specs.RenamedUnits.{IsCarried, RenameUnits}
use Rattle.toml_working.specs.Together.{GoTogether}
use Rattle.toml_working.specs.Renaming.{rename_key, rename_assign, rename_value, rename_items, rename_pairs, rename_header, rename_expr, rename_line, rename_lines}
use Rattle.toml_editor.proofs.Each.{each_front, each_back}
use Rattle.toml_editor.proofs.written.Alike.{each_from}
use Rattle.toml_editor.proofs.written.Moved.{moved_root, moved_length}
use Rattle.toml_editor.proofs.written.RenameKept.{renamed_moved}
use Rattle.toml_editor.proofs.written.RenameNamed.{new_names, key_named, element_moved, below_moved, section_moved, child_moved, count_moved, entered_free, entered_moved, line_moved, Free, AllFree}
use Rattle.toml_editor.proofs.written.RenameTexts.{value_text, keyval_text, header_kept}
use Rattle.toml_editor.proofs.written.Texts.{both_texts, piece_text}
use Rattle.toml_editor.proofs.written.Together.{together_append}
use Rattle.toml_editor.proofs.written.UnitsIn.{of_element, of_pair}

-- each expression is in its form
pub each_form : (ls : List Line) → AreLines ls → EachIs (λ l. IsExpr l.expr) ls
each_form [] is = tt
each_form (l ∷ []) is = (is.0, tt)
each_form (l ∷ m ∷ ls) is = (is.0, each_form (m ∷ ls) is.2)

longer : (at p : Address) → IsAbove at p → length at < length p
longer at p (s, rest, is) = let size = ap (λ (a : Address). length a) is ∙ length-append at (s ∷ rest) in omega (arith, size)

module _ (q : Address) (n to : List ℕ) where
  abbrev p : Address
  p = child q n

  abbrev c : Change
  c = rename p to

  abbrev go : Address → Address
  go = moved q n to

  abbrev one : Named → Named
  one = moved_one q n to

  abbrev R : TextUnit → TextUnit → Type 0
  R = IsCarried c

  abbrev stay : Address → Address
  stay here = here

  carried : (a : Option Address) → option_map go a ≡ option_and_then (carry c) a
  carried None = refl
  carried (Some a) = sym (renamed_moved q n to a)

  glue : (xs ys us vs : List TextUnit) → GoTogether R xs us → GoTogether R ys vs → GoTogether R (xs ++ ys) (us ++ vs)
  glue = together_append R

  comment : (kind : UnitKind) (at : Option Address) (o : Option Piece) → GoTogether R (comment_units kind at o) (comment_units kind (option_map go at) o)
  comment kind at None = tt
  comment kind at (Some piece) = (record { kind = refl; address = carried at; base = refl; text = λ line not. refl }, tt)

  gap_lines : (ls : List GapLine) (at : Address) → GoTogether R (gap_line_units at ls) (gap_line_units (go at) ls)
  gap_lines [] at = tt
  gap_lines (l ∷ ls) at =
      glue (comment_units kinds.InnerComment (Some at) l.blank.comment) (gap_line_units at ls) (comment_units kinds.InnerComment (Some (go at)) l.blank.comment) (gap_line_units (go at) ls)
      (comment kinds.InnerComment (Some at) l.blank.comment) (gap_lines ls at)

  -- ---- values

  piece_renamed : (v : Value) (at : Address) → (piece_of (rename_value p to at v)).text ≡ joined (value_parts (rename_value p to at v))
  piece_renamed (Scalar kind text) at = sym (append-nil text.text)
  piece_renamed (Array whole items) at = refl
  piece_renamed (Inline whole pairs) at = refl

  an_element : (v : Value) (at : Address) (i : ℕ) → IsValue v → R (element_unit (element at i) v) (element_unit (element (go at) i) (rename_value p to (element at i) v))
  an_element v at i is = record {
    kind = refl;
    address = ap Some (element_moved q n to at i) ∙ carried (Some (element at i));
    base = refl;
    text = λ line not. piece_renamed v (element at i) ∙ value_text p to v (element at i) not ∙ sym (piece_text v is);
  }

  below_again : (k : tree.Key) (at : Address) → below (go at) (key_names (rename_key p to stay at k)) ≡ go (below at (key_names k))
  below_again k at = ap (λ (key : Key). below (go at) key) (key_named p to stay at k) ∙ below_moved q n to (rest_names k.rest) (part_name k.first) at

  a_pair : (a : Assign) (v : Value) (at : Address)
      → R (pair_unit at (record { assign = a; value = v })) (pair_unit (go at) (record { assign = rename_assign p to at a; value = rename_value p to (below at (key_names a.key)) v }))
  a_pair a v at = record {
    kind = refl;
    address = ap Some (below_again a.key at) ∙ carried (Some (below at (key_names a.key)));
    base = ap Some (moved_length n to q at);
    text = λ line not. keyval_text p to a v at (λ leads. not (inr (inr (leads.1, longer at p leads.0)))) (λ above. not (inr (inl above)));
  }

  -- a unit and what is in its value, the value at the address's new place
  holding : (u w : TextUnit) (v : Value) (at there : Address) → R u w → there ≡ go at → GoTogether R (inside at v) (inside (go at) (rename_value p to at v))
      → GoTogether R (u ∷ inside at v) (w ∷ inside there (rename_value p to at v))
  holding u w v at there unit is within = (unit, subst (λ a. GoTogether R (inside at v) (inside a (rename_value p to at v))) (sym is) within)

  between : (g h : Gap) (at : Address) (us ws us' ws' : List TextUnit) → GoTogether R us ws → GoTogether R us' ws'
      → GoTogether R (gap_units at g ++ (us ++ (gap_units at h ++ us'))) (gap_units (go at) g ++ (ws ++ (gap_units (go at) h ++ ws')))
  between g h at us ws us' ws' this rest =
      glue (gap_units at g) (us ++ (gap_units at h ++ us')) (gap_units (go at) g) (ws ++ (gap_units (go at) h ++ ws')) (gap_lines g.lines at)
      (glue us (gap_units at h ++ us') ws (gap_units (go at) h ++ ws') this (glue (gap_units at h) us' (gap_units (go at) h) ws' (gap_lines h.lines at) rest))

  at_end : (g h : Gap) (at : Address) (us ws : List TextUnit) → GoTogether R us ws
      → GoTogether R (gap_units at g ++ (us ++ gap_units at h)) (gap_units (go at) g ++ (ws ++ gap_units (go at) h))
  at_end g h at us ws this =
      glue (gap_units at g) (us ++ gap_units at h) (gap_units (go at) g) (ws ++ gap_units (go at) h) (gap_lines g.lines at)
      (glue us (gap_units at h) ws (gap_units (go at) h) this (gap_lines h.lines at))

  abbrev elem_new : Address → ℕ → Value → List TextUnit
  elem_new at i v = element_unit (element (go at) i) (rename_value p to (element at i) v) ∷ inside (element (go at) i) (rename_value p to (element at i) v)

  abbrev pair_new : Address → Assign → Value → List TextUnit
  pair_new at a v =
      let w = rename_value p to (below at (key_names a.key)) v in
      pair_unit (go at) (record { assign = rename_assign p to at a; value = w }) ∷ inside (below (go at) (key_names (rename_key p to stay at a.key))) w

  mutual
    in_value : (v : Value) (at : Address) → IsValue v → GoTogether R (inside at v) (inside (go at) (rename_value p to at v))
    in_value (Scalar kind text) at is = tt
    in_value (Array whole items) at is = in_items items at 0 is.1
    in_value (Inline whole pairs) at is = in_pairs pairs at is.1

    in_items : (items : Items) (at : Address) (i : ℕ) → AreItems items → GoTogether R (elements at i items) (elements (go at) i (rename_items p to at i items))
    in_items (Close g) at i is = gap_lines g.lines at
    in_items (Last g v h) at i is =
        at_end g h at (of_element at i v) (elem_new at i v) (holding _ _ v (element at i) (element (go at) i) (an_element v at i is.1) (element_moved q n to at i) (in_value v (element at i) is.1))
    in_items (More g v h more) at i is =
        between g h at (of_element at i v) (elem_new at i v) (elements at (i + 1) more) (elements (go at) (i + 1) (rename_items p to at (i + 1) more))
        (holding _ _ v (element at i) (element (go at) i) (an_element v at i is.1) (element_moved q n to at i) (in_value v (element at i) is.1)) (in_items more at (i + 1) is.3)

    in_pairs : (pairs : Pairs) (at : Address) → ArePairs pairs → GoTogether R (members at pairs) (members (go at) (rename_pairs p to at pairs))
    in_pairs (ClosePairs g) at is = gap_lines g.lines at
    in_pairs (LastPair g a v h) at is =
        at_end g h at (of_pair at a v) (pair_new at a v) (holding _ _ v (below at (key_names a.key)) _ (a_pair a v at) (below_again a.key at) (in_value v (below at (key_names a.key)) is.2))
    in_pairs (MorePairs g a v h ps) at is =
        between g h at (of_pair at a v) (pair_new at a v) (members at ps) (members (go at) (rename_pairs p to at ps))
        (holding _ _ v (below at (key_names a.key)) _ (a_pair a v at) (below_again a.key at) (in_value v (below at (key_names a.key)) is.2)) (in_pairs ps at is.4)

  -- ---- lines

  make : (e e' : Expr) (a a' : Option Address) (b b' : Option ℕ) → a' ≡ option_map go a → b' ≡ b → (¬ LineIsChanged c a b → joined (expr_parts e') ≡ joined (expr_parts e))
      → GoTogether R (inside_line a e) (inside_line (option_map go a) e')
      → GoTogether R (record { kind = kinds.Line; piece = expr_piece e; address = a; base = b } ∷ inside_line a e) (record { kind = kinds.Line; piece = expr_piece e'; address = a'; base = b' } ∷ inside_line a' e')
  make e e' a a' b b' is base text inner = (
    record { kind = refl; address = is ∙ carried a; base = base; text = λ line not. text not },
    subst (λ x. GoTogether R (inside_line a e) (inside_line x e')) (sym is) inner,
  )

  section_again : (xs : List Named) → section (map one xs) ≡ go (section xs)
  section_again xs = ap (λ a. section_from a (map one xs)) (sym (moved_root n to q)) ∙ section_moved q n to xs []

  module _ (xs : List Named) (free : AllFree q n to xs) where
    end_moved : (ns : Key) (m : List ℕ) (line : ℕ) (e : Address → List Named) (at : Address) → AllFree q n to (followed line xs e at (m ∷ ns))
        → header_end (map one xs) (go at) (new_names p to (entered xs) at (m ∷ ns)) ≡ go (header_end xs at (m ∷ ns))
    end_moved [] m line e at all = child_moved q n to at m
    end_moved (k ∷ ns) m line e at all =
        let here : Free q n to (child at m) = entered_free q n to xs free (child at m) all.0 in
        ap (λ (a : Address). header_end (map one xs) (entered (map one xs) a) (new_names p to (entered xs) (entered xs (child at m)) (k ∷ ns))) (child_moved q n to at m)
        ∙ ap (λ (a : Address). header_end (map one xs) a (new_names p to (entered xs) (entered xs (child at m)) (k ∷ ns))) (entered_moved q n to xs free (child at m) here)
        ∙ end_moved ns k line e (entered xs (child at m)) all.1

    end_free : (ns : Key) (m : List ℕ) (line : ℕ) (e : Address → List Named) (at : Address) → AllFree q n to (followed line xs e at (m ∷ ns)) → AllFree q n to (e (header_end xs at (m ∷ ns)))
    end_free [] m line e at all = all
    end_free (k ∷ ns) m line e at all = end_free ns k line e (entered xs (child at m)) all.1

    header_again : (h : Header) (line : ℕ) (e : Address → List Named) → AllFree q n to (followed line xs e [] (key_names h.key))
        → header_end (map one xs) [] (key_names (rename_header p to xs h).key) ≡ go (header_end xs [] (key_names h.key))
    header_again h line e all =
        ap (λ (k : Key). header_end (map one xs) [] k) (key_named p to (entered xs) [] h.key)
        ∙ ap (λ (a : Address). header_end (map one xs) a (new_names p to (entered xs) [] (key_names h.key))) (sym (moved_root n to q))
        ∙ end_moved (rest_names h.key.rest) (part_name h.key.first) line e [] all

    pub in_line : (line : ℕ) (e : Expr) → IsExpr e → AllFree q n to (named_by xs line e) → GoTogether R (line_units xs e) (line_units (map one xs) (rename_expr p to xs e))
    in_line line (BlankLine b) is all = make (BlankLine b) (BlankLine b) None None None None refl refl (λ not. refl) (comment kinds.TailComment None b.comment)
    in_line line (KeyValLine ws kv b) is all =
        let s = section xs in
        let at = below s (key_names kv.assign.key) in
        let e' = rename_expr p to xs (KeyValLine ws kv b) in
        make (KeyValLine ws kv b) e' (Some at) (own_address (map one xs) e') (Some (length s)) (line_base (map one xs) e')
        (ap (λ (x : Address). Some (below x (key_names (rename_key p to stay s kv.assign.key)))) (section_again xs) ∙ ap Some (below_again kv.assign.key s))
        (ap (λ (x : Address). Some (length x)) (section_again xs) ∙ ap Some (moved_length n to q s))
        (λ not. ap (λ t. ws.text ++ t) (both_texts (keyval_parts (record { assign = rename_assign p to s kv.assign; value = rename_value p to at kv.value })) (keyval_parts kv) (blank_parts b) (blank_parts b)
        (keyval_text p to kv.assign kv.value s (λ leads. not (inr (inr (leads.1, longer s p leads.0)))) (λ above. not (inr (inl above)))) refl))
        (glue (inside at kv.value) (comment_units kinds.TailComment (Some at) b.comment) (inside (go at) (rename_value p to at kv.value)) (comment_units kinds.TailComment (Some (go at)) b.comment)
        (in_value kv.value at is.1.1) (comment kinds.TailComment (Some at) b.comment))
    in_line line (TableLine ws h b) is all =
        let at = header_end xs [] (key_names h.key) in
        let e' = rename_expr p to xs (TableLine ws h b) in
        make (TableLine ws h b) e' (Some at) (own_address (map one xs) e') None None
        (ap Some (header_again h line (ends_table line) all)) refl
        (λ not. ap (λ (k : tree.Key). joined (expr_parts (TableLine ws (record { before = h.before; key = k; after = h.after }) b))) (header_kept p to xs h.key not))
        (comment kinds.TailComment (Some at) b.comment)
    in_line line (ArrayTableLine ws h b) is all =
        let at = header_end xs [] (key_names h.key) in
        let last = Index (count_tables xs at) ∷ [] in
        let e' = rename_expr p to xs (ArrayTableLine ws h b) in
        let there = end_free (rest_names h.key.rest) (part_name h.key.first) line (ends_tables line xs) [] all in
        make (ArrayTableLine ws h b) e' (Some (at ++ last)) (own_address (map one xs) e') None None
        (ap (λ (a : Address). Some (element a (count_tables (map one xs) a))) (header_again h line (ends_tables line xs) all)
        ∙ ap (λ k. Some (element (go at) k)) (count_moved q n to xs at free there.0)
        ∙ ap Some (element_moved q n to at (count_tables xs at)))
        refl
        (λ not. ap (λ (k : tree.Key). joined (expr_parts (ArrayTableLine ws (record { before = h.before; key = k; after = h.after }) b)))
        (header_kept p to xs h.key (λ above. not (above.0 ++ last, ap (λ (a : Address). a ++ last) above.1 ∙ append_assoc p above.0 last))))
        (comment kinds.TailComment (Some (at ++ last)) b.comment)

  in_lines : (ls : List Line) (xs : List Named) (line : ℕ) → EachIs (λ l. IsExpr l.expr) ls → AllFree q n to (named_from xs line ls)
      → GoTogether R (units_from xs line ls) (units_from (map one xs) line (lines_from (rename_line p to) xs line ls))
  in_lines [] xs line is all = tt
  in_lines (l ∷ ls) xs line is all =
      let new = named_by xs line l.expr in
      let so_far = each_from (λ m. Free q n to m.address) ls (xs ++ new) (line + 1) all in
      let free = each_front (λ m. Free q n to m.address) xs new so_far in
      let here = each_back (λ m. Free q n to m.address) xs new so_far in
      let new' = named_by (map one xs) line (rename_expr p to xs l.expr) in
      let next : map one xs ++ new' ≡ map one (xs ++ new) = ap (λ r. map one xs ++ r) (line_moved q n to xs free line l.expr here) ∙ sym (map-append one xs new) in
      glue (line_units xs l.expr) (units_from (xs ++ new) (line + 1) ls) (line_units (map one xs) (rename_expr p to xs l.expr)) (units_from (map one xs ++ new') (line + 1) (lines_from (rename_line p to) (xs ++ new) (line + 1) ls))
      (in_line xs free line l.expr is.0 here)
      (subst (λ r. GoTogether R (units_from (xs ++ new) (line + 1) ls) (units_from r (line + 1) (lines_from (rename_line p to) (xs ++ new) (line + 1) ls))) (sym next)
      (in_lines ls (xs ++ new) (line + 1) is.1 all))

pub rename_units : RenameUnits
rename_units q n to lines is free keeps =
    subst (λ a. GoTogether (R q n to) (units lines) (units_from (record { address = a; role = roles.Bare; kind = Rattle.toml_names.specs.mentions.Mentions.a_table; line = 0 } ∷ []) 0 (rename_lines (child q n) to lines))) (moved_root n to q)
    (in_lines q n to lines (root ∷ []) 0 (each_form lines is) (not_named_is_clear lines (child q to) keeps free))
