-- The lines after a `rename`, by what finds them.
use Rattle.std.proofs.Common.{◌≡◌, ◌∙◌, ℕ, zero, suc, ◌+◌, ◌-◌, Bool, true, false, cond, ◌&&◌, Option, Some, None, List, [], ◌∷◌, ◌++◌, map, length, refl, sym, ap, ap₂, subst, append_assoc, arith}
use Rattle.std.specs.Prelude.{option_map, option_and_then, set}
use Rattle.std.proofs.lemmas.Bool.{false≢true, and_right}
use Rattle.std.proofs.lemmas.List.{length-append, map-append}
use Rattle.toml_scalar.specs.Spelling.{spelled}
use Rattle.toml_tree.specs.Spells.{EachIs, IsExpr}
use Rattle.toml_tree.specs.Tree.{Piece, Dotted, Header, Expr, BlankLine, KeyValLine, TableLine, ArrayTableLine, Line}
use Rattle.toml_tree.specs.Tree as tree
use Rattle.toml_names.specs.declared.model.address.Step.TheVariants.{Name, Index}
use Rattle.toml_names.specs.declared.mentions.mention.Role.TheVariants as roles
use Rattle.toml_names.specs.mentions.Keys.{key_names}
use Rattle.toml_names.specs.mentions.Mentions.{Named, a_table, count_tables, entered, named_by, named_from, root, section}
use Rattle.toml_names.specs.model.Addresses.{Address, same_step, same_address, is_above, child, element, below}
use Rattle.toml_names.specs.reader.Names.{header_end, own_address}
use Rattle.toml_names.proofs.Proved.{not_named_is_clear, same_step-equal}
use Rattle.toml_edits.specs.Carry.{carry}
use Rattle.toml_edits.specs.Edits.{rename}
use Rattle.toml_units.specs.Units.{line_base}
use Rattle.toml_working.specs.Lines.{lines_from}
use Rattle.toml_layout.specs.Outlines as outline
use Rattle.toml_layout.specs.Outlines.{DottedOutline, ExprOutline}
use Rattle.toml_editor.specs.RenameLaws.{moved, moved_one}
use Rattle.toml_working.specs.RenameStanding.{names_in, part_number, rename_inside, rename_own, renamed_address, rename_standing}
use Rattle.toml_layout.specs.RenamedPairs.{minus, own_part_with}
use Rattle.toml_editor.specs.RenamedHeaders.{rename_along, rename_rest_along}
use Rattle.toml_layout.specs.RenamingIn.{dotted_with}
use Rattle.toml_layout.specs.RenameOutlines.{rename_outline, rename_outlined}
use Rattle.toml_working.specs.Renaming.{rename_expr, rename_header, rename_key, rename_line, rename_lines}
use Rattle.toml_working.specs.Standing.{Standing, line_stands, standing_from}
use Rattle.toml_layout.specs.Beginnings.{begins}
use Rattle.toml_editor.specs.StandingLaws.{RenameStands}
use Rattle.toml_layout.specs.TreeOutlines.{assign_outline, dotted_outline, header_outline, line_of, value_outline}
use Rattle.toml_editor.proofs.Each.{each_front, each_back}
use Rattle.toml_layout.proofs.Proved.{pair_renamed}
use Rattle.toml_editor.proofs.written.AddressTests.{above_behind, above_more, child_apart, minus_some, same_behind, step_other}
use Rattle.toml_editor.proofs.RenameOutlined.{assign_renamed, part_renamed, value_renamed}
use Rattle.toml_editor.proofs.SetOutlined.{names_outlined}
use Rattle.toml_editor.proofs.written.Alike.{each_from}
use Rattle.toml_editor.proofs.written.HeadersRenamed.{rename_along_header, rename_along_element}
use Rattle.toml_editor.proofs.written.Moved.{moved_root}
use Rattle.toml_editor.proofs.written.RenameKept.{renamed_moved}
use Rattle.toml_editor.proofs.written.RenameNamed.{line_moved, Free, AllFree}
use Rattle.toml_editor.proofs.written.UnitsRenamed.{each_form, in_line}

-- ---- addresses

moved_set : (q a : Address) (n to : List ℕ) → moved q n to a ≡ cond (begins (child q n) a) (set a (length q) (Name to)) a
moved_set [] [] n to = refl
moved_set [] (t ∷ a) n to = by (same_step t (Name n)) (same_step (Name n) t) (step_other t (Name n))
  where
    by : (b c : Bool) → b ≡ c → cond b (Name to ∷ a) (t ∷ a) ≡ cond (c && true) (Name to ∷ a) (t ∷ a)
    by b true e = ap (λ x. cond x (Name to ∷ a) (t ∷ a)) e
    by b false e = ap (λ x. cond x (Name to ∷ a) (t ∷ a)) e
moved_set (s ∷ q) [] n to = refl
moved_set (s ∷ q) (t ∷ a) n to = by (same_step t s) (same_step s t) (step_other t s) (moved_set q a n to)
  where
    by : (b c : Bool) → b ≡ c → moved q n to a ≡ cond (begins (child q n) a) (set a (length q) (Name to)) a
        → cond b (t ∷ moved q n to a) (t ∷ a) ≡ cond (c && begins (child q n) a) (t ∷ set a (length q) (Name to)) (t ∷ a)
    by b false e later = ap (λ x. cond x (t ∷ moved q n to a) (t ∷ a)) e
    by b true e later = ap (λ x. cond x (t ∷ moved q n to a) (t ∷ a)) e ∙ ap (λ x. t ∷ x) later ∙ either (begins (child q n) a)
      where
        either : (d : Bool) → t ∷ cond d (set a (length q) (Name to)) a ≡ cond d (t ∷ set a (length q) (Name to)) (t ∷ a)
        either true = refl
        either false = refl

last_of : (q : Address) (n : List ℕ) → length q ≡ length (child q n) - 1
last_of q n = let size = length-append q (Name n ∷ []) in omega (arith, size)

moved_is : (q a : Address) (n to : List ℕ) → moved q n to a ≡ cond (begins (child q n) a) (renamed_address (child q n) to a) a
moved_is q a n to = moved_set q a n to ∙ ap (λ i. cond (begins (child q n) a) (set a i (Name to)) a) (last_of q n)

-- ---- headers

names_before : (q : Address) (n : List ℕ) → names_in (child q n) ≡ suc (names_in q)
names_before [] n = refl
names_before (Name m ∷ q) n = ap suc (names_before q n)
names_before (Index i ∷ q) n = names_before q n

abbrev dots : List Dotted → List DottedOutline
dots = map dotted_outline

abbrev dot : Dotted → List ℕ → DottedOutline
dot d text = record { before_dot = d.before_dot.text; after_dot = d.after_dot.text; part = text }

not_above : (at : Address) → is_above at at ≡ false
not_above [] = refl
not_above (s ∷ at) = and_right (same_step s s) (is_above at at) (not_above at)

shorter : (q : Address) (n : List ℕ) → same_address [] (child q n) ≡ false
shorter [] n = refl
shorter (t ∷ q) n = refl

no_part : (i : ℕ) (text : List ℕ) → dotted_with i text [] ≡ []
no_part zero text = refl
no_part (suc i) text = refl

either_none : (b : Bool) (i : ℕ) (text : List ℕ) → [] ≡ cond b (dotted_with i text []) []
either_none true i text = sym (no_part i text)
either_none false i text = refl

module _ (to : List ℕ) where
  abbrev text : List ℕ
  text = spelled to

  -- the parts behind one that does not lead to the address
  off : (p here steps : Address) (ds : List Dotted) → is_above here p ≡ false → dots (rename_rest_along p to here steps ds) ≡ dots ds
  off p here [] ds h = refl
  off p here (Index i ∷ steps) ds h = off p (element here i) steps ds (above_more here (Index i ∷ []) p h)
  off p here (Name m ∷ steps) [] h = refl
  off p here (Name m ∷ steps) (d ∷ ds) h =
      ap₂ (λ t r. dot d t ∷ r) (part_renamed p to (child here m) d.part ∙ ap (λ b. cond b text d.part.text) (child_apart p here m h))
      (off p (child here m) steps ds (above_more here (Name m ∷ []) p h))

  -- the parts behind one that led to `here`, where the address is that of a name from there on
  abbrev Along : List ℕ → Address → Address → Address → List Dotted → Type 0
  Along n q here steps ds = dots (rename_rest_along (here ++ child q n) to here steps ds)
      ≡ cond (begins (child q n) steps) (dotted_with (names_in q) text (dots ds)) (dots ds)

  module _ (n : List ℕ) where
    along : (q here steps : Address) (ds : List Dotted) → Along n q here steps ds
    along [] here [] ds = refl
    along (t ∷ q) here [] ds = refl
    along [] here (Index i ∷ steps) ds = off (here ++ child [] n) (element here i) steps ds (above_behind here (Index i ∷ []) (child [] n))
    along (Name m ∷ q) here (Index i ∷ steps) ds =
        off (here ++ child (Name m ∷ q) n) (element here i) steps ds (above_behind here (Index i ∷ []) (child (Name m ∷ q) n))
    along (Index j ∷ q) here (Index i ∷ steps) ds = by (same_step (Index j) (Index i)) refl (along q (element here i) steps ds)
      where
        p : Address
        p = here ++ child (Index j ∷ q) n

        by : (b : Bool) → same_step (Index j) (Index i) ≡ b → Along n q (element here i) steps ds
            → dots (rename_rest_along p to (element here i) steps ds) ≡ cond (b && begins (child q n) steps) (dotted_with (names_in q) text (dots ds)) (dots ds)
        by true same later =
            let way : element here i ++ child q n ≡ p = append_assoc here (Index i ∷ []) (child q n) ∙ ap (λ s. here ++ s ∷ child q n) (sym (same_step-equal (Index j) (Index i) same)) in
            ap (λ a. dots (rename_rest_along a to (element here i) steps ds)) (sym way) ∙ later
        by false same later =
            off p (element here i) steps ds (above_behind here (Index i ∷ []) (child (Index j ∷ q) n)
            ∙ ap (λ b. b && is_above [] (child q n)) (step_other (Index i) (Index j) ∙ same))
    along [] here (Name m ∷ steps) [] = either_none (begins (child [] n) (Name m ∷ steps)) zero text
    along (t ∷ q) here (Name m ∷ steps) [] = either_none (begins (child (t ∷ q) n) (Name m ∷ steps)) (names_in (t ∷ q)) text
    along [] here (Name m ∷ steps) (d ∷ ds) =
        let p = here ++ child [] n in
        ap₂ (λ t r. dot d t ∷ r)
        (part_renamed p to (child here m) d.part ∙ ap (λ b. cond b text d.part.text) (same_behind here (Name m ∷ []) (child [] n)))
        (off p (child here m) steps ds (above_behind here (Name m ∷ []) (child [] n) ∙ and_right (same_step (Name m) (Name n)) false refl))
        ∙ either (same_step (Name m) (Name n)) (same_step (Name n) (Name m)) (step_other (Name m) (Name n))
      where
        either : (b c : Bool) → b ≡ c
            → dot d (cond (b && true) text d.part.text) ∷ dots ds ≡ cond (c && true) (dot d text ∷ dots ds) (dotted_outline d ∷ dots ds)
        either true true e = refl
        either false false e = refl
        either true false e = absurd (false≢true (sym e))
        either false true e = absurd (false≢true e)
    along (s ∷ q) here (Name m ∷ steps) (d ∷ ds) =
        let p = here ++ child (s ∷ q) n in
        let apart = same_behind here (Name m ∷ []) (child (s ∷ q) n) ∙ ap (λ b. same_step (Name m) s && b) (shorter q n) ∙ and_right (same_step (Name m) s) false refl in
        ap (λ t. dot d t ∷ dots (rename_rest_along p to (child here m) steps ds))
        (part_renamed p to (child here m) d.part ∙ ap (λ b. cond b text d.part.text) apart)
        ∙ by (same_step s (Name m)) refl (along q (child here m) steps ds)
      where
        -- one part further
        further : s ≡ Name m → Along n q (child here m) steps ds
            → dotted_outline d ∷ dots (rename_rest_along (here ++ child (s ∷ q) n) to (child here m) steps ds)
            ≡ cond (begins (child q n) steps) (dotted_with (names_in (s ∷ q)) text (dotted_outline d ∷ dots ds)) (dotted_outline d ∷ dots ds)
        further is later =
            let way : child here m ++ child q n ≡ here ++ child (s ∷ q) n = append_assoc here (Name m ∷ []) (child q n) ∙ ap (λ u. here ++ u ∷ child q n) (sym is) in
            ap (λ a. dotted_outline d ∷ dots (rename_rest_along a to (child here m) steps ds)) (sym way)
            ∙ ap (λ r. dotted_outline d ∷ r) later ∙ one (begins (child q n) steps)
            ∙ ap (λ u. cond (begins (child q n) steps) (dotted_with (names_in (u ∷ q)) text (dotted_outline d ∷ dots ds)) (dotted_outline d ∷ dots ds)) (sym is)
          where
            one : (b : Bool) → dotted_outline d ∷ cond b (dotted_with (names_in q) text (dots ds)) (dots ds)
                ≡ cond b (dotted_with (names_in (Name m ∷ q)) text (dotted_outline d ∷ dots ds)) (dotted_outline d ∷ dots ds)
            one true = refl
            one false = refl

        by : (b : Bool) → same_step s (Name m) ≡ b → Along n q (child here m) steps ds
            → dotted_outline d ∷ dots (rename_rest_along (here ++ child (s ∷ q) n) to (child here m) steps ds)
            ≡ cond (b && begins (child q n) steps) (dotted_with (names_in (s ∷ q)) text (dotted_outline d ∷ dots ds)) (dotted_outline d ∷ dots ds)
        by true same later = further (same_step-equal s (Name m) same) later
        by false same later =
            ap (λ r. dotted_outline d ∷ r) (off (here ++ child (s ∷ q) n) (child here m) steps ds
            (above_behind here (Name m ∷ []) (child (s ∷ q) n) ∙ ap (λ b. b && is_above [] (child q n)) (step_other (Name m) s ∙ same)))

  -- a key as a list of parts
  abbrev parts_of : tree.Key → List Dotted
  parts_of k = record { before_dot = k.first; after_dot = k.first; part = k.first } ∷ k.rest

  abbrev key_of : tree.Key → List Dotted → tree.Key
  key_of k [] = k
  key_of k (d ∷ ds) = record { first = d.part; rest = ds }

  key_along : (p here steps : Address) (k : tree.Key) → rename_along p to here steps k ≡ key_of k (rename_rest_along p to here steps (parts_of k))
  key_along p here [] k = refl
  key_along p here (Index i ∷ steps) k = key_along p (element here i) steps k
  key_along p here (Name m ∷ steps) k = refl

  module _ (opening closing : List ℕ) (h : Header) where
    abbrev header_of : tree.Key → ExprOutline
    header_of k = outline.Header opening h.before.text k.first.text (map dotted_outline k.rest) h.after.text closing

    abbrev of_dots : tree.Key → List DottedOutline → ExprOutline
    of_dots k [] = header_of k
    of_dots k (d ∷ ds) = outline.Header opening h.before.text d.part ds h.after.text closing

    by_dots : (k : tree.Key) (ds : List Dotted) → header_of (key_of k ds) ≡ of_dots k (dots ds)
    by_dots k [] = refl
    by_dots k (d ∷ ds) = refl

    part_of_dots : (k : tree.Key) (i : ℕ) → of_dots k (dotted_with i text (dots (parts_of k))) ≡ own_part_with (Some i) text (header_of k)
    part_of_dots k zero = refl
    part_of_dots k (suc i) = refl

    header_renamed : (q : Address) (n : List ℕ) (enter : Address → Address) (x : Address)
        → rename_key (child q n) to enter [] h.key ≡ rename_along (child q n) to [] x h.key
        → header_of (rename_key (child q n) to enter [] h.key)
        ≡ cond (begins (child q n) x) (own_part_with (part_number (child q n) None) text (header_of h.key)) (header_of h.key)
    header_renamed q n enter x is =
        let k = h.key in
        ap header_of (is ∙ key_along (child q n) [] x k)
        ∙ by_dots k (rename_rest_along (child q n) to [] x (parts_of k))
        ∙ ap (of_dots k) (along n q [] x (parts_of k))
        ∙ either (begins (child q n) x)
        ∙ ap (λ o. cond (begins (child q n) x) (own_part_with o text (header_of k)) (header_of k)) (sym number)
      where
        number : part_number (child q n) None ≡ Some (names_in q)
        number =
            let size = names_before q n in
            minus_some (names_in (child q n)) 1 (omega (arith, size)) ∙ ap Some (let e : names_in (child q n) - 1 ≡ names_in q = omega (arith, size) in e)

        either : (b : Bool) → of_dots h.key (cond b (dotted_with (names_in q) text (dots (parts_of h.key))) (dots (parts_of h.key)))
            ≡ cond b (own_part_with (Some (names_in q)) text (header_of h.key)) (header_of h.key)
        either true = part_of_dots h.key (names_in q)
        either false = refl

-- ---- lines

module _ (q : Address) (n to : List ℕ) where
  abbrev p : Address
  p = child q n

  abbrev go : Address → Address
  go = moved q n to

  abbrev one : Named → Named
  one = moved_one q n to

  abbrev rename_of : Standing → Standing
  rename_of = rename_standing p to (spelled to)

  -- a line that stands somewhere
  stands : (x : Address) (base new_base : Option ℕ) (own : Option Address) (ws : List ℕ) (e other new : ExprOutline) (tail : tree.Blank) (newline : Piece)
      → own ≡ Some (go x) → new_base ≡ base → new ≡ cond (begins p x) (own_part_with (part_number p base) (spelled to) e) other
      → rename_inside p (spelled to) (record { address = Some x; base = base; outline = line_of ws e tail newline })
      ≡ record { address = Some x; base = base; outline = line_of ws other tail newline }
      → record { address = own; base = new_base; outline = line_of ws new tail newline }
      ≡ rename_of (record { address = Some x; base = base; outline = line_of ws e tail newline })
  stands x base new_base own ws e other new tail newline is same changed inside =
      ap₂ (λ (a : Option Address) (b : Option ℕ). record { address = a; base = b; outline = line_of ws new tail newline }) (is ∙ ap Some (moved_is q x n to)) same
      ∙ ap (λ (o : ExprOutline). record { address = Some (cond (begins p x) (renamed_address p to x) x); base = base; outline = line_of ws o tail newline }) changed
      ∙ either (begins p x)
    where
      old : Standing
      old = record { address = Some x; base = base; outline = line_of ws e tail newline }

      either : (b : Bool)
          → record { address = Some (cond b (renamed_address p to x) x); base = base; outline = line_of ws (cond b (own_part_with (part_number p base) (spelled to) e) other) tail newline }
          ≡ cond b (rename_own p to (spelled to) old) (rename_inside p (spelled to) old)
      either true = refl
      either false = sym inside

  module _ (xs : List Named) (free : AllFree q n to xs) (line : ℕ) where
    carried : (a : Option Address) → option_map go a ≡ option_and_then (carry (rename p to)) a
    carried None = refl
    carried (Some a) = sym (renamed_moved q n to a)

    one_stands : (e : Expr) (newline : Piece) → IsExpr e → AllFree q n to (named_by xs line e)
        → line_stands (map one xs) (record { expr = rename_expr p to xs e; newline = newline }) ≡ rename_of (line_stands xs (record { expr = e; newline = newline }))
    one_stands (BlankLine b) newline is all = refl
    one_stands (KeyValLine ws kv b) newline is all =
        let e = KeyValLine ws kv b in
        let unit = (in_line q n to xs free line e is all).0 in
        let s = section xs in
        let x = below s (key_names kv.assign.key) in
        let names = names_outlined kv.assign in
        let a = assign_outline kv.assign in
        let v = value_outline kv.value in
        let renamed = subst (λ k. outline.Pair (rename_outlined p (spelled to) s a) (rename_outline p (spelled to) (below s k) v)
        ≡ cond (begins p (below s k)) (own_part_with (minus (length p) (length s + 1)) (spelled to) (outline.Pair a v)) (outline.Pair a (rename_outline p (spelled to) (below s k) v)))
        names (pair_renamed p s (spelled to) a v) in
        stands x (Some (length s)) (line_base (map one xs) (rename_expr p to xs e)) (own_address (map one xs) (rename_expr p to xs e)) ws.text (outline.Pair a v)
        (outline.Pair a (rename_outline p (spelled to) x v)) _ b newline (unit.address ∙ sym (carried (Some x))) unit.base
        (ap₂ outline.Pair (assign_renamed p to kv.assign s) (value_renamed p to kv.value x) ∙ renamed) refl
    one_stands (TableLine ws h b) newline is all =
        let e = TableLine ws h b in
        let unit = (in_line q n to xs free line e is all).0 in
        let x = header_end xs [] (key_names h.key) in
        stands x None None (own_address (map one xs) (rename_expr p to xs e)) ws.text (header_outline (0x5B ∷ []) (0x5D ∷ []) h) (header_outline (0x5B ∷ []) (0x5D ∷ []) h)
        (header_outline (0x5B ∷ []) (0x5D ∷ []) (rename_header p to xs h)) b newline (unit.address ∙ sym (carried (Some x))) refl
        (header_renamed to (0x5B ∷ []) (0x5D ∷ []) h q n (entered xs) x (rename_along_header xs h.key p to)) refl
    one_stands (ArrayTableLine ws h b) newline is all =
        let e = ArrayTableLine ws h b in
        let unit = (in_line q n to xs free line e is all).0 in
        let end = header_end xs [] (key_names h.key) in
        let x = element end (count_tables xs end) in
        let opening = 0x5B ∷ 0x5B ∷ [] in
        let closing = 0x5D ∷ 0x5D ∷ [] in
        stands x None None (own_address (map one xs) (rename_expr p to xs e)) ws.text (header_outline opening closing h) (header_outline opening closing h)
        (header_outline opening closing (rename_header p to xs h)) b newline (unit.address ∙ sym (carried (Some x))) refl
        (header_renamed to opening closing h q n (entered xs) x (rename_along_element xs h.key p to (count_tables xs end))) refl

  all_stand : (ls : List Line) (xs : List Named) (line : ℕ) → EachIs (λ l. IsExpr l.expr) ls → AllFree q n to (named_from xs line ls)
      → standing_from (map one xs) line (lines_from (rename_line p to) xs line ls) ≡ map rename_of (standing_from xs line ls)
  all_stand [] xs line is all = refl
  all_stand (l ∷ ls) xs line is all =
      let new = named_by xs line l.expr in
      let so_far = each_from (λ m. Free q n to m.address) ls (xs ++ new) (line + 1) all in
      let free = each_front (λ m. Free q n to m.address) xs new so_far in
      let here = each_back (λ m. Free q n to m.address) xs new so_far in
      let new' = named_by (map one xs) line (rename_expr p to xs l.expr) in
      let next : map one xs ++ new' ≡ map one (xs ++ new) = ap (λ r. map one xs ++ r) (line_moved q n to xs free line l.expr here) ∙ sym (map-append one xs new) in
      ap₂ (λ s ss. s ∷ ss) (one_stands xs free line l.expr l.newline is.0 here)
      (ap (λ r. standing_from r (line + 1) (lines_from (rename_line p to) (xs ++ new) (line + 1) ls)) next ∙ all_stand ls (xs ++ new) (line + 1) is.1 all)

pub rename_stands : RenameStands
rename_stands q n to lines is free keeps =
    let all = all_stand q n to lines (root ∷ []) 0 (each_form lines is) (not_named_is_clear lines (child q to) keeps free) in
    subst (λ a. standing_from (record { address = a; role = roles.Bare; kind = a_table; line = 0 } ∷ []) 0 (rename_lines (child q n) to lines)
    ≡ map (rename_standing (child q n) to (spelled to)) (standing_from (root ∷ []) 0 lines)) (moved_root n to q) all
