-- The texts of units are what stands at their spans.
use Rattle.std.proofs.Common.{ℕ, ◌+◌, List, [], ◌∷◌, ◌++◌, length, Option, Some, None, refl, sym, ap, subst, ◌∙◌, append_assoc}
use Rattle.std.proofs.lemmas.List.{append-nil}
use Rattle.toml_tree.specs.Spells.{Part, symbol, piece, begin, EachIs, joined, all_parts, comment_parts, blank_parts, gap_line_parts, gap_parts, header_parts, array_header_parts, assign_parts, value_parts, items_parts, pairs_parts, keyval_parts, expr_parts, line_parts, lines_parts, IsValue, AreItems, ArePairs, IsExpr, AreLines, mark_of}
use Rattle.toml_tree.specs.Tree.{Piece, Blank, GapLine, Gap, Value, Scalar, Array, Inline, Items, Close, Last, More, Pairs, ClosePairs, LastPair, MorePairs, KeyVal, Expr, BlankLine, KeyValLine, TableLine, ArrayTableLine, Line}
use Rattle.toml_tree.specs.Parts.{size}
use Rattle.toml_tree.proofs.Proved.{value_start}
use Rattle.toml_names.specs.model.Addresses.{Address, element}
use Rattle.toml_names.specs.mentions.Mentions.{Named, root, named_by}
use Rattle.toml_names.specs.reader.Names.{own_address}
use Rattle.toml_units.specs.declared.unit.UnitKind.{UnitKind}
use Rattle.toml_units.specs.declared.unit.UnitKind.TheVariants as kinds
use Rattle.toml_units.specs.Texts.{ReadsIn, UnitsReadTheText, InsideReadsTheText}
use Rattle.toml_units.specs.Units.{TextUnit, comment_units, gap_line_units, gap_units, element_unit, pair_unit, pair_address, inside, elements, members, value_units, tail_units, inside_line, line_unit, line_units, units_from}
use Rattle.toml_units.proofs.Each.{each_append}
use Rattle.toml_units.proofs.InLines.{start_of}
use Rattle.toml_units.proofs.Sizes.{value_text}
use Rattle.toml_units.proofs.Standing.{StandIn, stand_front, stand_back, stand_behind, reads, mark_ahead}

module _ (text : List ℕ) where
  comment_read : (kind : UnitKind) (at : Option Address) (c : Option Piece) (n : ℕ) → StandIn text n (comment_parts c) → EachIs (ReadsIn text) (comment_units kind at c)
  comment_read kind at None n h = tt
  comment_read kind at (Some p) n h = (reads text (comment_parts (Some p)) n (record { kind = kind; piece = p; address = at; base = None }) h h.placed.0 (append-nil p.text), tt)

  blank_read : (kind : UnitKind) (at : Option Address) (b : Blank) (n : ℕ) → StandIn text n (blank_parts b) → EachIs (ReadsIn text) (comment_units kind at b.comment)
  blank_read kind at b n h = comment_read kind at b.comment _ (stand_behind text (piece b.ws) (comment_parts b.comment) n h)

  gap_lines_read : (at : Address) (ls : List GapLine) (n : ℕ) → StandIn text n (all_parts gap_line_parts ls) → EachIs (ReadsIn text) (gap_line_units at ls)
  gap_lines_read at [] n h = tt
  gap_lines_read at (l ∷ ls) n h =
      let bs = blank_parts l.blank in
      let whole = gap_line_parts l in
      each_append (ReadsIn text) (comment_units kinds.InnerComment (Some at) l.blank.comment) (gap_line_units at ls)
      (blank_read kinds.InnerComment (Some at) l.blank n (stand_front text bs (piece l.newline ∷ []) n (stand_front text whole (all_parts gap_line_parts ls) n h)))
      (gap_lines_read at ls _ (stand_back text whole (all_parts gap_line_parts ls) n h))

  gap_read : (at : Address) (g : Gap) (n : ℕ) → StandIn text n (gap_parts g) → EachIs (ReadsIn text) (gap_units at g)
  gap_read at g n h = gap_lines_read at g.lines n (stand_front text (all_parts gap_line_parts g.lines) (piece g.ws ∷ []) n h)

  element_read : (at : Address) (v : Value) (n : ℕ) → IsValue v → StandIn text n (value_parts v) → ReadsIn text (element_unit at v)
  element_read at v n form h = reads text (value_parts v) n (element_unit at v) h (value_start v n h.placed) (value_text v form)

  pair_read : (at : Address) (k : KeyVal) (n : ℕ) → StandIn text n (keyval_parts k) → ReadsIn text (pair_unit at k)
  pair_read at k n h = reads text (keyval_parts k) n (pair_unit at k) h h.placed.0 refl

  -- units of the first parts, and what comes behind them
  first_read : (us ws : List TextUnit) (ps last : List Part) (n : ℕ) → StandIn text n (ps ++ last) → (StandIn text n ps → EachIs (ReadsIn text) us) → (StandIn text (n + size ps) last → EachIs (ReadsIn text) ws) → EachIs (ReadsIn text) (us ++ ws)
  first_read us ws ps last n h first more = each_append (ReadsIn text) us ws (first (stand_front text ps last n h)) (more (stand_back text ps last n h))

  gap_first : (at : Address) (g : Gap) (us : List TextUnit) (last : List Part) (n : ℕ) → StandIn text n (gap_parts g ++ last) → (StandIn text (n + size (gap_parts g)) last → EachIs (ReadsIn text) us) → EachIs (ReadsIn text) (gap_units at g ++ us)
  gap_first at g us last n h more = first_read (gap_units at g) us (gap_parts g) last n h (λ s. gap_read at g n s) more

  pair_first : (at : Address) (k : KeyVal) (us : List TextUnit) (last : List Part) (n : ℕ) → StandIn text n (assign_parts k.assign ++ (value_parts k.value ++ last))
      → ((m : ℕ) → StandIn text m (value_parts k.value) → EachIs (ReadsIn text) (inside (pair_address at k.assign) k.value))
      → (StandIn text (n + size (keyval_parts k)) last → EachIs (ReadsIn text) us) → EachIs (ReadsIn text) ((pair_unit at k ∷ inside (pair_address at k.assign) k.value) ++ us)
  pair_first at k us last n h inner more =
      first_read (pair_unit at k ∷ inside (pair_address at k.assign) k.value) us (keyval_parts k) last n
      (subst (λ (ps : List Part). StandIn text n ps) (sym (append_assoc (assign_parts k.assign) (value_parts k.value) last)) h)
      (λ s. (pair_read at k n s, inner (n + size (assign_parts k.assign)) (stand_back text (assign_parts k.assign) (value_parts k.value) n s))) more

  mutual
    inside_read : (v : Value) (at : Address) (n : ℕ) → IsValue v → StandIn text n (value_parts v) → EachIs (ReadsIn text) (inside at v)
    inside_read (Scalar kind p) at n form h = tt
    inside_read (Array whole items) at n form h =
        elements_read items at 0 _ form.1 (stand_behind text (symbol (0x5B ∷ [])) (items_parts items) _ (stand_behind text (begin whole) (symbol (0x5B ∷ []) ∷ items_parts items) n h))
    inside_read (Inline whole pairs) at n form h =
        members_read pairs at _ form.1 (stand_behind text (symbol (0x7B ∷ [])) (pairs_parts pairs) _ (stand_behind text (begin whole) (symbol (0x7B ∷ []) ∷ pairs_parts pairs) n h))

    elements_read : (items : Items) (at : Address) (i n : ℕ) → AreItems items → StandIn text n (items_parts items) → EachIs (ReadsIn text) (elements at i items)
    elements_read (Close g) at i n form h = gap_read at g n (stand_front text (gap_parts g) (symbol (0x5D ∷ []) ∷ []) n h)
    elements_read (Last g v h) at i n form s =
        let last : List Part = symbol (0x5D ∷ []) ∷ [] in
        gap_first at g ((element_unit (element at i) v ∷ inside (element at i) v) ++ gap_units at h) (value_parts v ++ (gap_parts h ++ last)) n s
        (λ t. first_read (element_unit (element at i) v ∷ inside (element at i) v) (gap_units at h) (value_parts v) (gap_parts h ++ last) _ t
        (λ q. (element_read (element at i) v _ form.1 q, inside_read v (element at i) _ form.1 q))
        (λ q. gap_read at h _ (stand_front text (gap_parts h) last _ q)))
    elements_read (More g v h is) at i n form s =
        let last : List Part = symbol (0x2C ∷ []) ∷ items_parts is in
        gap_first at g ((element_unit (element at i) v ∷ inside (element at i) v) ++ (gap_units at h ++ elements at (i + 1) is)) (value_parts v ++ (gap_parts h ++ last)) n s
        (λ t. first_read (element_unit (element at i) v ∷ inside (element at i) v) (gap_units at h ++ elements at (i + 1) is) (value_parts v) (gap_parts h ++ last) _ t
        (λ q. (element_read (element at i) v _ form.1 q, inside_read v (element at i) _ form.1 q))
        (λ q. gap_first at h (elements at (i + 1) is) last _ q (λ r. elements_read is at (i + 1) _ form.3 (stand_behind text (symbol (0x2C ∷ [])) (items_parts is) _ r))))

    members_read : (pairs : Pairs) (at : Address) (n : ℕ) → ArePairs pairs → StandIn text n (pairs_parts pairs) → EachIs (ReadsIn text) (members at pairs)
    members_read (ClosePairs g) at n form h = gap_read at g n (stand_front text (gap_parts g) (symbol (0x7D ∷ []) ∷ []) n h)
    members_read (LastPair g a v h) at n form s =
        let last : List Part = symbol (0x7D ∷ []) ∷ [] in
        gap_first at g ((pair_unit at (record { assign = a; value = v }) ∷ inside (pair_address at a) v) ++ gap_units at h) (assign_parts a ++ (value_parts v ++ (gap_parts h ++ last))) n s
        (λ t. pair_first at (record { assign = a; value = v }) (gap_units at h) (gap_parts h ++ last) _ t
        (λ m q. inside_read v (pair_address at a) m form.2 q)
        (λ q. gap_read at h _ (stand_front text (gap_parts h) last _ q)))
    members_read (MorePairs g a v h ps) at n form s =
        let last : List Part = symbol (0x2C ∷ []) ∷ pairs_parts ps in
        gap_first at g ((pair_unit at (record { assign = a; value = v }) ∷ inside (pair_address at a) v) ++ (gap_units at h ++ members at ps)) (assign_parts a ++ (value_parts v ++ (gap_parts h ++ last))) n s
        (λ t. pair_first at (record { assign = a; value = v }) (gap_units at h ++ members at ps) (gap_parts h ++ last) _ t
        (λ m q. inside_read v (pair_address at a) m form.2 q)
        (λ q. gap_first at h (members at ps) last _ q (λ r. members_read ps at _ form.4 (stand_behind text (symbol (0x2C ∷ [])) (pairs_parts ps) _ r))))

  value_read : (at : Option Address) (v : Value) (n : ℕ) → IsValue v → StandIn text n (value_parts v) → EachIs (ReadsIn text) (value_units at v)
  value_read None v n form h = tt
  value_read (Some at) v n form h = inside_read v at n form h

  -- behind a front, the end of a line
  tail_read : (at : Option Address) (front : List Part) (b : Blank) (n : ℕ) → StandIn text n (front ++ blank_parts b) → EachIs (ReadsIn text) (tail_units at b)
  tail_read at front b n h = blank_read kinds.TailComment at b _ (stand_back text front (blank_parts b) n h)

  line_read : (at : Option Address) (e : Expr) (n : ℕ) → IsExpr e → StandIn text n (expr_parts e) → EachIs (ReadsIn text) (inside_line at e)
  line_read at (BlankLine b) n form h = blank_read kinds.TailComment at b n h
  line_read at (KeyValLine ws k b) n form h =
      let s = stand_behind text (piece ws) (keyval_parts k ++ blank_parts b) n h in
      each_append (ReadsIn text) (value_units at k.value) (tail_units at b)
      (value_read at k.value _ form.1.1 (stand_back text (assign_parts k.assign) (value_parts k.value) _ (stand_front text (keyval_parts k) (blank_parts b) _ s)))
      (tail_read at (keyval_parts k) b _ s)
  line_read at (TableLine ws h b) n form s = tail_read at (header_parts h) b _ (stand_behind text (piece ws) (header_parts h ++ blank_parts b) n s)
  line_read at (ArrayTableLine ws h b) n form s = tail_read at (array_header_parts h) b _ (stand_behind text (piece ws) (array_header_parts h ++ blank_parts b) n s)

  whole_read : (earlier : List Named) (e : Expr) (n : ℕ) → IsExpr e → StandIn text n (expr_parts e) → EachIs (ReadsIn text) (line_units earlier e)
  whole_read earlier e n form h = (reads text (expr_parts e) n (line_unit earlier e) h (start_of e n h.placed) refl, line_read (own_address earlier e) e n form h)

  lines_read : (ls : List Line) (earlier : List Named) (k n : ℕ) → AreLines ls → StandIn text n (lines_parts ls) → EachIs (ReadsIn text) (units_from earlier k ls)
  lines_read [] earlier k n form h = tt
  lines_read (l ∷ []) earlier k n form h =
      each_append (ReadsIn text) (line_units earlier l.expr) [] (whole_read earlier l.expr n form.0 (stand_front text (expr_parts l.expr) (piece l.newline ∷ []) n (stand_front text (line_parts l) [] n h))) tt
  lines_read (l ∷ m ∷ ls) earlier k n form h =
      let more = lines_parts (m ∷ ls) in
      let old = earlier ++ named_by earlier k l.expr in
      each_append (ReadsIn text) (line_units earlier l.expr) (units_from old (k + 1) (m ∷ ls))
      (whole_read earlier l.expr n form.0 (stand_front text (expr_parts l.expr) (piece l.newline ∷ []) n (stand_front text (line_parts l) more n h)))
      (lines_read (m ∷ ls) old (k + 1) _ form.2 (stand_back text (line_parts l) more n h))

pub units_read_the_text : UnitsReadTheText
units_read_the_text d text h =
    let at = length (mark_of text) in
    let whole : StandIn text at (lines_parts d.lines) = record {
      placed = h.lines.placed;
      front = mark_of text;
      back = [];
      long = refl;
      is = sym (mark_ahead text) ∙ ap (λ l. mark_of text ++ l) (sym h.lines.text_is ∙ sym (append-nil (joined (lines_parts d.lines))));
    } in
    lines_read text d.lines (root ∷ []) 0 at h.lines.forms whole

pub inside_reads_the_text : InsideReadsTheText
inside_reads_the_text v at text h =
    inside_read text v at 0 h.form (record { placed = h.placed; front = []; back = []; long = refl; is = sym h.text_is ∙ sym (append-nil (joined (value_parts v))) })
