-- The units after a `set`.
use Rattle.std.proofs.Common.{◌≡◌, ◌⊎◌, inl, inr, ℕ, ◌+◌, Bool, true, false, cond, Option, Some, None, option_and_then, List, [], ◌∷◌, ◌++◌, length, refl, sym, ap, ◌∙◌, subst, subst₂, true≢false, append_assoc, append-nil, IsSome, ◌<◌, arith}
use Rattle.toml_tree.specs.Pieces.{piece_of, expr_piece}
use Rattle.toml_tree.specs.Spells.{joined, value_parts, assign_parts, keyval_parts, blank_parts, IsValue, AreItems, ArePairs, IsExpr, EachIs}
use Rattle.toml_tree.specs.Spells as spells
use Rattle.toml_tree.specs.Tree.{Piece, Blank, Assign, GapLine, Gap, Value, Scalar, Array, Inline, Items, Close, Last, More, Pairs, ClosePairs, LastPair, MorePairs, Expr, BlankLine, KeyValLine, TableLine, ArrayTableLine, Line}
use Rattle.toml_tree.proofs.Proved.{parts_join}
use Rattle.toml_names.specs.declared.mentions.mention.Role.TheVariants.{Valued}
use Rattle.toml_names.specs.declared.model.address.Step.TheVariants.{Index}
use Rattle.toml_names.specs.mentions.Alike.{AreAlike}
use Rattle.toml_names.specs.mentions.Clear.{AreValuesAt, IsClear}
use Rattle.toml_names.specs.mentions.Keys.{key_names, part_name, rest_names}
use Rattle.toml_names.specs.mentions.Mentions.{Named, named, named_by, named_from, root, section, count_tables, ends_table, ends_tables, fronts, value_named, pair_named}
use Rattle.toml_names.specs.mentions.Mentions as mentions
use Rattle.toml_names.specs.model.Addresses.{Address, IsAbove, same_address, element, below}
use Rattle.toml_names.proofs.Proved.{clear_of_root, headers_are_clear, line_values_stand_alone, not_above_next}
use Rattle.toml_names.specs.reader.Names.{header_end}
use Rattle.toml_edits.specs.Carry.{carry}
use Rattle.toml_edits.specs.Edits.{Change, set}
use Rattle.toml_units.specs.Units.{TextUnit, comment_units, gap_line_units, gap_units, element_unit, pair_unit, inside, elements, members, tail_units, line_units, units_from}
use Rattle.toml_units.specs.declared.unit.UnitKind.{UnitKind}
use Rattle.toml_units.specs.declared.unit.UnitKind.TheVariants as kinds
use Rattle.toml_checker.specs.Comments.{is_comment}
use Rattle.toml_checker.specs.GoneAndChanged.{IsChanged}
use Rattle.toml_checker.specs.Protected.{standing}
use Rattle.toml_editor.specs.ChangedUnits.{LiesInValue, IsExchanged, IsSetTo, AreMadeOf, SetUnits}
use Rattle.toml_editor.specs.Held.{StandsAt, StandsWithin, StandsInItems, StandsInPairs, StandsOnLine, StandsFrom, HoldAt}
use Rattle.toml_working.specs.Lines.{lines_from}
use Rattle.toml_working.specs.Setting.{set_within, set_items, set_pairs, set_value, set_expr, set_line}
use Rattle.toml_editor.proofs.Each.{each_front, each_back}
use Rattle.toml_editor.proofs.written.Alike.{alike_self, each_from}
use Rattle.toml_editor.proofs.written.Around.{IsSole, AreSoleItems, AreSolePairs}
use Rattle.toml_editor.proofs.written.AroundLines.{IsSoleLine, AreSoleLines, lines_sole}
use Rattle.toml_editor.proofs.written.Clear.{same_is, self}
use Rattle.toml_editor.proofs.written.Exchanged.{AreOld, value_left, behind_left, before_left}
use Rattle.toml_editor.proofs.written.Made.{made_append}
use Rattle.toml_editor.proofs.written.PairsClear.{end_clear, pair_end, pair_rest, plain_values}
use Rattle.toml_editor.proofs.written.Pairwise.{Alone, pairs_of_all}
use Rattle.toml_editor.proofs.written.SetKept.{values_at}
use Rattle.toml_editor.proofs.written.SetNamed.{end_not_above, one_line, root_apart}
use Rattle.toml_editor.proofs.written.SetTexts.{within_text, set_stays}
use Rattle.toml_editor.proofs.written.Texts.{both_texts, piece_text}
use Rattle.toml_editor.proofs.written.UnitsAlike.{line_units_alike}
use Rattle.toml_editor.proofs.written.UnitsGone.{value_in, none_made}
use Rattle.toml_editor.proofs.written.UnitsIn.{of_element, of_pair}
use Rattle.toml_editor.proofs.written.UnitsRenamed.{each_form}
use Rattle.toml_editor.proofs.written.WayHeld.{held, lines_held, one_there_only}

comment_is : (kind : UnitKind) → kind ≡ kinds.InnerComment → is_comment kind ≡ true
comment_is kind is = ap is_comment is

module _ (p : Address) (text : List ℕ) (IsOld : Value → Type 0) (new : Value) (formed : IsValue new) where
  abbrev c : Change
  c = set p text

  abbrev Made : List TextUnit → List TextUnit → Type 0
  Made = AreMadeOf (IsSetTo p text IsOld new)

  abbrev OldAt : Address → Value → Type 0
  OldAt at v = AreOld p IsOld new (λ o. StandsAt p o at v)

  glue : (us vs ws xs : List TextUnit) → Made us ws → Made vs xs → Made (us ++ vs) (ws ++ xs)
  glue = made_append (IsSetTo p text IsOld new)

  -- no edit changes a comment
  comment_unchanged : (kind : UnitKind) → is_comment kind ≡ true → (a : Option Address) (piece : Piece) (line : Option TextUnit)
      → ¬ IsChanged kind c (standing (record { kind = kind; piece = piece; address = a; base = None }) line)
  comment_unchanged kinds.TailComment is a piece line changed = changed
  comment_unchanged kinds.InnerComment is a piece line changed = changed
  comment_unchanged kinds.Line is a piece line changed = true≢false (sym is)
  comment_unchanged kinds.Element is a piece line changed = true≢false (sym is)
  comment_unchanged kinds.Pair is a piece line changed = true≢false (sym is)

  -- a comment stays
  comment : (kind : UnitKind) → is_comment kind ≡ true → (a : Option Address) → option_and_then (carry c) a ≡ a
      → ((piece : Piece) → ¬ LiesInValue p (record { kind = kind; piece = piece; address = a; base = None })) → (o : Option Piece) → Made (comment_units kind a o) (comment_units kind a o)
  comment kind is a stays not None = refl
  comment kind is a stays not (Some piece) =
      let u : TextUnit = record { kind = kind; piece = piece; address = a; base = None } in (
        u ∷ [],
        [],
        inr (inr (
          not piece,
          (λ holds. true≢false
              (sym is ∙ holds.1)),
          u,
          record { kind = refl; address = sym stays; base = refl; text = λ line n. refl },
          (λ line changed. absurd (comment_unchanged kind is a piece line changed)),
          refl,
          refl,
        )),
        refl,
        refl,
      )

  carried_clear : (at : Address) → ¬ IsAbove p at → option_and_then (carry c) (Some at) ≡ Some at
  carried_clear at not = set_stays p at not

  not_in : (at : Address) → IsClear p at → (kind : UnitKind) → IsAbove p at ⊎ ((at ≡ p) × (kind ≡ kinds.InnerComment)) → ⊥
  not_in at clear kind (inl above) = clear.not_above above
  not_in at clear kind (inr is) = clear.apart (sym is.0)

  gap : (ls : List GapLine) (at : Address) → IsClear p at → Made (gap_line_units at ls) (gap_line_units at ls)
  gap [] at clear = refl
  gap (l ∷ ls) at clear =
      let here = comment_units kinds.InnerComment (Some at) l.blank.comment in
      glue here (gap_line_units at ls) here (gap_line_units at ls)
      (comment kinds.InnerComment refl (Some at) (carried_clear at clear.not_above) (λ piece lies. not_in at clear kinds.InnerComment lies.1) l.blank.comment)
      (gap ls at clear)

  between : (g h : Gap) (at : Address) (us ws us' ws' : List TextUnit) → IsClear p at → Made us ws → Made us' ws'
      → Made (gap_units at g ++ (us ++ (gap_units at h ++ us'))) (gap_units at g ++ (ws ++ (gap_units at h ++ ws')))
  between g h at us ws us' ws' clear this rest =
      glue (gap_units at g) (us ++ (gap_units at h ++ us')) (gap_units at g) (ws ++ (gap_units at h ++ ws')) (gap g.lines at clear)
      (glue us (gap_units at h ++ us') ws (gap_units at h ++ ws') this (glue (gap_units at h) us' (gap_units at h) ws' (gap h.lines at clear) rest))

  at_end : (g h : Gap) (at : Address) (us ws : List TextUnit) → IsClear p at → Made us ws → Made (gap_units at g ++ (us ++ gap_units at h)) (gap_units at g ++ (ws ++ gap_units at h))
  at_end g h at us ws clear this =
      glue (gap_units at g) (us ++ gap_units at h) (gap_units at g) (ws ++ gap_units at h) (gap g.lines at clear) (glue us (gap_units at h) ws (gap_units at h) this (gap h.lines at clear))

  -- ---- units that have a value

  abbrev holder : UnitKind → Option ℕ → Address → (Value → Piece) → Value → TextUnit
  holder kind base at piece v = record { kind = kind; piece = piece v; address = Some at; base = base }

  -- what is in a value stays or is exchanged
  holding : (kind : UnitKind) (base : Option ℕ) (piece : Value → Piece) (v : Value) (at : Address) → is_comment kind ≡ false → (kind ≡ kinds.Line → IsSome base) → ¬ IsAbove p at
      → (at ≡ p → IsExchanged IsOld new (piece v).text (piece new).text)
      → ((line : Option TextUnit) → ¬ IsChanged kind c (standing (holder kind base at piece v) line) → (piece (set_within p new at v)).text ≡ (piece v).text)
      → (¬ (p ≡ at) → (line : Option TextUnit) → IsChanged kind c (standing (holder kind base at piece v) line)
      → IsExchanged IsOld new (piece v).text (piece (set_within p new at v)).text)
      → (IsClear p at → Made (inside at v) (inside at (set_within p new at v)))
      → Made (holder kind base at piece v ∷ inside at v) (holder kind base at piece (set_value p new at v) ∷ inside at (set_value p new at v))
  holding kind base piece v at plain keyed not_above exchanged kept exchanges within = by (same_address at p) refl
    where
      by : (b : Bool) → same_address at p ≡ b
          → Made (holder kind base at piece v ∷ inside at v) (holder kind base at piece (cond b new (set_within p new at v)) ∷ inside at (cond b new (set_within p new at v)))
      by true same =
          let is : at ≡ p = same_is at p same in
          let w = holder kind base at piece new in (
            w ∷ inside at new,
            [],
            inr (inl ((ap Some is, plain), w, record { keyed = keyed; kind = refl; address = refl; base = refl; text = exchanged is }, ap (λ (a : Address). w ∷ inside a new) is)),
            sym (append-nil (w ∷ inside at new)),
            none_made p text IsOld new (inside at v) (value_in p v at (inr is)),
          )
      by false other =
          let clear : IsClear p at = record { apart = λ is. true≢false (sym (subst (λ a. same_address a p ≡ true) is (self p)) ∙ other); not_above = not_above } in
          let w = holder kind base at piece (set_within p new at v) in (
            w ∷ [],
            inside at (set_within p new at v),
            inr (inr (
              (λ lies. not_in at clear kind lies.1),
              (λ holds. let e = holds.0 in clear.apart cc),
              w,
              record { kind = refl; address = sym (carried_clear at not_above); base = refl; text = kept },
              exchanges clear.apart,
              refl,
              refl,
            )),
            refl,
            within clear,
          )

  -- a line or a pair, whose value is not set itself, is changed by what is below it
  changed_above : (at : Address) (n : ℕ) → ¬ (p ≡ at) → (p ≡ at) ⊎ IsAbove at p ⊎ (⊥ × (n < length p)) → IsAbove at p
  changed_above at n other (inl is) = absurd (other is)
  changed_above at n other (inr (inl above)) = above
  changed_above at n other (inr (inr renamed)) = absurd renamed.0

  an_element : (v : Value) (at : Address) → OldAt at v → IsValue v → (IsAbove at p → held p (inside at v) ≡ 1) → ¬ IsAbove p at
      → (IsClear p at → Made (inside at v) (inside at (set_within p new at v)))
      → Made (element_unit at v ∷ inside at v) (element_unit at (set_value p new at v) ∷ inside at (set_value p new at v))
  an_element v at old is one not_above within =
      holding kinds.Element None piece_of v at refl (λ is. cc) not_above
      (λ here. (v, [], [], old v (inl (here, refl)), piece_text v is ∙ sym (append-nil (joined (value_parts v))), piece_text new formed ∙ sym (append-nil (joined (value_parts new)))))
      (λ line not. piece_within v ∙ within_text p new v at is not ∙ sym (piece_text v is))
      (λ other line changed. subst₂ (IsExchanged IsOld new) (sym (piece_text v is)) (sym (piece_within v))
      ((value_left p IsOld new v at (λ o there. old o (inr there))).one (one changed)))
      within
    where
      piece_within : (v : Value) → (piece_of (set_within p new at v)).text ≡ joined (value_parts (set_within p new at v))
      piece_within (Scalar kind text) = sym (append-nil text.text)
      piece_within (Array whole items) = refl
      piece_within (Inline whole pairs) = refl

  exchanged_pair : (a : Assign) (v : Value) → IsOld v → IsExchanged IsOld new (joined (assign_parts a ++ value_parts v)) (joined (assign_parts a ++ value_parts new))
  exchanged_pair a v old = (
    v,
    joined (assign_parts a),
    [],
    old,
    parts_join (assign_parts a) (value_parts v) ∙ ap (λ t. joined (assign_parts a) ++ t) (sym (append-nil (joined (value_parts v)))),
    parts_join (assign_parts a) (value_parts new) ∙ ap (λ t. joined (assign_parts a) ++ t) (sym (append-nil (joined (value_parts new)))),
  )

  abbrev pair_piece : Assign → Value → Piece
  pair_piece a v = record { start = a.key.first.start; text = joined (keyval_parts (record { assign = a; value = v })) }

  a_pair : (a : Assign) (v : Value) (at : Address) → OldAt (below at (key_names a.key)) v → IsValue v
      → (IsAbove (below at (key_names a.key)) p → held p (inside (below at (key_names a.key)) v) ≡ 1)
      → ¬ IsAbove p (below at (key_names a.key))
      → (IsClear p (below at (key_names a.key)) → Made (inside (below at (key_names a.key)) v) (inside (below at (key_names a.key)) (set_within p new (below at (key_names a.key)) v)))
      → Made (pair_unit at (record { assign = a; value = v }) ∷ inside (below at (key_names a.key)) v)
      (pair_unit at (record { assign = a; value = set_value p new (below at (key_names a.key)) v }) ∷ inside (below at (key_names a.key)) (set_value p new (below at (key_names a.key)) v))
  a_pair a v at old is one not_above within =
      let to = below at (key_names a.key) in
      holding kinds.Pair (Some (length at)) (pair_piece a) v to refl (λ is. cc) not_above (λ here. exchanged_pair a v (old v (inl (here, refl))))
      (λ line not. both_texts (assign_parts a) (assign_parts a) (value_parts (set_within p new to v)) (value_parts v) refl (within_text p new v to is (λ above. not (inr (inl above)))))
      (λ other line changed.
      (behind_left p IsOld new (held p (inside to v)) (assign_parts a) (value_parts v) (value_parts (set_within p new to v))
      (value_left p IsOld new v to (λ o there. old o (inr there)))).one
      (one (changed_above to (length at) other changed)))
      within

  -- ---- values

  abbrev put : Address → Value → Value
  put = set_value p new

  mutual
    in_value : (v : Value) (at : Address) → AreOld p IsOld new (λ o. StandsWithin p o at v) → IsValue v → IsSole p v at → IsClear p at → AreValuesAt p (mentions.inside 0 at v)
        → Made (inside at v) (inside at (set_within p new at v))
    in_value (Scalar kind text) at old is sole clear values = refl
    in_value (Array whole items) at old is sole clear values = in_items items at 0 old is.1 sole clear values
    in_value (Inline whole pairs) at old is sole clear values = in_pairs pairs at old is.1 sole clear values

    in_items : (items : Items) (at : Address) (i : ℕ) → AreOld p IsOld new (λ o. StandsInItems p o at i items) → AreItems items → AreSoleItems p items at i → IsClear p at
        → AreValuesAt p (mentions.elements 0 at i items) → Made (elements at i items) (elements at i (set_items p new at i items))
    in_items (Close g) at i old is sole clear values = gap g.lines at clear
    in_items (Last g v h) at i old is sole clear values =
        at_end g h at (of_element at i v) (of_element at i (put (element at i) v)) clear
        (an_element v (element at i) old is.1 sole.0 (not_above_next p at (Index i) clear)
        (λ there. in_value v (element at i) (λ o h. old o (inr h)) is.1 sole.1 there values.1))
    in_items (More g v h more) at i old is sole clear values =
        let these = mentions.inside 0 (element at i) v in
        let those = mentions.elements 0 at (i + 1) more in
        between g h at (of_element at i v) (of_element at i (put (element at i) v)) (elements at (i + 1) more) (elements at (i + 1) (set_items p new at (i + 1) more)) clear
        (an_element v (element at i) (λ o h. old o (inl h)) is.1 sole.0.0 (not_above_next p at (Index i) clear)
        (λ there. in_value v (element at i) (λ o h. old o (inl (inr h))) is.1 sole.0.1 there (each_front _ these those values.1)))
        (in_items more at (i + 1) (λ o h. old o (inr h)) is.3 sole.1 clear (each_back _ these those values.1))

    in_pairs : (pairs : Pairs) (at : Address) → AreOld p IsOld new (λ o. StandsInPairs p o at pairs) → ArePairs pairs → AreSolePairs p pairs at → IsClear p at
        → AreValuesAt p (mentions.members 0 at pairs) → Made (members at pairs) (members at (set_pairs p new at pairs))
    in_pairs (ClosePairs g) at old is sole clear values = gap g.lines at clear
    in_pairs (LastPair g a v h) at old is sole clear values =
        let to = below at (key_names a.key) in
        at_end g h at (of_pair at a v) (of_pair at a (put to v)) clear
        (a_pair a v at old is.2 sole.0 (pair_end p new a v at clear values) (λ there. in_value v to (λ o h. old o (inr h)) is.2 sole.1 there (pair_rest p new a v at values)))
    in_pairs (MorePairs g a v h ps) at old is sole clear values =
        let to = below at (key_names a.key) in
        let these = each_front _ (pair_named 0 at a v) (mentions.members 0 at ps) values in
        between g h at (of_pair at a v) (of_pair at a (put to v)) (members at ps) (members at (set_pairs p new at ps)) clear
        (a_pair a v at (λ o h. old o (inl h)) is.2 sole.0.0 (pair_end p new a v at clear these)
        (λ there. in_value v to (λ o h. old o (inl (inr h))) is.2 sole.0.1 there (pair_rest p new a v at these)))
        (in_pairs ps at (λ o h. old o (inr h)) is.4 sole.1 clear (each_back _ (pair_named 0 at a v) (mentions.members 0 at ps) values))

  -- ---- lines

  abbrev line_piece : Piece → Assign → Blank → Value → Piece
  line_piece ws a b v = expr_piece (KeyValLine ws (record { assign = a; value = v }) b)

  exchanged_line : (ws : Piece) (a : Assign) (b : Blank) (v : Value) → IsOld v → IsExchanged IsOld new (line_piece ws a b v).text (line_piece ws a b new).text
  exchanged_line ws a b v old = (
    v,
    ws.text ++ joined (assign_parts a),
    joined (blank_parts b),
    old,
    spread v,
    spread new,
  )
    where
      spread : (x : Value) → (line_piece ws a b x).text ≡ (ws.text ++ joined (assign_parts a)) ++ (joined (value_parts x) ++ joined (blank_parts b))
      spread x =
          ap (λ t. ws.text ++ t) (parts_join (assign_parts a ++ value_parts x) (blank_parts b) ∙ ap (λ t. t ++ joined (blank_parts b)) (parts_join (assign_parts a) (value_parts x))
          ∙ append_assoc (joined (assign_parts a)) (joined (value_parts x)) (joined (blank_parts b)))
          ∙ sym (append_assoc ws.text (joined (assign_parts a)) (joined (value_parts x) ++ joined (blank_parts b)))

  line_exchanges : (ws : Piece) (a : Assign) (v : Value) (b : Blank) (at : Address) → AreOld p IsOld new (λ o. StandsWithin p o at v)
      → held p (inside at v) ≡ 1 → IsExchanged IsOld new (line_piece ws a b v).text (line_piece ws a b (set_within p new at v)).text
  line_exchanges ws a v b at old one =
      let n = held p (inside at v) in
      let w = set_within p new at v in
      (behind_left p IsOld new n (spells.piece ws ∷ []) ((assign_parts a ++ value_parts v) ++ blank_parts b)
      ((assign_parts a ++ value_parts w) ++ blank_parts b)
      (before_left p IsOld new n (assign_parts a ++ value_parts v) (assign_parts a ++ value_parts w) (blank_parts b)
      (behind_left p IsOld new n (assign_parts a) (value_parts v) (value_parts w) (value_left p IsOld new v at old)))).one one

  tail : (at : Address) → ¬ IsAbove p at → (o : Option Piece) → Made (comment_units kinds.TailComment (Some at) o) (comment_units kinds.TailComment (Some at) o)
  tail at not o = comment kinds.TailComment refl (Some at) (carried_clear at not) (λ piece lies. true≢false (sym lies.0)) o

  -- a line that is not there, and its comment
  same_line : (e : Expr) (at : Address) (o : Option Piece) → IsClear p at
      → Made (record { kind = kinds.Line; piece = expr_piece e; address = Some at; base = None } ∷ comment_units kinds.TailComment (Some at) o)
      (record { kind = kinds.Line; piece = expr_piece e; address = Some at; base = None } ∷ comment_units kinds.TailComment (Some at) o)
  same_line e at o clear =
      let u : TextUnit = record { kind = kinds.Line; piece = expr_piece e; address = Some at; base = None } in (
        u ∷ [],
        comment_units kinds.TailComment (Some at) o,
        inr (inr (
          (λ lies. true≢false (sym lies.0)),
          (λ holds. let e = holds.0 in clear.apart cc),
          u,
          record {
            kind = refl;
            address = sym
                (carried_clear at clear.not_above);
            base = refl;
            text = λ line not. refl;
          },
          (λ line changed. absurd changed),
          refl,
          refl,
        )),
        refl,
        tail at clear.not_above o,
      )

  in_line : (xs : List Named) (n : ℕ) (e : Expr) → AreOld p IsOld new (λ o. StandsOnLine p o (section xs) e) → IsExpr e → IsSoleLine p xs e → IsClear p (section xs)
      → AreValuesAt p (xs ++ named_by xs n e) → Made (line_units xs e) (line_units xs (set_expr p new (section xs) e))
  in_line xs n (BlankLine b) old is sole clear values =
      let u : TextUnit = record { kind = kinds.Line; piece = expr_piece (BlankLine b); address = None; base = None } in (
        u ∷ [],
        tail_units None b,
        inr (inr (
          (λ lies. true≢false
              (sym lies.0)),
          (λ holds. let e =
              holds.0 in cc),
          u,
          record { kind = refl; address = refl; base = refl; text = λ line not. refl },
          (λ line changed. absurd changed),
          refl,
          refl,
        )),
        refl,
        comment kinds.TailComment refl None refl (λ piece lies. true≢false (sym lies.0)) b.comment,
      )
  in_line xs n (KeyValLine ws kv b) old is sole clear values =
      let at = section xs in
      let to = below at (key_names kv.assign.key) in
      let here = each_back _ xs (pair_named n at kv.assign kv.value) values in
      let front = each_front _ (fronts n at (key_names kv.assign.key)) (value_named n Valued to kv.value ∷ mentions.inside n to kv.value) here in
      let rest = each_back _ (fronts n at (key_names kv.assign.key)) (value_named n Valued to kv.value ∷ mentions.inside n to kv.value) here in
      let far = end_not_above p new n (rest_names kv.assign.key.rest) (part_name kv.assign.key.first) at clear front in
      let tails = comment_units kinds.TailComment (Some to) b.comment in
      glue (holder kinds.Line (Some (length at)) to (line_piece ws kv.assign b) kv.value ∷ inside to kv.value) tails
      (holder kinds.Line (Some (length at)) to (line_piece ws kv.assign b) (put to kv.value) ∷ inside to (put to kv.value)) tails
      (holding kinds.Line (Some (length at)) (line_piece ws kv.assign b) kv.value to refl (λ is. refl) far
      (λ here. exchanged_line ws kv.assign b kv.value (old kv.value (inl (here, refl))))
      (λ line not. ap (λ t. ws.text ++ t) (both_texts (keyval_parts (record { assign = kv.assign; value = set_within p new to kv.value })) (keyval_parts kv) (blank_parts b) (blank_parts b)
      (both_texts (assign_parts kv.assign) (assign_parts kv.assign) (value_parts (set_within p new to kv.value)) (value_parts kv.value) refl (within_text p new kv.value to is.1.1 (λ above. not (inr (inl above))))) refl))
      (λ other line changed. line_exchanges ws kv.assign kv.value b to (λ o there. old o (inr there)) (sole.0 (changed_above to (length at) other changed)))
      (λ there. in_value kv.value to (λ o h. old o (inr h)) is.1.1 sole.1 there (plain_values p new n to kv.value rest.1)))
      (tail to far b.comment)
  in_line xs n (TableLine ws h b) old is sole clear values =
      let all = headers_are_clear p xs n (TableLine ws h b) (root_apart p new (section xs) clear) tt values in
      same_line (TableLine ws h b) (header_end xs [] (key_names h.key)) b.comment (end_clear p new (rest_names h.key.rest) (part_name h.key.first) n xs (ends_table n) [] all).0
  in_line xs n (ArrayTableLine ws h b) old is sole clear values =
      let at = header_end xs [] (key_names h.key) in
      let all = headers_are_clear p xs n (ArrayTableLine ws h b) (root_apart p new (section xs) clear) tt values in
      same_line (ArrayTableLine ws h b) (element at (count_tables xs at)) b.comment (end_clear p new (rest_names h.key.rest) (part_name h.key.first) n xs (ends_tables n xs) [] all).1.0

  in_lines : (ls : List Line) (xs ys : List Named) (n : ℕ) → AreOld p IsOld new (λ o. StandsFrom p o xs n ls) → EachIs (λ l. IsExpr l.expr) ls → AreSoleLines p ls xs n
      → AreAlike xs ys
      → IsClear p (section xs) → AreValuesAt p (named_from xs n ls)
      → Made (units_from xs n ls) (units_from ys n (lines_from (set_line p new) xs n ls))
  in_lines [] xs ys n old is sole alike clear values = refl
  in_lines (l ∷ ls) xs ys n old is sole alike clear values =
      let so_far = each_from _ ls (xs ++ named_by xs n l.expr) (n + 1) values in
      let one = one_line p new xs ys n l.expr alike clear so_far in
      let l' = set_expr p new (section xs) l.expr in
      let others = units_from (ys ++ named_by ys n l') (n + 1) (lines_from (set_line p new) (xs ++ named_by xs n l.expr) (n + 1) ls) in
      glue (line_units xs l.expr) (units_from (xs ++ named_by xs n l.expr) (n + 1) ls) (line_units ys l') others
      (subst (Made (line_units xs l.expr)) (line_units_alike xs ys alike l') (in_line xs n l.expr (λ o h. old o (inl h)) is.0 sole.0 clear so_far))
      (in_lines ls (xs ++ named_by xs n l.expr) (ys ++ named_by ys n l') (n + 1) (λ o h. old o (inr h)) is.1 sole.1 one.alike one.clear values)

pub set_units : SetUnits
set_units p text new lines apart is formed there keeps =
    let a = lines_held p lines (root ∷ []) 0 in
    let b = one_there_only p (named lines) (values_at p lines there keeps)
    (pairs_of_all Alone (named lines) (line_values_stand_alone lines keeps)) in
    in_lines p text (HoldAt lines p) new formed lines (root ∷ []) (root ∷ []) 0 (λ o h. h) (each_form lines is)
    (lines_sole p lines apart there keeps (omega (arith, a, b))) (alike_self (root ∷ []))
    (clear_of_root p apart) (values_at p lines there keeps)
