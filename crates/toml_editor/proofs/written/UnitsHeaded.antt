-- The units after a new header line.
use Rattle.std.proofs.Common.{◌≡◌, ◌⊎◌, inl, inr, ℕ, suc, ◌+◌, true, false, Option, Some, None, List, [], ◌∷◌, ◌++◌, length}
use Rattle.std.proofs.Common.{refl, sym, ap, ap₂, ◌∙◌, subst, subst₂, true≢false, append_assoc, append-nil, length-append, arith}
use Rattle.std.specs.Prelude.{option_map, slice_get}
use Rattle.toml_text.specs.Forms.{IsComment}
use Rattle.toml_tree.specs.Bare.{fresh}
use Rattle.toml_tree.specs.Pieces.{expr_piece}
use Rattle.toml_tree.specs.Spells.{AreLines, IsCommentOrNone, IsExpr, comment_parts, expr_parts, joined, key_parts, piece, symbol}
use Rattle.toml_tree.specs.Tree.{Piece, Expr, BlankLine, KeyValLine, TableLine, ArrayTableLine, Line}
use Rattle.toml_names.specs.model.Addresses.{Address}
use Rattle.toml_names.specs.mentions.Mentions.{Named, named, named_by, root}
use Rattle.toml_names.specs.reader.Names.{own_address}
use Rattle.toml_units.specs.Units.{TextUnit, comment_units, inside_line, line_units, units, units_from}
use Rattle.toml_units.specs.declared.unit.UnitKind.TheVariants as kinds
use Rattle.toml_layout.specs.Outlines as outline
use Rattle.toml_layout.specs.TreeOutlines.{line_outline}
use Rattle.toml_layout.specs.declared.tree.Brackets.{Brackets}
use Rattle.toml_layout.specs.declared.tree.Brackets.TheVariants.{One, Two}
use Rattle.toml_working.specs.FreshKeys.{key_named}
use Rattle.toml_working.specs.Heading.{header_expr, header_line}
use Rattle.toml_working.specs.Headers.{has_no_bytes, names_of}
use Rattle.toml_working.specs.Inserting.{has_pair}
use Rattle.toml_working.specs.Removing.{empty_line}
use Rattle.toml_working.specs.Standing.{standing_from}
use Rattle.toml_editor.specs.UnitBlocks.{header_line_units, header_text, line_of_nothing}
use Rattle.toml_editor.proofs.written.Alike.{alike_self}
use Rattle.toml_editor.proofs.written.CountedAlike.{StandSame, stand_same}
use Rattle.toml_editor.proofs.written.FreshKeys.{key_is}
use Rattle.toml_editor.proofs.written.HeaderCounted.{AreApart, back_apart, header_counted}
use Rattle.toml_editor.proofs.written.HeaderPut.{IsApart, IsHeaderPut, IsOneMore, IsPutBefore, IsPutBlank, IsPutLast, ended}
use Rattle.toml_editor.proofs.written.InsertSpaced.{line_formed}
use Rattle.toml_editor.proofs.written.LastLines.{LastIsFull, full_inner, full_line, tail_no_line}
use Rattle.toml_editor.proofs.written.PutStands.{stand_alike}
use Rattle.toml_editor.proofs.written.UnitsPut.{IsPutWell, among_back, formed_well, put_among, put_before, put_end, put_last}
use Rattle.toml_editor.proofs.written.WayFits.{newlines}

-- ---- lines that stand at the same addresses, in the same tables, have the same units

-- the units of a line by its address and its base
abbrev units_at : Expr → Option Address → Option ℕ → List TextUnit
units_at e a base = record { kind = kinds.Line; piece = expr_piece e; address = a; base = base } ∷ inside_line a e

pub units_same : (ls : List Line) (xs ys : List Named) (n m : ℕ) → StandSame ls xs ys n m → units_from xs n ls ≡ units_from ys m ls
units_same [] xs ys n m same = refl
units_same (l ∷ ls) xs ys n m same =
    ap₂ (λ s t. s ++ t) (ap₂ (units_at l.expr) same.0 same.1)
    (units_same ls (xs ++ named_by xs n l.expr) (ys ++ named_by ys m l.expr) (n + 1) (m + 1) same.2)

-- ---- a line that has a byte and no newline has one before its end

blank_bytes : (ws : List ℕ) (c : Option Piece) (newline : List ℕ) → IsCommentOrNone c → newline ≡ [] → ws ++ joined (comment_parts c) ≡ []
    → has_no_bytes (record { ws = []; expr = outline.Nothing; tail = ws; comment = option_map (λ (x : Piece). x.text) c; newline = newline }) ≡ true
blank_bytes [] None [] form end none = refl
blank_bytes [] (Some c) [] form end none = absurd (subst IsComment (sym (append-nil c.text) ∙ none) form)
blank_bytes (b ∷ bs) c newline form end none = cc
blank_bytes [] c (b ∷ bs) form end none = cc

last_full : (xs : List Named) (l : Line) → has_no_bytes (line_outline l) ≡ false → l.newline.text ≡ [] → IsExpr l.expr → LastIsFull (line_units xs l.expr)
last_full xs l full end form = by l.expr full form
  where
    by : (e : Expr) → has_no_bytes (line_outline (record { expr = e; newline = l.newline })) ≡ false → IsExpr e → LastIsFull (line_units xs e)
    by (BlankLine b) some is = (
      (λ line none empty. true≢false (sym (blank_bytes b.ws.text b.comment l.newline.text is.1 end empty) ∙ some)),
      full_inner (comment_units kinds.TailComment None b.comment) (tail_no_line None b.comment),
    )
    by (KeyValLine ws k b) some is = full_line xs (KeyValLine ws k b) tt is
    by (TableLine ws h b) some is = full_line xs (TableLine ws h b) tt is
    by (ArrayTableLine ws h b) some is = full_line xs (ArrayTableLine ws h b) tt is

-- ---- a new header line

module _ (brackets : Brackets) (p : Address) (ws : List ℕ) where
  -- the unit of the header line
  abbrev pub header_block : List TextUnit
  header_block = header_line_units (fresh (header_text brackets ws p)) p

  -- the units are those of before and the line's
  abbrev pub IsPutAlone : List Line → List Line → Type 0
  IsPutAlone old new = IsPutWell (AreLines old) (units old) header_block (units new) (newlines old) (newlines new)

  -- those of before, behind them the line's and one of a last line of no bytes
  abbrev pub IsPutParted : List Line → List Line → Type 0
  IsPutParted old new =
      (well : IsPutWell (IsOneMore old new) (units old) (header_block ++ line_of_nothing ∷ []) (units new) (newlines old) (newlines new))
      × (well.put.back ≡ [])

-- its units
pub new_units : (brackets : Brackets) (p : Address) (ws : List ℕ) (xs : List Named) → own_address xs (header_expr brackets p ws) ≡ Some p
    → line_units xs (header_expr brackets p ws) ≡ header_block brackets p ws
new_units One p ws xs leads =
    ap (λ a. units_at (header_expr One p ws) a None) leads ∙ ap (λ t. header_line_units (fresh t) p) text_is
  where
    text_is : joined (expr_parts (header_expr One p ws)) ≡ header_text One ws p
    text_is =
        let closing = piece (fresh []) ∷ symbol (0x5D ∷ []) ∷ [] in
        let key = key_parts (key_named (names_of p)) in
        ap (λ r. ws ++ 0x5B ∷ r) (ap joined (append_assoc key closing (piece (fresh []) ∷ [])) ∙ key_is (names_of p) (closing ++ piece (fresh []) ∷ []))
new_units Two p ws xs leads =
    ap (λ a. units_at (header_expr Two p ws) a None) leads ∙ ap (λ t. header_line_units (fresh t) p) text_is
  where
    text_is : joined (expr_parts (header_expr Two p ws)) ≡ header_text Two ws p
    text_is =
        let closing = piece (fresh []) ∷ symbol (0x5D ∷ []) ∷ [] in
        let other = symbol (0x5D ∷ []) ∷ [] in
        let key = key_parts (key_named (names_of p)) in
        ap (λ r. ws ++ 0x5B ∷ 0x5B ∷ r)
        (ap joined
        (append_assoc (key ++ closing) other (piece (fresh []) ∷ []) ∙ append_assoc key closing (other ++ piece (fresh []) ∷ []))
        ∙ key_is (names_of p) (closing ++ (other ++ piece (fresh []) ∷ [])))

-- ---- where it is put in

module _ (brackets : Brackets) (p : Address) (style ws : List ℕ) where
  abbrev header : Expr
  header = header_expr brackets p ws

  abbrev block : List TextUnit
  block = header_block brackets p ws

  abbrev Leads : List Line → Type 0
  Leads front = own_address (named front) header ≡ Some p

  abbrev Alone : List Line → List Line → Type 0
  Alone = IsPutAlone brackets p ws

  abbrev Parted : List Line → List Line → Type 0
  Parted = IsPutParted brackets p ws

  well_before : (front back old new : List Line) → IsPutBefore brackets p style ws front back old new → Leads front → has_pair back ≡ false
      → IsApart brackets p front back → Alone old new
  well_before front [] old new put leads unkeyed apart = absurd (put.some refl)
  well_before front (m ∷ ms) old new put leads unkeyed apart =
      subst₂ Alone (sym put.was) (sym put.is)
      (put_among (AreLines (front ++ m ∷ ms)) block m ms (header_line brackets p ws style ∷ m ∷ ms) []
      (λ xs. (own_address xs header ≡ Some p) × AreApart brackets p (standing_from xs 0 (m ∷ ms)))
      (λ xs n there. put_before (AreLines (front ++ m ∷ ms)) header block xs n n (m ∷ ms) style (new_units brackets p ws xs there.0)
      (units_same (m ∷ ms) xs (xs ++ named_by xs n header) n (n + 1)
      (stand_same (m ∷ ms) xs (xs ++ named_by xs n header) n (n + 1) (inr unkeyed)
      (header_counted brackets p ws xs n (standing_from xs n (m ∷ ms)) there.0
      (subst (AreApart brackets p) (stand_alike (m ∷ ms) xs xs 0 n (alike_self xs)) there.1)))))
      front (root ∷ []) 0
      (subst (λ ls. (own_address (named ls) header ≡ Some p) × AreApart brackets p (standing_from (named ls) 0 (m ∷ ms))) (sym (append-nil front)) (
        leads,
        subst (AreApart brackets p) (stand_alike (m ∷ ms) (named front) (named front) (length front) 0 (alike_self (named front)))
            (back_apart brackets p front (m ∷ ms) apart),
      )))

  well_last : (front back old new : List Line) → IsPutLast brackets p style ws front back old new → Leads front → Alone old new
  well_last front back old new put leads =
      let l = put.last in
      let was = put.before ++ l ∷ [] in
      let made = put.before ++ ended style l ∷ header_line brackets p ws [] ∷ [] in
      subst₂ Alone (sym put.was) (sym put.is)
      (formed_well (IsExpr l.expr) (AreLines was) (units was) (units made) block (newlines was) (newlines made) (line_formed put.before [] l)
      (put_among (IsExpr l.expr) block l [] (ended style l ∷ header_line brackets p ws [] ∷ []) (l ∷ []) (λ xs. own_address xs header ≡ Some p)
      (λ xs n there.
      put_last (IsExpr l.expr) l header block xs n style (new_units brackets p ws (xs ++ named_by xs n l.expr) there) (last_full xs l put.full put.no_newline))
      put.before (root ∷ []) 0 (ap (λ ls. own_address (named ls) header) (sym put.front_is) ∙ leads)))

  well_blank : (front back old new : List Line) → IsPutBlank brackets p style ws front back old new → Leads front → Parted old new
  well_blank front back old new put leads = subst₂ Parted (sym put.was) (sym put.is) (
    put_among Firm both l [] lines (l ∷ []) Here here put.before (root ∷ []) 0 there,
    among_back Firm both l [] lines (l ∷ []) Here here (λ xs n at. refl) put.before (root ∷ []) 0 there,
  )
    where
      l : Line
      l = put.last

      lines : List Line
      lines = ended style l ∷ header_line brackets p ws style ∷ empty_line ∷ []

      both : List TextUnit
      both = block ++ line_of_nothing ∷ []

      Firm : Type 0
      Firm = IsOneMore (put.before ++ l ∷ []) (put.before ++ lines)

      two_more : ¬ Firm
      two_more firm =
          let one = length-append put.before (l ∷ []) in
          let three = length-append put.before lines in
          omega (arith, firm, one, three)

      Here : List Named → Type 0
      Here xs = own_address xs header ≡ Some p

      here : (xs : List Named) (n : ℕ) → Here (xs ++ named_by xs n l.expr)
          → IsPutWell Firm (units_from xs n (l ∷ [])) both (units_from xs n lines) (newlines (l ∷ [])) (newlines lines)
      here xs n at =
          put_end Firm l both (line_units (xs ++ named_by xs n l.expr) header ++ line_of_nothing ∷ []) xs style (style ∷ [] ∷ [])
          (ap (λ us. us ++ line_of_nothing ∷ []) (new_units brackets p ws (xs ++ named_by xs n l.expr) at))
          (λ a. ap (slice_get (style ∷ [] ∷ [])) (let e : 2 + a ≡ suc (suc a) = omega arith in e)) (λ firm. absurd (two_more firm))

      there : own_address (named (put.before ++ l ∷ [])) header ≡ Some p
      there = ap (λ ls. own_address (named ls) header) (sym put.front_is) ∙ leads

-- The units after a new header line are those of before and the line's; behind a blank line, also a last line of no bytes. The lines in front
-- and behind keep their newlines, but for that of a last line.
pub header_units : (brackets : Brackets) (p : Address) (style : List ℕ) (old new : List Line) (put : IsHeaderPut brackets p style old new)
    → IsPutAlone brackets p put.ws old new ⊎ IsPutParted brackets p put.ws old new
header_units brackets p style old new put = elim put.put [
  | inl before ↦ inl (well_before brackets p style put.ws put.front put.back old new before put.leads put.unkeyed put.apart)
  | inr (inl last) ↦ inl (well_last brackets p style put.ws put.front put.back old new last put.leads)
  | inr (inr blank) ↦ inr (well_blank brackets p style put.ws put.front put.back old new blank put.leads)
]
