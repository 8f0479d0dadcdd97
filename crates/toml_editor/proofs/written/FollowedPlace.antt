-- Where layout `Follow` puts a new header line: it may stand there, and what then stands on the lines is what is put there.
use Rattle.std.proofs.Common.{◌≡◌, inl, inr, ℕ, ◌+◌, Bool, true, false, ◌&&◌, Option, Some, None, List, [], ◌∷◌, ◌++◌, length, refl, sym, ap, ◌∙◌, subst, true≢false, append-nil, append_assoc}
use Rattle.std.specs.List.{list_any}
use Rattle.std.specs.Prelude.{not}
use Rattle.std.proofs.lemmas.Bool.{and_parts, cond-true, cond-false}
use Rattle.std.proofs.lemmas.List.{map-append}
use Rattle.toml_text.specs.Forms.{IsWs}
use Rattle.toml_tree.specs.Spells.{AreLines, EachIs, IsExpr}
use Rattle.toml_tree.specs.Tree.{Expr, BlankLine, KeyValLine, TableLine, ArrayTableLine, Line}
use Rattle.toml_names.specs.declared.model.address.Step.TheVariants.{Index}
use Rattle.toml_names.specs.mentions.Mentions.{Named, named, named_by, root}
use Rattle.toml_names.specs.model.Addresses.{Address}
use Rattle.toml_names.specs.reader.Names.{own_address}
use Rattle.toml_layout.specs.TreeOutlines.{line_outline}
use Rattle.toml_layout.specs.declared.tree.Brackets.{Brackets}
use Rattle.toml_working.specs.FollowingHeaders.{behind_family, behind_below, but_last, ends_empty, ends_filled, has_parts, header_behind, header_ws, is_close, is_filled, last_that, or_at_end, or_earlier, put_at_end, wants_blank, ws_of}
use Rattle.toml_working.specs.Heading.{Shown, header_expr, header_line, line_at_end, shown}
use Rattle.toml_working.specs.Headers.{has_no_bytes, new_header, put_at_text_end}
use Rattle.toml_working.specs.InsertStanding as stood
use Rattle.toml_working.specs.RenameStanding.{names_in}
use Rattle.toml_working.specs.Standing.{Standing, is_below, line_stands, standing, standing_from}
use Rattle.toml_working.specs.HeadingFollowed.{header_at_end, header_line_behind, line_behind_below, line_behind_family, or_header_at_end}
use Rattle.toml_editor.proofs.Each.{each_front}
use Rattle.toml_editor.proofs.written.Counted.{AreLast, last_root}
use Rattle.toml_editor.proofs.written.FollowedSplit.{Followed, followed}
use Rattle.toml_editor.proofs.written.HeaderPlace.{lies_is}
use Rattle.toml_editor.proofs.written.HeaderPut.{IsApart}
use Rattle.toml_editor.proofs.written.HeaderSplit.{IsHeadlessShown, any_back, at_end, lines_of, stand_of}
use Rattle.toml_editor.proofs.written.HeaderStood.{counted_behind, parts, shown_lines, shown_outlined, shown_stands}
use Rattle.toml_editor.proofs.written.HeaderThere.{StandsWithHeader, apart_at_end, stands_behind_blank, stands_at_end, stands_as, stands_before, some_line}
use Rattle.toml_editor.proofs.written.InsertStands.{has_same}
use Rattle.toml_editor.proofs.written.UnitsRenamed.{each_form}

-- ---- the whitespace of a header line is whitespace

abbrev IsSpaced : Standing → Type 0
IsSpaced s = IsWs s.outline.ws

each_spaced : (ls : List Line) (xs : List Named) (n : ℕ) → EachIs (λ (l : Line). IsExpr l.expr) ls → EachIs IsSpaced (standing_from xs n ls)
each_spaced [] xs n forms = tt
each_spaced (l ∷ ls) xs n forms = (by l.expr forms.0, each_spaced ls (xs ++ named_by xs n l.expr) (n + 1) forms.1)
  where
    by : (e : Expr) → IsExpr e → IsWs (line_outline (record { expr = e; newline = l.newline })).ws
    by (BlankLine b) is = tt
    by (KeyValLine ws pair tail) is = is.0
    by (TableLine ws header tail) is = is.0
    by (ArrayTableLine ws header tail) is = is.0

last_spaced : (f : Standing → Bool) (ss : List Standing) → EachIs IsSpaced ss → IsWs (ws_of (last_that f ss))
last_spaced f [] each = tt
last_spaced f (s ∷ ss) each = by (last_that f ss) (f s) (last_spaced f ss each.1)
  where
    by : (o : Option Standing) (b : Bool) → IsWs (ws_of o) → IsWs (ws_of (or_earlier o b s))
    by None true h = each.0
    by None false h = tt
    by (Some t) b h = h

-- the last line tells whether lines end in one without bytes
ends_empty_is : (ss : List Standing) (s : Standing) → ends_empty (ss ++ s ∷ []) ≡ has_no_bytes s.outline
ends_empty_is [] s = refl
ends_empty_is (t ∷ []) s = refl
ends_empty_is (t ∷ u ∷ ss) s = ends_empty_is (u ∷ ss) s

-- ---- where it goes

module _ (brackets : Brackets) (p q family : Address) (style : List ℕ) (may : Bool) (lines : List Line) (Blank : Type 0) where
  abbrev h : List Standing → Line
  h = header_line_behind p brackets style

  abbrev new : List Standing → Standing
  new = λ front. header_behind p brackets front style

  abbrev WithHeader : List Line → List Standing → Type 0
  WithHeader = StandsWithHeader brackets p style lines Blank

  -- the arrays of tables on which the family lies have so many tables as it says behind the last line at it or below it
  reached : (before : List Shown) (line : Shown) (between back : List Shown) → shown lines ≡ before ++ line ∷ (between ++ back) → is_below family line.1 ≡ true
      → EachIs IsHeadlessShown between → AreLast (named (lines_of (before ++ line ∷ between))) family
  reached before line between back whole below none r rest i is =
      let (a, own, rest', under) = lies_is family line.1.address below in
      counted_behind lines before line between back whole none a r (rest ++ rest') i own (under ∙ ap (λ x. x ++ rest') is ∙ append_assoc r (Index i ∷ rest) rest')

  -- `q` is the family, names aside. The key leads to the address from where the arrays of tables on which `q` lies are so reached. A line
  -- stands at the family or below it. An element is apart from lines that do not.
  module _ (forms : AreLines lines) (carry : (xs : List Named) → AreLast xs family → AreLast xs q)
      (leads : (ws : List ℕ) (front back : List Line) → lines ≡ front ++ back → AreLast (named front) q → IsApart brackets p front back
      → own_address (named front) (header_expr brackets p ws) ≡ Some p)
      (stands : ¬ (family ≡ []) → list_any (is_below family) (standing lines) ≡ true)
      (apart : (front back : List Line) → lines ≡ front ++ back → list_any (is_below family) (standing_from (named front) (length front) back) ≡ false
      → IsApart brackets p front back)
      (blank : behind_family family new (standing lines) ≡ None → (may && wants_blank (standing lines)) ≡ true → Blank) where
    spaced : (front back : List Standing) → standing lines ≡ front ++ back → AreLines lines → IsWs (header_ws p front)
    spaced front back split are =
        last_spaced (has_parts (names_in p)) front
        (each_front IsSpaced front back (subst (EachIs IsSpaced) split (each_spaced lines (root ∷ []) 0 (each_form lines are))))

    -- behind the last section of the family
    beside : (it : Followed h new family [] (shown lines) (line_behind_below family h [] (shown lines)) (behind_below family new [] (stand_of (shown lines))))
        → WithHeader (or_header_at_end p brackets style may lines (line_behind_below family h [] (shown lines)))
        (or_at_end p brackets style may (standing lines) (behind_below family new [] (standing lines)))
    beside it =
        let front = it.before ++ it.line ∷ it.between in
        let ahead = stand_of it.before ++ it.line.1 ∷ stand_of it.between in
        let was : shown lines ≡ front ++ it.back = it.was ∙ sym (append_assoc it.before (it.line ∷ it.between) it.back) in
        let are = parts front it.back lines [] was in
        let all : stand_of front ≡ ahead = map-append (λ (x : Shown). x.1) it.before (it.line ∷ it.between) in
        let split : standing lines ≡ ahead ++ stand_of it.back =
        sym (shown_stands lines (root ∷ []) 0) ∙ ap stand_of was ∙ map-append (λ (x : Shown). x.1) front it.back ∙ ap (λ x. x ++ stand_of it.back) all in
        let none : list_any (is_below family) (standing_from (named (lines_of front)) (length (lines_of front)) (lines_of it.back)) ≡ false =
        ap (list_any (is_below family)) are.back_stands
        ∙ any_back (is_below family) (stand_of it.between) (stand_of it.back)
        (ap (list_any (is_below family)) (sym (map-append (λ (x : Shown). x.1) it.between it.back)) ∙ it.apart) in
        let alone = apart (lines_of front) (lines_of it.back) are.lines none in
        let last = carry (named (lines_of front)) (reached it.before it.line it.between it.back it.was it.below it.headless) in
        stands_before brackets p style lines Blank (header_ws p ahead) (spaced ahead (stand_of it.back) split) front it.back was
        (λ empty. some it.back empty it.more)
        (sym (has_same (lines_of it.back) (named (lines_of front)) (length (lines_of front))) ∙ ap stood.has_pair are.back_stands ∙ it.unkeyed)
        alone (leads (header_ws p ahead) (lines_of front) (lines_of it.back) are.lines last alone) _ _
        (ap (or_header_at_end p brackets style may lines) it.lines
        ∙ ap (λ x. x ++ h ahead ∷ lines_of it.back) (sym (map-append (λ (x : Shown). x.0) it.before (it.line ∷ it.between))))
        (ap (or_at_end p brackets style may (standing lines)) (ap (behind_below family new []) (sym (shown_stands lines (root ∷ []) 0)) ∙ it.stands)
        ∙ ap (λ x. x ++ new ahead ∷ stand_of it.back) (sym all))
      where
        some : (back : List Shown) → lines_of back ≡ [] → list_any is_filled (stand_of back) ≡ true → ⊥
        some [] empty more = true≢false (sym more)
        some (x ∷ back) empty more = cc

    -- at the end
    end : AreLast (named lines) family → behind_family family new (standing lines) ≡ None
        → WithHeader (header_at_end p brackets style may lines) (put_at_end p brackets style may (standing lines))
    end last absent = by (may && wants_blank (standing lines)) refl
      where
        ws : List ℕ
        ws = header_ws p (standing lines)

        all : AreLines lines → IsWs ws
        all = spaced (standing lines) [] (sym (append-nil (standing lines)))

        by : (b : Bool) → (may && wants_blank (standing lines)) ≡ b
            → WithHeader (header_at_end p brackets style may lines) (put_at_end p brackets style may (standing lines))
        by false enough =
            stands_as brackets p style lines Blank _ _ _ _ (ap (line_at_end (header_line brackets p ws) style) (cond-false _ _ _ enough))
            (ap (put_at_text_end (new_header p brackets ws) style) (cond-false _ _ _ enough))
            (stands_at_end brackets p style lines Blank ws all q forms (leads ws) (carry (named lines) last))
        by true due =
            stands_as brackets p style lines Blank _ _ _ _ (ap (line_at_end (header_line brackets p ws) style) (cond-true _ _ _ due))
            (ap (put_at_text_end (new_header p brackets ws) style) (cond-true _ _ _ due))
            (elim (at_end (header_line brackets p ws) (new_header p brackets ws) style (shown lines) (shown_outlined lines (root ∷ []) 0)
            (some_line lines forms)) [
              | inl it ↦
                  stands_behind_blank brackets p style lines Blank ws all it.front it.last it.was it.empty
                  (leads ws lines [] (sym (append-nil lines)) (carry (named lines) last) (apart_at_end brackets p lines)) (blank absent due)
              | inr it ↦ absurd (true≢false (sym (empty it.front it.last it.was) ∙ it.full))
            ])
          where
            empty : (front : List Shown) (last : Shown) → shown lines ≡ front ++ last ∷ [] → has_no_bytes (line_outline last.0) ≡ true
            empty front last was =
                let are = parts front (last ∷ []) lines [] was in
                let here : line_stands (named (lines_of front)) last.0 ≡ last.1 = (let x = are.back_stands in cc) in
                let ends = (and_parts (ends_empty (standing lines)) (ends_filled (but_last (standing lines)) && not (is_close [] (but_last (standing lines))))
                (and_parts may (wants_blank (standing lines)) due).1).0 in
                let split : standing lines ≡ stand_of front ++ last.1 ∷ [] =
                sym (shown_stands lines (root ∷ []) 0) ∙ ap stand_of was ∙ map-append (λ (x : Shown). x.1) front (last ∷ []) in
                ap (λ (x : Standing). has_no_bytes x.outline) here ∙ sym (ends_empty_is (stand_of front) last.1) ∙ ap ends_empty (sym split) ∙ ends

    -- by the family
    pub header_put_following : WithHeader (or_header_at_end p brackets style may lines (line_behind_family family h (shown lines)))
        (or_at_end p brackets style may (standing lines) (behind_family family new (standing lines)))
    header_put_following = by family refl
      where
        Goal : Type 0
        Goal = WithHeader (or_header_at_end p brackets style may lines (line_behind_family family h (shown lines)))
            (or_at_end p brackets style may (standing lines) (behind_family family new (standing lines)))

        by : (f : Address) → family ≡ f → Goal
        by [] is =
            stands_as brackets p style lines Blank _ _ _ _ (ap (λ f. or_header_at_end p brackets style may lines (line_behind_family f h (shown lines))) is)
            (ap (λ f. or_at_end p brackets style may (standing lines) (behind_family f new (standing lines))) is)
            (end (subst (AreLast (named lines)) (sym is) (last_root (named lines))) (ap (λ f. behind_family f new (standing lines)) is))
        by (s ∷ r) is =
            stands_as brackets p style lines Blank _ _ _ _
            (ap (λ f. or_header_at_end p brackets style may lines (line_behind_family f h (shown lines))) is
            ∙ ap (λ f. or_header_at_end p brackets style may lines (line_behind_below f h [] (shown lines))) (sym is))
            (ap (λ f. or_at_end p brackets style may (standing lines) (behind_family f new (standing lines))) is
            ∙ ap (λ f. or_at_end p brackets style may (standing lines) (behind_below f new [] (standing lines))) (sym is))
            (elim (followed h new family (shown lines) []) [
              | inl none ↦
                  let some : ¬ (family ≡ []) = λ none'. (let x : ◌≡◌ {A = Address} [] (s ∷ r) = sym none' ∙ is in cc) in
                  let last = none.last (ap (list_any (is_below family)) (shown_stands lines (root ∷ []) 0) ∙ stands some) in
                  let absent : behind_below family new [] (standing lines) ≡ None =
                  ap (behind_below family new []) (sym (shown_stands lines (root ∷ []) 0)) ∙ none.stand_none in
                  stands_as brackets p style lines Blank _ _ _ _ (ap (or_header_at_end p brackets style may lines) none.put_none)
                  (ap (or_at_end p brackets style may (standing lines)) absent)
                  (end (subst (λ ls. AreLast (named ls) family) (ap lines_of (sym last.is) ∙ shown_lines lines (root ∷ []) 0)
                  (reached last.before last.line last.between []
                  (last.is ∙ ap (λ x. last.before ++ last.line ∷ x) (sym (append-nil last.between))) last.below last.headless))
                  (ap (λ f. behind_family f new (standing lines)) is ∙ ap (λ f. behind_below f new [] (standing lines)) (sym is) ∙ absent))
              | inr it ↦ beside it
            ])
