-- A new header line before one of the lines, or at their end: it may stand there, and what then stands on the lines.
use Rattle.std.proofs.Common.{◌≡◌, inl, inr, ℕ, ◌==◌, true, false, ◌&&◌, Option, Some, None, List, [], ◌∷◌, ◌++◌, length, refl, sym, ap, ap₂, ◌∙◌, subst, true≢false, append-nil, append_assoc, arith, length-append, ◌⊎◌}
use Rattle.std.specs.List.{list_any}
use Rattle.std.specs.Prelude.{is_some, not, option_map}
use Rattle.std.proofs.lemmas.Bool.{and_parts, cond-true}
use Rattle.std.proofs.lemmas.Bool.Decides.{nat_tests}
use Rattle.std.proofs.lemmas.List.{map-append, nil_from_length}
use Rattle.toml_text.specs.Forms.{IsWs}
use Rattle.toml_tree.specs.Bare.{fresh}
use Rattle.toml_tree.specs.Spells.{AreLines}
use Rattle.toml_tree.specs.Tree.{Blank, Piece, Expr, BlankLine, KeyValLine, TableLine, ArrayTableLine, Line}
use Rattle.toml_names.specs.mentions.Mentions.{Named, count_tables, named, root}
use Rattle.toml_names.specs.model.Addresses.{Address}
use Rattle.toml_names.specs.reader.Names.{own_address}
use Rattle.toml_units.specs.Units.{line_base}
use Rattle.toml_layout.specs.Outlines.{Nothing}
use Rattle.toml_layout.specs.TreeOutlines.{line_of, line_outline}
use Rattle.toml_layout.specs.declared.tree.Brackets.{Brackets}
use Rattle.toml_layout.specs.declared.tree.Brackets.TheVariants.{One, Two}
use Rattle.toml_working.specs.FollowingHeaders.{blank_line}
use Rattle.toml_working.specs.Heading.{Shown, header_expr, header_line, line_at_end, line_put_after, shown}
use Rattle.toml_working.specs.Headers.{has_no_bytes, new_header, put_after, put_at_text_end}
use Rattle.toml_working.specs.Inserting.{has_pair}
use Rattle.toml_working.specs.InsertStanding.{end_in}
use Rattle.toml_working.specs.Removing.{empty_line}
use Rattle.toml_working.specs.Standing.{Standing, is_below, line_stands, standing}
use Rattle.toml_working.specs.HeadingFollowed.{blank_at_end}
use Rattle.toml_editor.proofs.written.BelowPlace.{standing_behind}
use Rattle.toml_editor.proofs.written.Counted.{AreLast, counts_stay}
use Rattle.toml_editor.proofs.written.DocumentSections.{named_next}
use Rattle.toml_editor.proofs.written.HeaderPut.{IsApart, IsHeaderPut, IsOneMore, ended}
use Rattle.toml_editor.proofs.written.HeaderSplit.{BeforeEmpty, BehindLast, at_end, lines_of, stand_of}
use Rattle.toml_editor.proofs.written.HeaderStood.{parts, put_stands, shown_lines, shown_outlined, shown_stands}
use Rattle.toml_editor.proofs.written.InsertPlace.{IsHeadless}
use Rattle.toml_editor.proofs.written.PutStands.{ends_same}

-- ---- a line without bytes

-- it has neither a key nor a header
no_bytes : (l : Line) → has_no_bytes (line_outline l) ≡ true → IsHeadless l.expr × (has_pair (l ∷ []) ≡ false)
no_bytes l is = by l.expr is
  where
    by : (e : Expr) → has_no_bytes (line_outline (record { expr = e; newline = l.newline })) ≡ true → IsHeadless e
        × (elim e [ BlankLine b ↦ has_pair [] | KeyValLine ws pair tail ↦ true | TableLine ws header tail ↦ false | ArrayTableLine ws header tail ↦ false ] ≡ false)
    by (BlankLine b) h = (tt, refl)
    by (KeyValLine ws pair tail) h = absurd (true≢false (sym h))
    by (TableLine ws header tail) h = absurd (true≢false (sym h))
    by (ArrayTableLine ws header tail) h = absurd (true≢false (sym h))

none_long : (bs : List ℕ) → (length bs == 0) ≡ true → bs ≡ []
none_long bs h = nil_from_length bs (grind (arith, nat_tests, h))

uncommented : (c : Option Piece) → not (is_some (option_map (λ (x : Piece). x.text) c)) ≡ true → option_map (λ (x : Piece). x.text) c ≡ None
uncommented None h = refl
uncommented (Some c) h = absurd (true≢false (sym h))

-- a blank line without bytes has no texts
no_parts : (b : Blank) (newline : Piece) → has_no_bytes (line_of [] Nothing b newline) ≡ true
    → (b.ws.text ≡ []) × (option_map (λ (x : Piece). x.text) b.comment ≡ None) × (newline.text ≡ [])
no_parts b newline is =
    let bare = not (is_some (option_map (λ (x : Piece). x.text) b.comment)) in
    let ends = and_parts ((length b.ws.text == 0) && bare) (length newline.text == 0) is in
    let texts = and_parts (length b.ws.text == 0) bare ends.0 in
    (none_long b.ws.text texts.0, uncommented b.comment texts.1, none_long newline.text ends.1)

-- as a blank line it stands so, in each newline
empty_stands : (xs : List Named) (l : Line) (newline : Piece) → has_no_bytes (line_outline l) ≡ true
    → line_stands xs (record { expr = l.expr; newline = newline }) ≡ blank_line newline.text
empty_stands xs l newline is = by l.expr is
  where
    by : (e : Expr) → has_no_bytes (line_outline (record { expr = e; newline = l.newline })) ≡ true
        → line_stands xs (record { expr = e; newline = newline }) ≡ blank_line newline.text
    by (BlankLine b) h =
        let none = no_parts b l.newline h in
        ap₂ (λ (t : List ℕ) (c : Option (List ℕ)).
        record { address = None; base = None; outline = record { ws = []; expr = Nothing; tail = t; comment = c; newline = newline.text } }) none.0 none.1
    by (KeyValLine ws pair tail) h = absurd (true≢false (sym h))
    by (TableLine ws header tail) h = absurd (true≢false (sym h))
    by (ArrayTableLine ws header tail) h = absurd (true≢false (sym h))

-- and it ends in none
empty_newline : (l : Line) → has_no_bytes (line_outline l) ≡ true → l.newline.text ≡ []
empty_newline l is = by l.expr is
  where
    by : (e : Expr) → has_no_bytes (line_outline (record { expr = e; newline = l.newline })) ≡ true → l.newline.text ≡ []
    by (BlankLine b) h = (no_parts b l.newline h).2
    by (KeyValLine ws pair tail) h = absurd (true≢false (sym h))
    by (TableLine ws header tail) h = absurd (true≢false (sym h))
    by (ArrayTableLine ws header tail) h = absurd (true≢false (sym h))

-- the last line ends in no newline
last_open : (front : List Line) (l : Line) → AreLines (front ++ l ∷ []) → l.newline.text ≡ []
last_open [] l forms = forms.1
last_open (m ∷ []) l forms = forms.2.1
last_open (m ∷ k ∷ front) l forms = last_open (k ∷ front) l forms.2

-- a new line goes before it
line_before_empty : (h : List ℕ → Line) (style : List ℕ) (ls : List Line) (l : Line) → has_no_bytes (line_outline l) ≡ true
    → line_at_end h style (ls ++ l ∷ []) ≡ ls ++ h style ∷ l ∷ []
line_before_empty h style [] l is = cond-true _ _ _ is
line_before_empty h style (m ∷ []) l is = ap (λ r. m ∷ r) (cond-true _ _ _ is)
line_before_empty h style (m ∷ k ∷ ls) l is = ap (λ r. m ∷ r) (line_before_empty h style (k ∷ ls) l is)

put_before_empty : (new : List ℕ → Standing) (style : List ℕ) (ss : List Standing) (s : Standing) → has_no_bytes s.outline ≡ true
    → put_at_text_end new style (ss ++ s ∷ []) ≡ ss ++ new style ∷ s ∷ []
put_before_empty new style [] s is = cond-true _ _ _ is
put_before_empty new style (t ∷ []) s is = ap (λ r. t ∷ r) (cond-true _ _ _ is)
put_before_empty new style (t ∷ u ∷ ss) s is = ap (λ r. t ∷ r) (put_before_empty new style (u ∷ ss) s is)

-- it becomes a blank one
blank_behind : (style : List ℕ) (ls : List Line) (l : Line) → blank_at_end style (ls ++ l ∷ []) ≡ ls ++ ended style l ∷ empty_line ∷ []
blank_behind style [] l = refl
blank_behind style (m ∷ []) l = refl
blank_behind style (m ∷ k ∷ ls) l = ap (λ r. m ∷ r) (blank_behind style (k ∷ ls) l)

-- ---- an array of which the header line stands behind all lines

-- no line behind it is at the array, or below it
pub apart_at_end : (brackets : Brackets) (p : Address) (front : List Line) → IsApart brackets p front []
apart_at_end One p front = tt
apart_at_end Two p front = λ q i is. refl

apart_before_empty : (brackets : Brackets) (p : Address) (front : List Line) (l : Line) → has_no_bytes (line_outline l) ≡ true → IsApart brackets p front (l ∷ [])
apart_before_empty One p front l is = tt
apart_before_empty Two p front l is = λ q i at. ap (λ s. list_any (is_below q) (s ∷ [])) (empty_stands (named front) l l.newline is)

-- of lines in the forms there is one
lines_there : (ls : List Line) → AreLines ls → ¬ (ls ≡ [])
lines_there [] are is = are
lines_there (l ∷ ls) are is = cc

-- lines in the forms are shown
pub some_line : (lines : List Line) → AreLines lines → ¬ (shown lines ≡ [])
some_line lines forms none = lines_there lines forms (sym (shown_lines lines (root ∷ []) 0) ∙ ap lines_of none)

-- `Blank` tells when a blank line is put in before it.
module _ (brackets : Brackets) (p : Address) (style : List ℕ) (lines : List Line) (Blank : Type 0) where
  -- The lines with it, and what stands on them. They are one more, where no blank line is put in.
  pub record StandsWithHeader (put : List Line) (stand : List Standing) : Type 0 where
    pub header : IsHeaderPut brackets p style lines put
    pub stands : standing put ≡ stand
    pub more : IsOneMore lines put ⊎ Blank

  -- so it is of what is the same
  pub stands_as : (put put' : List Line) (stand stand' : List Standing) → put' ≡ put → stand' ≡ stand → StandsWithHeader put stand → StandsWithHeader put' stand'
  stands_as put put' stand stand' e f it = subst (λ x. StandsWithHeader x stand') (sym e) (subst (StandsWithHeader put) (sym f) it)

  module _ (ws : List ℕ) (spaced : AreLines lines → IsWs ws) where
    abbrev h : List ℕ → Line
    h = header_line brackets p ws

    abbrev new : List ℕ → Standing
    new = new_header p brackets ws

    -- its key leads to the address behind lines
    abbrev Leads : List Line → Type 0
    Leads front = own_address (named front) (header_expr brackets p ws) ≡ Some p

    -- and so it does where the last of them gets a newline
    leads_ended : (before : List Line) (last : Line) → Leads (before ++ last ∷ []) → Leads (before ++ ended style last ∷ [])
    leads_ended before last leads =
        ap (λ ms. own_address ms (header_expr brackets p ws)) (named_next before (ended style last) ∙ sym (named_next before last)) ∙ leads

    -- before one of the lines, where no key comes before the next header
    pub stands_before : (front back : List Shown) → shown lines ≡ front ++ back → ¬ (lines_of back ≡ []) → has_pair (lines_of back) ≡ false
        → IsApart brackets p (lines_of front) (lines_of back) → Leads (lines_of front) → (put : List Line) (stand : List Standing)
        → put ≡ lines_of front ++ h style ∷ lines_of back → stand ≡ stand_of front ++ new style ∷ stand_of back → StandsWithHeader put stand
    stands_before front back was some unkeyed apart leads put stand is stands =
        let are = parts front back lines [] was in
        record {
          header = record {
            front = lines_of front;
            back = lines_of back;
            ws = ws;
            spaced = spaced;
            put = inl (record { some = some; was = are.lines; is = is });
            leads = leads;
            unkeyed = unkeyed;
            apart = apart;
          };
          stands =
              ap standing is ∙ put_stands brackets p (lines_of front) (lines_of back) ws style leads apart unkeyed
              ∙ ap₂ (λ a b. a ++ new style ∷ b) are.front_stands are.back_stands ∙ sym stands;
          more =
              let old = ap length are.lines ∙ length-append (lines_of front) (lines_of back) in
              let all = ap length is ∙ length-append (lines_of front) (h style ∷ lines_of back) in
              inl (omega (arith, old, all));
        }

    -- before a last line without bytes
    before_empty : (it : BeforeEmpty h new style (shown lines)) → Leads (lines_of it.front)
        → StandsWithHeader (line_at_end h style lines) (put_at_text_end new style (standing lines))
    before_empty it leads =
        stands_before it.front (it.last ∷ []) it.was (λ none. cc) (no_bytes it.last.0 it.empty).1
        (apart_before_empty brackets p (lines_of it.front) it.last.0 it.empty) leads _ _
        (ap (line_at_end h style) (sym (shown_lines lines (root ∷ []) 0)) ∙ it.lines)
        (ap (put_at_text_end new style) (sym (shown_stands lines (root ∷ []) 0)) ∙ it.stands)

    -- behind the last line
    behind_below : AreLines lines → (it : BehindLast h new style (shown lines)) → Leads (lines_of it.front ++ it.last.0 ∷ [])
        → StandsWithHeader (line_at_end h style lines) (put_at_text_end new style (standing lines))
    behind_below forms it leads =
        let before = lines_of it.front in
        let last = it.last.0 in
        let are = parts it.front (it.last ∷ []) lines [] it.was in
        let opened = last_open before last (subst AreLines are.lines forms) in
        let closed = before ++ ended style last ∷ [] in
        let is : line_at_end h style lines ≡ before ++ ended style last ∷ h [] ∷ [] =
        ap (line_at_end h style) (sym (shown_lines lines (root ∷ []) 0)) ∙ it.lines ∙ ap (λ t. before ++ line_put_after h style last t) opened in
        let here : line_stands (named before) last ≡ it.last.1 = (let x = are.back_stands in cc) in
        let ends : line_stands (named before) (ended style last) ≡ end_in style it.last.1 =
        ap (λ o. record { address = own_address (named before) last.expr; base = line_base (named before) last.expr; outline = o })
        (ends_same last.expr last.newline (ended style last).newline)
        ∙ ap (end_in style) here in
        record {
          header = record {
            front = before ++ last ∷ [];
            back = [];
            ws = ws;
            spaced = spaced;
            put = inr (inl (record { before = before; last = last; front_is = refl; none = refl; full = it.full; no_newline = opened; was = are.lines; is = is }));
            leads = leads;
            unkeyed = refl;
            apart = apart_at_end brackets p (before ++ last ∷ []);
          };
          stands =
              ap standing (is ∙ sym (append_assoc before (ended style last ∷ []) (h [] ∷ [])))
              ∙ put_stands brackets p closed [] ws [] (leads_ended before last leads) (apart_at_end brackets p closed) refl
              ∙ ap (λ s. s ++ new [] ∷ []) (standing_behind before (ended style last ∷ []) [] ∙ ap₂ (λ a b. a ++ b ∷ []) are.front_stands ends)
              ∙ append_assoc (stand_of it.front) (end_in style it.last.1 ∷ []) (new [] ∷ [])
              ∙ sym (ap (put_at_text_end new style) (sym (shown_stands lines (root ∷ []) 0)) ∙ it.stands
              ∙ ap (λ t. stand_of it.front ++ put_after new style it.last.1 t) opened);
          more =
              let old = ap length are.lines ∙ length-append before (last ∷ []) in
              let all = ap length is ∙ length-append before (ended style last ∷ h [] ∷ []) in
              inl (omega (arith, old, all));
        }

    -- behind the last line, which has no bytes and becomes a blank one
    pub stands_behind_blank : (front : List Shown) (last : Shown) → shown lines ≡ front ++ last ∷ [] → has_no_bytes (line_outline last.0) ≡ true → Leads lines → Blank
        → StandsWithHeader (line_at_end h style (blank_at_end style lines)) (put_at_text_end new style (put_at_text_end blank_line style (standing lines)))
    stands_behind_blank front (last, s) was empty leads blank =
        let before = lines_of front in
        let are = parts front ((last, s) ∷ []) lines [] was in
        let closed = before ++ ended style last ∷ [] in
        let leads_front : Leads (before ++ last ∷ []) = subst Leads are.lines leads in
        let is : line_at_end h style (blank_at_end style lines) ≡ before ++ ended style last ∷ h style ∷ empty_line ∷ [] =
        ap (line_at_end h style)
        (ap (blank_at_end style) are.lines ∙ blank_behind style before last ∙ sym (append_assoc before (ended style last ∷ []) (empty_line ∷ [])))
        ∙ line_before_empty h style closed empty_line refl ∙ append_assoc before (ended style last ∷ []) (h style ∷ empty_line ∷ []) in
        let here : line_stands (named before) last ≡ s = (let x = are.back_stands in cc) in
        let stood : standing lines ≡ stand_of front ++ blank_line [] ∷ [] =
        sym (shown_stands lines (root ∷ []) 0) ∙ ap stand_of was ∙ map-append (λ (x : Shown). x.1) front ((last, s) ∷ [])
        ∙ ap (λ x. stand_of front ++ x ∷ []) (sym here ∙ empty_stands (named before) last last.newline empty ∙ ap blank_line (empty_newline last empty)) in
        let put : put_at_text_end new style (put_at_text_end blank_line style (standing lines)) ≡ stand_of front ++ blank_line style ∷ new style ∷ blank_line [] ∷ [] =
        ap (λ x. put_at_text_end new style (put_at_text_end blank_line style x)) stood
        ∙ ap (put_at_text_end new style)
        (put_before_empty blank_line style (stand_of front) (blank_line []) refl ∙ sym (append_assoc (stand_of front) (blank_line style ∷ []) (blank_line [] ∷ [])))
        ∙ put_before_empty new style (stand_of front ++ blank_line style ∷ []) (blank_line []) refl
        ∙ append_assoc (stand_of front) (blank_line style ∷ []) (new style ∷ blank_line [] ∷ []) in
        record {
          header = record {
            front = before ++ last ∷ [];
            back = [];
            ws = ws;
            spaced = spaced;
            put = inr (inr (record { before = before; last = last; front_is = refl; none = refl; bare = empty; was = are.lines; is = is }));
            leads = leads_front;
            unkeyed = refl;
            apart = apart_at_end brackets p (before ++ last ∷ []);
          };
          stands =
              ap standing (is ∙ sym (append_assoc before (ended style last ∷ []) (h style ∷ empty_line ∷ [])))
              ∙ put_stands brackets p closed (empty_line ∷ []) ws style (leads_ended before last leads_front) (apart_before_empty brackets p closed empty_line refl) refl
              ∙ ap (λ s. s ++ new style ∷ blank_line [] ∷ [])
              (standing_behind before (ended style last ∷ []) [] ∙ ap₂ (λ a b. a ++ b ∷ []) are.front_stands (empty_stands (named before) last (fresh style) empty))
              ∙ append_assoc (stand_of front) (blank_line style ∷ []) (new style ∷ blank_line [] ∷ []) ∙ sym put;
          more = inr blank;
        }

    -- at the end, where it leads to the address, if each index in `q` is that of the last table of its array
    pub stands_at_end : (q : Address) → AreLines lines
        → ((front back : List Line) → lines ≡ front ++ back → AreLast (named front) q → IsApart brackets p front back → Leads front) → AreLast (named lines) q
        → StandsWithHeader (line_at_end h style lines) (put_at_text_end new style (standing lines))
    stands_at_end q forms leads last = elim (at_end h new style (shown lines) (shown_outlined lines (root ∷ []) 0) (some_line lines forms)) [
      | inl it ↦
          let front = lines_of it.front in
          let are = parts it.front (it.last ∷ []) lines [] it.was in
          before_empty it (leads front (it.last.0 ∷ []) are.lines
          (λ r rest i is.
          sym (counts_stay front (it.last.0 ∷ []) r ((no_bytes it.last.0 it.empty).0, tt)) ∙ ap (λ ls. count_tables (named ls) r) (sym are.lines) ∙ last r rest i is)
          (apart_before_empty brackets p front it.last.0 it.empty))
      | inr it ↦
          let front = lines_of it.front ++ it.last.0 ∷ [] in
          let are = parts it.front (it.last ∷ []) lines [] it.was in
          behind_below forms it (leads front [] (are.lines ∙ sym (append-nil front)) (subst (λ ls. AreLast (named ls) q) are.lines last) (apart_at_end brackets p front))
    ]
