-- Where the lines of a document stand in its text: one behind the other, and no character is cut between them.
use Rattle.std.proofs.Common.{◌≡◌, ◌∙◌, ◌+◌, ◌<◌, ◌≤◌, ℕ, List, [], ◌∷◌, ◌++◌, IsUtf8, IsCharBoundary, inl, inr, Some, ap, sym, subst, arith, append_assoc, append-nil, length, get_or, length-append, take, drop, slice_range}
use Rattle.std.specs.Prelude.{slice_get}
use Rattle.std.proofs.Math.Seq.{get_or-append_seam}
use Rattle.std.proofs.lemmas.List.{take-append-drop, length-take-le}
use Rattle.std.proofs.lemmas.Str.{IsCharBoundary-after_ascii, IsCharBoundary-end, IsUtf8-from_is_utf8}
use Rattle.toml_text.specs.Forms.{IsNewline}
use Rattle.toml_text.specs.Limit.{IsText}
use Rattle.toml_tree.proofs.Proved.{expr_starts, mark_ends_at_char, placed_front, placed_back, sizes_add}
use Rattle.toml_tree.specs.Parts.{size}
use Rattle.toml_tree.specs.Spells.{AreLines, EachIs, IsExpr, Spells, expr_parts, joined, line_parts, lines_parts, mark_of, piece}
use Rattle.toml_tree.specs.Tree.{Doc, Line}
use Rattle.toml_layout.proofs.Proved.{lie_front, lie_back, lie_slice, line_outlined_is}
use Rattle.toml_working.specs.declared.lines.Kept.{Kept}
use Rattle.toml_layout.specs.Opening.{LieAt}
use Rattle.toml_working.specs.Standing.{Read}
use Rattle.toml_working.specs.Stands.{IsKept}
use Rattle.toml_working.specs.Starting.{IsKeptOf}

-- a line stands in the text, and begins and ends where that may be cut
pub record LineLies (text : List ℕ) (l : Line) : Type 0 where
  pub form : IsExpr l.expr
  pub at : ℕ
  pub lies : LieAt text at (line_parts l)
  pub start : IsCharBoundary text at
  pub end : IsCharBoundary text (at + size (line_parts l))

-- behind a byte of ASCII
behind_ascii : (text front : List ℕ) (x : ℕ) (back : List ℕ) → IsUtf8 text → text ≡ front ++ (x ∷ back) → x < 128 → IsCharBoundary text (length front + 1)
behind_ascii text front x back utf8 split low =
    let here : get_or text (length front) 0 ≡ x = ap (λ t. get_or t (length front) 0) split ∙ get_or-append_seam front x back 0 in
    let long : length text ≡ length front + length (x ∷ back) = ap length split ∙ length-append front (x ∷ back) in
    IsCharBoundary-after_ascii text (length front) utf8 (omega arith) (omega arith)

-- behind a newline
behind_newline : (text front newline back : List ℕ) → IsUtf8 text → text ≡ front ++ (newline ++ back) → IsNewline newline → IsCharBoundary text (length front + length newline)
behind_newline text front newline back utf8 split (inl lf) =
    rw lf (behind_ascii text front 0x0A back utf8 (split ∙ ap (λ n. front ++ (n ++ back)) lf) (omega arith))
behind_newline text front newline back utf8 split (inr crlf) =
    let whole : text ≡ (front ++ 0x0D ∷ []) ++ (0x0A ∷ back) = split ∙ ap (λ n. front ++ (n ++ back)) crlf ∙ sym (append_assoc front (0x0D ∷ []) (0x0A ∷ back)) in
    let long : length front + length newline ≡ length (front ++ 0x0D ∷ []) + 1 = omega (arith, length-append front (0x0D ∷ []), ap length crlf) in
    subst (IsCharBoundary text) (sym long) (behind_ascii text (front ++ 0x0D ∷ []) 0x0A back utf8 whole (omega arith))

-- how many bytes a line has
line_size : (l : Line) → size (line_parts l) ≡ size (expr_parts l.expr) + length l.newline.text
line_size l = sizes_add (expr_parts l.expr) (piece l.newline ∷ []) ∙ ap (λ t. size (expr_parts l.expr) + length t) (append-nil l.newline.text)

module _ (text : List ℕ) (utf8 : IsUtf8 text) where
  newline_cut : (l : Line) (at : ℕ) → LieAt text at (line_parts l) → IsNewline l.newline.text → IsCharBoundary text (at + size (line_parts l))
  newline_cut l at lies form =
      let behind = lie_back text at (expr_parts l.expr) (piece l.newline ∷ []) lies in
      let split : text ≡ behind.front ++ (l.newline.text ++ behind.back) = behind.split ∙ ap (λ t. behind.front ++ (t ++ behind.back)) (append-nil l.newline.text) in
      let there : length behind.front + length l.newline.text ≡ at + size (line_parts l) = omega (arith, behind.begins, line_size l) in
      subst (IsCharBoundary text) there (behind_newline text behind.front l.newline.text behind.back utf8 split form)

  each_lies : (ls : List Line) (at : ℕ) → AreLines ls → LieAt text at (lines_parts ls) → at + size (lines_parts ls) ≡ length text → IsCharBoundary text at → EachIs (LineLies text) ls
  each_lies [] at forms lies ends start = tt
  each_lies (l ∷ []) at forms lies ends start =
      let last : at + size (line_parts l) ≡ length text = omega (arith, ends, sizes_add (line_parts l) []) in
      (record { form = forms.0; at = at; lies = lie_front text at (line_parts l) [] lies; start = start; end = subst (IsCharBoundary text) (sym last) (IsCharBoundary-end text) }, tt)
  each_lies (l ∷ m ∷ ls) at forms lies ends start =
      let here = lie_front text at (line_parts l) (lines_parts (m ∷ ls)) lies in
      let behind = lie_back text at (line_parts l) (lines_parts (m ∷ ls)) lies in
      let end = newline_cut l at here forms.1 in
      let later : at + size (line_parts l) + size (lines_parts (m ∷ ls)) ≡ length text = omega (arith, ends, sizes_add (line_parts l) (lines_parts (m ∷ ls))) in
      (record { form = forms.0; at = at; lies = here; start = start; end = end }, each_lies (m ∷ ls) (at + size (line_parts l)) forms.2 behind later end)

pub lines_lie : (d : Doc) (text : List ℕ) → IsText text → Spells d text → EachIs (LineLies text) d.lines
lines_lie d text within spelled =
    let utf8 = IsUtf8-from_is_utf8 text within.utf8 in
    let mark = length (mark_of text) in
    let cut : IsCharBoundary text mark = mark_ends_at_char text within in
    let low : mark ≤ length text = cut.0 in
    let whole : take mark text ++ drop mark text ≡ text = take-append-drop mark text in
    let front : length (take mark text) ≡ mark = length-take-le mark text low in
    let lies : LieAt text mark (lines_parts d.lines) = record {
      placed = spelled.lines.placed;
      front = take mark text;
      back = [];
      split = sym whole ∙ ap (λ t. take mark text ++ t) (sym spelled.lines.text_is ∙ sym (append-nil (joined (lines_parts d.lines))));
      begins = front;
    } in
    let ends : mark + size (lines_parts d.lines) ≡ length text =
    omega (arith, front, ap length spelled.lines.text_is, length-append (take mark text) (drop mark text), ap length whole) in
    each_lies text utf8 d.lines mark spelled.lines.forms lies ends cut

-- a line that is kept as what it is
module _ (text : List ℕ) (read : Read) (kept : Kept) (l : Line) (is : slice_get read.lines kept.line ≡ Some l) (line : LineLies text l) (says : IsKeptOf l kept) where
  starts : kept.span.start ≡ line.at
  starts = says.start ∙ expr_starts l.expr line.at (placed_front (expr_parts l.expr) (piece l.newline ∷ []) line.at line.lies.placed)

  stops : kept.span.end ≡ line.at + size (line_parts l)
  stops =
      let newline = (placed_back (expr_parts l.expr) (piece l.newline ∷ []) line.at line.lies.placed).0 in
      omega (arith, says.end, newline, line_size l)

  pub line_kept : IsKept text read kept
  line_kept = record {
    line = l;
    is = is;
    stands = (line.form, (line.at, line.lies));
    held = record { order = omega (arith, starts, stops); start = subst (IsCharBoundary text) (sym starts) line.start; end = subst (IsCharBoundary text) (sym stops) line.end };
    spells = ap (λ n. slice_range text n kept.span.end) starts ∙ ap (slice_range text line.at) stops ∙ lie_slice text line.at (line_parts l) line.lies ∙ sym (line_outlined_is l);
    last = says.last;
  }
