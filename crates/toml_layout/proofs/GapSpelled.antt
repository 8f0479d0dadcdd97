-- The parts of a gap, of a tree and of the working tree: they spell its text, and those of a tree are the parts of that.
use Rattle.std.proofs.Common.{◌≡◌, ◌∙◌, ◌<◌, ◌≤◌, ℕ, zero, suc, Bool, true, false, cond, List, [], ◌∷◌, ◌++◌, Option, Some, None, inl, inr, refl, ap, ap₂, sym, subst, arith, append_assoc, append-nil, drop, length}
use Rattle.std.proofs.Math.Seq.{drop-append_seam, take-append_seam}
use Rattle.std.specs.List.{list_any}
use Rattle.toml_text.proofs.Proved.{newline_found, run_found}
use Rattle.toml_text.specs.Bytes.{is_comment, is_ws}
use Rattle.toml_text.specs.Forms.{IsComment, IsNewline, IsWs}
use Rattle.toml_text.specs.Runs.{begins, newline_len, run_len}
use Rattle.toml_tree.specs.Spells.{EachIs, IsCommentOrNone, IsGap, IsGapLine, Part, all_parts, comment_parts, gap_line_parts, gap_parts, joined, piece}
use Rattle.toml_tree.specs.Tree.{Gap, GapLine, Piece}
use Rattle.toml_layout.proofs.TextParts.{behind_less, first_comment, first_joined, first_newline, first_ws}
use Rattle.toml_layout.specs.declared.tree.GapPart.{GapPart}
use Rattle.toml_layout.specs.declared.tree.GapPart.TheVariants as parts
use Rattle.toml_layout.specs.OpenLaws.{GapsAreSpelled}
use Rattle.toml_layout.specs.OpenOutlines.{gap_part_text, leaf_text, part_read, parts_read}
use Rattle.toml_layout.specs.Parts.{AreParts, PartOutline, Comment, Lines, Newline, Ws, behind_first, first_part, is_newline, lines_apart, part_text, parts_of, parts_outlined, parts_upto}
use Rattle.toml_layout.specs.TreeOutlines.{comment_part, gap_outline, lines_with, ws_part}

nonempty : (b : ℕ) (bs : List ℕ) → ¬ (b ∷ bs ≡ [])
nonempty b bs is = cc

-- all that a gap of a tree has, as one text
abbrev pub gap_spelled : Gap → List ℕ
gap_spelled g = joined (gap_parts g)

-- ---- texts

spelled_both : (ps qs : List PartOutline) → parts_outlined (ps ++ qs) ≡ parts_outlined ps ++ parts_outlined qs
spelled_both [] qs = refl
spelled_both (p ∷ ps) qs = ap (λ t. part_text p ++ t) (spelled_both ps qs) ∙ sym (append_assoc (part_text p) (parts_outlined ps) (parts_outlined qs))

ws_spelled : (text : List ℕ) → parts_outlined (ws_part text) ≡ text
ws_spelled [] = refl
ws_spelled (b ∷ bs) = append-nil (b ∷ bs)

comment_spelled : (c : Option Piece) → parts_outlined (comment_part c) ≡ joined (comment_parts c)
comment_spelled None = refl
comment_spelled (Some p) = refl

-- the text of lines, and of the whitespace behind them
abbrev text_with : List GapLine → List ℕ → List ℕ
text_with [] ws = ws
text_with (l ∷ ls) ws = l.blank.ws.text ++ (joined (comment_parts l.blank.comment) ++ (l.newline.text ++ text_with ls ws))

-- one line, and other parts behind it
line_joined : (l : GapLine) (ps : List Part) → joined (gap_line_parts l ++ ps) ≡ l.blank.ws.text ++ (joined (comment_parts l.blank.comment) ++ (l.newline.text ++ joined ps))
line_joined l ps = by l.blank.comment
  where
    by : (c : Option Piece) → l.blank.ws.text ++ joined ((comment_parts c ++ piece l.newline ∷ []) ++ ps) ≡ l.blank.ws.text ++ (joined (comment_parts c) ++ (l.newline.text ++ joined ps))
    by None = refl
    by (Some p) = ap (λ t. l.blank.ws.text ++ (t ++ (l.newline.text ++ joined ps))) (sym (append-nil p.text))

spelled_with : (ls : List GapLine) (w : Piece) → joined (all_parts gap_line_parts ls ++ piece w ∷ []) ≡ text_with ls w.text
spelled_with [] w = append-nil w.text
spelled_with (l ∷ ls) w =
    ap joined (append_assoc (gap_line_parts l) (all_parts gap_line_parts ls) (piece w ∷ []))
    ∙ line_joined l (all_parts gap_line_parts ls ++ piece w ∷ [])
    ∙ ap (λ t. l.blank.ws.text ++ (joined (comment_parts l.blank.comment) ++ (l.newline.text ++ t))) (spelled_with ls w)

outlined_with : (ls : List GapLine) (ws : List ℕ) → parts_outlined (lines_with ls ws) ≡ text_with ls ws
outlined_with [] ws = ws_spelled ws
outlined_with (l ∷ ls) ws =
    let line : List PartOutline = Newline l.newline.text ∷ lines_with ls ws in
    spelled_both (ws_part l.blank.ws.text) (comment_part l.blank.comment ++ line)
    ∙ ap₂ ◌++◌ (ws_spelled l.blank.ws.text)
    (spelled_both (comment_part l.blank.comment) line
    ∙ ap₂ ◌++◌ (comment_spelled l.blank.comment) (ap (λ t. l.newline.text ++ t) (outlined_with ls ws)))

pub gap_spelled_is : (g : Gap) → parts_outlined (gap_outline g) ≡ gap_spelled g
gap_spelled_is g = outlined_with g.lines g.ws.text ∙ sym (spelled_with g.lines g.ws)

-- the parts of a text spell it
upto_spelled : (n : ℕ) (text : List ℕ) → length text ≤ n → parts_outlined (parts_upto n text) ≡ text
upto_spelled zero [] low = refl
upto_spelled zero (b ∷ bs) low = absurd (omega (arith, low))
upto_spelled (suc n) [] low = refl
upto_spelled (suc n) (b ∷ bs) low =
    let less = behind_less (b ∷ bs) (nonempty b bs) in
    let fits : length (behind_first (b ∷ bs)) ≤ n = omega (arith, low, less) in
    ap (λ t. part_text (first_part (b ∷ bs)) ++ t) (upto_spelled n (behind_first (b ∷ bs)) fits) ∙ first_joined (b ∷ bs)

apart_spelled : (text : List ℕ) → parts_outlined (lines_apart text) ≡ text
apart_spelled text = by (list_any is_newline (parts_of text))
  where
    by : (b : Bool) → parts_outlined (cond b (parts_of text) (Lines text ∷ [])) ≡ text
    by true = upto_spelled (length text) text (omega arith)
    by false = append-nil text

part_spelled : (p : GapPart) → parts_outlined (part_read p) ≡ gap_part_text p
part_spelled (parts.Ws ws) = append-nil (leaf_text ws)
part_spelled (parts.Comment comment) = append-nil (leaf_text comment)
part_spelled (parts.Newline newline) = append-nil (leaf_text newline)
part_spelled (parts.Lines lines) = apart_spelled (leaf_text lines)

pub gaps_are_spelled : GapsAreSpelled
gaps_are_spelled [] = refl
gaps_are_spelled (p ∷ ps) = spelled_both (part_read p) (parts_read ps) ∙ ap₂ ◌++◌ (part_spelled p) (gaps_are_spelled ps)

-- ---- one part in front of others

part_on : (own rest : List ℕ) (p : PartOutline) (ps : List PartOutline) → ¬ (own ≡ []) → first_part (own ++ rest) ≡ p → part_text p ≡ own → AreParts rest ps
    → AreParts (own ++ rest) (p ∷ ps)
part_on [] rest p ps some is text more = absurd (some refl)
part_on (b ∷ bs) rest p ps some is text more =
    let behind : behind_first ((b ∷ bs) ++ rest) ≡ rest =
    ap (λ k. drop k ((b ∷ bs) ++ rest)) (ap length (ap part_text is ∙ text)) ∙ drop-append_seam (b ∷ bs) rest in
    (nonempty b (bs ++ rest), sym is, subst (λ t. AreParts t ps) (sym behind) more)

ws_on : (ws rest : List ℕ) (ps : List PartOutline) → IsWs ws → begins is_ws rest ≡ false → AreParts rest ps → AreParts (ws ++ rest) (ws_part ws ++ ps)
ws_on [] rest ps form stop more = more
ws_on (b ∷ bs) rest ps form stop more =
    let first : first_part ((b ∷ bs) ++ rest) ≡ Ws (b ∷ bs) =
    first_ws ((b ∷ bs) ++ rest) (length (b ∷ bs)) (sym (run_found is_ws (b ∷ bs) rest form stop)) (omega arith) ∙ ap Ws (take-append_seam (b ∷ bs) rest) in
    part_on (b ∷ bs) rest (Ws (b ∷ bs)) ps (nonempty b bs) first refl more

-- what a newline is
module _ (rest : List ℕ) where
  newline_some : (newline : List ℕ) → IsNewline newline → ¬ (newline ≡ [])
  newline_some newline (inl lf) none = nonempty 0x0A [] (sym lf ∙ none)
  newline_some newline (inr crlf) none = nonempty 0x0D (0x0A ∷ []) (sym crlf ∙ none)

  newline_long : (newline : List ℕ) → IsNewline newline → 0 < length newline
  newline_long newline (inl lf) = rw lf (omega arith)
  newline_long newline (inr crlf) = rw crlf (omega arith)

  newline_no_ws : (newline : List ℕ) → IsNewline newline → begins is_ws (newline ++ rest) ≡ false
  newline_no_ws newline (inl lf) = ap (λ t. begins is_ws (t ++ rest)) lf
  newline_no_ws newline (inr crlf) = ap (λ t. begins is_ws (t ++ rest)) crlf

  newline_no_run : (newline : List ℕ) → IsNewline newline → run_len is_ws (newline ++ rest) ≡ 0
  newline_no_run newline (inl lf) = ap (λ t. run_len is_ws (t ++ rest)) lf
  newline_no_run newline (inr crlf) = ap (λ t. run_len is_ws (t ++ rest)) crlf

  newline_no_comment : (newline : List ℕ) → IsNewline newline → begins is_comment (newline ++ rest) ≡ false
  newline_no_comment newline (inl lf) = ap (λ t. begins is_comment (t ++ rest)) lf
  newline_no_comment newline (inr crlf) = ap (λ t. begins is_comment (t ++ rest)) crlf

  newline_on : (newline : List ℕ) (ps : List PartOutline) → IsNewline newline → AreParts rest ps → AreParts (newline ++ rest) (Newline newline ∷ ps)
  newline_on newline ps form more =
      let first : first_part (newline ++ rest) ≡ Newline newline =
      first_newline (newline ++ rest) 0 (length newline) (sym (newline_no_run newline form)) (omega arith) (sym (newline_found newline rest form))
      (newline_long newline form) ∙ ap Newline (take-append_seam newline rest) in
      part_on newline rest (Newline newline) ps (newline_some newline form) first refl more

-- what a comment is
module _ (rest : List ℕ) where
  comment_no_ws : (text : List ℕ) → IsComment text → begins is_ws (text ++ rest) ≡ false
  comment_no_ws [] form = absurd form
  comment_no_ws (b ∷ bs) form = ap is_ws form.0

  comment_some : (text : List ℕ) → IsComment text → ¬ (text ≡ [])
  comment_some [] form = absurd form
  comment_some (b ∷ bs) form = nonempty b bs

  comment_first : (text : List ℕ) → IsComment text → begins is_comment rest ≡ false → first_part (text ++ rest) ≡ Comment text
  comment_first [] form stop = absurd form
  comment_first (b ∷ bs) form stop =
      let own : List ℕ = b ∷ bs in
      let no_ws : run_len is_ws (own ++ rest) ≡ 0 = ap (λ x. run_len is_ws (x ∷ (bs ++ rest))) form.0 in
      let no_newline : newline_len (own ++ rest) ≡ 0 = ap (λ x. newline_len (x ∷ (bs ++ rest))) form.0 in
      let run : run_len is_comment (own ++ rest) ≡ length own = run_found is_comment own rest (ap is_comment form.0, form.1) stop in
      first_comment (own ++ rest) 0 0 (length own) (length own) (sym no_ws) (omega arith) (sym no_newline) (omega arith) (sym run) (inl (omega arith, refl))
      ∙ ap Comment (take-append_seam own rest)

  comment_on : (c : Option Piece) (ps : List PartOutline) → IsCommentOrNone c → begins is_comment rest ≡ false → AreParts rest ps
      → AreParts (joined (comment_parts c) ++ rest) (comment_part c ++ ps)
  comment_on None ps form stop more = more
  comment_on (Some p) ps form stop more =
      subst (λ t. AreParts (t ++ rest) (Comment p.text ∷ ps)) (sym (append-nil p.text))
      (part_on p.text rest (Comment p.text) ps (comment_some p.text form) (comment_first p.text form stop) refl more)

  comment_stops : (c : Option Piece) → IsCommentOrNone c → begins is_ws rest ≡ false → begins is_ws (joined (comment_parts c) ++ rest) ≡ false
  comment_stops None form stop = stop
  comment_stops (Some p) form stop = ap (λ t. begins is_ws (t ++ rest)) (append-nil p.text) ∙ comment_no_ws p.text form

-- ---- a gap

lines_are : (ls : List GapLine) (ws : List ℕ) → EachIs IsGapLine ls → IsWs ws → AreParts (text_with ls ws) (lines_with ls ws)
lines_are [] ws each form =
    subst (λ t. AreParts t (ws_part ws)) (append-nil ws) (subst (AreParts (ws ++ [])) (append-nil (ws_part ws)) (ws_on ws [] [] form refl refl))
lines_are (l ∷ ls) ws each form =
    let rest = text_with ls ws in
    let own = each.0 in
    let newline = newline_on rest l.newline.text (lines_with ls ws) own.1 (lines_are ls ws each.1 form) in
    let behind = l.newline.text ++ rest in
    let line : List PartOutline = Newline l.newline.text ∷ lines_with ls ws in
    let comment = comment_on behind l.blank.comment line own.0.1 (newline_no_comment rest l.newline.text own.1) newline in
    ws_on l.blank.ws.text (joined (comment_parts l.blank.comment) ++ behind) (comment_part l.blank.comment ++ line) own.0.0
    (comment_stops behind l.blank.comment own.0.1 (newline_no_ws rest l.newline.text own.1)) comment

-- the list of parts is what the plain function makes
are_upto : (n : ℕ) (text : List ℕ) (ps : List PartOutline) → length text ≤ n → AreParts text ps → parts_upto n text ≡ ps
are_upto zero [] [] low is = refl
are_upto (suc n) [] [] low is = refl
are_upto n [] (p ∷ ps) low (some, is, more) = absurd (some refl)
are_upto n (b ∷ bs) [] low none = absurd (nonempty b bs none)
are_upto zero (b ∷ bs) (p ∷ ps) low (some, is, more) = absurd (omega (arith, low))
are_upto (suc n) (b ∷ bs) (p ∷ ps) low (some, is, more) =
    let less = behind_less (b ∷ bs) some in
    let fits : length (behind_first (b ∷ bs)) ≤ n = omega (arith, low, less) in
    ap₂ (λ x xs. x ∷ xs) (sym is) (are_upto n (behind_first (b ∷ bs)) ps fits more)

pub parts_found : (text : List ℕ) (ps : List PartOutline) → AreParts text ps → parts_of text ≡ ps
parts_found text ps are = are_upto (length text) text ps (omega arith) are

pub gap_parts_are : (g : Gap) → IsGap g → parts_of (gap_spelled g) ≡ gap_outline g
gap_parts_are g form =
    parts_found (gap_spelled g) (gap_outline g)
    (subst (λ t. AreParts t (gap_outline g)) (sym (spelled_with g.lines g.ws)) (lines_are g.lines g.ws.text form.0 form.1))

-- a newline stands in each line
line_ends : (ws : List ℕ) (c : Option Piece) (newline : List ℕ) (ps : List PartOutline) → list_any is_newline (ws_part ws ++ (comment_part c ++ Newline newline ∷ ps)) ≡ true
line_ends [] None newline ps = refl
line_ends [] (Some p) newline ps = refl
line_ends (b ∷ bs) None newline ps = refl
line_ends (b ∷ bs) (Some p) newline ps = refl

-- the text of a gap with lines is taken apart into its parts
pub lines_taken_apart : (g : Gap) (l : GapLine) (ls : List GapLine) → g.lines ≡ l ∷ ls → IsGap g → lines_apart (gap_spelled g) ≡ gap_outline g
lines_taken_apart g l ls is form =
    let text = gap_spelled g in
    let ends : list_any is_newline (gap_outline g) ≡ true =
    ap (λ xs. list_any is_newline (lines_with xs g.ws.text)) is ∙ line_ends l.blank.ws.text l.blank.comment l.newline.text (lines_with ls g.ws.text) in
    ap (λ ps. cond (list_any is_newline ps) ps (Lines text ∷ [])) (gap_parts_are g form) ∙ ap (λ b. cond b (gap_outline g) (Lines text ∷ [])) ends
