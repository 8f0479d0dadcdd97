-- The length of the rest of a string, step by step.
use Rattle.std.proofs.Common.{◌≡◌, ℕ, zero, suc, ◌+◌, ◌-◌, ◌<◌, ◌≤◌, Bool, true, false, cond, List, [], ◌∷◌, ◌++◌, length, take, drop, get_or, replicate, min, Option, Some, None, sym, refl, ap, ◌∙◌, subst, arith, eqb, eq-eqb, ne_eqb, ⊎_elim, ◌⊎◌, inl, inr, length-append}
use Rattle.std.specs.Prelude.{IfSome, nat_le, option_map, if◌then◌else◌, ◌==◌}
use Rattle.std.proofs.lemmas.Bool.{cond_both, cond-true, cond-false, leb-false, and_left}
use Rattle.std.proofs.lemmas.Bool.Decides.{nat_tests}
use Rattle.std.proofs.lemmas.List.{append-nil, drop_at, length-replicate, length-take-le}
use Rattle.toml_text.specs.Bytes.{is_basic, is_literal}
use Rattle.toml_text.specs.Runs.{run_len, begins, is_byte, newline_len}
use Rattle.toml_text.proofs.Proved.{newlines_piece, run_piece}
use Rattle.toml_scalar.specs.Strings.{StringPiece, Plain, Newline, piece_text, pieces_text, quote_of, IsBasicPiece, IsMultiLineBasicPiece, IsLiteralPiece, IsMultiLineLiteralPiece}
use Rattle.toml_scalar.specs.StringRuns.{Next, Last, next_one, one_step, marks_step, three_step, pieces_from, step_of, marks_len, is_multi_line, body_len, escape_at, multi_line_escape_at, newline_at, basic_at, literal_at, multi_line_basic_at, multi_line_literal_at}
use Rattle.toml_scalar.specs.StringScan.{behind_len, longer_by, Advances}
use Rattle.toml_scalar.specs.declared.strings.advance.Advance.{Advance}
use Rattle.toml_scalar.specs.declared.strings.advance.Advance.TheVariants.{More, End}
use Rattle.toml_scalar.specs.declared.strings.kind.StringKind.{StringKind}
use Rattle.toml_scalar.specs.declared.strings.kind.StringKind.TheVariants.{Basic, MultiLineBasic, Literal, MultiLineLiteral}
use Rattle.toml_scalar.proofs.StringSteps.{behind, pieces_text-append, pieces_next, pieces_last, pieces_none}
use Rattle.toml_scalar.proofs.StringPieces.{PieceIs, basic_sound, literal_sound, multi_line_basic_sound, multi_line_literal_sound}
use Rattle.toml_scalar.proofs.StringContent.{marks_text, marks_front, run_some}

pub longer_by-longer_by : (m n : ℕ) (o : Option ℕ) → longer_by m (longer_by n o) ≡ longer_by (m + n) o
longer_by-longer_by m n None = refl
longer_by-longer_by m n (Some k) = ap Some (omega arith)

pub longer_by-zero : (o : Option ℕ) → longer_by 0 o ≡ o
longer_by-zero None = refl
longer_by-zero (Some k) = ap Some (omega arith)

behind_longer : (more : ℕ) (ps : List StringPiece) (o : Option (List StringPiece)) → option_map (λ qs. length (pieces_text qs) + more) (behind ps o) ≡ longer_by (length (pieces_text ps)) (option_map (λ qs. length (pieces_text qs) + more) o)
behind_longer more ps None = refl
behind_longer more ps (Some qs) = ap Some (omega (arith, ap length (pieces_text-append ps qs), length-append (pieces_text ps) (pieces_text qs)))

-- a step over pieces of so many bytes
body_next : (kind : StringKind) (ps : List StringPiece) (bs rest : List ℕ) (n : ℕ) → step_of kind bs ≡ Some (Next ps) → bs ≡ pieces_text ps ++ rest → length (pieces_text ps) ≡ n → 0 < n → Advances kind bs (Some (More n))
unfolding body_len
body_next kind ps bs rest n e is count some =
    let left : drop n bs ≡ rest = ap (drop n) is ∙ drop_at (pieces_text ps) rest n count in
    let f : List StringPiece → ℕ = λ qs. length (pieces_text qs) + marks_len kind in (
      ap (option_map f) (pieces_next (step_of kind) ps bs rest e is (omega arith))
          ∙ (behind_longer (marks_len kind) ps (pieces_from (step_of kind) 0 rest) ∙ (λ i. longer_by (count i) (option_map f (pieces_from (step_of kind) 0 (sym left i))))),
      some,
      omega (arith, ap length is, length-append (pieces_text ps) rest),
    )

body_last : (kind : StringKind) (ps : List StringPiece) (bs : List ℕ) (n : ℕ) → step_of kind bs ≡ Some (Last ps) → 0 < length bs → length (pieces_text ps) + marks_len kind ≡ n → body_len kind bs ≡ Some n
unfolding body_len
body_last kind ps bs n e some count = ap (option_map (λ qs. length (pieces_text qs) + marks_len kind)) (pieces_last (step_of kind) ps bs e some) ∙ ap Some count

body_none : (kind : StringKind) (bs : List ℕ) → step_of kind bs ≡ None → body_len kind bs ≡ None
unfolding body_len
body_none kind bs e = ap (option_map (λ qs. length (pieces_text qs) + marks_len kind)) (pieces_none (step_of kind) bs e)

-- a step over one piece
body_piece : (kind : StringKind) (P : StringPiece → Type 0) (mark : ℕ) (q : StringPiece) (bs : List ℕ) (n : ℕ) → step_of kind bs ≡ Some (Next (q ∷ [])) → PieceIs P mark bs q → length (piece_text q) ≡ n → Advances kind bs (Some (More n))
body_piece kind P mark q bs n e p count =
    let text : pieces_text (q ∷ []) ≡ piece_text q = append-nil (piece_text q) in
    body_next kind (q ∷ []) bs p.rest n e (p.text ∙ ap (λ l. l ++ p.rest) (sym text)) (ap length text ∙ count) (omega (arith, p.more))

-- which step is taken

abbrev pub piece_of : StringKind → List ℕ → Option StringPiece
piece_of Basic = basic_at
piece_of MultiLineBasic = multi_line_basic_at
piece_of Literal = literal_at
piece_of MultiLineLiteral = multi_line_literal_at

step_piece : (kind : StringKind) (bs : List ℕ) → begins (is_byte (quote_of kind)) bs ≡ false → step_of kind bs ≡ next_one (piece_of kind bs)
unfolding one_step three_step
step_piece Basic bs e = cond-false _ _ _ e
step_piece MultiLineBasic bs e = cond-false _ _ _ e
step_piece Literal bs e = cond-false _ _ _ e
step_piece MultiLineLiteral bs e = cond-false _ _ _ e

-- whether a byte stands for itself, the mark aside
abbrev pub is_plain : StringKind → ℕ → Bool
is_plain Basic = is_basic
is_plain MultiLineBasic = is_basic
is_plain Literal = is_literal
is_plain MultiLineLiteral = is_literal

basic_no_mark : (b : ℕ) → is_basic b ≡ true → eqb b 0x22 ≡ false
basic_no_mark b h = grind (arith, nat_tests)

literal_no_mark : (b : ℕ) → is_literal b ≡ true → eqb b 0x27 ≡ false
literal_no_mark b h = grind (arith, nat_tests)

plain_no_mark : (kind : StringKind) (b : ℕ) → is_plain kind b ≡ true → eqb b (quote_of kind) ≡ false
plain_no_mark Basic b h = basic_no_mark b h
plain_no_mark MultiLineBasic b h = basic_no_mark b h
plain_no_mark Literal b h = literal_no_mark b h
plain_no_mark MultiLineLiteral b h = literal_no_mark b h

plain_at : (kind : StringKind) (b : ℕ) (bs : List ℕ) → is_plain kind b ≡ true → piece_of kind (b ∷ bs) ≡ Some (Plain b)
unfolding basic_at literal_at multi_line_basic_at multi_line_literal_at
plain_at Basic b bs h = cond-true _ _ _ h
plain_at MultiLineBasic b bs h = cond-true _ _ _ h
plain_at Literal b bs h = cond-true _ _ _ h
plain_at MultiLineLiteral b bs h = cond-true _ _ _ h

plain_next : (kind : StringKind) (b : ℕ) (bs : List ℕ) → is_plain kind b ≡ true → body_len kind (b ∷ bs) ≡ longer_by 1 (body_len kind bs)
plain_next kind b bs h =
    (body_next kind (Plain b ∷ []) (b ∷ bs) bs 1 (step_piece kind (b ∷ bs) (plain_no_mark kind b h) ∙ ap next_one (plain_at kind b bs h)) refl refl (omega arith)).0

run_first : (t : Bool) (r n : ℕ) → suc n ≤ cond t (r + 1) 0 → (t ≡ true) × (n ≤ r)
run_first true r n h = (refl, omega arith)
run_first false r n h = absurd (omega arith)

-- a run of bytes that stand for themselves is as many steps
plain_run : (kind : StringKind) (n : ℕ) (bs : List ℕ) → n ≤ run_len (is_plain kind) bs → body_len kind bs ≡ longer_by n (body_len kind (drop n bs))
plain_run kind zero bs h = sym (longer_by-zero (body_len kind bs))
plain_run kind (suc n) [] h = absurd (omega arith)
plain_run kind (suc n) (b ∷ bs) h =
    let p = run_first (is_plain kind b) (run_len (is_plain kind) bs) n h in
    plain_next kind b bs p.0 ∙ (ap (longer_by 1) (plain_run kind n bs p.1) ∙ (longer_by-longer_by 1 n (body_len kind (drop n bs)) ∙ ap (λ m. longer_by m (body_len kind (drop n bs))) (omega_one n)))
  where
    omega_one : (n : ℕ) → 1 + n ≡ suc n
    omega_one n = omega arith

pub plain_advances : (kind : StringKind) (n : ℕ) (bs : List ℕ) → n ≡ run_len (is_plain kind) bs → 0 < n → Advances kind bs (Some (More n))
plain_advances kind n bs e some = (plain_run kind n bs (omega arith), some, omega (arith, (run_piece (is_plain kind) bs).0))

-- what a piece of a kind is
abbrev IsPieceOf : StringKind → StringPiece → Type 0
IsPieceOf Basic = IsBasicPiece
IsPieceOf MultiLineBasic = IsMultiLineBasicPiece
IsPieceOf Literal = IsLiteralPiece
IsPieceOf MultiLineLiteral = IsMultiLineLiteralPiece

piece_sound : (kind : StringKind) (bs : List ℕ) → begins (is_byte (quote_of kind)) bs ≡ false → IfSome (piece_of kind bs) (PieceIs (IsPieceOf kind) (quote_of kind) bs)
piece_sound Basic bs e = basic_sound bs e
piece_sound MultiLineBasic bs e = multi_line_basic_sound bs e
piece_sound Literal bs e = literal_sound bs e
piece_sound MultiLineLiteral bs e = multi_line_literal_sound bs e

piece_is : (kind : StringKind) (bs : List ℕ) (q : StringPiece) → begins (is_byte (quote_of kind)) bs ≡ false → piece_of kind bs ≡ Some q → PieceIs (IsPieceOf kind) (quote_of kind) bs q
piece_is kind bs q other e = subst (λ o. IfSome o (PieceIs (IsPieceOf kind) (quote_of kind) bs)) e (piece_sound kind bs other)

piece_advances : (kind : StringKind) (bs : List ℕ) (q : StringPiece) (n : ℕ) → begins (is_byte (quote_of kind)) bs ≡ false → piece_of kind bs ≡ Some q → length (piece_text q) ≡ n → Advances kind bs (Some (More n))
piece_advances kind bs q n other e count = body_piece kind (IsPieceOf kind) (quote_of kind) q bs n (step_piece kind bs other ∙ ap next_one e) (piece_is kind bs q other e) count

piece_none : (kind : StringKind) (bs : List ℕ) → begins (is_byte (quote_of kind)) bs ≡ false → piece_of kind bs ≡ None → body_len kind bs ≡ None
piece_none kind bs other e = body_none kind bs (step_piece kind bs other ∙ ap next_one e)

-- escapes

module _ (kind : StringKind) (bs : List ℕ) (other : begins (is_byte (quote_of kind)) bs ≡ false) where
  escape_goes : (o : Option StringPiece) (n : ℕ) → piece_of kind bs ≡ o → Some n ≡ option_map behind_len o → Advances kind bs (Some (More (1 + n)))
  escape_goes None n e h = absurd cc
  escape_goes (Some q) n e h =
      let count : n ≡ behind_len q = cc in
      piece_advances kind bs q (1 + n) other e (omega (arith, (piece_is kind bs q other e).more))

  escape_stops : (o : Option StringPiece) → piece_of kind bs ≡ o → None ≡ option_map behind_len o → body_len kind bs ≡ None
  escape_stops None e h = piece_none kind bs other e
  escape_stops (Some q) e h = absurd cc

backslash_other : (kind : StringKind) (bs : List ℕ) → 1 ≤ length bs → get_or bs 0 0 ≡ 0x5C → begins (is_byte (quote_of kind)) bs ≡ false
backslash_other kind [] some is = absurd (omega arith)
backslash_other Basic (b ∷ bs) some is = rw is refl
backslash_other MultiLineBasic (b ∷ bs) some is = rw is refl
backslash_other Literal (b ∷ bs) some is = rw is refl
backslash_other MultiLineLiteral (b ∷ bs) some is = rw is refl

basic_backslash : (bs : List ℕ) → 1 ≤ length bs → get_or bs 0 0 ≡ 0x5C → basic_at bs ≡ escape_at (drop 1 bs)
unfolding basic_at
basic_backslash [] some is = absurd (omega arith)
basic_backslash (b ∷ bs) some is = rw is refl

multi_line_basic_backslash : (bs : List ℕ) → 1 ≤ length bs → get_or bs 0 0 ≡ 0x5C → multi_line_basic_at bs ≡ multi_line_escape_at (drop 1 bs)
unfolding multi_line_basic_at
multi_line_basic_backslash [] some is = absurd (omega arith)
multi_line_basic_backslash (b ∷ bs) some is = rw is refl

module _ (bs : List ℕ) (some : 1 ≤ length bs) (is : get_or bs 0 0 ≡ 0x5C) where
  pub basic_escape : (n : ℕ) → Some n ≡ option_map behind_len (escape_at (drop 1 bs)) → Advances Basic bs (Some (More (1 + n)))
  basic_escape n h = escape_goes Basic bs (backslash_other Basic bs some is) (escape_at (drop 1 bs)) n (basic_backslash bs some is) h

  pub basic_no_escape : None ≡ option_map behind_len (escape_at (drop 1 bs)) → body_len Basic bs ≡ None
  basic_no_escape h = escape_stops Basic bs (backslash_other Basic bs some is) (escape_at (drop 1 bs)) (basic_backslash bs some is) h

  pub multi_line_escape : (n : ℕ) → Some n ≡ option_map behind_len (multi_line_escape_at (drop 1 bs)) → Advances MultiLineBasic bs (Some (More (1 + n)))
  multi_line_escape n h = escape_goes MultiLineBasic bs (backslash_other MultiLineBasic bs some is) (multi_line_escape_at (drop 1 bs)) n (multi_line_basic_backslash bs some is) h

  pub multi_line_no_escape : None ≡ option_map behind_len (multi_line_escape_at (drop 1 bs)) → body_len MultiLineBasic bs ≡ None
  multi_line_no_escape h = escape_stops MultiLineBasic bs (backslash_other MultiLineBasic bs some is) (multi_line_escape_at (drop 1 bs)) (multi_line_basic_backslash bs some is) h

-- bytes that are neither the mark nor stand for themselves

run_none : (t : Bool) (r : ℕ) → 0 ≡ cond t (r + 1) 0 → t ≡ false
run_none true r h = absurd (omega arith)
run_none false r h = refl

basic_stops : (bs : List ℕ) → 0 ≡ run_len is_basic bs → begins (is_byte 0x5C) bs ≡ false → basic_at bs ≡ None
unfolding basic_at
basic_stops [] h e = refl
basic_stops (b ∷ bs) h e = cond-false _ _ _ (run_none (is_basic b) (run_len is_basic bs) h) ∙ cond-false _ _ _ e

literal_stops : (bs : List ℕ) → 0 ≡ run_len is_literal bs → literal_at bs ≡ None
unfolding literal_at
literal_stops [] h = refl
literal_stops (b ∷ bs) h = cond-false _ _ _ (run_none (is_literal b) (run_len is_literal bs) h)

multi_line_basic_stops : (bs : List ℕ) → 0 ≡ run_len is_basic bs → begins (is_byte 0x5C) bs ≡ false → multi_line_basic_at bs ≡ newline_at (newline_len bs) bs
unfolding multi_line_basic_at
multi_line_basic_stops [] h e = refl
multi_line_basic_stops (b ∷ bs) h e = cond-false _ _ _ (run_none (is_basic b) (run_len is_basic bs) h) ∙ cond-false _ _ _ e

multi_line_literal_stops : (bs : List ℕ) → 0 ≡ run_len is_literal bs → multi_line_literal_at bs ≡ newline_at (newline_len bs) bs
unfolding multi_line_literal_at
multi_line_literal_stops [] h = refl
multi_line_literal_stops (b ∷ bs) h = cond-false _ _ _ (run_none (is_literal b) (run_len is_literal bs) h)

-- what the code's `more` answers
abbrev pub more_of : ℕ → Option Advance
more_of n = if n == 0 then None else Some (More n)

run_or_none : (kind : StringKind) (n : ℕ) (bs : List ℕ) → n ≡ run_len (is_plain kind) bs → (0 ≡ run_len (is_plain kind) bs → body_len kind bs ≡ None) → Advances kind bs (more_of n)
run_or_none kind zero bs e none = none e
run_or_none kind (suc n) bs e none = subst (Advances kind bs) (sym (cond-false _ _ _ (ne_eqb (suc n) 0 (λ z. omega arith)))) (plain_advances kind (suc n) bs e (omega arith))

pub basic_run : (n : ℕ) (bs : List ℕ) → n ≡ run_len is_basic bs → begins (is_byte 0x22) bs ≡ false → begins (is_byte 0x5C) bs ≡ false → Advances Basic bs (more_of n)
basic_run n bs e mark backslash = run_or_none Basic n bs e (λ h. piece_none Basic bs mark (basic_stops bs h backslash))

pub literal_run : (n : ℕ) (bs : List ℕ) → n ≡ run_len is_literal bs → begins (is_byte 0x27) bs ≡ false → Advances Literal bs (more_of n)
literal_run n bs e mark = run_or_none Literal n bs e (λ h. piece_none Literal bs mark (literal_stops bs h))

newline_or_none : (kind : StringKind) (n : ℕ) (bs : List ℕ) → n ≡ newline_len bs → begins (is_byte (quote_of kind)) bs ≡ false → piece_of kind bs ≡ newline_at n bs → Advances kind bs (more_of n)
newline_or_none kind zero bs e mark is = piece_none kind bs mark is
newline_or_none kind (suc n) bs e mark is =
    let some : eqb (suc n) 0 ≡ false = ne_eqb (suc n) 0 (λ z. omega arith) in
    subst (Advances kind bs) (sym (cond-false _ _ _ some))
    (piece_advances kind bs (Newline (take (suc n) bs)) (suc n) mark (is ∙ cond-false _ _ _ some) (length-take-le (suc n) bs (omega (arith, (newlines_piece bs).0))))

-- marks

mark_begins : (mark : ℕ) (bs : List ℕ) → 1 ≤ length bs → get_or bs 0 0 ≡ mark → begins (is_byte mark) bs ≡ true
mark_begins mark [] some is = absurd (omega arith)
mark_begins mark (b ∷ bs) some is = eq-eqb b mark is

pub no_mark_begins : (mark : ℕ) (bs : List ℕ) → (1 ≤ length bs → get_or bs 0 0 ≡ mark → ⊥) → begins (is_byte mark) bs ≡ false
no_mark_begins mark [] other = refl
no_mark_begins mark (b ∷ bs) other = ne_eqb b mark (λ e. other (omega arith) e)

pub one_mark : (kind : StringKind) (bs : List ℕ) → is_multi_line kind ≡ false → 1 ≤ length bs → get_or bs 0 0 ≡ quote_of kind → body_len kind bs ≡ Some 1
unfolding one_step
one_mark Basic bs e some is = body_last Basic [] bs 1 (cond-true _ _ _ (mark_begins 0x22 bs some is)) some refl
one_mark Literal bs e some is = body_last Literal [] bs 1 (cond-true _ _ _ (mark_begins 0x27 bs some is)) some refl
one_mark MultiLineBasic bs e some is = absurd cc
one_mark MultiLineLiteral bs e some is = absurd cc

three_marks : (kind : StringKind) (bs : List ℕ) → is_multi_line kind ≡ true → 1 ≤ length bs → get_or bs 0 0 ≡ quote_of kind → step_of kind bs ≡ Some (marks_step (quote_of kind) (run_len (is_byte (quote_of kind)) bs))
unfolding three_step
three_marks Basic bs e some is = absurd cc
three_marks Literal bs e some is = absurd cc
three_marks MultiLineBasic bs e some is = cond-true _ _ _ (mark_begins 0x22 bs some is)
three_marks MultiLineLiteral bs e some is = cond-true _ _ _ (mark_begins 0x27 bs some is)

marks_count : (mark n : ℕ) → length (pieces_text (replicate n (Plain mark))) ≡ n
marks_count mark n = ap length (marks_text mark n) ∙ length-replicate n mark

-- what the code's `marks` answers
abbrev pub marks_of : ℕ → Advance
marks_of n = if nat_le n 2 then More n else End (min n 5)

pub marks_advance : (kind : StringKind) (n : ℕ) (bs : List ℕ) → is_multi_line kind ≡ true → marks_len kind ≡ 3 → 1 ≤ length bs → get_or bs 0 0 ≡ quote_of kind → n ≡ run_len (is_byte (quote_of kind)) bs → Advances kind bs (Some (marks_of n))
marks_advance kind n bs multi three some is run =
    let mark : ℕ = quote_of kind in
    let step : step_of kind bs ≡ Some (marks_step mark n) = three_marks kind bs multi some is ∙ ap (λ m. Some (marks_step mark m)) (sym run) in
    let first : 0 < run_len (is_byte mark) bs = run_some mark bs (mark_begins mark bs some is) in
    let within : run_len (is_byte mark) bs ≤ length bs = (run_piece (is_byte mark) bs).0 in
    cond_both (nat_le n 2) (More n) (End (min n 5)) (λ a. Advances kind bs (Some a))
    (λ e. body_next kind (replicate n (Plain mark)) bs (drop n bs) n (step ∙ ap Some (cond-true _ _ _ e)) (marks_front mark n bs (omega arith) ∙ ap (λ l. l ++ drop n bs) (sym (marks_text mark n))) (marks_count mark n) (omega arith))
    (λ e.
    let more : 2 < n = leb-false n 2 e in
    (body_last kind (replicate (min n 5 - 3) (Plain mark)) bs (min n 5) (step ∙ ap Some (cond-false _ _ _ e)) some (omega (arith, marks_count mark (min n 5 - 3))), omega arith))

-- the same by the first byte, as the code tests it

pub body_empty : (kind : StringKind) (bs : List ℕ) → length bs < 1 → body_len kind bs ≡ None
unfolding body_len
body_empty kind [] h = refl
body_empty kind (b ∷ bs) h = absurd (omega arith)

line_byte : (kind : StringKind) (b : ℕ) (bs : List ℕ) → is_multi_line kind ≡ true → (b ≡ 0x0A) ⊎ (b ≡ 0x0D) → piece_of kind (b ∷ bs) ≡ newline_at (newline_len (b ∷ bs)) (b ∷ bs)
unfolding multi_line_basic_at multi_line_literal_at
line_byte Basic b bs multi h = absurd cc
line_byte Literal b bs multi h = absurd cc
line_byte MultiLineBasic b bs multi h = ⊎_elim (λ (e : b ≡ 0x0A). rw e refl) (λ (e : b ≡ 0x0D). rw e refl) h
line_byte MultiLineLiteral b bs multi h = ⊎_elim (λ (e : b ≡ 0x0A). rw e refl) (λ (e : b ≡ 0x0D). rw e refl) h

line_other : (kind : StringKind) (b : ℕ) (bs : List ℕ) → (b ≡ 0x0A) ⊎ (b ≡ 0x0D) → begins (is_byte (quote_of kind)) (b ∷ bs) ≡ false
line_other Basic b bs h = ⊎_elim (λ (e : b ≡ 0x0A). rw e refl) (λ (e : b ≡ 0x0D). rw e refl) h
line_other Literal b bs h = ⊎_elim (λ (e : b ≡ 0x0A). rw e refl) (λ (e : b ≡ 0x0D). rw e refl) h
line_other MultiLineBasic b bs h = ⊎_elim (λ (e : b ≡ 0x0A). rw e refl) (λ (e : b ≡ 0x0D). rw e refl) h
line_other MultiLineLiteral b bs h = ⊎_elim (λ (e : b ≡ 0x0A). rw e refl) (λ (e : b ≡ 0x0D). rw e refl) h

line_advances : (kind : StringKind) (n : ℕ) (bs : List ℕ) → is_multi_line kind ≡ true → 1 ≤ length bs → (get_or bs 0 0 ≡ 0x0A) ⊎ (get_or bs 0 0 ≡ 0x0D) → n ≡ newline_len bs → Advances kind bs (more_of n)
line_advances kind n [] multi some is e = absurd (omega arith)
line_advances kind n (b ∷ bs) multi some is e = newline_or_none kind n (b ∷ bs) e (line_other kind b bs is) (line_byte kind b bs multi is ∙ ap (λ m. newline_at m (b ∷ bs)) (sym e))

lf_len : (bs : List ℕ) → 1 ≤ length bs → get_or bs 0 0 ≡ 0x0A → 1 ≡ newline_len bs
lf_len [] some is = absurd (omega arith)
lf_len (b ∷ bs) some is = sym (cond-true _ _ _ (eq-eqb b 0x0A is))

pub lf_advances : (kind : StringKind) (bs : List ℕ) → is_multi_line kind ≡ true → 1 ≤ length bs → get_or bs 0 0 ≡ 0x0A → Advances kind bs (Some (More 1))
lf_advances kind bs multi some is = line_advances kind 1 bs multi some (inl is) (lf_len bs some is)

pub cr_advances : (kind : StringKind) (n : ℕ) (bs : List ℕ) → is_multi_line kind ≡ true → 1 ≤ length bs → get_or bs 0 0 ≡ 0x0D → n ≡ newline_len bs → Advances kind bs (more_of n)
cr_advances kind n bs multi some is e = line_advances kind n bs multi some (inr is) e

no_line : (b : ℕ) (bs : List ℕ) → (b ≡ 0x0A → ⊥) → (b ≡ 0x0D → ⊥) → newline_len (b ∷ bs) ≡ 0
no_line b bs lf cr = cond-false _ _ _ (ne_eqb b 0x0A lf) ∙ cond-false _ _ _ (and_left _ _ (ne_eqb b 0x0D cr))

no_newline : (bs : List ℕ) → (get_or bs 0 0 ≡ 0x0A → ⊥) → (get_or bs 0 0 ≡ 0x0D → ⊥) → newline_len bs ≡ 0
no_newline [] lf cr = refl
no_newline (b ∷ bs) lf cr = no_line b bs lf cr

module _ (n : ℕ) (bs : List ℕ) (lf : get_or bs 0 0 ≡ 0x0A → ⊥) (cr : get_or bs 0 0 ≡ 0x0D → ⊥) where
  pub multi_line_basic_run : n ≡ run_len is_basic bs → begins (is_byte 0x22) bs ≡ false → begins (is_byte 0x5C) bs ≡ false → Advances MultiLineBasic bs (more_of n)
  multi_line_basic_run e mark backslash = run_or_none MultiLineBasic n bs e (λ h. piece_none MultiLineBasic bs mark (multi_line_basic_stops bs h backslash ∙ ap (λ m. newline_at m bs) (no_newline bs lf cr)))

  pub multi_line_literal_run : n ≡ run_len is_literal bs → begins (is_byte 0x27) bs ≡ false → Advances MultiLineLiteral bs (more_of n)
  multi_line_literal_run e mark = run_or_none MultiLineLiteral n bs e (λ h. piece_none MultiLineLiteral bs mark (multi_line_literal_stops bs h ∙ ap (λ m. newline_at m bs) (no_newline bs lf cr)))
