-- The piece at the front of some bytes: what is found is one, and what is one is found.
use Rattle.std.proofs.Common.{◌≡◌, ℕ, zero, suc, ◌<◌, ◌≤◌, Bool, true, false, cond, ◌||◌, List, [], ◌∷◌, ◌++◌, length, take, drop, Option, Some, None, ◌⊎◌, sym, refl, ap, ◌∙◌, subst, arith, eqb, ◌==◌, ⊎_elim, inl, inr, append_assoc, length-append}
use Rattle.std.specs.Prelude.{IfSome, nat_le}
use Rattle.std.proofs.lemmas.Bool.{cond_both, or_left, and_parts, and_from, and_left, eqb-true, cond-true, cond-false, leb-true, le-leb}
use Rattle.std.proofs.lemmas.Bool.Decides.{nat_tests}
use Rattle.std.proofs.lemmas.List.{take-append-drop, take-take, take_at, drop_at, length-take-le}
use Rattle.toml_text.specs.Bytes.{is_ws, is_hex, is_basic, is_literal}
use Rattle.toml_text.specs.Forms.{Each, IsWs, IsNewline}
use Rattle.toml_text.specs.Runs.{run_len, begins, is_byte, newline_len}
use Rattle.toml_scalar.proofs.Newlines.{newline_there}
use Rattle.toml_text.proofs.Proved.{run_found, newline_found, newlines_piece, run_most, run_piece}
use Rattle.toml_scalar.specs.Integers.{digits_value}
use Rattle.toml_scalar.specs.Strings.{StringPiece, Plain, Escape, UnicodeEscape, Newline, Dropped, piece_text, IsEscape, IsScalarValue, IsUnicodeEscape, AreSpaces, IsBasicPiece, IsMultiLineBasicPiece, IsLiteralPiece, IsMultiLineLiteralPiece}
use Rattle.toml_scalar.specs.StringRuns.{is_escape, is_scalar_value, unicode_at, escape_at, spaces_len, dropped, multi_line_escape_at, basic_at, literal_at, newline_at, multi_line_basic_at, multi_line_literal_at}
use Rattle.toml_scalar.proofs.StringSpaces.{NoSpace, spaces_are, spaces_stop, spaces_found}

abbrev pub is_mark : ℕ → StringPiece → Bool
is_mark mark (Plain b) = eqb b mark
is_mark mark _ = false

-- what may follow a piece
abbrev pub Ends : StringPiece → List ℕ → Type 0
Ends (Dropped ws line rest) bs = NoSpace bs
Ends _ bs = Unit {0}

-- the piece stands at the front
pub record PieceIs (P : StringPiece → Type 0) (mark : ℕ) (bs : List ℕ) (q : StringPiece) : Type 0 where
  pub is : P q
  pub other : is_mark mark q ≡ false
  pub more : 0 < length (piece_text q)
  pub rest : List ℕ
  pub text : bs ≡ piece_text q ++ rest
  pub ends : Ends q rest

-- what is found is a piece

escape_is : (x : ℕ) → is_escape x ≡ true → IsEscape x
escape_is x e = grind (arith, nat_tests)

is_escape-true : (x : ℕ) → IsEscape x → is_escape x ≡ true
is_escape-true x e = grind (arith, nat_tests)

scalar_is : (n : ℕ) → is_scalar_value n ≡ true → IsScalarValue n
scalar_is n e = grind (arith, nat_tests)

is_scalar_value-true : (n : ℕ) → IsScalarValue n → is_scalar_value n ≡ true
is_scalar_value-true n e = grind (arith, nat_tests)

some_cond : (b : Bool) (x y : Option StringPiece) (P : StringPiece → Type 0) → (b ≡ true → IfSome x P) → (b ≡ false → IfSome y P) → IfSome (cond b x y) P
some_cond b x y P t f = cond_both b x y (λ o. IfSome o P) t f

each_front : (p : ℕ → Bool) (xs : List ℕ) (n : ℕ) → Each p xs → Each p (take n xs)
each_front p xs zero h = tt
each_front p [] (suc n) h = tt
each_front p (x ∷ xs) (suc n) h = (h.0, each_front p xs n h.1)

pub each_hex : (bs : List ℕ) (n : ℕ) → n ≤ run_len is_hex bs → Each is_hex (take n bs)
each_hex bs n h = subst (Each is_hex) (take-take n (run_len is_hex bs) bs h) (each_front is_hex (take (run_len is_hex bs) bs) n (run_piece is_hex bs).1)

abbrev pub IsUnicodeLetter : ℕ → ℕ → Type 0
IsUnicodeLetter u n = ((u ≡ 0x75) × (n ≡ 4)) ⊎ ((u ≡ 0x55) × (n ≡ 8))

unicode_sound : (mark u n : ℕ) (bs : List ℕ) → IsUnicodeLetter u n → IfSome (unicode_at u n bs) (PieceIs IsBasicPiece mark (0x5C ∷ u ∷ bs))
unfolding unicode_at
unicode_sound mark u n bs letter = some_cond _ _ _ _
    (λ e.
    let p = and_parts (nat_le n (run_len is_hex bs)) (is_scalar_value (digits_value 16 (take n bs))) e in
    let enough : n ≤ run_len is_hex bs = leb-true n (run_len is_hex bs) p.0 in
    let count : length (take n bs) ≡ n = length-take-le n bs (omega (arith, (run_piece is_hex bs).0)) in
    record {
      is = (rw count letter, each_hex bs n enough, scalar_is _ p.1);
      other = refl;
      more = omega arith;
      rest = drop n bs;
      text = ap (λ l. 0x5C ∷ u ∷ l) (sym (take-append-drop n bs));
      ends = tt;
    })
    (λ e. tt)

pub escape_sound : (mark : ℕ) (bs : List ℕ) → IfSome (escape_at bs) (PieceIs IsBasicPiece mark (0x5C ∷ bs))
unfolding escape_at
escape_sound mark [] = tt
escape_sound mark (x ∷ bs) = some_cond (is_escape x) _ _ _
    (λ e. record { is = escape_is x e; other = refl; more = omega arith; rest = bs; text = refl; ends = tt })
    (λ e. some_cond (eqb x 0x75) _ _ _
    (λ f. unicode_sound mark x 4 bs (inl (eqb-true x 0x75 f, refl)))
    (λ f. some_cond (eqb x 0x55) _ _ _ (λ g. unicode_sound mark x 8 bs (inr (eqb-true x 0x55 g, refl))) (λ g. tt)))

pub wider : (P Q : StringPiece → Type 0) (mark : ℕ) (bs : List ℕ) → ((q : StringPiece) → P q → Q q) → (o : Option StringPiece) → IfSome o (PieceIs P mark bs) → IfSome o (PieceIs Q mark bs)
wider P Q mark bs f None h = tt
wider P Q mark bs f (Some q) h = record { is = f q h.is; other = h.other; more = h.more; rest = h.rest; text = h.text; ends = h.ends }

pub multi_line_from_basic : (q : StringPiece) → IsBasicPiece q → IsMultiLineBasicPiece q
multi_line_from_basic (Plain b) h = or_left _ _ h
multi_line_from_basic (Escape x) h = h
multi_line_from_basic (UnicodeEscape u digits) h = h
multi_line_from_basic (Newline line) h = absurd h
multi_line_from_basic (Dropped ws line rest) h = absurd h

positive : (n : ℕ) → eqb n 0 ≡ false → 0 < n
positive zero e = absurd cc
positive (suc n) e = omega arith

dropped_is : (mark ws : ℕ) (bs : List ℕ) → ws ≡ run_len is_ws bs → 0 < newline_len (drop ws bs) → PieceIs IsMultiLineBasicPiece mark (0x5C ∷ bs) (dropped ws (newline_len (drop ws bs)) bs)
dropped_is mark ws bs w more =
    let at : List ℕ = drop ws bs in
    let line : ℕ = newline_len at in
    let n : ℕ = spaces_len (drop line at) in
    record {
      is = (rw w (run_piece is_ws bs).1, newline_there at more, spaces_are (drop line at));
      other = refl;
      more = omega arith;
      rest = drop n (drop line at);
      text = ap (λ l. 0x5C ∷ l) (sym (append_assoc (take ws bs) (take line at ++ take n (drop line at)) (drop n (drop line at))
          ∙ (ap (λ l. take ws bs ++ l) (append_assoc (take line at) (take n (drop line at)) (drop n (drop line at)) ∙ (ap (λ l. take line at ++ l) (take-append-drop n (drop line at)) ∙ take-append-drop line at))
          ∙ take-append-drop ws bs)));
      ends = spaces_stop (drop line at);
    }

pub multi_line_escape_sound : (mark : ℕ) (bs : List ℕ) → IfSome (multi_line_escape_at bs) (PieceIs IsMultiLineBasicPiece mark (0x5C ∷ bs))
unfolding multi_line_escape_at
multi_line_escape_sound mark bs = some_cond (eqb (newline_len (drop (run_len is_ws bs) bs)) 0) _ _ _
    (λ e. wider IsBasicPiece IsMultiLineBasicPiece mark (0x5C ∷ bs) multi_line_from_basic (escape_at bs) (escape_sound mark bs))
    (λ e. dropped_is mark (run_len is_ws bs) bs refl (positive _ e))

newline_sound : (P : StringPiece → Type 0) (mark : ℕ) (bs : List ℕ) → ((line : List ℕ) → IsNewline line → P (Newline line)) → IfSome (newline_at (newline_len bs) bs) (PieceIs P mark bs)
newline_sound P mark bs f = some_cond (eqb (newline_len bs) 0) _ _ _
    (λ e. tt)
    (λ e.
    let more : 0 < newline_len bs = positive _ e in
    record {
      is = f (take (newline_len bs) bs) (newline_there bs more);
      other = refl;
      more = omega (arith, length-take-le (newline_len bs) bs (newlines_piece bs).0);
      rest = drop (newline_len bs) bs;
      text = sym (take-append-drop (newline_len bs) bs);
      ends = tt;
    })

-- a byte that stands for itself
plain_is : (P : StringPiece → Type 0) (mark b : ℕ) (bs : List ℕ) → eqb b mark ≡ false → P (Plain b) → PieceIs P mark (b ∷ bs) (Plain b)
plain_is P mark b bs other h = record { is = h; other = other; more = omega arith; rest = bs; text = refl; ends = tt }

-- what stands behind a `\` that is known to be there
at_backslash : (P : StringPiece → Type 0) (mark b : ℕ) (bs : List ℕ) (o : Option StringPiece) → b ≡ 0x5C → IfSome o (PieceIs P mark (0x5C ∷ bs)) → IfSome o (PieceIs P mark (b ∷ bs))
at_backslash P mark b bs o e h = rw e h

pub basic_sound : (bs : List ℕ) → begins (is_byte 0x22) bs ≡ false → IfSome (basic_at bs) (PieceIs IsBasicPiece 0x22 bs)
unfolding basic_at
basic_sound [] other = tt
basic_sound (b ∷ bs) other = some_cond (is_basic b) _ _ _ (λ e. plain_is IsBasicPiece 0x22 b bs other e)
    (λ e. some_cond (eqb b 0x5C) _ _ _ (λ f. at_backslash IsBasicPiece 0x22 b bs (escape_at bs) (eqb-true b 0x5C f) (escape_sound 0x22 bs)) (λ f. tt))

pub literal_sound : (bs : List ℕ) → begins (is_byte 0x27) bs ≡ false → IfSome (literal_at bs) (PieceIs IsLiteralPiece 0x27 bs)
unfolding literal_at
literal_sound [] other = tt
literal_sound (b ∷ bs) other = some_cond (is_literal b) _ _ _ (λ e. plain_is IsLiteralPiece 0x27 b bs other e) (λ e. tt)

pub multi_line_basic_sound : (bs : List ℕ) → begins (is_byte 0x22) bs ≡ false → IfSome (multi_line_basic_at bs) (PieceIs IsMultiLineBasicPiece 0x22 bs)
unfolding multi_line_basic_at
multi_line_basic_sound [] other = tt
multi_line_basic_sound (b ∷ bs) other = some_cond (is_basic b) _ _ _ (λ e. plain_is IsMultiLineBasicPiece 0x22 b bs other (or_left _ _ e))
    (λ e. some_cond (eqb b 0x5C) _ _ _
    (λ f. at_backslash IsMultiLineBasicPiece 0x22 b bs (multi_line_escape_at bs) (eqb-true b 0x5C f) (multi_line_escape_sound 0x22 bs))
    (λ f. newline_sound IsMultiLineBasicPiece 0x22 (b ∷ bs) (λ line h. h)))

pub multi_line_literal_sound : (bs : List ℕ) → begins (is_byte 0x27) bs ≡ false → IfSome (multi_line_literal_at bs) (PieceIs IsMultiLineLiteralPiece 0x27 bs)
unfolding multi_line_literal_at
multi_line_literal_sound [] other = tt
multi_line_literal_sound (b ∷ bs) other = some_cond (is_literal b) _ _ _ (λ e. plain_is IsMultiLineLiteralPiece 0x27 b bs other (or_left _ _ e))
    (λ e. newline_sound IsMultiLineLiteralPiece 0x27 (b ∷ bs) (λ line h. h))

-- what is a piece is found

unicode_found : (u n : ℕ) (digits rest : List ℕ) → length digits ≡ n → Each is_hex digits → IsScalarValue (digits_value 16 digits) → unicode_at u n (digits ++ rest) ≡ Some (UnicodeEscape u digits)
unfolding unicode_at
unicode_found u n digits rest count hex scalar =
    let front : take n (digits ++ rest) ≡ digits = take_at digits rest n count in
    let enough : n ≤ run_len is_hex (digits ++ rest) = run_most is_hex (digits ++ rest) n (omega (arith, length-append digits rest)) (rw front hex) in
    cond-true _ _ _ (and_from _ _ (le-leb n _ enough) (rw front (is_scalar_value-true _ scalar))) ∙ ap (λ l. Some (UnicodeEscape u l)) front

escape_found : (x : ℕ) (rest : List ℕ) → IsEscape x → escape_at (x ∷ rest) ≡ Some (Escape x)
unfolding escape_at
escape_found x rest h = cond-true _ _ _ (is_escape-true x h)

unicode_escape_found : (u : ℕ) (digits rest : List ℕ) → IsUnicodeEscape u digits → escape_at (u ∷ (digits ++ rest)) ≡ Some (UnicodeEscape u digits)
unfolding escape_at
unicode_escape_found u digits rest h = ⊎_elim
    (λ (k : (u ≡ 0x75) × (length digits ≡ 4)). rw k.0 (unicode_found 0x75 4 digits rest k.1 h.1 h.2))
    (λ (k : (u ≡ 0x55) × (length digits ≡ 8)). rw k.0 (unicode_found 0x55 8 digits rest k.1 h.1 h.2))
    h.0

-- a letter behind `\` is neither whitespace nor a newline
letter_stops : (x : ℕ) (bs : List ℕ) → is_ws x ≡ false → eqb x 0x0A ≡ false → eqb x 0x0D ≡ false → multi_line_escape_at (x ∷ bs) ≡ escape_at (x ∷ bs)
unfolding multi_line_escape_at
letter_stops x bs ws lf cr =
    let none : newline_len (x ∷ bs) ≡ 0 = cond-false _ _ _ lf ∙ cond-false _ _ _ (and_left _ _ cr) in
    rw (ws, none) refl

escape_is_letter : (x : ℕ) → IsEscape x → (is_ws x ≡ false) × (eqb x 0x0A ≡ false) × (eqb x 0x0D ≡ false)
escape_is_letter x h = (grind (arith, nat_tests), grind (arith, nat_tests), grind (arith, nat_tests))

unicode_is_letter : (u n : ℕ) → IsUnicodeLetter u n → (is_ws u ≡ false) × (eqb u 0x0A ≡ false) × (eqb u 0x0D ≡ false)
unicode_is_letter u n h = ⊎_elim (λ (k : (u ≡ 0x75) × (n ≡ 4)). rw k.0 (refl, refl, refl)) (λ (k : (u ≡ 0x55) × (n ≡ 8)). rw k.0 (refl, refl, refl)) h

newline_stops_ws : (line rest : List ℕ) → IsNewline line → begins is_ws (line ++ rest) ≡ false
newline_stops_ws line rest h = ⊎_elim (λ (k : line ≡ 0x0A ∷ []). rw k refl) (λ (k : line ≡ 0x0D ∷ 0x0A ∷ []). rw k refl) h

newline_some : (line : List ℕ) → IsNewline line → eqb (length line) 0 ≡ false
newline_some line h = ⊎_elim (λ (k : line ≡ 0x0A ∷ []). rw k refl) (λ (k : line ≡ 0x0D ∷ 0x0A ∷ []). rw k refl) h

dropped_found : (ws line spaces rest : List ℕ) → IsWs ws → IsNewline line → AreSpaces spaces → NoSpace rest → multi_line_escape_at (ws ++ (line ++ (spaces ++ rest))) ≡ Some (Dropped ws line spaces)
unfolding multi_line_escape_at
dropped_found ws line spaces rest h k l stop =
    let at : List ℕ = line ++ (spaces ++ rest) in
    let ws_is : run_len is_ws (ws ++ at) ≡ length ws = run_found is_ws ws at h (newline_stops_ws line (spaces ++ rest) k) in
    let after_ws : drop (length ws) (ws ++ at) ≡ at = drop_at ws at (length ws) refl in
    let line_is : newline_len at ≡ length line = newline_found line (spaces ++ rest) k in
    let after_line : drop (length line) at ≡ spaces ++ rest = drop_at line (spaces ++ rest) (length line) refl in
    let spaces_is : spaces_len (spaces ++ rest) ≡ length spaces = spaces_found spaces rest l stop in
    rw (ws_is, after_ws, line_is) (cond-false _ _ _ (newline_some line k)
    ∙ rw (after_line, spaces_is, take_at ws at (length ws) refl, take_at line (spaces ++ rest) (length line) refl, take_at spaces rest (length spaces) refl) refl)

letter_found : (x : ℕ) (bs : List ℕ) (q : StringPiece) → (is_ws x ≡ false) × (eqb x 0x0A ≡ false) × (eqb x 0x0D ≡ false) → escape_at (x ∷ bs) ≡ Some q → multi_line_escape_at (x ∷ bs) ≡ Some q
letter_found x bs q h e = letter_stops x bs h.0 h.1 h.2 ∙ e

pub basic_found : (q : StringPiece) (rest : List ℕ) → IsBasicPiece q → is_mark 0x22 q ≡ false → Ends q rest → basic_at (piece_text q ++ rest) ≡ Some q
unfolding basic_at
basic_found (Plain b) rest h other ends = cond-true _ _ _ h
basic_found (Escape x) rest h other ends = escape_found x rest h
basic_found (UnicodeEscape u digits) rest h other ends = unicode_escape_found u digits rest h
basic_found (Newline line) rest h other ends = absurd h
basic_found (Dropped ws line spaces) rest h other ends = absurd h

pub literal_found : (q : StringPiece) (rest : List ℕ) → IsLiteralPiece q → is_mark 0x27 q ≡ false → Ends q rest → literal_at (piece_text q ++ rest) ≡ Some q
unfolding literal_at
literal_found (Plain b) rest h other ends = cond-true _ _ _ h
literal_found (Escape x) rest h other ends = absurd h
literal_found (UnicodeEscape u digits) rest h other ends = absurd h
literal_found (Newline line) rest h other ends = absurd h
literal_found (Dropped ws line spaces) rest h other ends = absurd h

not_mark : (s t : Bool) → (s || t) ≡ true → t ≡ false → s ≡ true
not_mark s true h e = absurd cc
not_mark true false h e = refl
not_mark false false h e = absurd cc

pub multi_line_basic_found : (q : StringPiece) (rest : List ℕ) → IsMultiLineBasicPiece q → is_mark 0x22 q ≡ false → Ends q rest → multi_line_basic_at (piece_text q ++ rest) ≡ Some q
unfolding multi_line_basic_at
multi_line_basic_found (Plain b) rest h other ends = cond-true _ _ _ (not_mark _ _ h other)
multi_line_basic_found (Escape x) rest h other ends = letter_found x rest (Escape x) (escape_is_letter x h) (escape_found x rest h)
multi_line_basic_found (UnicodeEscape u digits) rest h other ends = letter_found u (digits ++ rest) (UnicodeEscape u digits) (unicode_is_letter u (length digits) h.0) (unicode_escape_found u digits rest h)
multi_line_basic_found (Newline line) rest h other ends = ⊎_elim (λ (k : line ≡ 0x0A ∷ []). rw k refl) (λ (k : line ≡ 0x0D ∷ 0x0A ∷ []). rw k refl) h
multi_line_basic_found (Dropped ws line spaces) rest h other ends =
    ap multi_line_escape_at (append_assoc ws (line ++ spaces) rest ∙ ap (λ l. ws ++ l) (append_assoc line spaces rest))
    ∙ dropped_found ws line spaces rest h.0 h.1 h.2 ends

pub multi_line_literal_found : (q : StringPiece) (rest : List ℕ) → IsMultiLineLiteralPiece q → is_mark 0x27 q ≡ false → Ends q rest → multi_line_literal_at (piece_text q ++ rest) ≡ Some q
unfolding multi_line_literal_at
multi_line_literal_found (Plain b) rest h other ends = cond-true _ _ _ (not_mark _ _ h other)
multi_line_literal_found (Escape x) rest h other ends = absurd h
multi_line_literal_found (UnicodeEscape u digits) rest h other ends = absurd h
multi_line_literal_found (Newline line) rest h other ends = ⊎_elim (λ (k : line ≡ 0x0A ∷ []). rw k refl) (λ (k : line ≡ 0x0D ∷ 0x0A ∷ []). rw k refl) h
multi_line_literal_found (Dropped ws line spaces) rest h other ends = absurd h

-- what is so in each kind

-- a plain byte is neither LF nor CR, and a newline is one
abbrev pub HasForm : StringPiece → Type 0
HasForm (Plain b) = (eqb b 0x0A ≡ false) × (eqb b 0x0D ≡ false)
HasForm (Newline line) = IsNewline line
HasForm _ = Unit {0}

basic_byte : (b : ℕ) → (is_basic b || b == 0x22) ≡ true → (eqb b 0x0A ≡ false) × (eqb b 0x0D ≡ false)
basic_byte b h = (grind (arith, nat_tests), grind (arith, nat_tests))

literal_byte : (b : ℕ) → (is_literal b || b == 0x27) ≡ true → (eqb b 0x0A ≡ false) × (eqb b 0x0D ≡ false)
literal_byte b h = (grind (arith, nat_tests), grind (arith, nat_tests))

pub multi_line_basic_form : (q : StringPiece) → IsMultiLineBasicPiece q → HasForm q
multi_line_basic_form (Plain b) h = basic_byte b h
multi_line_basic_form (Escape x) h = tt
multi_line_basic_form (UnicodeEscape u digits) h = tt
multi_line_basic_form (Newline line) h = h
multi_line_basic_form (Dropped ws line rest) h = tt

pub multi_line_literal_form : (q : StringPiece) → IsMultiLineLiteralPiece q → HasForm q
multi_line_literal_form (Plain b) h = literal_byte b h
multi_line_literal_form (Newline line) h = h
multi_line_literal_form (Escape x) h = absurd h
multi_line_literal_form (UnicodeEscape u digits) h = absurd h
multi_line_literal_form (Dropped ws line rest) h = absurd h

pub multi_line_from_literal : (q : StringPiece) → IsLiteralPiece q → IsMultiLineLiteralPiece q
multi_line_from_literal (Plain b) h = or_left _ _ h
multi_line_from_literal (Escape x) h = absurd h
multi_line_from_literal (UnicodeEscape u digits) h = absurd h
multi_line_from_literal (Newline line) h = absurd h
multi_line_from_literal (Dropped ws line rest) h = absurd h

pub basic_form : (q : StringPiece) → IsBasicPiece q → HasForm q
basic_form q h = multi_line_basic_form q (multi_line_from_basic q h)

pub literal_form : (q : StringPiece) → IsLiteralPiece q → HasForm q
literal_form q h = multi_line_literal_form q (multi_line_from_literal q h)

-- the bytes `"` and `'` begin no other piece
pub record IsQuote (mark : ℕ) : Type 0 where
  pub backslash : eqb 0x5C mark ≡ false
  pub lf : eqb 0x0A mark ≡ false
  pub cr : eqb 0x0D mark ≡ false
  pub ws : is_ws mark ≡ false
  pub mark_lf : eqb mark 0x0A ≡ false
  pub mark_cr : eqb mark 0x0D ≡ false

pub form_more : (q : StringPiece) → HasForm q → 0 < length (piece_text q)
form_more (Plain b) h = omega arith
form_more (Escape x) h = omega arith
form_more (UnicodeEscape u digits) h = omega arith
form_more (Newline line) h = ⊎_elim (λ (k : line ≡ 0x0A ∷ []). omega (arith, ap length k)) (λ (k : line ≡ 0x0D ∷ 0x0A ∷ []). omega (arith, ap length k)) h
form_more (Dropped ws line rest) h = omega arith

pub form_begins : (mark : ℕ) → IsQuote mark → (q : StringPiece) (rest : List ℕ) → HasForm q → is_mark mark q ≡ false → begins (is_byte mark) (piece_text q ++ rest) ≡ false
form_begins mark m (Plain b) rest h other = other
form_begins mark m (Escape x) rest h other = m.backslash
form_begins mark m (UnicodeEscape u digits) rest h other = m.backslash
form_begins mark m (Newline line) rest h other = ⊎_elim (λ (k : line ≡ 0x0A ∷ []). rw k m.lf) (λ (k : line ≡ 0x0D ∷ 0x0A ∷ []). rw k m.cr) h
form_begins mark m (Dropped ws line spaces) rest h other = m.backslash
