-- What the code that reads values computes.
use Rattle.std.proofs.Common.{◌≡◌, ℕ, zero, suc, ◌+◌, ◌-◌, ◌<◌, ◌≤◌, Bool, true, false, cond, List, [], ◌∷◌, ◌++◌, length, take, drop, get_or, Option, Some, None, sym, refl, ap, ◌∙◌, subst, arith, eqb, ne_eqb, ⊎_elim, ◌⊎◌, inl, append_assoc, length-append, length-drop, IsUtf8, IsCharBoundary}
use Rattle.std.specs.Prelude.{IfSome, option_map, nat_lt, encode_utf8}
use Rattle.std.specs.List.{flat_map}
use Rattle.std.proofs.lemmas.Bool.{cond-false, eqb-true, ltb-true, not-false}
use Rattle.std.proofs.lemmas.Bool.Decides.{nat_tests}
use Rattle.std.proofs.lemmas.List.{append-nil, drop_at, drop_all, drop-drop, drop_more, take_rest, get_or_append_left, get_or-drop}
use Rattle.std.proofs.lemmas.Str.{encode_ascii, IsUtf8-drop, IsCharBoundary-after_ascii, IsCharBoundary-from_rest}
use Rattle.std.proofs.iter.AsciiBoundary.{after_IsAscii, before_ascii}
use Rattle.toml_text.specs.Bytes.{is_ws, is_hex, is_basic}
use Rattle.toml_text.specs.Forms.{Each, IsNewline}
use Rattle.toml_text.specs.Runs.{run_len, newline_len}
use Rattle.toml_text.proofs.Proved.{run_piece, run_stop}
use Rattle.toml_scalar.specs.Strings.{StringPiece, Plain, Escape, UnicodeEscape, Newline, Dropped, piece_text, pieces_text, piece_means, escaped, EachPiece, AreSpaces, IsEscape, IsBasicPiece, IsMultiLineBasicPiece, Stops, LongestDropped}
use Rattle.toml_scalar.specs.StringRuns.{escape_at, multi_line_escape_at, multi_line_basic_at, dropped, dropped_len, spaces_len}
use Rattle.toml_scalar.specs.StringScan.{behind_len, escape_value, escaped_char}
use Rattle.toml_scalar.specs.StringValues.{Unescapes, Unescaped, EndsAscii, is_verbatim}
use Rattle.toml_scalar.specs.declared.strings.escapes.EscapedChar.{EscapedChar}
use Rattle.toml_scalar.proofs.StringSpaces.{NoSpace}
use Rattle.toml_scalar.proofs.StringPieces.{is_mark, Ends, PieceIs, HasForm, form_more, multi_line_basic_form, multi_line_basic_found, escape_sound, multi_line_escape_sound, multi_line_from_basic, wider}
use Rattle.toml_scalar.proofs.StringContent.{byte_no_space, dropped_tail}
use Rattle.toml_scalar.proofs.StringEscapes.{not_dropped, is_dropped}

-- the last byte of what stands behind a `\` is ASCII

abbrev pub is_ascii : ℕ → Bool
is_ascii b = nat_lt b 128

each_other : (p q : ℕ → Bool) (bs : List ℕ) → ((b : ℕ) → p b ≡ true → q b ≡ true) → Each p bs → Each q bs
each_other p q [] f h = tt
each_other p q (b ∷ bs) f h = (f b h.0, each_other p q bs f h.1)

pub each_append : (p : ℕ → Bool) (xs ys : List ℕ) → Each p xs → Each p ys → Each p (xs ++ ys)
each_append p [] ys h k = k
each_append p (x ∷ xs) ys h k = (h.0, each_append p xs ys h.1 k)

ws_ascii : (b : ℕ) → is_ws b ≡ true → is_ascii b ≡ true
ws_ascii b h = grind (arith, nat_tests)

hex_ascii : (b : ℕ) → is_hex b ≡ true → is_ascii b ≡ true
hex_ascii b h = grind (arith, nat_tests)

escape_ascii : (x : ℕ) → IsEscape x → is_ascii x ≡ true
escape_ascii x h = grind (arith, nat_tests)

letter_ascii : (u n : ℕ) → ((u ≡ 0x75) × (n ≡ 4)) ⊎ ((u ≡ 0x55) × (n ≡ 8)) → is_ascii u ≡ true
letter_ascii u n h = ⊎_elim (λ (k : (u ≡ 0x75) × (n ≡ 4)). rw k.0 refl) (λ (k : (u ≡ 0x55) × (n ≡ 8)). rw k.0 refl) h

pub line_ascii : (line : List ℕ) → IsNewline line → Each is_ascii line
line_ascii line h = ⊎_elim (λ (k : line ≡ 0x0A ∷ []). rw k (refl, tt)) (λ (k : line ≡ 0x0D ∷ 0x0A ∷ []). rw k (refl, (refl, tt))) h

spaces_ascii : (bs : List ℕ) → AreSpaces bs → Each is_ascii bs
spaces_ascii [] h = tt
spaces_ascii (b ∷ bs) h = ⊎_elim
    (λ (k : (is_ws b ≡ true) × AreSpaces bs). (ws_ascii b k.0, spaces_ascii bs k.1))
    (⊎_elim
    (λ (k : (b ≡ 0x0A) × AreSpaces bs). (ap is_ascii k.0, spaces_ascii bs k.1))
    (λ (k : (b ≡ 0x0D) × ((r : List ℕ) × (bs ≡ 0x0A ∷ r)) × AreSpaces bs). (ap is_ascii k.0, spaces_ascii bs k.2)))
    h

piece_ascii : (q : StringPiece) (bs rest : List ℕ) → IsMultiLineBasicPiece q → 0x5C ∷ bs ≡ piece_text q ++ rest → Each is_ascii (piece_text q)
piece_ascii (Plain b) bs rest h text = let first : 0x5C ≡ b = cc in (ap is_ascii (sym first), tt)
piece_ascii (Escape x) bs rest h text = (refl, (escape_ascii x h, tt))
piece_ascii (UnicodeEscape u digits) bs rest h text = (refl, (letter_ascii u (length digits) h.0, each_other is_hex is_ascii digits hex_ascii h.1))
piece_ascii (Newline line) bs rest h text = line_ascii line h
piece_ascii (Dropped ws line spaces) bs rest h text = (refl, each_append is_ascii ws (line ++ spaces) (each_other is_ws is_ascii ws ws_ascii h.0) (each_append is_ascii line spaces (line_ascii line h.1) (spaces_ascii spaces h.2)))

pub each_at : (p : ℕ → Bool) (bs : List ℕ) (i : ℕ) → Each p bs → i < length bs → p (get_or bs i 0) ≡ true
each_at p [] i h l = absurd (omega arith)
each_at p (b ∷ bs) zero h l = h.0
each_at p (b ∷ bs) (suc i) h l = each_at p bs i h.1 (omega arith)

pub ends_ascii : (bs : List ℕ) (q : StringPiece) (n : ℕ) → PieceIs IsMultiLineBasicPiece 0x22 (0x5C ∷ bs) q → n ≡ behind_len q → EndsAscii bs n
ends_ascii bs q zero p e some = absurd (omega arith)
ends_ascii bs q (suc n) p e some =
    let within : suc n < length (piece_text q) = omega arith in
    let here : get_or (0x5C ∷ bs) (suc n) 0 ≡ get_or (piece_text q) (suc n) 0 = ap (λ l. get_or l (suc n) 0) p.text ∙ get_or_append_left (piece_text q) p.rest 0 (suc n) within in
    let small : get_or (piece_text q) (suc n) 0 < 128 = ltb-true _ 128 (each_at is_ascii (piece_text q) (suc n) (piece_ascii q bs p.rest p.is p.text) within) in
    let count : suc n - 1 ≡ n = omega arith in
    rw count (omega arith)

-- the piece that is found behind a `\`

some_is : (o : Option StringPiece) (n : ℕ) → Some n ≡ option_map behind_len o → (q : StringPiece) × (o ≡ Some q) × (n ≡ behind_len q)
some_is None n h = absurd cc
some_is (Some q) n h = let e : n ≡ behind_len q = cc in (q, refl, e)

pub dropped_ascii : (bs : List ℕ) (n : ℕ) → n ≡ dropped_len bs → 0 < n → EndsAscii bs n
dropped_ascii bs n e some =
    let k = some_is (multi_line_escape_at bs) n (is_dropped bs n e some) in
    ends_ascii bs k.0 n (subst (λ o. IfSome o (PieceIs IsMultiLineBasicPiece 0x22 (0x5C ∷ bs))) k.1 (multi_line_escape_sound 0x22 bs)) k.2

char_is : (o : Option StringPiece) (e : EscapedChar) → Some e ≡ option_map escaped_char o → (q : StringPiece) × (o ≡ Some q) × (e ≡ escaped_char q)
char_is None e h = absurd cc
char_is (Some q) e h = let k : e ≡ escaped_char q = cc in (q, refl, k)

escape_piece : (bs : List ℕ) (q : StringPiece) → escape_at bs ≡ Some q → PieceIs IsBasicPiece 0x22 (0x5C ∷ bs) q
escape_piece bs q e = subst (λ o. IfSome o (PieceIs IsBasicPiece 0x22 (0x5C ∷ bs))) e (escape_sound 0x22 bs)

pub escape_ends_ascii : (bs : List ℕ) (e : EscapedChar) → Some e ≡ option_map escaped_char (escape_at bs) → EndsAscii bs e.len
escape_ends_ascii bs e h =
    let k = char_is (escape_at bs) e h in
    ends_ascii bs k.0 e.len (wider IsBasicPiece IsMultiLineBasicPiece 0x22 (0x5C ∷ bs) multi_line_from_basic (Some k.0) (escape_piece bs k.0 k.1)) (ap (λ (x : EscapedChar). x.len) k.2)

-- what it means

escaped_small : (x : ℕ) → IsEscape x → escaped x < 128
escaped_small x h = grind (arith, nat_tests)

escape_means : (q : StringPiece) (bs rest : List ℕ) → IsBasicPiece q → 0x5C ∷ bs ≡ piece_text q ++ rest → piece_means q ≡ encode_utf8 (escape_value q)
escape_means (Plain b) bs rest h text = let first : 0x5C ≡ b = cc in absurd (let no_basic : is_basic b ≡ false = ap is_basic (sym first) in cc)
escape_means (Escape x) bs rest h text = sym (encode_ascii (escaped x) (escaped_small x h))
escape_means (UnicodeEscape u digits) bs rest h text = refl
escape_means (Newline line) bs rest h text = absurd h
escape_means (Dropped ws line spaces) bs rest h text = absurd h

dropped_means : (bs : List ℕ) (q : StringPiece) → 0 < dropped_len bs → multi_line_escape_at bs ≡ Some q → piece_means q ≡ []
unfolding multi_line_escape_at
dropped_means bs q some e = cases (newline_len (drop (run_len is_ws bs) bs)) some e
  where
    cases : (line : ℕ) → 0 < cond (eqb line 0) 0 (run_len is_ws bs + line + spaces_len (drop line (drop (run_len is_ws bs) bs))) → cond (eqb line 0) (escape_at bs) (Some (dropped (run_len is_ws bs) line bs)) ≡ Some q → piece_means q ≡ []
    cases zero some e = absurd (omega arith)
    cases (suc line) some e =
        let no_zero : eqb (suc line) 0 ≡ false = ne_eqb (suc line) 0 (λ z. omega arith) in
        let found : Some (dropped (run_len is_ws bs) (suc line) bs) ≡ Some q = sym (cond-false _ _ _ no_zero) ∙ e in
        let is : dropped (run_len is_ws bs) (suc line) bs ≡ q = cc in
        ap piece_means (sym is)

-- content, by its first piece

stops_no_space : (qs : List StringPiece) → EachPiece IsMultiLineBasicPiece qs → Stops qs → NoSpace (pieces_text qs)
stops_no_space [] h s = (refl, refl)
stops_no_space (Plain b ∷ qs) h s = let f : HasForm (Plain b) = multi_line_basic_form (Plain b) h.0 in byte_no_space b (pieces_text qs) s f.0 f.1
stops_no_space (Newline line ∷ qs) h s = absurd s
stops_no_space (Escape x ∷ qs) h s = (refl, refl)
stops_no_space (UnicodeEscape u digits ∷ qs) h s = (refl, refl)
stops_no_space (Dropped ws line spaces ∷ qs) h s = (refl, refl)

ends_of : (q : StringPiece) (qs : List StringPiece) → EachPiece IsMultiLineBasicPiece qs → LongestDropped (q ∷ qs) → Ends q (pieces_text qs)
ends_of (Dropped ws line spaces) qs h l = stops_no_space qs h l.0
ends_of (Plain b) qs h l = tt
ends_of (Escape x) qs h l = tt
ends_of (UnicodeEscape u digits) qs h l = tt
ends_of (Newline line) qs h l = tt

backslash_no_mark : (q : StringPiece) (bs rest : List ℕ) → 0x5C ∷ bs ≡ piece_text q ++ rest → is_mark 0x22 q ≡ false
backslash_no_mark (Plain b) bs rest text = let first : 0x5C ≡ b = cc in ap (λ x. eqb x 0x22) (sym first)
backslash_no_mark (Escape x) bs rest text = refl
backslash_no_mark (UnicodeEscape u digits) bs rest text = refl
backslash_no_mark (Newline line) bs rest text = refl
backslash_no_mark (Dropped ws line spaces) bs rest text = refl

-- the piece behind a `\`, and what the rest means
record Behind (bs value : List ℕ) : Type 0 where
  q : StringPiece
  found : multi_line_escape_at bs ≡ Some q
  rest : List ℕ
  left : Unescapes (drop (behind_len q) bs) rest
  value_is : value ≡ piece_means q ++ rest

found_backslash : (bs : List ℕ) (o : Option StringPiece) → multi_line_basic_at (0x5C ∷ bs) ≡ o → multi_line_escape_at bs ≡ o
unfolding multi_line_basic_at
found_backslash bs o e = e

behind_backslash : (bs value : List ℕ) → Unescapes (0x5C ∷ bs) value → Behind bs value
behind_backslash bs value u = cases u.0 u.1 u.2 u.3 u.4
  where
    cases : (ps : List StringPiece) → EachPiece IsMultiLineBasicPiece ps → LongestDropped ps → 0x5C ∷ bs ≡ pieces_text ps → value ≡ flat_map piece_means ps → Behind bs value
    cases [] h l text means = absurd cc
    cases (q ∷ qs) h l text means =
        let some : suc (behind_len q) ≡ length (piece_text q) = omega (arith, form_more q (multi_line_basic_form q h.0)) in
        let left : drop (behind_len q) bs ≡ pieces_text qs = ap (λ n. drop n (0x5C ∷ bs)) some ∙ (ap (drop (length (piece_text q))) text ∙ drop_at (piece_text q) (pieces_text qs) (length (piece_text q)) refl) in
        record {
          q = q;
          found = found_backslash bs (Some q) (ap multi_line_basic_at text ∙ multi_line_basic_found q (pieces_text qs) h.0 (backslash_no_mark q bs (pieces_text qs) text) (ends_of q qs h.1 l));
          rest = flat_map piece_means qs;
          left = (qs, h.1, dropped_tail q qs l, left, refl);
          value_is = means;
        }

-- what the code writes

pub dropped_unescaped : (bs old : List ℕ) (n : ℕ) → n ≡ dropped_len bs → 0 < n → Unescaped bs old old n
dropped_unescaped bs old n e some value u =
    let b = behind_backslash bs value u in
    let count : Some n ≡ Some (behind_len b.q) = is_dropped bs n e some ∙ ap (option_map behind_len) b.found in
    let same : n ≡ behind_len b.q = cc in
    let none : piece_means b.q ≡ [] = dropped_means bs b.q (omega arith) b.found in
    (b.rest, subst (λ m. Unescapes (drop m bs) b.rest) (sym same) b.left, ap (λ l. old ++ l) (b.value_is ∙ ap (λ l. l ++ b.rest) none))

pub escape_unescaped : (bs old new : List ℕ) (e : EscapedChar) → dropped_len bs ≡ 0 → Some e ≡ option_map escaped_char (escape_at bs) → new ≡ old ++ encode_utf8 e.value → Unescaped bs old new e.len
escape_unescaped bs old new e none h new_is value u =
    let b = behind_backslash bs value u in
    let found : escape_at bs ≡ Some b.q = sym (not_dropped bs none) ∙ b.found in
    let char : Some e ≡ Some (escaped_char b.q) = h ∙ ap (option_map escaped_char) found in
    let same : e ≡ escaped_char b.q = cc in
    let p = escape_piece bs b.q found in
    let means : piece_means b.q ≡ encode_utf8 e.value = escape_means b.q bs p.rest p.is p.text ∙ ap (λ (x : EscapedChar). encode_utf8 x.value) (sym same) in (
      b.rest,
      subst (λ (x : EscapedChar). Unescapes (drop x.len bs) b.rest) (sym same) b.left,
      ap (λ l. old ++ l) (b.value_is ∙ ap (λ l. l ++ b.rest) means) ∙ (sym (append_assoc old (encode_utf8 e.value) b.rest) ∙ ap (λ l. l ++ b.rest) (sym new_is)),
    )

pub no_escape_unescaped : (bs old : List ℕ) (n : ℕ) → dropped_len bs ≡ 0 → None ≡ option_map escaped_char (escape_at bs) → Unescaped bs old old n
no_escape_unescaped bs old n none h value u =
    let b = behind_backslash bs value u in
    let found : escape_at bs ≡ Some b.q = sym (not_dropped bs none) ∙ b.found in
    let char : ◌≡◌ {A = Option EscapedChar} None (Some (escaped_char b.q)) = h ∙ ap (option_map escaped_char) found in
    absurd cc

-- the loop over content

-- What the content from a place on means stands behind what was written.
abbrev pub Rest : List ℕ → List ℕ → ℕ → Type 0
Rest content old from = (total : List ℕ) → Unescapes content total → (value : List ℕ) × Unescapes (drop from content) value × (total ≡ old ++ value)

pub rest_start : (content old : List ℕ) → old ≡ [] → Rest content old 0
rest_start content old e total u = (total, u, ap (λ l. l ++ total) (sym e))

-- the means of pieces behind some bytes that stand for themselves
abbrev Verbatim : ℕ → List StringPiece → Type 0
Verbatim n ps = n ≤ run_len is_verbatim (pieces_text ps) → EachPiece IsMultiLineBasicPiece ps → LongestDropped ps → (value : List ℕ) × Unescapes (drop n (pieces_text ps)) value × (flat_map piece_means ps ≡ take n (pieces_text ps) ++ value)

run_first : (t : Bool) (r n : ℕ) → suc n ≤ cond t (r + 1) 0 → n ≤ r
run_first true r n h = omega arith
run_first false r n h = absurd (omega arith)

-- one byte that stands for itself, in front of others
verbatim_byte : (n b : ℕ) (p : StringPiece) (qs : List StringPiece) → piece_text p ≡ b ∷ [] → piece_means p ≡ b ∷ [] → Verbatim n qs → suc n ≤ run_len is_verbatim (pieces_text (p ∷ qs)) → EachPiece IsMultiLineBasicPiece qs → LongestDropped qs → (value : List ℕ) × Unescapes (drop (suc n) (pieces_text (p ∷ qs))) value × (flat_map piece_means (p ∷ qs) ≡ take (suc n) (pieces_text (p ∷ qs)) ++ value)
verbatim_byte n b p qs text means rest h each longest =
    let k : n ≤ run_len is_verbatim (pieces_text qs) = run_first (is_verbatim b) _ n (subst (λ l. suc n ≤ run_len is_verbatim (l ++ pieces_text qs)) text h) in
    let r = rest k each longest in
    rw (text, means) (r.0, r.1, ap (λ l. b ∷ l) r.2)

verbatim_crlf : (n : ℕ) (qs : List StringPiece) → Verbatim (n - 1) qs → Verbatim (suc n) (Newline (0x0D ∷ 0x0A ∷ []) ∷ qs)
verbatim_crlf zero qs rest h each longest = (0x0A ∷ flat_map piece_means qs, (Newline (0x0A ∷ []) ∷ qs, (inl refl, each.1), longest, refl, refl), refl)
verbatim_crlf (suc n) qs rest h each longest =
    let count : suc n - 1 ≡ n = omega arith in
    let more : n ≤ run_len is_verbatim (pieces_text qs) = omega arith in
    let r = (rw count at rest) more each.1 longest in
    (r.0, r.1, ap (λ l. 0x0D ∷ 0x0A ∷ l) r.2)

verbatim : (n : ℕ) (ps : List StringPiece) → Verbatim n ps
verbatim zero ps h each longest = (flat_map piece_means ps, (ps, each, longest, refl, refl), refl)
verbatim (suc n) [] h each longest = absurd (omega arith)
verbatim (suc n) (Plain b ∷ qs) h each longest = verbatim_byte n b (Plain b) qs refl refl (verbatim n qs) h each.1 longest
verbatim (suc n) (Escape x ∷ qs) h each longest = absurd (omega arith)
verbatim (suc n) (UnicodeEscape u digits ∷ qs) h each longest = absurd (omega arith)
verbatim (suc n) (Dropped ws line spaces ∷ qs) h each longest = absurd (omega arith)
verbatim (suc n) (Newline line ∷ qs) h each longest = ⊎_elim
    (λ (k : line ≡ 0x0A ∷ []). verbatim_byte n 0x0A (Newline line) qs k k (verbatim n qs) h each.1 longest)
    (λ (k : line ≡ 0x0D ∷ 0x0A ∷ []). subst (λ l. Verbatim (suc n) (Newline l ∷ qs)) (sym k) (verbatim_crlf n qs (verbatim (n - 1) qs)) h each longest)
    each.0

verbatim_of : (bs value : List ℕ) (n : ℕ) → n ≡ run_len is_verbatim bs → Unescapes bs value → (rest : List ℕ) × Unescapes (drop n bs) rest × (value ≡ take n bs ++ rest)
verbatim_of bs value n e u =
    let few : n ≤ run_len is_verbatim (pieces_text u.0) = omega (arith, ap (run_len is_verbatim) u.3) in
    let r = verbatim n u.0 few u.1 u.2 in
    (r.0, subst (λ l. Unescapes (drop n l) r.0) (sym u.3) r.1, u.4 ∙ (r.2 ∙ ap (λ l. take n l ++ r.0) (sym u.3)))

module _ (content old : List ℕ) where
  pub rest_verbatim : (from n : ℕ) (new : List ℕ) → n ≡ run_len is_verbatim (drop from content) → new ≡ old ++ take n (drop from content) → Rest content old from → Rest content new (from + n)
  rest_verbatim from n new e new_is r total u =
      let k = r total u in
      let v = verbatim_of (drop from content) k.0 n e k.1 in (
        v.0,
        subst (λ l. Unescapes l v.0) (drop-drop n from content) v.1,
        k.2 ∙ (ap (λ l. old ++ l) v.2 ∙ (sym (append_assoc old (take n (drop from content)) v.0) ∙ ap (λ l. l ++ v.0) (sym new_is))),
      )

  pub rest_escape : (at n : ℕ) (new : List ℕ) → at < length content → get_or content at 0 ≡ 0x5C → Unescaped (drop (at + 1) content) old new n → Rest content old at → Rest content new (at + 1 + n)
  rest_escape at n new within is step r total u =
      let k = r total u in
      let front : drop at content ≡ 0x5C ∷ drop (at + 1) content = drop_more content at 0 within ∙ ap (λ b. b ∷ drop (at + 1) content) is in
      let s = step k.0 (subst (λ l. Unescapes l k.0) front k.1) in
      (s.0, subst (λ l. Unescapes l s.0) (drop-drop n (at + 1) content) s.1, k.2 ∙ s.2)

  pub rest_end : (at : ℕ) → length content ≤ at → Rest content old at → (total : List ℕ) → Unescapes content total → old ≡ total
  rest_end at past r total u =
      let k = r total u in
      let none : k.0 ≡ [] = no_value k.0 (subst (λ l. Unescapes l k.0) (drop_all at content past) k.1) in
      sym (k.2 ∙ (ap (λ l. old ++ l) none ∙ append-nil old))
    where
      no_value : (value : List ℕ) → Unescapes [] value → value ≡ []
      no_value value u = cases u.0 u.1 u.3 u.4
        where
          cases : (ps : List StringPiece) → EachPiece IsMultiLineBasicPiece ps → [] ≡ pieces_text ps → value ≡ flat_map piece_means ps → value ≡ []
          cases [] h text means = means
          cases (q ∷ qs) h text means = absurd (omega (arith, ap length text, length-append (piece_text q) (pieces_text qs), form_more q (multi_line_basic_form q h.0)))

-- where the content is cut

pub backslash_at : (content : List ℕ) (from n : ℕ) → n ≡ run_len is_verbatim (drop from content) → from + n < length content → get_or content (from + n) 0 ≡ 0x5C
backslash_at content from n e within =
    let left : length (drop from content) ≡ length content - from = length-drop from content in
    let more : run_len is_verbatim (drop from content) < length (drop from content) = omega arith in
    let stop : is_verbatim (get_or (drop from content) n 0) ≡ false = subst (λ m. is_verbatim (get_or (drop from content) m 0) ≡ false) (sym e) (run_stop is_verbatim (drop from content) more) in
    sym (get_or-drop from content n 0) ∙ eqb-true (get_or (drop from content) n 0) 0x5C (not-false _ stop)

pub bound_next : (content : List ℕ) (at n : ℕ) → IsUtf8 content → at < length content → get_or content at 0 ≡ 0x5C → n ≤ length (drop (at + 1) content) → EndsAscii (drop (at + 1) content) n → IsCharBoundary content (at + 1 + n)
bound_next content at n utf8 within is few ascii =
    let after : IsCharBoundary content (at + 1) = IsCharBoundary-after_ascii content at utf8 within (omega arith) in
    IsCharBoundary-from_rest content (at + 1) n after.0 (after_IsAscii (drop (at + 1) content) n (IsUtf8-drop content (at + 1) utf8 after) few ascii)

pub bound_before : (content : List ℕ) (from n : ℕ) → n ≡ run_len is_verbatim (drop from content) → from ≤ length content → IsCharBoundary content (from + n)
bound_before content from n e within =
    let left : length (drop from content) ≡ length content - from = length-drop from content in
    before_ascii content (from + n) (omega (arith, (run_piece is_verbatim (drop from content)).0)) (λ l. omega (arith, backslash_at content from n e l))

-- the same by the slices that the code takes

abbrev tail_of : ℕ → List ℕ → List ℕ
tail_of n bs = take (length bs - n) (drop n bs)

module _ (content bytes : List ℕ) (bytes_are : bytes ≡ content) where
  tail_is : (n : ℕ) → tail_of n bytes ≡ drop n content
  tail_is n = take_rest bytes n ∙ ap (drop n) bytes_are

  run_is : (from n : ℕ) → n ≡ run_len is_verbatim (tail_of from bytes) → n ≡ run_len is_verbatim (drop from content)
  run_is from n e = e ∙ ap (run_len is_verbatim) (tail_is from)

  pub cut_before : (from n : ℕ) → n ≡ run_len is_verbatim (tail_of from bytes) → from ≤ length content → IsCharBoundary content (from + n)
  cut_before from n e within = bound_before content from n (run_is from n e) within

  pub pushed : (old new piece : List ℕ) (from n : ℕ) → n ≡ run_len is_verbatim (tail_of from bytes) → piece ≡ take (from + n - from) (drop from content) → new ≡ old ++ piece → Rest content old from → Rest content new (from + n)
  pushed old new piece from n e piece_is new_is r =
      let count : from + n - from ≡ n = omega arith in
      rest_verbatim content old from n new (run_is from n e) (new_is ∙ ap (λ l. old ++ l) (piece_is ∙ ap (λ m. take m (drop from content)) count)) r

  pub escape_pushed : (old new : List ℕ) (from m n : ℕ) → m ≡ run_len is_verbatim (tail_of from bytes) → from + m < length content → Unescaped (tail_of (from + m + 1) bytes) old new n → Rest content old (from + m) → Rest content new (from + m + 1 + n)
  escape_pushed old new from m n e within step r =
      rest_escape content old (from + m) n new within (backslash_at content from m (run_is from m e) within) (subst (λ l. Unescaped l old new n) (tail_is (from + m + 1)) step) r

  pub cut_behind : (from m n : ℕ) → IsUtf8 content → m ≡ run_len is_verbatim (tail_of from bytes) → from + m < length content → n ≤ length (tail_of (from + m + 1) bytes) → EndsAscii (tail_of (from + m + 1) bytes) n → IsCharBoundary content (from + m + 1 + n)
  cut_behind from m n utf8 e within few ascii =
      bound_next content (from + m) n utf8 within (backslash_at content from m (run_is from m e) within) (subst (λ l. n ≤ length l) (tail_is (from + m + 1)) few) (subst (λ l. EndsAscii l n) (tail_is (from + m + 1)) ascii)
