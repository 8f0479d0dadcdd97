-- The plain scan of a key part finds just the key parts.
use Rattle.std.proofs.Common.{◌≡◌, ℕ, ◌+◌, ◌<◌, ◌≤◌, Bool, true, false, cond, List, [], ◌∷◌, ◌++◌, length, take, drop, replicate, Option, Some, None, option_map, inl, inr, ⊎_elim, refl, sym, ap, ◌∙◌, subst, arith, add-one, append_assoc, length-append}
use Rattle.std.specs.Prelude.{IfSome}
use Rattle.std.proofs.lemmas.Bool.{false≢true, eqb-true, cond-true, or_parts}
use Rattle.std.proofs.lemmas.Bool.Decides.{nat_tests}
use Rattle.std.proofs.lemmas.List.{append-nil}
use Rattle.std.proofs.lemmas.Option.{none-some, same_Some}
use Rattle.std.proofs.Math.Seq.{take-append_seam}
use Rattle.toml_text.specs.Bytes.{is_bare}
use Rattle.toml_text.specs.Forms.{Each}
use Rattle.toml_text.specs.Runs.{run_len, begins, is_byte}
use Rattle.toml_text.proofs.Proved.{run_piece, run_found}
use Rattle.toml_scalar.specs.Names.{IsBareKey, IsKeyPart}
use Rattle.toml_scalar.specs.ScanLaws.{PartBegins}
use Rattle.toml_scalar.specs.Scanning.{key_part_len, one_line_len, is_key_start}
use Rattle.toml_scalar.specs.Strings.{StringPiece, IsContent, MeansString, quote_of, pieces_text, string_text}
use Rattle.toml_scalar.specs.declared.strings.kind.StringKind.{StringKind}
use Rattle.toml_scalar.specs.declared.strings.kind.StringKind.TheVariants.{Basic, Literal}
use Rattle.toml_scalar.specs.StringRuns.{StringToken, token_of, token_len, marks_len, step_of, first_len, pieces_from}
use Rattle.toml_scalar.proofs.Digits.{either}
use Rattle.toml_scalar.proofs.ScanSound.{option_map_some}
use Rattle.toml_scalar.proofs.StringTokens.{TokenIs, token, token_sound, token_found}

-- the marks that close a string
abbrev pub closing : StringKind → List ℕ
closing kind = replicate (marks_len kind) (quote_of kind)

-- what a one-line string at the front is
record OneLine (kind : StringKind) (bs : List ℕ) (n : ℕ) : Type 0 where
  text : List ℕ
  rest : List ℕ
  name : List ℕ
  is : bs ≡ text ++ rest
  means : MeansString kind text name
  len : length text ≡ n

one_line : (kind : StringKind) (rest : List ℕ) (n : ℕ) → option_map token_len (token_of kind rest) ≡ Some n → OneLine kind (replicate (marks_len kind) (quote_of kind) ++ rest) n
one_line kind rest n h =
    let s = option_map_some token_len (token_of kind rest) n h in
    let m = first_len kind rest in
    let ps = option_map_some (λ (qs : List StringPiece). record { kind = kind; first = take m rest; pieces = qs }) (pieces_from (step_of kind) 0 (drop m rest)) s.0 s.1 in
    let found : TokenIs (replicate (marks_len kind) (quote_of kind) ++ rest) (record { kind = kind; first = take m rest; pieces = ps.0 }) =
    subst (λ (o : Option StringToken). IfSome o (TokenIs (replicate (marks_len kind) (quote_of kind) ++ rest))) (s.1 ∙ ap Some (sym ps.2)) (token_sound kind rest) in
    record {
      text = string_text kind (take m rest) ps.0;
      rest = found.1.0;
      name = _;
      is = found.1.1;
      means = (take m rest, ps.0, found.0, refl, refl);
      len = ap token_len ps.2 ∙ s.2;
    }

one_line_part : (kind : StringKind) (bs : List ℕ) (n : ℕ) → ((text name : List ℕ) → MeansString kind text name → IsKeyPart text × (0 < length text)) → OneLine kind bs n → (n ≤ length bs) × (0 < n) × IsKeyPart (take n bs)
one_line_part kind bs n part line =
    let k = part line.text line.name line.means in
    let whole : take n bs ≡ line.text = (λ i. take (sym line.len i) (line.is i)) ∙ take-append_seam line.text line.rest in
    (omega (arith, line.len, ap length line.is, length-append line.text line.rest), omega (arith, line.len, k.1), subst IsKeyPart (sym whole) k.0)

basic_part : (text name : List ℕ) → MeansString Basic text name → IsKeyPart text × (0 < length text)
basic_part text name (first, ps, content, is, value) = ((name, inr (inl (first, ps, content, is, value))), omega (arith, ap length is))

literal_part : (text name : List ℕ) → MeansString Literal text name → IsKeyPart text × (0 < length text)
literal_part text name (first, ps, content, is, value) = ((name, inr (inr (first, ps, content, is, value))), omega (arith, ap length is))

begins_is : (b : ℕ) (bs : List ℕ) → begins (is_byte b) bs ≡ true → bs ≡ b ∷ drop 1 bs
begins_is b [] h = absurd (false≢true h)
begins_is b (c ∷ bs) h = rw (eqb-true c b h) refl

bare_part : (bs : List ℕ) → begins is_bare bs ≡ true → (0 < run_len is_bare bs) × IsKeyPart (take (run_len is_bare bs) bs)
bare_part [] h = absurd (false≢true h)
bare_part (b ∷ bs) h =
    let len : run_len is_bare (b ∷ bs) ≡ run_len is_bare bs + 1 = cond-true _ _ _ h in
    let form : IsBareKey (take (run_len is_bare bs + 1) (b ∷ bs)) = rw add-one (h, (run_piece is_bare bs).1) in
    (omega (arith, len), subst (λ (n : ℕ). IsKeyPart (take n (b ∷ bs))) (sym len) (_, inl (form, refl)))

pub part_sound : (bs : List ℕ) (n : ℕ) → key_part_len bs ≡ Some n → (n ≤ length bs) × (0 < n) × IsKeyPart (take n bs)
unfolding key_part_len
part_sound bs n h = ⊎_elim
    (λ (bare : (begins is_bare bs ≡ true) × (Some (run_len is_bare bs) ≡ Some n)).
    let part = bare_part bs bare.0 in
    subst (λ (m : ℕ). (m ≤ length bs) × (0 < m) × IsKeyPart (take m bs)) (same_Some _ _ bare.1) ((run_piece is_bare bs).0, part.0, part.1))
    (λ (not_bare : (begins is_bare bs ≡ false) × (cond (begins (is_byte 0x22) bs) (one_line_len Basic bs) (cond (begins (is_byte 0x27) bs) (one_line_len Literal bs) None) ≡ Some n)). ⊎_elim
    (λ (basic : (begins (is_byte 0x22) bs ≡ true) × (one_line_len Basic bs ≡ Some n)). one_line_part Basic bs n basic_part (subst (λ (xs : List ℕ). OneLine Basic xs n) (sym (begins_is 0x22 bs basic.0)) (one_line Basic (drop 1 bs) n basic.1)))
    (λ (not_basic : (begins (is_byte 0x22) bs ≡ false) × (cond (begins (is_byte 0x27) bs) (one_line_len Literal bs) None ≡ Some n)). ⊎_elim
    (λ (literal : (begins (is_byte 0x27) bs ≡ true) × (one_line_len Literal bs ≡ Some n)). one_line_part Literal bs n literal_part (subst (λ (xs : List ℕ). OneLine Literal xs n) (sym (begins_is 0x27 bs literal.0)) (one_line Literal (drop 1 bs) n literal.1)))
    (λ (none : (begins (is_byte 0x27) bs ≡ false) × (None ≡ Some n)). absurd (none-some n none.1))
    (either (begins (is_byte 0x27) bs) _ _ _ not_basic.1))
    (either (begins (is_byte 0x22) bs) _ _ _ not_bare.1))
    (either (begins is_bare bs) _ _ _ h)

-- found again, where neither a bare key's byte nor a mark follows
pub each_bare : (bs : List ℕ) → IsBareKey bs → Each is_bare bs
each_bare [] h = absurd h
each_bare (b ∷ bs) h = h

pub bare_begins : (bs rest : List ℕ) → IsBareKey bs → begins is_bare (bs ++ rest) ≡ true
bare_begins [] rest h = absurd h
bare_begins (b ∷ bs) rest h = h.0

begins_less : (p q : ℕ → Bool) (bs : List ℕ) → ((b : ℕ) → q b ≡ false → p b ≡ false) → begins q bs ≡ false → begins p bs ≡ false
begins_less p q [] h e = refl
begins_less p q (b ∷ bs) h e = h b e

start_bare : (b : ℕ) → is_key_start b ≡ false → is_bare b ≡ false
start_bare b h = (or_parts _ _ (or_parts _ _ h).0).0

start_mark : (b : ℕ) → is_key_start b ≡ false → is_byte 0x22 b ≡ false
start_mark b h = (or_parts _ _ (or_parts _ _ h).0).1

start_apostrophe : (b : ℕ) → is_key_start b ≡ false → is_byte 0x27 b ≡ false
start_apostrophe b h = (or_parts _ _ h).1

token_len-zero : (kind : StringKind) (first : List ℕ) (ps : List StringPiece) → token_len (token kind first ps 0) ≡ length (string_text kind first ps)
token_len-zero kind first ps = ap (λ qs. length (string_text kind first qs)) (append-nil ps)

-- a one-line string is found behind its mark
line_found : (kind : StringKind) (first : List ℕ) (ps : List StringPiece) (rest : List ℕ) → IsContent kind first ps → begins (is_byte (quote_of kind)) rest ≡ false → option_map token_len (token_of kind (first ++ (pieces_text ps ++ (closing kind ++ rest)))) ≡ Some (length (string_text kind first ps))
line_found kind first ps rest content stop =
    let read = token_found kind first ps rest content in
    ap (option_map token_len) read.1 ∙ ap (λ e. Some (token_len (token kind first ps e))) (read.2 stop) ∙ ap Some (token_len-zero kind first ps)

pub part_complete : (part rest : List ℕ) → IsKeyPart part → begins is_key_start rest ≡ false → key_part_len (part ++ rest) ≡ Some (length part)
unfolding key_part_len
part_complete part rest (name, inl bare) stop =
    cond-true _ _ _ (bare_begins part rest bare.0) ∙ ap Some (run_found is_bare part rest (each_bare part bare.0) (begins_less is_bare is_key_start rest start_bare stop))
part_complete part rest (name, inr (inl (first, ps, content, is, value))) stop =
    let regrouped : drop 1 (string_text Basic first ps ++ rest) ≡ pieces_text ps ++ (closing Basic ++ rest) = append_assoc (pieces_text ps) (0x22 ∷ []) rest in
    let same : first ++ (pieces_text ps ++ (closing Basic ++ rest)) ≡ pieces_text ps ++ (closing Basic ++ rest) = ap (λ l. l ++ (pieces_text ps ++ (closing Basic ++ rest))) content.0 in
    ap (λ p. key_part_len (p ++ rest)) is
    ∙ ap (λ l. option_map token_len (token_of Basic l)) (regrouped ∙ sym same)
    ∙ line_found Basic first ps rest content (begins_less (is_byte 0x22) is_key_start rest start_mark stop)
    ∙ ap (λ p. Some (length p)) (sym is)
part_complete part rest (name, inr (inr (first, ps, content, is, value))) stop =
    let regrouped : drop 1 (string_text Literal first ps ++ rest) ≡ pieces_text ps ++ (closing Literal ++ rest) = append_assoc (pieces_text ps) (0x27 ∷ []) rest in
    let same : first ++ (pieces_text ps ++ (closing Literal ++ rest)) ≡ pieces_text ps ++ (closing Literal ++ rest) = ap (λ l. l ++ (pieces_text ps ++ (closing Literal ++ rest))) content.0 in
    ap (λ p. key_part_len (p ++ rest)) is
    ∙ ap (λ l. option_map token_len (token_of Literal l)) (regrouped ∙ sym same)
    ∙ line_found Literal first ps rest content (begins_less (is_byte 0x27) is_key_start rest start_apostrophe stop)
    ∙ ap (λ p. Some (length p)) (sym is)

bare_start : (b : ℕ) → is_bare b ≡ true → is_key_start b ≡ true
bare_start b h = grind (arith, nat_tests)

pub part_first : PartBegins
part_first [] rest (name, inl bare) = absurd bare.0
part_first (b ∷ part) rest (name, inl bare) = bare_start b bare.0.0
part_first part rest (name, inr (inl (first, ps, content, is, value))) = ap (λ p. begins is_key_start (p ++ rest)) is
part_first part rest (name, inr (inr (first, ps, content, is, value))) = ap (λ p. begins is_key_start (p ++ rest)) is
