-- The laws about strings, from what is found at the front of some bytes.
use Rattle.std.proofs.Common.{◌≡◌, ℕ, ◌≤◌, Bool, true, false, cond, List, [], ◌∷◌, ◌++◌, length, take, replicate, Option, Some, None, sym, refl, ap, ◌∙◌, arith, eqb, eq-eqb, ⊎_elim, length-append}
use Rattle.std.specs.Prelude.{IfSome, option_map, option_and_then}
use Rattle.std.specs.List.{flat_map}
use Rattle.std.proofs.lemmas.Bool.{cond-true, eqb-true}
use Rattle.std.proofs.lemmas.List.{append-nil, take_at, nil_from_length}
use Rattle.toml_text.specs.Runs.{begins, is_byte}
use Rattle.toml_scalar.specs.Strings.{StringPiece, Plain, piece_means, pieces_text, quote_of, three, string_text, IsContent, MeansString, IsString}
use Rattle.toml_scalar.specs.declared.strings.kind.StringKind.{StringKind}
use Rattle.toml_scalar.specs.declared.strings.kind.StringKind.TheVariants.{Basic, MultiLineBasic, Literal, MultiLineLiteral}
use Rattle.toml_scalar.specs.StringRuns.{kind_at, StringToken, string_at, token_len, string_len, whole_value, string_value}
use Rattle.toml_scalar.specs.StringLaws.{StringIsSound, StringIsFound, StringIsLongest, StringHasValue, ValueIsMeant, OneStringKind, OneStringValue, StringBegins}
use Rattle.toml_scalar.proofs.StringSteps.{pieces_text-append}
use Rattle.toml_scalar.proofs.StringTokens.{TokenIs, string_at_sound, token, IsRead, opens_found, opens_or_two, string_at_found}

-- sound

len_is_sound : (bs : List ℕ) (n : ℕ) (o : Option StringToken) → IfSome o (TokenIs bs) → option_map token_len o ≡ Some n → (n ≤ length bs) × ((kind : StringKind) × IsString kind (take n bs))
len_is_sound bs n None h e = absurd cc
len_is_sound bs n (Some s) h e =
    let text : List ℕ = string_text s.kind s.first s.pieces in
    let count : length text ≡ n = cc in
    let front : take n bs ≡ text = ap (take n) h.1.1 ∙ take_at text h.1.0 n count in
    (omega (arith, ap length h.1.1, length-append text h.1.0), (s.kind, (flat_map piece_means s.pieces, (s.first, s.pieces, h.0, front, refl))))

pub string_sound : StringIsSound
unfolding string_len
string_sound bs n e = len_is_sound bs n (string_at bs) (string_at_sound bs) e

-- found

-- where the mark does not follow, the token is the string alone
alone : (kind : StringKind) (first : List ℕ) (ps : List StringPiece) (rest : List ℕ) (o : Option StringToken) → IsRead kind first ps rest o → begins (is_byte (quote_of kind)) rest ≡ false → o ≡ Some (record { kind = kind; first = first; pieces = ps })
alone kind first ps rest o r stop = r.1 ∙ ap Some (ap (token kind first ps) (r.2 stop) ∙ ap (λ qs. record { kind = kind; first = first; pieces = qs }) (append-nil ps))

content_at : (kind : StringKind) (first : List ℕ) (ps : List StringPiece) (rest : List ℕ) → IsContent kind first ps → begins (is_byte (quote_of kind)) rest ≡ false → string_at (string_text kind first ps ++ rest) ≡ Some (record { kind = kind; first = first; pieces = ps })
content_at kind first ps rest h stop = alone kind first ps rest _ (string_at_found kind first ps rest h (opens_found kind first ps rest h stop)) stop

pub string_found : StringIsFound
unfolding string_len
string_found kind text rest is stop =
    let m : MeansString kind text is.0 = is.1 in
    ap (λ t. option_map token_len (string_at (t ++ rest))) m.3 ∙ (ap (option_map token_len) (content_at kind m.0 m.1 rest m.2 stop) ∙ ap (λ t. Some (length t)) (sym m.3))

-- longest

pieces_longer : (ps qs : List StringPiece) → length (pieces_text ps) ≤ length (pieces_text (ps ++ qs))
pieces_longer ps qs = omega (arith, ap length (pieces_text-append ps qs), length-append (pieces_text ps) (pieces_text qs))

pub text_longer : (kind : StringKind) (first : List ℕ) (ps qs : List StringPiece) → length (string_text kind first ps) ≤ length (string_text kind first (ps ++ qs))
text_longer Basic first ps qs = omega (arith, pieces_longer ps qs, length-append (pieces_text ps) (0x22 ∷ []), length-append (pieces_text (ps ++ qs)) (0x22 ∷ []))
text_longer Literal first ps qs = omega (arith, pieces_longer ps qs, length-append (pieces_text ps) (0x27 ∷ []), length-append (pieces_text (ps ++ qs)) (0x27 ∷ []))
text_longer MultiLineBasic first ps qs = omega (arith, pieces_longer ps qs, length-append (pieces_text ps) (three 0x22), length-append (pieces_text (ps ++ qs)) (three 0x22), length-append first (pieces_text ps ++ three 0x22), length-append first (pieces_text (ps ++ qs) ++ three 0x22))
text_longer MultiLineLiteral first ps qs = omega (arith, pieces_longer ps qs, length-append (pieces_text ps) (three 0x27), length-append (pieces_text (ps ++ qs)) (three 0x27), length-append first (pieces_text ps ++ three 0x27), length-append first (pieces_text (ps ++ qs) ++ three 0x27))

two_or_more : (kind : StringKind) (first : List ℕ) (ps : List StringPiece) → 2 ≤ length (string_text kind first ps)
two_or_more Basic first ps = omega (arith, length-append (pieces_text ps) (0x22 ∷ []))
two_or_more Literal first ps = omega (arith, length-append (pieces_text ps) (0x27 ∷ []))
two_or_more MultiLineBasic first ps = omega arith
two_or_more MultiLineLiteral first ps = omega arith

any_two : (o : Option StringToken) (n : ℕ) → option_map token_len o ≡ Some n → 2 ≤ n
any_two None n e = absurd cc
any_two (Some s) n e = let count : token_len s ≡ n = cc in omega (arith, two_or_more s.kind s.first s.pieces)

longest_of : (kind : StringKind) (first : List ℕ) (ps : List StringPiece) (rest : List ℕ) (n : ℕ) → IsContent kind first ps → option_map token_len (string_at (string_text kind first ps ++ rest)) ≡ Some n → length (string_text kind first ps) ≤ n
longest_of kind first ps rest n h e = ⊎_elim
    (λ (opens : kind_at (string_text kind first ps ++ rest) ≡ Some kind).
    let r : IsRead kind first ps rest (string_at (string_text kind first ps ++ rest)) = string_at_found kind first ps rest h opens in
    let some : Some (token_len (token kind first ps r.0)) ≡ Some n = sym (ap (option_map token_len) r.1) ∙ e in
    let count : token_len (token kind first ps r.0) ≡ n = cc in
    omega (arith, text_longer kind first ps (replicate r.0 (Plain (quote_of kind)))))
    (λ (two : length (string_text kind first ps) ≡ 2). omega (arith, any_two _ n e))
    (opens_or_two kind first ps rest h)

pub string_longest : StringIsLongest
unfolding string_len
string_longest kind text rest n is e =
    let m : MeansString kind text is.0 = is.1 in
    let k : length (string_text kind m.0 m.1) ≤ n = longest_of kind m.0 m.1 rest n m.2 (ap (λ t. option_map token_len (string_at (t ++ rest))) (sym m.3) ∙ e) in
    omega (arith, ap length m.3)

-- values

-- a whole string is read as its kind, its first newline and its pieces
pub whole_at : (kind : StringKind) (text value : List ℕ) (m : MeansString kind text value) → string_at text ≡ Some (record { kind = kind; first = m.0; pieces = m.1 })
whole_at kind text value m = ap string_at (m.3 ∙ sym (append-nil (string_text kind m.0 m.1))) ∙ content_at kind m.0 m.1 [] m.2 refl

pub value_found : StringHasValue
unfolding string_value
value_found kind text value m =
    ap (option_and_then (whole_value (length text))) (whole_at kind text value m)
    ∙ (cond-true _ _ _ (eq-eqb _ _ (sym (ap length m.3))) ∙ ap Some (sym m.4))

value_of : (text value : List ℕ) (o : Option StringToken) → IfSome o (TokenIs text) → option_and_then (whole_value (length text)) o ≡ Some value → (kind : StringKind) × MeansString kind text value
value_of text value None h e = absurd cc
value_of text value (Some s) h e = whole (eqb (token_len s) (length text)) refl e
  where
    whole : (t : Bool) → eqb (token_len s) (length text) ≡ t → cond t (Some (flat_map piece_means s.pieces)) None ≡ Some value → (kind : StringKind) × MeansString kind text value
    whole false f e = absurd cc
    whole true f e =
        let bytes : List ℕ = string_text s.kind s.first s.pieces in
        let none : h.1.0 ≡ [] = nil_from_length h.1.0 (omega (arith, eqb-true (token_len s) (length text) f, ap length h.1.1, length-append bytes h.1.0)) in
        let is : text ≡ bytes = h.1.1 ∙ (ap (λ l. bytes ++ l) none ∙ append-nil bytes) in
        let same : value ≡ flat_map piece_means s.pieces = cc in
        (s.kind, (s.first, s.pieces, h.0, is, same))

pub value_means : ValueIsMeant
unfolding string_value
value_means text value e = value_of text value (string_at text) (string_at_sound text) e

pub one_string_kind : OneStringKind
one_string_kind j k text is_j is_k =
    let a = whole_at j text is_j.0 is_j.1 in
    let b = whole_at k text is_k.0 is_k.1 in
    let same : ◌≡◌ {A = Option StringToken} (Some (record { kind = j; first = is_j.1.0; pieces = is_j.1.1 })) (Some (record { kind = k; first = is_k.1.0; pieces = is_k.1.1 })) = sym a ∙ b in
    kinds _ _ same
  where
    kinds : (s t : StringToken) → ◌≡◌ {A = Option StringToken} (Some s) (Some t) → s.kind ≡ t.kind
    kinds s t e = let same : s ≡ t = cc in ap (λ (x : StringToken). x.kind) same

pub one_string_value : OneStringValue
one_string_value j k text v w means_v means_w =
    let a = value_found j text v means_v in
    let b = value_found k text w means_w in
    let same : ◌≡◌ {A = Option (List ℕ)} (Some v) (Some w) = sym a ∙ b in
    cc

text_begins : (kind : StringKind) (first : List ℕ) (ps : List StringPiece) → begins (is_byte (quote_of kind)) (string_text kind first ps) ≡ true
text_begins Basic first ps = refl
text_begins MultiLineBasic first ps = refl
text_begins Literal first ps = refl
text_begins MultiLineLiteral first ps = refl

pub string_begins : StringBegins
string_begins kind text is = ap (begins (is_byte (quote_of kind))) is.1.3 ∙ text_begins kind is.1.0 is.1.1
