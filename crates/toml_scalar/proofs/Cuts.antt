-- A text may be cut behind a token and behind a key part: each ends in an ASCII byte.
use Rattle.std.proofs.Common.{◌≡◌, ℕ, Bool, ◌+◌, ◌-◌, ◌<◌, ◌≤◌, true, List, [], ◌∷◌, ◌++◌, length, get_or, take, drop, Some, IsUtf8, IsCharBoundary, ⊎_elim, inl, inr, refl, sym, ap, ◌∙◌, subst, arith, lit<, append_assoc, length-append, length-take, get_or-take}
use Rattle.std.proofs.lemmas.Bool.{false≢true}
use Rattle.std.proofs.lemmas.Bool.Decides.{nat_tests}
use Rattle.std.proofs.lemmas.Str.{IsCharBoundary-from_rest, IsUtf8-drop, IsUtf8-from_is_utf8}
use Rattle.std.proofs.iter.AsciiBoundary.{after_IsAscii}
use Rattle.toml_text.specs.Bytes.{is_bare, is_digit}
use Rattle.toml_text.specs.Forms.{Each}
use Rattle.toml_text.specs.Limit.{IsText, max_len}
use Rattle.toml_text.specs.Runs.{begins}
use Rattle.toml_scalar.specs.Runs.{is_value_byte}
use Rattle.toml_scalar.specs.MomentLaws.{IsSpaced}
use Rattle.toml_scalar.specs.Names.{IsBareKey, IsKeyPart}
use Rattle.toml_scalar.specs.Scanning.{scan_at, key_part_len}
use Rattle.toml_scalar.specs.Strings.{StringPiece, MeansString, string_text, pieces_text, three}
use Rattle.toml_scalar.specs.Tokens.{IsToken}
use Rattle.toml_scalar.specs.declared.kind.ScalarKind.{ScalarKind}
use Rattle.toml_scalar.specs.declared.kind.ScalarKind.TheVariants as kinds
use Rattle.toml_scalar.specs.declared.strings.kind.StringKind.{StringKind}
use Rattle.toml_scalar.specs.declared.strings.kind.StringKind.TheVariants.{Basic, MultiLineBasic, Literal, MultiLineLiteral}
use Rattle.toml_scalar.proofs.Booleans.{bool_run, bool_some}
use Rattle.toml_scalar.proofs.Floats.{float_run, float_some}
use Rattle.toml_scalar.proofs.Integers.{integer_run, integer_some}
use Rattle.toml_scalar.proofs.Moments.{moment_run}
use Rattle.toml_scalar.proofs.Scanned.{moment_some}
use Rattle.toml_scalar.proofs.ScanSound.{scan_sound}
use Rattle.toml_scalar.proofs.Keys.{part_sound}

-- the last byte is ASCII, and there is one
abbrev EndsAscii : List ℕ → Type 0
EndsAscii bs = (front : List ℕ) × (b : ℕ) × (bs ≡ front ++ b ∷ []) × (b < 128)

last_at : (front : List ℕ) (b : ℕ) → get_or (front ++ b ∷ []) (length front) 0 ≡ b
last_at [] b = refl
last_at (x ∷ front) b = last_at front b

-- a run of bytes that pass ends in one
each_ends : (p : ℕ → Bool) → ((b : ℕ) → p b ≡ true → b < 128) → (b : ℕ) (bs : List ℕ) → Each p (b ∷ bs) → EndsAscii (b ∷ bs)
each_ends p ascii b [] h = ([], b, refl, ascii b h.0)
each_ends p ascii b (c ∷ bs) h =
    let k = each_ends p ascii c bs h.1 in
    (b ∷ k.0, k.1, ap (λ l. b ∷ l) k.2, k.3)

run_ends : (p : ℕ → Bool) → ((b : ℕ) → p b ≡ true → b < 128) → (bs : List ℕ) → begins p bs ≡ true → Each p bs → EndsAscii bs
run_ends p ascii [] first h = absurd (false≢true first)
run_ends p ascii (b ∷ bs) first h = each_ends p ascii b bs h

value_ascii : (b : ℕ) → is_value_byte b ≡ true → b < 128
value_ascii b h = grind (arith, nat_tests)

bare_ascii : (b : ℕ) → is_bare b ≡ true → b < 128
bare_ascii b h = grind (arith, nat_tests)

digit_value : (b : ℕ) → is_digit b ≡ true → is_value_byte b ≡ true
digit_value b h = grind (arith, nat_tests)

first_digit : (bs : List ℕ) → begins is_digit bs ≡ true → begins is_value_byte bs ≡ true
first_digit [] h = absurd (false≢true h)
first_digit (b ∷ bs) h = digit_value b h

append_none : {A : Type 0} (xs : List A) → xs ++ [] ≡ xs
append_none [] = refl
append_none (x ∷ xs) = ap (λ l. x ∷ l) (append_none xs)

value_ends : (t : List ℕ) → begins is_value_byte (t ++ []) ≡ true → Each is_value_byte t → EndsAscii t
value_ends t first h = run_ends is_value_byte value_ascii t (sym (ap (begins is_value_byte) (append_none t)) ∙ first) h

spaced_ends : (t : List ℕ) → IsSpaced t → EndsAscii t
spaced_ends t (date, rest, is, shape, ten, each, others, digit) =
    let k = run_ends is_value_byte value_ascii rest (first_digit rest digit) others in
    (date ++ 0x20 ∷ k.0, k.1, is ∙ ap (λ l. date ++ 0x20 ∷ l) k.2 ∙ sym (append_assoc date (0x20 ∷ k.0) (k.1 ∷ [])), k.3)

three_last : (mark : ℕ) (ps : List ℕ) → ps ++ three mark ≡ (ps ++ mark ∷ mark ∷ []) ++ mark ∷ []
three_last mark ps = sym (append_assoc ps (mark ∷ mark ∷ []) (mark ∷ []))

long_ends : (mark : ℕ) (first ps : List ℕ) → mark < 128 → EndsAscii (three mark ++ (first ++ (ps ++ three mark)))
long_ends mark first ps ascii = (
  three mark ++ (first ++ (ps ++ mark ∷ mark ∷ [])),
  mark,
  ap (λ l. three mark ++ (first ++ l)) (three_last mark ps) ∙ ap (λ l. three mark ++ l) (sym (append_assoc first (ps ++ mark ∷ mark ∷ []) (mark ∷ []))),
  ascii,
)

string_ends : (kind : StringKind) (first : List ℕ) (ps : List StringPiece) → EndsAscii (string_text kind first ps)
string_ends Basic first ps = (0x22 ∷ pieces_text ps, 0x22, refl, lit< tt)
string_ends MultiLineBasic first ps = long_ends 0x22 first (pieces_text ps) (lit< tt)
string_ends Literal first ps = (0x27 ∷ pieces_text ps, 0x27, refl, lit< tt)
string_ends MultiLineLiteral first ps = long_ends 0x27 first (pieces_text ps) (lit< tt)

means_ends : (kind : StringKind) (t name : List ℕ) → MeansString kind t name → EndsAscii t
means_ends kind t name (first, ps, content, is, value) = subst EndsAscii (sym is) (string_ends kind first ps)

token_ends : (k : ScalarKind) (t : List ℕ) → IsToken k t → EndsAscii t
token_ends kinds.Text t h = means_ends h.0 t h.1.0 h.1.1
token_ends kinds.Integer t h = value_ends t (integer_some t [] h) (integer_run t h)
token_ends kinds.Float t h = value_ends t (float_some t [] h) (float_run t h)
token_ends kinds.Bool t h = value_ends t (bool_some t [] h) (bool_run t h)
token_ends (kinds.Moment m) t h = ⊎_elim (λ each. value_ends t (moment_some t [] m h) each) (λ s. spaced_ends t s) (moment_run t m h)

bare_ends : (part : List ℕ) → IsBareKey part → EndsAscii part
bare_ends [] h = absurd h
bare_ends (b ∷ bs) h = each_ends is_bare bare_ascii b bs h

part_ends : (part : List ℕ) → IsKeyPart part → EndsAscii part
part_ends part (name, inl bare) = bare_ends part bare.0
part_ends part (name, inr (inl basic)) = means_ends Basic part name basic
part_ends part (name, inr (inr literal)) = means_ends Literal part name literal

-- a text may be cut behind a front that ends so
front_cut : (bs : List ℕ) (n : ℕ) → IsUtf8 bs → n ≤ length bs → EndsAscii (take n bs) → IsCharBoundary bs n
front_cut bs n utf8 within (front, b, is, ascii) =
    let len : length front + 1 ≡ n = omega (arith, ap length is, length-append front (b ∷ []), length-take n bs) in
    let last : get_or bs (n - 1) 0 ≡ b = sym (get_or-take n bs (n - 1) 0 (omega arith)) ∙ ap (λ l. get_or l (n - 1) 0) is ∙ ap (λ i. get_or (front ++ b ∷ []) i 0) (let e : n - 1 ≡ length front = omega arith in e) ∙ last_at front b in
    after_IsAscii bs n utf8 within (λ some. omega (arith, last))

behind_token : (bs : List ℕ) → IsUtf8 bs → (n : ℕ) (k : ScalarKind) → scan_at bs ≡ Some (n, k) → IsCharBoundary bs n
behind_token bs utf8 n k h = let sound = scan_sound bs n k h in front_cut bs n utf8 sound.0 (token_ends k (take n bs) sound.1)

behind_part : (bs : List ℕ) → IsUtf8 bs → (n : ℕ) → key_part_len bs ≡ Some n → IsCharBoundary bs n
behind_part bs utf8 n h = let sound = part_sound bs n h in front_cut bs n utf8 sound.0 (part_ends (take n bs) sound.2)

-- a span of a text, which fits
pub record Cut (text : List ℕ) (at n : ℕ) : Type 0 where
  pub bound : IsCharBoundary text (at + n)
  pub fits : at + n ≤ max_len

module _ (text : List ℕ) (at : ℕ) (is_text : IsText text) (bound : IsCharBoundary text at) where
  cut : (n : ℕ) → IsCharBoundary (drop at text) n → Cut text at n
  cut n behind =
      let place = IsCharBoundary-from_rest text at n bound.0 behind in
      record { bound = place; fits = omega (arith, place.0, is_text.fits) }

  utf8 : IsUtf8 (drop at text)
  utf8 = IsUtf8-drop text at (IsUtf8-from_is_utf8 text is_text.utf8) bound

  pub token_cut : (n : ℕ) (k : ScalarKind) → scan_at (drop at text) ≡ Some (n, k) → Cut text at n
  token_cut n k h = cut n (behind_token (drop at text) utf8 n k h)

  pub part_cut : (n : ℕ) → key_part_len (drop at text) ≡ Some n → Cut text at n
  part_cut n h = cut n (behind_part (drop at text) utf8 n h)
