-- The length of a string, by its kind and its body.
use Rattle.std.proofs.Common.{◌≡◌, ℕ, ◌+◌, ◌-◌, ◌≤◌, List, [], ◌∷◌, ◌++◌, length, take, drop, Option, Some, None, sym, refl, ap, ◌∙◌, subst, arith, length-append}
use Rattle.std.specs.Prelude.{IfSome, option_map}
use Rattle.std.proofs.lemmas.List.{take_rest, length-take-le}
use Rattle.toml_text.specs.Runs.{is_byte, newline_len}
use Rattle.toml_text.proofs.Proved.{newlines_piece, run_piece}
use Rattle.toml_scalar.specs.Strings.{StringPiece, pieces_text, quote_of, three}
use Rattle.toml_scalar.specs.StringRuns.{pieces_from, step_of, marks_len, first_len, body_len, kind_at, token_of, string_at, token_len, string_len}
use Rattle.toml_scalar.specs.StringScan.{longer_by}
use Rattle.toml_scalar.specs.declared.strings.kind.StringKind.{StringKind}
use Rattle.toml_scalar.specs.declared.strings.kind.StringKind.TheVariants.{Basic, MultiLineBasic, Literal, MultiLineLiteral}
use Rattle.toml_scalar.proofs.StringTokens.{Opens, kind_opens}

-- the length of the whole

lens : (kind : StringKind) (bs : List ℕ) (o : Option (List StringPiece)) → option_map token_len (option_map (λ ps. record { kind = kind; first = take (first_len kind bs) bs; pieces = ps }) o) ≡ longer_by (marks_len kind + first_len kind bs) (option_map (λ ps. length (pieces_text ps) + marks_len kind) o)
lens kind bs None = refl
lens Basic bs (Some ps) = ap Some (omega (arith, length-append (pieces_text ps) (0x22 ∷ [])))
lens Literal bs (Some ps) = ap Some (omega (arith, length-append (pieces_text ps) (0x27 ∷ [])))
lens MultiLineBasic bs (Some ps) =
    let n : ℕ = newline_len bs in
    ap Some (omega (arith, length-append (take n bs) (pieces_text ps ++ three 0x22), length-append (pieces_text ps) (three 0x22), length-take-le n bs (newlines_piece bs).0))
lens MultiLineLiteral bs (Some ps) =
    let n : ℕ = newline_len bs in
    ap Some (omega (arith, length-append (take n bs) (pieces_text ps ++ three 0x27), length-append (pieces_text ps) (three 0x27), length-take-le n bs (newlines_piece bs).0))

token_lens : (kind : StringKind) (bs : List ℕ) → option_map token_len (token_of kind bs) ≡ longer_by (marks_len kind + first_len kind bs) (body_len kind (drop (first_len kind bs) bs))
unfolding body_len
token_lens kind bs = lens kind bs (pieces_from (step_of kind) 0 (drop (first_len kind bs) bs))

pub string_len_is : (kind : StringKind) (bs : List ℕ) → kind_at bs ≡ Some kind → string_len bs ≡ longer_by (marks_len kind + first_len kind (drop (marks_len kind) bs)) (body_len kind (drop (first_len kind (drop (marks_len kind) bs)) (drop (marks_len kind) bs)))
unfolding string_len string_at
string_len_is kind bs e = rw e (token_lens kind (drop (marks_len kind) bs))

pub string_len_none : (bs : List ℕ) → kind_at bs ≡ None → string_len bs ≡ None
unfolding string_len string_at
string_len_none bs e = rw e refl

pub kind_within : (kind : StringKind) (bs : List ℕ) → kind_at bs ≡ Some kind → marks_len kind ≤ length bs
kind_within kind bs e =
    let opens : Opens bs kind = subst (λ o. IfSome o (Opens bs)) e (kind_opens bs) in
    omega (arith, (run_piece (is_byte (quote_of kind)) bs).0)

-- what the code adds up, by the slices that it takes
abbrev tail_of : ℕ → List ℕ → List ℕ
tail_of n bs = take (length bs - n) (drop n bs)

pub code_len : (kind : StringKind) (bs : List ℕ) (marks first : ℕ) (body : Option ℕ) → kind_at bs ≡ Some kind → marks ≡ marks_len kind → first ≡ first_len kind (tail_of marks bs) → body ≡ body_len kind (tail_of first (tail_of marks bs)) → string_len bs ≡ longer_by (marks + first) body
code_len kind bs marks first body e marks_is first_is body_is =
    let rest : tail_of marks bs ≡ drop marks bs = take_rest bs marks in
    let left : tail_of first (tail_of marks bs) ≡ drop first (drop marks bs) = take_rest (tail_of marks bs) first ∙ ap (drop first) rest in
    let first_at : first ≡ first_len kind (drop marks bs) = first_is ∙ ap (first_len kind) rest in
    let body_at : body ≡ body_len kind (drop first (drop marks bs)) = body_is ∙ ap (body_len kind) left in
    let all : string_len bs ≡ longer_by (marks_len kind + first_len kind (drop (marks_len kind) bs)) (body_len kind (drop (first_len kind (drop (marks_len kind) bs)) (drop (marks_len kind) bs))) = string_len_is kind bs e in
    let tail : ℕ → ℕ → Option ℕ = λ m n. longer_by (m + n) (body_len kind (drop n (drop m bs))) in
    all
    ∙ (ap (λ m. tail m (first_len kind (drop m bs))) (sym marks_is)
    ∙ (ap (tail marks) (sym first_at)
    ∙ ap (longer_by (marks + first)) (sym body_at)))
