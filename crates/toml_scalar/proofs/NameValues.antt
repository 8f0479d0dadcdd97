-- The name that is computed of a key part is the one that it spells.
use Rattle.std.proofs.Common.{◌≡◌, ℕ, true, false, cond, eqb, not, List, [], ◌∷◌, length, take, drop, Some, None, ⊎_elim, ◌⊎◌, inl, inr, refl, sym, ap, ◌∙◌, subst}
use Rattle.std.proofs.lemmas.Bool.{false≢true, eqb-true, eq-eqb, cond-true, cond-false}
use Rattle.std.proofs.Math.Seq.{take-length}
use Rattle.std.proofs.lemmas.List.{append-nil}
use Rattle.std.proofs.lemmas.Option.{none-some, option_and_then_some}
use Rattle.toml_text.specs.Bytes.{is_bare}
use Rattle.toml_text.specs.Forms.{Each}
use Rattle.toml_text.specs.Runs.{run_len, begins}
use Rattle.toml_text.proofs.Proved.{run_piece, run_found}
use Rattle.toml_scalar.specs.Names.{IsBareKey}
use Rattle.toml_scalar.specs.Strings.{StringPiece, MeansString}
use Rattle.toml_scalar.specs.StringRuns.{StringToken, string_at, kind_at, token_of, marks_len, string_value, is_multi_line, pieces_from, step_of, first_len}
use Rattle.toml_scalar.specs.Values.{name_of, quoted_name, is_one_line, given}
use Rattle.toml_scalar.specs.ValueLaws.{NameIsFound, NameIsMeant, NameIsTotal}
use Rattle.toml_scalar.specs.declared.strings.kind.StringKind.{StringKind}
use Rattle.toml_scalar.specs.declared.strings.kind.StringKind.TheVariants.{Basic, MultiLineBasic, Literal, MultiLineLiteral}
use Rattle.toml_scalar.proofs.Digits.{either}
use Rattle.toml_scalar.proofs.ScanSound.{option_map_some}
use Rattle.toml_scalar.proofs.ScalarValues.{given_some, given_true}
use Rattle.toml_scalar.proofs.StringLaws.{whole_at, value_found, value_means, string_begins}

-- a string's kind is told by its marks
opened : (kind : StringKind) (text value : List ℕ) → MeansString kind text value → kind_at text ≡ Some kind
unfolding string_at
opened kind text value means =
    option_and_then_some (λ (k : StringKind). token_of k (drop (marks_len k) text)) (kind_at text) _ (whole_at kind text value means) (λ k is read.
    let ps = option_map_some (λ (qs : List StringPiece). record { kind = k; first = take (first_len k (drop (marks_len k) text)) (drop (marks_len k) text); pieces = qs }) (pieces_from (step_of k) 0 (drop (first_len k (drop (marks_len k) text)) (drop (marks_len k) text))) _ read in
    is ∙ ap (λ (s : StringToken). Some s.kind) ps.2)

one_line_is : (kind : StringKind) (text value : List ℕ) → MeansString kind text value → not (is_multi_line kind) ≡ true → MeansString Basic text value ⊎ MeansString Literal text value
one_line_is Basic text value m h = inl m
one_line_is MultiLineBasic text value m h = absurd (false≢true h)
one_line_is Literal text value m h = inr m
one_line_is MultiLineLiteral text value m h = absurd (false≢true h)

bare_key : (bs : List ℕ) → begins is_bare bs ≡ true → run_len is_bare bs ≡ length bs → IsBareKey bs
bare_key [] h e = absurd (false≢true h)
bare_key (b ∷ bs) h e = subst (λ (x : List ℕ). Each is_bare x) (ap (λ n. take n (b ∷ bs)) e ∙ take-length (b ∷ bs)) (run_piece is_bare (b ∷ bs)).1

pub name_meant : NameIsMeant
unfolding name_of
name_meant part name h = ⊎_elim
    (λ (bare : (begins is_bare part ≡ true) × (given (eqb (run_len is_bare part) (length part)) part ≡ Some name)).
    let g = given_some _ part name bare.1 in
    inl (bare_key part bare.0 (eqb-true _ _ g.0), sym g.1))
    (λ (quoted : (begins is_bare part ≡ false) × (cond (is_one_line (kind_at part)) (string_value part) None ≡ Some name)). ⊎_elim
    (λ (line : (is_one_line (kind_at part) ≡ true) × (string_value part ≡ Some name)).
    let k = value_means part name line.1 in
    inr (one_line_is k.0 part name k.1 (sym (ap is_one_line (opened k.0 part name k.1)) ∙ line.0)))
    (λ (other : (is_one_line (kind_at part) ≡ false) × (None ≡ Some name)). absurd (none-some name other.1))
    (either (is_one_line (kind_at part)) _ _ _ quoted.1))
    (either (begins is_bare part) _ _ _ h)

whole_run : (bs : List ℕ) → IsBareKey bs → (begins is_bare bs ≡ true) × (run_len is_bare bs ≡ length bs)
whole_run [] h = absurd h
whole_run (b ∷ bs) h = (h.0, sym (ap (run_len is_bare) (append-nil (b ∷ bs))) ∙ run_found is_bare (b ∷ bs) [] h refl)

begins_basic : (bs : List ℕ) → begins (λ b. eqb b 0x22) bs ≡ true → begins is_bare bs ≡ false
begins_basic [] h = refl
begins_basic (b ∷ bs) h = rw (eqb-true b 0x22 h) refl

begins_literal : (bs : List ℕ) → begins (λ b. eqb b 0x27) bs ≡ true → begins is_bare bs ≡ false
begins_literal [] h = refl
begins_literal (b ∷ bs) h = rw (eqb-true b 0x27 h) refl

quoted : (kind : StringKind) (part name : List ℕ) → MeansString kind part name → is_one_line (Some kind) ≡ true → quoted_name part ≡ Some name
quoted kind part name m one = cond-true _ _ _ (ap is_one_line (opened kind part name m) ∙ one) ∙ value_found kind part name m

pub name_found : NameIsFound
unfolding name_of
name_found part name (inl bare) =
    let run = whole_run part bare.0 in
    cond-true _ _ _ run.0 ∙ given_true _ part (eq-eqb _ _ run.1) ∙ ap Some (sym bare.1)
name_found part name (inr (inl m)) = cond-false _ _ _ (begins_basic part (string_begins Basic part (name, m))) ∙ quoted Basic part name m refl
name_found part name (inr (inr m)) = cond-false _ _ _ (begins_literal part (string_begins Literal part (name, m))) ∙ quoted Literal part name m refl

pub name_total : NameIsTotal
name_total part is = (is.0, name_found part is.0 is.1)
