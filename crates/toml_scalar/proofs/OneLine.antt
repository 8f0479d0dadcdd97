-- The length of a one-line string is that of its mark and of the rest.
use Rattle.std.proofs.Common.{◌≡◌, ◌⊎◌, ⊎_elim, ℕ, ◌+◌, List, [], ◌∷◌, length, Option, Some, None, option_map, false, refl, sym, ap, arith, length-append}
use Rattle.std.proofs.lemmas.Bool.{false≢true}
use Rattle.toml_scalar.specs.Strings.{StringPiece, pieces_text}
use Rattle.toml_scalar.specs.StringRuns.{body_len, pieces_from, step_of, token_of, token_len, is_multi_line}
use Rattle.toml_scalar.specs.declared.strings.kind.StringKind.{StringKind}
use Rattle.toml_scalar.specs.declared.strings.kind.StringKind.TheVariants.{Basic, MultiLineBasic, Literal, MultiLineLiteral}

basic_pieces : (ps : Option (List StringPiece)) → option_map token_len (option_map (λ qs. record { kind = Basic; first = []; pieces = qs }) ps) ≡ option_map (λ n. 1 + n) (option_map (λ qs. length (pieces_text qs) + 1) ps)
basic_pieces None = refl
basic_pieces (Some ps) = ap Some (omega (arith, length-append (pieces_text ps) (0x22 ∷ [])))

literal_pieces : (ps : Option (List StringPiece)) → option_map token_len (option_map (λ qs. record { kind = Literal; first = []; pieces = qs }) ps) ≡ option_map (λ n. 1 + n) (option_map (λ qs. length (pieces_text qs) + 1) ps)
literal_pieces None = refl
literal_pieces (Some ps) = ap Some (omega (arith, length-append (pieces_text ps) (0x27 ∷ [])))

one_line_kind : (kind : StringKind) → (kind ≡ Basic) ⊎ (kind ≡ Literal) → is_multi_line kind ≡ false
one_line_kind kind which = ⊎_elim (λ (h : kind ≡ Basic). ap is_multi_line h) (λ (h : kind ≡ Literal). ap is_multi_line h) which

pub one_line : (kind : StringKind) (bs : List ℕ) → (kind ≡ Basic) ⊎ (kind ≡ Literal) → option_map token_len (token_of kind bs) ≡ option_map (λ n. 1 + n) (body_len kind bs)
unfolding body_len
one_line Basic bs which = basic_pieces (pieces_from (step_of Basic) 0 bs)
one_line MultiLineBasic bs which = absurd (false≢true (sym (one_line_kind MultiLineBasic which)))
one_line Literal bs which = literal_pieces (pieces_from (step_of Literal) 0 bs)
one_line MultiLineLiteral bs which = absurd (false≢true (sym (one_line_kind MultiLineLiteral which)))
