-- A key part at the front is found whatever follows it: it, or a longer one.
use Rattle.std.proofs.Common.{◌≡◌, ℕ, ◌≤◌, List, [], ◌∷◌, ◌++◌, length, drop, replicate, Some, option_map, inl, inr, sym, ap, ◌∙◌, arith, append_assoc}
use Rattle.std.proofs.lemmas.Bool.{cond-true}
use Rattle.toml_text.specs.Bytes.{is_bare}
use Rattle.toml_text.specs.Runs.{run_len}
use Rattle.toml_scalar.specs.ScanLaws.{PartIsLongest}
use Rattle.toml_scalar.specs.Scanning.{key_part_len}
use Rattle.toml_scalar.specs.Strings.{StringPiece, Plain, IsContent, quote_of, pieces_text, string_text}
use Rattle.toml_scalar.specs.StringRuns.{token_of, token_len}
use Rattle.toml_scalar.specs.declared.strings.kind.StringKind.{StringKind}
use Rattle.toml_scalar.specs.declared.strings.kind.StringKind.TheVariants.{Basic, Literal}
use Rattle.toml_scalar.proofs.Keys.{closing, each_bare, bare_begins}
use Rattle.toml_scalar.proofs.Scanned.{run_len-append}
use Rattle.toml_scalar.proofs.StringLaws.{text_longer}
use Rattle.toml_scalar.proofs.StringTokens.{token, token_found}

module _ (kind : StringKind) (first : List ℕ) (ps : List StringPiece) (rest : List ℕ) (content : IsContent kind first ps) where
  abbrev found : ℕ
  found = token_len (token kind first ps (token_found kind first ps rest content).0)

  line_read : option_map token_len (token_of kind (first ++ (pieces_text ps ++ (closing kind ++ rest)))) ≡ Some found
  line_read = ap (option_map token_len) (token_found kind first ps rest content).1

  line_longer : length (string_text kind first ps) ≤ found
  line_longer = text_longer kind first ps (replicate (token_found kind first ps rest content).0 (Plain (quote_of kind)))

pub part_longest : PartIsLongest
unfolding key_part_len
part_longest part rest (name, inl bare) = (
  run_len is_bare (part ++ rest),
  cond-true _ _ _ (bare_begins part rest bare.0),
  omega (arith, run_len-append is_bare part rest (each_bare part bare.0)),
)
part_longest part rest (name, inr (inl (first, ps, content, is, value))) =
    let regrouped : drop 1 (string_text Basic first ps ++ rest) ≡ pieces_text ps ++ (closing Basic ++ rest) = append_assoc (pieces_text ps) (0x22 ∷ []) rest in
    let same : first ++ (pieces_text ps ++ (closing Basic ++ rest)) ≡ pieces_text ps ++ (closing Basic ++ rest) = ap (λ l. l ++ (pieces_text ps ++ (closing Basic ++ rest))) content.0 in (
      found Basic first ps rest content,
      ap (λ p. key_part_len (p ++ rest)) is ∙ ap (λ l. option_map token_len (token_of Basic l)) (regrouped ∙ sym same) ∙ line_read Basic first ps rest content,
      omega (arith, ap length is, line_longer Basic first ps rest content),
    )
part_longest part rest (name, inr (inr (first, ps, content, is, value))) =
    let regrouped : drop 1 (string_text Literal first ps ++ rest) ≡ pieces_text ps ++ (closing Literal ++ rest) = append_assoc (pieces_text ps) (0x27 ∷ []) rest in
    let same : first ++ (pieces_text ps ++ (closing Literal ++ rest)) ≡ pieces_text ps ++ (closing Literal ++ rest) = ap (λ l. l ++ (pieces_text ps ++ (closing Literal ++ rest))) content.0 in (
      found Literal first ps rest content,
      ap (λ p. key_part_len (p ++ rest)) is ∙ ap (λ l. option_map token_len (token_of Literal l)) (regrouped ∙ sym same) ∙ line_read Literal first ps rest content,
      omega (arith, ap length is, line_longer Literal first ps rest content),
    )
