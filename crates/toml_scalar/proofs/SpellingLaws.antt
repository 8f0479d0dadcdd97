-- The spelling of a name names it.
use Rattle.std.proofs.Common.{◌≡◌, ℕ, ◌/◌, ◌%◌, ◌<◌, Bool, true, false, List, [], ◌∷◌, ◌++◌, refl, sym, ap, subst, ◌∙◌, arith, inl, inr, ⊎_elim}
use Rattle.std.proofs.lemmas.Bool.{cond_both, and_parts, or_cases, eqb-true}
use Rattle.std.proofs.lemmas.Bool.Decides.{nat_tests}
use Rattle.std.proofs.lemmas.Str.{encode_ascii}
use Rattle.std.specs.Prelude.{encode_utf8, ◌==◌, ◌||◌}
use Rattle.std.specs.Char.{digit_value}
use Rattle.std.specs.List.{flat_map, list_all}
use Rattle.toml_text.specs.Bytes.{is_bare, is_basic, is_hex, is_control}
use Rattle.toml_text.specs.Forms.{Each}
use Rattle.toml_scalar.specs.Integers.{digits_value}
use Rattle.toml_scalar.specs.Strings.{StringPiece, Plain, Escape, UnicodeEscape, IsBasicPiece, EachPiece, MeansString, piece_text, piece_means, pieces_text, escaped, IsEscape}
use Rattle.toml_scalar.specs.Names.{IsBareKey, IsName}
use Rattle.toml_scalar.specs.Spelling.{is_bare_key, hex_digit, hex_digits, hex_escape, spelled_byte, short_escape, quoted, SpelledNames, SpelledStrings}
use Rattle.toml_scalar.specs.declared.strings.kind.StringKind.TheVariants.{Basic}

-- some piece of a basic string has this text and means this byte
record Spells (b : ℕ) (text : List ℕ) : Type 0 where
  piece : StringPiece
  is_piece : IsBasicPiece piece
  text_is : piece_text piece ≡ text
  means : piece_means piece ≡ b ∷ []

hex_digit-is_hex : (n : ℕ) → n < 16 → is_hex (hex_digit n) ≡ true
hex_digit-is_hex n h = grind (arith, nat_tests)

hex_digit-value : (n : ℕ) → n < 16 → digit_value (hex_digit n) ≡ n
hex_digit-value n h = grind (arith, nat_tests)

control_ascii : (b : ℕ) → is_control b ≡ true → b < 128
control_ascii b h = grind (arith, nat_tests)

basic_else : (b : ℕ) → (b == 0x22 || b == 0x5C) ≡ false → is_control b ≡ false → is_basic b ≡ true
basic_else b marks control = grind (arith, nat_tests)

hex_digits-value : (b : ℕ) → b < 128 → digits_value 16 (hex_digits b) ≡ b
hex_digits-value b h =
    let high : digit_value (hex_digit (b / 16)) ≡ b / 16 = hex_digit-value (b / 16) (omega arith) in
    let low : digit_value (hex_digit (b % 16)) ≡ b % 16 = hex_digit-value (b % 16) (omega arith) in
    omega arith

spells_hex : (b : ℕ) → is_control b ≡ true → Spells b (hex_escape b)
spells_hex b h =
    let small : b < 128 = control_ascii b h in
    let value : digits_value 16 (hex_digits b) ≡ b = hex_digits-value b small in
    record {
      piece = UnicodeEscape 0x75 (hex_digits b);
      is_piece = (inl (refl, refl), (refl, (refl, (hex_digit-is_hex (b / 16) (omega arith), (hex_digit-is_hex (b % 16) (omega arith), tt)))), inl (omega arith));
      text_is = refl;
      means = ap encode_utf8 value ∙ encode_ascii b small;
    }

spells_letter : (b x : ℕ) → (b == escaped x) ≡ true → IsEscape x → Spells b (short_escape x)
spells_letter b x h e = record { piece = Escape x; is_piece = e; text_is = refl; means = ap (λ a. a ∷ []) (sym (eqb-true b (escaped x) h)) }

spells_mark : (b : ℕ) → (b == 0x22 || b == 0x5C) ≡ true → Spells b (short_escape b)
spells_mark b h = ⊎_elim
    (λ (quote : (b == 0x22) ≡ true). let is : 0x22 ≡ b = sym (eqb-true b 0x22 quote) in subst (λ a. Spells a (short_escape a)) is (spells_letter 0x22 0x22 refl (inr (inr (inr (inr (inr (inl refl))))))))
    (λ (slash : (b == 0x5C) ≡ true). let is : 0x5C ≡ b = sym (eqb-true b 0x5C slash) in subst (λ a. Spells a (short_escape a)) is (spells_letter 0x5C 0x5C refl (inr (inr (inr (inr (inr (inr refl))))))))
    (or_cases _ _ h)

spells_plain : (b : ℕ) → is_basic b ≡ true → Spells b (b ∷ [])
spells_plain b h = record { piece = Plain b; is_piece = h; text_is = refl; means = refl }

spells_byte : (b : ℕ) → Spells b (spelled_byte b)
spells_byte b =
    cond_both _ _ _ (Spells b) (λ e. spells_letter b 0x62 e (inl refl)) (λ _.
    cond_both _ _ _ (Spells b) (λ e. spells_letter b 0x74 e (inr (inl refl))) (λ _.
    cond_both _ _ _ (Spells b) (λ e. spells_letter b 0x6E e (inr (inr (inl refl)))) (λ _.
    cond_both _ _ _ (Spells b) (λ e. spells_letter b 0x66 e (inr (inr (inr (inl refl))))) (λ _.
    cond_both _ _ _ (Spells b) (λ e. spells_letter b 0x72 e (inr (inr (inr (inr (inl refl)))))) (λ _.
    cond_both _ _ _ (Spells b) (spells_mark b) (λ marks.
    cond_both _ _ _ (Spells b) (spells_hex b) (λ control.
    spells_plain b (basic_else b marks control))))))))

-- some pieces of a basic string have this text and mean these bytes
record SpellsAll (name text : List ℕ) : Type 0 where
  pieces : List StringPiece
  are_pieces : EachPiece IsBasicPiece pieces
  text_is : pieces_text pieces ≡ text
  means : flat_map piece_means pieces ≡ name

spells_all : (name : List ℕ) → SpellsAll name (flat_map spelled_byte name)
spells_all [] = record { pieces = []; are_pieces = tt; text_is = refl; means = refl }
spells_all (b ∷ bs) =
    let first = spells_byte b in
    let rest = spells_all bs in
    record {
      pieces = first.piece ∷ rest.pieces;
      are_pieces = (first.is_piece, rest.are_pieces);
      text_is = ap (λ t. t ++ pieces_text rest.pieces) first.text_is ∙ ap (λ t. spelled_byte b ++ t) rest.text_is;
      means = ap (λ t. t ++ flat_map piece_means rest.pieces) first.means ∙ ap (λ t. b ∷ t) rest.means;
    }

pub quoted_means : SpelledStrings
quoted_means name =
    let all = spells_all name in
    ([], all.pieces, (refl, all.are_pieces), ap (λ t. 0x22 ∷ (t ++ 0x22 ∷ [])) (sym all.text_is), sym all.means)

each_from_all : (p : ℕ → Bool) (bs : List ℕ) → list_all p bs ≡ true → Each p bs
each_from_all p [] h = tt
each_from_all p (b ∷ bs) h = let k = and_parts _ _ h in (k.0, each_from_all p bs k.1)

bare_names : (name : List ℕ) → is_bare_key name ≡ true → IsBareKey name
bare_names [] h = cc
bare_names (b ∷ bs) h = each_from_all is_bare (b ∷ bs) (and_parts _ _ h).1

pub spelled_names : SpelledNames
spelled_names name = cond_both _ _ _ (λ part. IsName part name) (λ bare. inl (bare_names name bare, refl)) (λ _. inr (inl (quoted_means name)))
