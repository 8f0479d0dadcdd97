-- A key part has one name: its first byte tells its form, and of a string each piece is settled by its bytes.
use Rattle.std.proofs.Common.{◌≡◌, ℕ, true, List, [], ◌∷◌, ◌++◌, length, ◌⊎◌, refl, sym, ap, subst, ◌∙◌, arith, inl, inr, ⊎_elim, append_assoc}
use Rattle.std.proofs.lemmas.Bool.Decides.{nat_tests}
use Rattle.std.specs.List.{flat_map}
use Rattle.toml_text.specs.Bytes.{is_bare, is_basic, is_literal}
use Rattle.toml_scalar.specs.Strings.{StringPiece, Plain, Escape, UnicodeEscape, Newline, Dropped, IsEscape, IsUnicodeEscape, IsBasicPiece, IsLiteralPiece, EachPiece, MeansString, piece_text, piece_means, pieces_text}
use Rattle.toml_scalar.specs.Names.{IsBareKey}
use Rattle.toml_scalar.specs.Spelling.{OneName}
use Rattle.toml_scalar.specs.declared.strings.kind.StringKind.TheVariants.{Basic, Literal}

-- bytes that are not of a class

no_slash : (b : ℕ) → is_basic b ≡ true → b ≡ 0x5C → ⊥
no_slash b h e = grind (arith, nat_tests)

no_quote : (b : ℕ) → is_basic b ≡ true → 0x22 ≡ b → ⊥
no_quote b h e = grind (arith, nat_tests)

no_apostrophe : (b : ℕ) → is_literal b ≡ true → 0x27 ≡ b → ⊥
no_apostrophe b h e = grind (arith, nat_tests)

no_mark : (b : ℕ) → is_bare b ≡ true → (b ≡ 0x22) ⊎ (b ≡ 0x27) → ⊥
no_mark b h e = grind (arith, nat_tests)

no_unicode : (x u : ℕ) (digits : List ℕ) → IsEscape x → IsUnicodeEscape u digits → x ≡ u → ⊥
no_unicode x u digits h k e = grind arith

same_digits : (u v : ℕ) (ds es : List ℕ) → IsUnicodeEscape u ds → IsUnicodeEscape v es → u ≡ v → length ds ≡ length es
same_digits u v ds es h k e = grind arith

split_at : (xs ys r s : List ℕ) → length xs ≡ length ys → xs ++ r ≡ ys ++ s → (xs ≡ ys) × (r ≡ s)
split_at [] [] r s h e = (refl, e)
split_at [] (y ∷ ys) r s h e = absurd (omega arith)
split_at (x ∷ xs) [] r s h e = absurd (omega arith)
split_at (x ∷ xs) (y ∷ ys) r s h e =
    let first : x ≡ y = cc in
    let rest : xs ++ r ≡ ys ++ s = cc in
    let both : (xs ≡ ys) × (r ≡ s) = split_at xs ys r s (omega arith) rest in
    let tail : xs ≡ ys = both.0 in
    (cc, both.1)

-- of two readings of some bytes the first pieces are the same
same_basic : (p q : StringPiece) (r s : List ℕ) → IsBasicPiece p → IsBasicPiece q → piece_text p ++ r ≡ piece_text q ++ s → (p ≡ q) × (r ≡ s)
same_basic (Plain a) (Plain b) r s h k e = (cc, cc)
same_basic (Plain a) (Escape y) r s h k e = absurd (no_slash a h cc)
same_basic (Plain a) (UnicodeEscape v es) r s h k e = absurd (no_slash a h cc)
same_basic (Escape x) (Plain b) r s h k e = absurd (no_slash b k cc)
same_basic (Escape x) (Escape y) r s h k e = (cc, cc)
same_basic (Escape x) (UnicodeEscape v es) r s h k e = absurd (no_unicode x v es h k cc)
same_basic (UnicodeEscape u ds) (Plain b) r s h k e = absurd (no_slash b k cc)
same_basic (UnicodeEscape u ds) (Escape y) r s h k e = absurd (no_unicode y u ds k h cc)
same_basic (UnicodeEscape u ds) (UnicodeEscape v es) r s h k e =
    let letter : u ≡ v = cc in
    let rest : ds ++ r ≡ es ++ s = cc in
    let split : (ds ≡ es) × (r ≡ s) = split_at ds es r s (same_digits u v ds es h k letter) rest in
    let digits : ds ≡ es = split.0 in
    (cc, split.1)
same_basic (Newline line) q r s h k e = absurd h
same_basic (Dropped ws line rest) q r s h k e = absurd h
same_basic p (Newline line) r s h k e = absurd k
same_basic p (Dropped ws line rest) r s h k e = absurd k

same_literal : (p q : StringPiece) (r s : List ℕ) → IsLiteralPiece p → IsLiteralPiece q → piece_text p ++ r ≡ piece_text q ++ s → (p ≡ q) × (r ≡ s)
same_literal (Plain a) (Plain b) r s h k e = (cc, cc)
same_literal (Plain a) q r s h k e = absurd k
same_literal p q r s h k e = absurd h

-- no piece begins with the mark that closes the string
unclosed_basic : (p : StringPiece) (r s : List ℕ) → IsBasicPiece p → 0x22 ∷ r ≡ piece_text p ++ s → ⊥
unclosed_basic (Plain b) r s h e = no_quote b h cc
unclosed_basic (Escape x) r s h e = let slash : ◌≡◌ {A = ℕ} 0x22 0x5C = cc in omega arith
unclosed_basic (UnicodeEscape u ds) r s h e = let slash : ◌≡◌ {A = ℕ} 0x22 0x5C = cc in omega arith
unclosed_basic (Newline line) r s h e = h
unclosed_basic (Dropped ws line rest) r s h e = h

unclosed_literal : (p : StringPiece) (r s : List ℕ) → IsLiteralPiece p → 0x27 ∷ r ≡ piece_text p ++ s → ⊥
unclosed_literal (Plain b) r s h e = no_apostrophe b h cc
unclosed_literal p r s h e = h

-- so the pieces up to the mark are the same
module _ (mark : ℕ) (Piece : StringPiece → Type 0)
    (same : (p q : StringPiece) (r s : List ℕ) → Piece p → Piece q → piece_text p ++ r ≡ piece_text q ++ s → (p ≡ q) × (r ≡ s))
    (unclosed : (p : StringPiece) (r s : List ℕ) → Piece p → mark ∷ r ≡ piece_text p ++ s → ⊥) where
  same_pieces : (ps qs : List StringPiece) → EachPiece Piece ps → EachPiece Piece qs → pieces_text ps ++ mark ∷ [] ≡ pieces_text qs ++ mark ∷ [] → ps ≡ qs
  same_pieces [] [] h k e = refl
  same_pieces [] (q ∷ qs) h k e = absurd (unclosed q [] (pieces_text qs ++ mark ∷ []) k.0 (e ∙ append_assoc (piece_text q) (pieces_text qs) (mark ∷ [])))
  same_pieces (p ∷ ps) [] h k e = absurd (unclosed p [] (pieces_text ps ++ mark ∷ []) h.0 (sym e ∙ append_assoc (piece_text p) (pieces_text ps) (mark ∷ [])))
  same_pieces (p ∷ ps) (q ∷ qs) h k e =
      let first = same p q (pieces_text ps ++ mark ∷ []) (pieces_text qs ++ mark ∷ []) h.0 k.0 (sym (append_assoc (piece_text p) (pieces_text ps) (mark ∷ [])) ∙ (e ∙ append_assoc (piece_text q) (pieces_text qs) (mark ∷ []))) in
      let rest = same_pieces ps qs h.1 k.1 first.1 in
      let head : p ≡ q = first.0 in
      let tail : ps ≡ qs = rest in
      cc

basic_name : (part m n : List ℕ) → MeansString Basic part m → MeansString Basic part n → m ≡ n
basic_name part m n h k =
    let text : 0x22 ∷ (pieces_text h.1 ++ 0x22 ∷ []) ≡ 0x22 ∷ (pieces_text k.1 ++ 0x22 ∷ []) = sym h.3 ∙ k.3 in
    let rest : pieces_text h.1 ++ 0x22 ∷ [] ≡ pieces_text k.1 ++ 0x22 ∷ [] = cc in
    h.4 ∙ (ap (flat_map piece_means) (same_pieces 0x22 IsBasicPiece same_basic unclosed_basic h.1 k.1 h.2.1 k.2.1 rest) ∙ sym k.4)

literal_name : (part m n : List ℕ) → MeansString Literal part m → MeansString Literal part n → m ≡ n
literal_name part m n h k =
    let text : 0x27 ∷ (pieces_text h.1 ++ 0x27 ∷ []) ≡ 0x27 ∷ (pieces_text k.1 ++ 0x27 ∷ []) = sym h.3 ∙ k.3 in
    let rest : pieces_text h.1 ++ 0x27 ∷ [] ≡ pieces_text k.1 ++ 0x27 ∷ [] = cc in
    h.4 ∙ (ap (flat_map piece_means) (same_pieces 0x27 IsLiteralPiece same_literal unclosed_literal h.1 k.1 h.2.1 k.2.1 rest) ∙ sym k.4)

apart : (part m n : List ℕ) → MeansString Basic part m → MeansString Literal part n → ⊥
apart part m n h k =
    let text : 0x22 ∷ (pieces_text h.1 ++ 0x22 ∷ []) ≡ 0x27 ∷ (pieces_text k.1 ++ 0x27 ∷ []) = sym h.3 ∙ k.3 in
    let marks : ◌≡◌ {A = ℕ} 0x22 0x27 = cc in
    omega arith

-- a bare key begins with no mark
unmarked : (part rest : List ℕ) (mark : ℕ) → (mark ≡ 0x22) ⊎ (mark ≡ 0x27) → IsBareKey part → part ≡ mark ∷ rest → ⊥
unmarked [] rest mark either h e = h
unmarked (b ∷ bs) rest mark either h e = let first : b ≡ mark = cc in no_mark b h.0 (subst (λ a. (a ≡ 0x22) ⊎ (a ≡ 0x27)) (sym first) either)

unmarked_string : (part n : List ℕ) → IsBareKey part → MeansString Basic part n ⊎ MeansString Literal part n → ⊥
unmarked_string part n h k = ⊎_elim
    (λ (basic : MeansString Basic part n). unmarked part _ 0x22 (inl refl) h basic.3)
    (λ (literal : MeansString Literal part n). unmarked part _ 0x27 (inr refl) h literal.3)
    k

abbrev MeansQuoted : List ℕ → List ℕ → Type 0
MeansQuoted part n = MeansString Basic part n ⊎ MeansString Literal part n

string_name : (part m n : List ℕ) → MeansQuoted part m → MeansQuoted part n → m ≡ n
string_name part m n h k = ⊎_elim
    (λ (b : MeansString Basic part m). ⊎_elim (basic_name part m n b) (λ (l : MeansString Literal part n). absurd (apart part m n b l)) k)
    (λ (l : MeansString Literal part m). ⊎_elim (λ (b : MeansString Basic part n). absurd (apart part n m b l)) (literal_name part m n l) k)
    h

pub one_name : OneName
one_name part m n h k = ⊎_elim
    (λ (bare : IsBareKey part × (m ≡ part)). ⊎_elim (λ (also : IsBareKey part × (n ≡ part)). bare.1 ∙ sym also.1) (λ (s : MeansQuoted part n). absurd (unmarked_string part n bare.0 s)) k)
    (λ (s : MeansQuoted part m). ⊎_elim (λ (bare : IsBareKey part × (n ≡ part)). absurd (unmarked_string part m bare.0 s)) (λ (t : MeansQuoted part n). string_name part m n s t) k)
    h
