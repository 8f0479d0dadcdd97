-- What a whole string is made of, and its value.
use Rattle.std.proofs.Common.{◌≡◌, ℕ, ◌+◌, ◌-◌, ◌<◌, List, [], ◌∷◌, ◌++◌, length, take, drop, get_or, Option, Some, None, sym, refl, ap, ◌∙◌, subst, arith, append_assoc, length-append, IsUtf8, IsCharBoundary, ⊎_elim, ◌⊎◌}
use Rattle.std.specs.List.{flat_map}
use Rattle.std.proofs.lemmas.Bool.{ltb-true}
use Rattle.std.proofs.lemmas.List.{append-nil, take_all, take_at, drop_at, get_or_append_left, get_or_at, length-replicate}
use Rattle.std.proofs.iter.AsciiBoundary.{after_IsAscii, before_ascii}
use Rattle.toml_text.specs.Forms.{Each}
use Rattle.toml_scalar.specs.Strings.{StringPiece, Plain, Escape, UnicodeEscape, Newline, Dropped, pieces_text, piece_means, EachPiece, IsBasicPiece, IsMultiLineBasicPiece, IsLiteralPiece, IsMultiLineLiteralPiece, LongestDropped, IsFirst, quote_of, string_text, IsContent, MeansString, IsString}
use Rattle.toml_scalar.specs.StringRuns.{marks_len, first_len, kind_at, string_len, string_value}
use Rattle.toml_scalar.specs.StringValues.{Unescapes, IsContentOf}
use Rattle.toml_scalar.specs.declared.strings.kind.StringKind.{StringKind}
use Rattle.toml_scalar.specs.declared.strings.kind.StringKind.TheVariants.{Basic, MultiLineBasic, Literal, MultiLineLiteral}
use Rattle.toml_scalar.proofs.StringPieces.{multi_line_from_basic, multi_line_from_literal, multi_line_basic_form, multi_line_literal_form}
use Rattle.toml_scalar.proofs.StringTokens.{quote, apostrophe, forms, first_len_is, closing, string_split, opens_found}
use Rattle.toml_scalar.proofs.StringLaws.{string_sound, value_found}
use Rattle.toml_scalar.proofs.StringValues.{is_ascii, each_append, each_at, line_ascii}

-- a text that is found whole is a string, of the kind that its marks open

whole_string : (text : List ℕ) → string_len text ≡ Some (length text) → (kind : StringKind) × IsString kind text
whole_string text e =
    let s = (string_sound text (length text) e).1 in
    (s.0, subst (IsString s.0) (take_all (length text) text (omega arith)) s.1)

kind_whole : (kind : StringKind) (text : List ℕ) → IsString kind text → kind_at text ≡ Some kind
kind_whole kind text is =
    let m : MeansString kind text is.0 = is.1 in
    ap kind_at (m.3 ∙ sym (append-nil (string_text kind m.0 m.1))) ∙ opens_found kind m.0 m.1 [] m.2 refl

pub opened_whole : (kind : StringKind) (text : List ℕ) → string_len text ≡ Some (length text) → Some kind ≡ kind_at text → IsString kind text
opened_whole kind text e h =
    let w = whole_string text e in
    let some : Some kind ≡ Some w.0 = h ∙ kind_whole w.0 text w.1 in
    let same : kind ≡ w.0 = cc in
    subst (λ k. IsString k text) (sym same) w.1

pub opened_none : (text : List ℕ) → string_len text ≡ Some (length text) → None ≡ kind_at text → ⊥
opened_none text e h =
    let w = whole_string text e in
    let some : ◌≡◌ {A = Option StringKind} None (Some w.0) = h ∙ kind_whole w.0 text w.1 in
    cc

-- where its content stands

abbrev front : StringKind → List ℕ → List ℕ
front kind first = closing kind ++ first

module _ (kind : StringKind) (text first : List ℕ) (ps : List StringPiece) (h : IsContent kind first ps) (is : text ≡ string_text kind first ps) where
  behind_marks : text ≡ closing kind ++ (first ++ (pieces_text ps ++ closing kind))
  behind_marks =
      is ∙ (sym (append-nil (string_text kind first ps)) ∙ (string_split kind first ps [] h ∙ ap (λ l. closing kind ++ (first ++ (pieces_text ps ++ l))) (append-nil (closing kind))))

  text_split : text ≡ front kind first ++ (pieces_text ps ++ closing kind)
  text_split = behind_marks ∙ sym (append_assoc (closing kind) first (pieces_text ps ++ closing kind))

  first_is : first_len kind (drop (marks_len kind) text) ≡ length first
  first_is =
      ap (first_len kind) (ap (drop (marks_len kind)) behind_marks ∙ drop_at (closing kind) (first ++ (pieces_text ps ++ closing kind)) (marks_len kind) (length-replicate (marks_len kind) (quote_of kind)))
      ∙ by_kind kind h
    where
      by_kind : (kind : StringKind) → IsContent kind first ps → first_len kind (first ++ (pieces_text ps ++ closing kind)) ≡ length first
      by_kind Basic h = ap length (sym h.0)
      by_kind Literal h = ap length (sym h.0)
      by_kind MultiLineBasic h = first_len_is 0x22 first (0x22 ∷ 0x22 ∷ []) ps quote (forms IsMultiLineBasicPiece multi_line_basic_form ps h.1) h.0
      by_kind MultiLineLiteral h = first_len_is 0x27 first (0x27 ∷ 0x27 ∷ []) ps apostrophe (forms IsMultiLineLiteralPiece multi_line_literal_form ps h.1) h.0

  start_is : (marks n : ℕ) → marks ≡ marks_len kind → n ≡ first_len kind (drop marks text) → marks + n ≡ length (front kind first)
  start_is marks n m e =
      let k : n ≡ length first = e ∙ (ap (λ x. first_len kind (drop x text)) m ∙ first_is) in
      omega (arith, length-append (closing kind) first, length-replicate (marks_len kind) (quote_of kind))

  front_ascii : Each is_ascii (front kind first)
  front_ascii = each_append is_ascii (closing kind) first (marks_ascii kind) (by_kind kind h)
    where
      marks_ascii : (kind : StringKind) → Each is_ascii (closing kind)
      marks_ascii Basic = (refl, tt)
      marks_ascii Literal = (refl, tt)
      marks_ascii MultiLineBasic = (refl, (refl, (refl, tt)))
      marks_ascii MultiLineLiteral = (refl, (refl, (refl, tt)))

      line_or_none : (first : List ℕ) → IsFirst first ps → Each is_ascii first
      line_or_none [] h = tt
      line_or_none (b ∷ bs) h = line_ascii (b ∷ bs) h

      by_kind : (kind : StringKind) → IsContent kind first ps → Each is_ascii first
      by_kind Basic h = subst (Each is_ascii) (sym h.0) tt
      by_kind Literal h = subst (Each is_ascii) (sym h.0) tt
      by_kind MultiLineBasic h = line_or_none first h.0
      by_kind MultiLineLiteral h = line_or_none first h.0

  length_is : length text ≡ length (front kind first) + (length (pieces_text ps) + marks_len kind)
  length_is = omega (
    arith,
    ap length text_split,
    length-append (front kind first) (pieces_text ps ++ closing kind),
    length-append (pieces_text ps) (closing kind),
    length-replicate (marks_len kind) (quote_of kind),
  )

  pub start_bound : (marks n : ℕ) → marks ≡ marks_len kind → n ≡ first_len kind (drop marks text) → IsUtf8 text → IsCharBoundary text (marks + n)
  start_bound marks n m e utf8 =
      let start : marks + n ≡ length (front kind first) = start_is marks n m e in
      after_IsAscii text (marks + n) utf8 (omega (arith, length_is)) (λ some.
      let below : marks + n - 1 < length (front kind first) = omega arith in
      let here : get_or text (marks + n - 1) 0 ≡ get_or (front kind first) (marks + n - 1) 0 = ap (λ l. get_or l (marks + n - 1) 0) text_split ∙ get_or_append_left (front kind first) (pieces_text ps ++ closing kind) 0 (marks + n - 1) below in
      let small : get_or (front kind first) (marks + n - 1) 0 < 128 = ltb-true _ 128 (each_at is_ascii (front kind first) (marks + n - 1) front_ascii below) in
      omega arith)

  pub end_bound : (marks : ℕ) → marks ≡ marks_len kind → IsCharBoundary text (length text - marks)
  end_bound marks m =
      before_ascii text (length text - marks) (omega arith) (λ below.
      let count : length (front kind first ++ pieces_text ps) ≡ length text - marks = omega (arith, length_is, length-append (front kind first) (pieces_text ps)) in
      let here : get_or text (length text - marks) 0 ≡ quote_of kind =
      ap (λ l. get_or l (length text - marks) 0) (text_split ∙ sym (append_assoc (front kind first) (pieces_text ps) (closing kind))) ∙ at_close kind (front kind first ++ pieces_text ps) (length text - marks) count in
      omega (arith, mark_small kind))
    where
      at_close : (kind : StringKind) (bs : List ℕ) (n : ℕ) → length bs ≡ n → get_or (bs ++ closing kind) n 0 ≡ quote_of kind
      at_close Basic bs n e = get_or_at bs 0x22 [] 0 n e
      at_close Literal bs n e = get_or_at bs 0x27 [] 0 n e
      at_close MultiLineBasic bs n e = get_or_at bs 0x22 (0x22 ∷ 0x22 ∷ []) 0 n e
      at_close MultiLineLiteral bs n e = get_or_at bs 0x27 (0x27 ∷ 0x27 ∷ []) 0 n e

      mark_small : (kind : StringKind) → quote_of kind < 128
      mark_small Basic = omega arith
      mark_small Literal = omega arith
      mark_small MultiLineBasic = omega arith
      mark_small MultiLineLiteral = omega arith

  pub content_is : (marks n : ℕ) → marks ≡ marks_len kind → n ≡ first_len kind (drop marks text) → take (length text - marks - (marks + n)) (drop (marks + n) text) ≡ pieces_text ps
  content_is marks n m e =
      let start : length (front kind first) ≡ marks + n = sym (start_is marks n m e) in
      let rest : drop (marks + n) text ≡ pieces_text ps ++ closing kind = ap (drop (marks + n)) text_split ∙ drop_at (front kind first) (pieces_text ps ++ closing kind) (marks + n) start in
      ap (take (length text - marks - (marks + n))) rest ∙ take_at (pieces_text ps) (closing kind) (length text - marks - (marks + n)) (omega (arith, length_is))

-- its value

basic_pieces : (ps : List StringPiece) → EachPiece IsBasicPiece ps → EachPiece IsMultiLineBasicPiece ps × LongestDropped ps
basic_pieces [] h = (tt, tt)
basic_pieces (Plain b ∷ ps) h = let r = basic_pieces ps h.1 in ((multi_line_from_basic (Plain b) h.0, r.0), r.1)
basic_pieces (Escape x ∷ ps) h = let r = basic_pieces ps h.1 in ((h.0, r.0), r.1)
basic_pieces (UnicodeEscape u digits ∷ ps) h = let r = basic_pieces ps h.1 in ((h.0, r.0), r.1)
basic_pieces (Newline line ∷ ps) h = absurd h.0
basic_pieces (Dropped ws line rest ∷ ps) h = absurd h.0

literal_means : (ps : List StringPiece) → EachPiece IsMultiLineLiteralPiece ps → pieces_text ps ≡ flat_map piece_means ps
literal_means [] h = refl
literal_means (Plain b ∷ ps) h = ap (λ l. b ∷ l) (literal_means ps h.1)
literal_means (Newline line ∷ ps) h = ap (λ l. line ++ l) (literal_means ps h.1)
literal_means (Escape x ∷ ps) h = absurd h.0
literal_means (UnicodeEscape u digits ∷ ps) h = absurd h.0
literal_means (Dropped ws line rest ∷ ps) h = absurd h.0

one_line_literal : (ps : List StringPiece) → EachPiece IsLiteralPiece ps → EachPiece IsMultiLineLiteralPiece ps
one_line_literal [] h = tt
one_line_literal (p ∷ ps) h = (multi_line_from_literal p h.0, one_line_literal ps h.1)

pub basic_value : (kind : StringKind) (text content value : List ℕ) → (kind ≡ Basic) ⊎ (kind ≡ MultiLineBasic) → IsString kind text → IsContentOf kind text content → ((v : List ℕ) → Unescapes content v → value ≡ v) → string_value text ≡ Some value
basic_value kind text content value basic is content_of unescaped =
    let m : MeansString kind text is.0 = is.1 in
    let parts : EachPiece IsMultiLineBasicPiece m.1 × LongestDropped m.1 = ⊎_elim
    (λ (k : kind ≡ Basic). basic_pieces m.1 (let c : IsContent Basic m.0 m.1 = subst (λ x. IsContent x m.0 m.1) k m.2 in c.1))
    (λ (k : kind ≡ MultiLineBasic). let c : IsContent MultiLineBasic m.0 m.1 = subst (λ x. IsContent x m.0 m.1) k m.2 in (c.1, c.3))
    basic in
    value_found kind text is.0 m ∙ ap Some (sym (unescaped is.0 (m.1, parts.0, parts.1, content_of m.0 m.1 m.2 m.3, m.4)))

pub literal_value : (kind : StringKind) (text content value : List ℕ) → (kind ≡ Literal) ⊎ (kind ≡ MultiLineLiteral) → IsString kind text → IsContentOf kind text content → value ≡ content → string_value text ≡ Some value
literal_value kind text content value literal is content_of same =
    let m : MeansString kind text is.0 = is.1 in
    let parts : EachPiece IsMultiLineLiteralPiece m.1 = ⊎_elim
    (λ (k : kind ≡ Literal). one_line_literal m.1 (let c : IsContent Literal m.0 m.1 = subst (λ x. IsContent x m.0 m.1) k m.2 in c.1))
    (λ (k : kind ≡ MultiLineLiteral). let c : IsContent MultiLineLiteral m.0 m.1 = subst (λ x. IsContent x m.0 m.1) k m.2 in c.1)
    literal in
    value_found kind text is.0 m ∙ ap Some (m.4 ∙ (sym (literal_means m.1 parts) ∙ (sym (content_of m.0 m.1 m.2 m.3) ∙ sym same)))
