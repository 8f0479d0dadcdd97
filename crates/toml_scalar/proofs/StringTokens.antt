-- The string at the front: what is found is one, and what is one is found.
use Rattle.std.proofs.Common.{◌≡◌, ℕ, zero, suc, ◌+◌, ◌<◌, ◌≤◌, true, false, List, [], ◌∷◌, ◌++◌, length, take, drop, replicate, Option, Some, None, sym, refl, ap, ◌∙◌, subst, arith, eqb, eq-eqb, ⊎_elim, ◌⊎◌, inl, inr, append_assoc}
use Rattle.std.specs.Prelude.{IfSome, option_map, option_and_then}
use Rattle.std.proofs.lemmas.Bool.{cond_both, cond-true, cond-false, leb-true, le-leb, lt-leb, and_left}
use Rattle.std.proofs.lemmas.Bool.Decides.{nat_tests}
use Rattle.toml_text.specs.Bytes.{is_basic, is_literal}
use Rattle.std.proofs.lemmas.List.{append-nil, take-append-drop, take_at, drop_at, length-replicate}
use Rattle.toml_text.specs.Forms.{IsNewline}
use Rattle.toml_text.specs.Runs.{run_len, begins, is_byte, newline_len}
use Rattle.toml_scalar.proofs.Newlines.{newline_there}
use Rattle.toml_text.proofs.Proved.{newline_found}
use Rattle.toml_scalar.specs.Strings.{StringPiece, Plain, Escape, UnicodeEscape, Newline, Dropped, piece_text, pieces_text, EachPiece, IsBasicPiece, IsLiteralPiece, IsMultiLineBasicPiece, IsMultiLineLiteralPiece, LongestDropped, IsFirst, quote_of, three, string_text, IsContent}
use Rattle.toml_scalar.specs.declared.strings.kind.StringKind.{StringKind}
use Rattle.toml_scalar.specs.declared.strings.kind.StringKind.TheVariants.{Basic, MultiLineBasic, Literal, MultiLineLiteral}
use Rattle.toml_scalar.specs.StringRuns.{Step, basic_at, literal_at, multi_line_basic_at, multi_line_literal_at, one_step, three_step, pieces_from, is_multi_line, marks_len, kind_at, begins_three, StringToken, token_of, string_at}
use Rattle.toml_scalar.proofs.StringPieces.{is_mark, Ends, HasForm, IsQuote, form_more, form_begins, basic_sound, literal_sound, multi_line_basic_sound, multi_line_literal_sound, basic_found, literal_found, multi_line_basic_found, multi_line_literal_found, basic_form, literal_form, multi_line_basic_form, multi_line_literal_form}
use Rattle.toml_scalar.proofs.StringContent.{one_sound, three_sound, one_found, three_found, marks_front, run_no}

pub quote : IsQuote 0x22
quote = record { backslash = refl; lf = refl; cr = refl; ws = refl; mark_lf = refl; mark_cr = refl }

pub apostrophe : IsQuote 0x27
apostrophe = record { backslash = refl; lf = refl; cr = refl; ws = refl; mark_lf = refl; mark_cr = refl }

-- what is found is a string

-- the token is a string that stands at the front
abbrev pub TokenIs : List ℕ → StringToken → Type 0
TokenIs bs s = IsContent s.kind s.first s.pieces × ((t : List ℕ) × (bs ≡ string_text s.kind s.first s.pieces ++ t))

if_map : {A B : Type 0} (f : A → B) (o : Option A) (P : A → Type 0) (Q : B → Type 0) → ((a : A) → P a → Q (f a)) → IfSome o P → IfSome (option_map f o) Q
if_map f None P Q k h = tt
if_map f (Some a) P Q k h = k a h

one_text : (mark : ℕ) (bs t : List ℕ) (ps : List StringPiece) → bs ≡ pieces_text ps ++ (mark ∷ [] ++ t) → mark ∷ bs ≡ (mark ∷ (pieces_text ps ++ mark ∷ [])) ++ t
one_text mark bs t ps is = ap (λ l. mark ∷ l) (is ∙ sym (append_assoc (pieces_text ps) (mark ∷ []) t))

three_text : (mark : ℕ) (first bs t : List ℕ) (ps : List StringPiece) → bs ≡ first ++ (pieces_text ps ++ (three mark ++ t)) → three mark ++ bs ≡ (three mark ++ (first ++ (pieces_text ps ++ three mark))) ++ t
three_text mark first bs t ps is = ap (λ l. three mark ++ l) (is ∙ (ap (λ l. first ++ l) (sym (append_assoc (pieces_text ps) (three mark) t)) ∙ sym (append_assoc first (pieces_text ps ++ three mark) t)))

is_first : (first : List ℕ) (ps : List StringPiece) → IsNewline first → IsFirst first ps
is_first [] ps h = ⊎_elim (λ (k : [] ≡ 0x0A ∷ []). absurd cc) (λ (k : [] ≡ 0x0D ∷ 0x0A ∷ []). absurd cc) h
is_first (b ∷ bs) ps h = h

no_first : (bs more : List ℕ) (ps : List StringPiece) → newline_len bs ≡ 0 → bs ≡ pieces_text ps ++ more → EachPiece HasForm ps → IsFirst [] ps
no_first bs more [] none is h = tt
no_first bs more (Plain b ∷ ps) none is h = tt
no_first bs more (Escape x ∷ ps) none is h = tt
no_first bs more (UnicodeEscape u digits ∷ ps) none is h = tt
no_first bs more (Dropped ws line rest ∷ ps) none is h = tt
no_first bs more (Newline line ∷ ps) none is h =
    let same : newline_len bs ≡ length line = ap newline_len (is ∙ append_assoc line (pieces_text ps) more) ∙ newline_found line (pieces_text ps ++ more) h.0 in
    omega (arith, form_more (Newline line) h.0)

first_is : (n : ℕ) (bs more : List ℕ) (ps : List StringPiece) → n ≡ newline_len bs → drop n bs ≡ pieces_text ps ++ more → EachPiece HasForm ps → IsFirst (take n bs) ps
first_is zero bs more ps e is h = no_first bs more ps (sym e) is h
first_is (suc n) bs more ps e is h = is_first (take (suc n) bs) ps (rw e (newline_there bs (omega arith)))

pub forms : (P : StringPiece → Type 0) → ((q : StringPiece) → P q → HasForm q) → (qs : List StringPiece) → EachPiece P qs → EachPiece HasForm qs
forms P f [] h = tt
forms P f (q ∷ qs) h = (f q h.0, forms P f qs h.1)

-- the text in front of its marks: of the bytes behind a first newline
behind_first : (n : ℕ) (bs more : List ℕ) → drop n bs ≡ more → bs ≡ take n bs ++ more
behind_first n bs more is = sym (ap (λ l. take n bs ++ l) (sym is) ∙ take-append-drop n bs)

pub token_sound : (kind : StringKind) (bs : List ℕ) → IfSome (token_of kind bs) (TokenIs (replicate (marks_len kind) (quote_of kind) ++ bs))
token_sound Basic bs = if_map _ (pieces_from (one_step 0x22 basic_at) 0 bs) _ _
    (λ ps h. ((refl, h.2), (h.0, one_text 0x22 bs h.0 ps h.1)))
    (one_sound IsBasicPiece 0x22 basic_at basic_sound bs)
token_sound Literal bs = if_map _ (pieces_from (one_step 0x27 literal_at) 0 bs) _ _
    (λ ps h. ((refl, h.2), (h.0, one_text 0x27 bs h.0 ps h.1)))
    (one_sound IsLiteralPiece 0x27 literal_at literal_sound bs)
token_sound MultiLineBasic bs =
    let n : ℕ = newline_len bs in
    if_map _ (pieces_from (three_step 0x22 multi_line_basic_at) 0 (drop n bs)) _ _
    (λ ps h. (
      (first_is n bs (three 0x22 ++ h.0) ps refl h.1 (forms IsMultiLineBasicPiece multi_line_basic_form ps h.2.0), h.2.0, h.2.1, h.2.2),
      (h.0, three_text 0x22 (take n bs) bs h.0 ps (behind_first n bs (pieces_text ps ++ (three 0x22 ++ h.0)) h.1)),
    ))
    (three_sound IsMultiLineBasicPiece 0x22 multi_line_basic_at multi_line_basic_sound multi_line_basic_form refl (drop n bs))
token_sound MultiLineLiteral bs =
    let n : ℕ = newline_len bs in
    if_map _ (pieces_from (three_step 0x27 multi_line_literal_at) 0 (drop n bs)) _ _
    (λ ps h. (
      (first_is n bs (three 0x27 ++ h.0) ps refl h.1 (forms IsMultiLineLiteralPiece multi_line_literal_form ps h.2.0), h.2.0, h.2.1),
      (h.0, three_text 0x27 (take n bs) bs h.0 ps (behind_first n bs (pieces_text ps ++ (three 0x27 ++ h.0)) h.1)),
    ))
    (three_sound IsMultiLineLiteralPiece 0x27 multi_line_literal_at multi_line_literal_sound multi_line_literal_form refl (drop n bs))

-- the marks that a kind opens with
abbrev pub Opens : List ℕ → StringKind → Type 0
Opens bs kind = marks_len kind ≤ run_len (is_byte (quote_of kind)) bs

run_one : (mark : ℕ) (bs : List ℕ) → begins (is_byte mark) bs ≡ true → 1 ≤ run_len (is_byte mark) bs
run_one mark [] e = absurd cc
run_one mark (b ∷ bs) e = omega (arith, cond-true (eqb b mark) (run_len (is_byte mark) bs + 1) 0 e)

pub kind_opens : (bs : List ℕ) → IfSome (kind_at bs) (Opens bs)
kind_opens bs = cond_both (begins (is_byte 0x22) bs) _ _ (λ o. IfSome o (Opens bs))
    (λ e. cond_both (begins_three 0x22 bs) MultiLineBasic Basic (Opens bs) (λ f. leb-true 3 _ f) (λ f. run_one 0x22 bs e))
    (λ e. cond_both (begins (is_byte 0x27) bs) _ _ (λ o. IfSome o (Opens bs))
    (λ f. cond_both (begins_three 0x27 bs) MultiLineLiteral Literal (Opens bs) (λ g. leb-true 3 _ g) (λ g. run_one 0x27 bs f))
    (λ f. tt))

string_at_kind : (bs : List ℕ) (o : Option StringKind) → IfSome o (Opens bs) → IfSome (option_and_then (λ kind. token_of kind (drop (marks_len kind) bs)) o) (TokenIs bs)
string_at_kind bs None h = tt
string_at_kind bs (Some kind) h = subst (λ l. IfSome (token_of kind (drop (marks_len kind) bs)) (TokenIs l)) (sym (marks_front (quote_of kind) (marks_len kind) bs h)) (token_sound kind (drop (marks_len kind) bs))

pub string_at_sound : (bs : List ℕ) → IfSome (string_at bs) (TokenIs bs)
unfolding string_at
string_at_sound bs = string_at_kind bs (kind_at bs) (kind_opens bs)

-- what is a string is found

-- the string, and marks behind it that go on with it
abbrev pub token : StringKind → List ℕ → List StringPiece → ℕ → StringToken
token kind first ps e = record { kind = kind; first = first; pieces = ps ++ replicate e (Plain (quote_of kind)) }

abbrev pub closing : StringKind → List ℕ
closing kind = replicate (marks_len kind) (quote_of kind)

abbrev pub IsRead : StringKind → List ℕ → List StringPiece → List ℕ → Option StringToken → Type 0
IsRead kind first ps rest o = (e : ℕ) × (o ≡ Some (token kind first ps e)) × (begins (is_byte (quote_of kind)) rest ≡ false → e ≡ 0)

one_read : (kind : StringKind) (first : List ℕ) (ps : List StringPiece) (rest : List ℕ) (o : Option (List StringPiece)) → first ≡ [] → o ≡ Some ps → IsRead kind first ps rest (option_map (λ qs. record { kind = kind; first = []; pieces = qs }) o)
one_read kind first ps rest o none e = (zero, rw (e, none) (ap (λ qs. Some (record { kind = kind; first = []; pieces = qs })) (sym (append-nil ps))), λ h. refl)

basic_byte : (b : ℕ) → is_basic b ≡ true → eqb b 0x22 ≡ false
basic_byte b h = grind (arith, nat_tests)

literal_byte : (b : ℕ) → is_literal b ≡ true → eqb b 0x27 ≡ false
literal_byte b h = grind (arith, nat_tests)

basic_other : (q : StringPiece) → IsBasicPiece q → is_mark 0x22 q ≡ false
basic_other (Plain b) h = basic_byte b h
basic_other (Escape x) h = refl
basic_other (UnicodeEscape u digits) h = refl
basic_other (Newline line) h = absurd h
basic_other (Dropped ws line rest) h = absurd h

basic_ends : (q : StringPiece) (rest : List ℕ) → IsBasicPiece q → Ends q rest
basic_ends (Plain b) rest h = tt
basic_ends (Escape x) rest h = tt
basic_ends (UnicodeEscape u digits) rest h = tt
basic_ends (Newline line) rest h = absurd h
basic_ends (Dropped ws line spaces) rest h = absurd h

literal_other : (q : StringPiece) → IsLiteralPiece q → is_mark 0x27 q ≡ false
literal_other (Plain b) h = literal_byte b h
literal_other (Escape x) h = absurd h
literal_other (UnicodeEscape u digits) h = absurd h
literal_other (Newline line) h = absurd h
literal_other (Dropped ws line rest) h = absurd h

literal_ends : (q : StringPiece) (rest : List ℕ) → IsLiteralPiece q → Ends q rest
literal_ends (Plain b) rest h = tt
literal_ends (Escape x) rest h = absurd h
literal_ends (UnicodeEscape u digits) rest h = absurd h
literal_ends (Newline line) rest h = absurd h
literal_ends (Dropped ws line spaces) rest h = absurd h

literal_longest : (qs : List StringPiece) → EachPiece IsMultiLineLiteralPiece qs → LongestDropped qs
literal_longest [] h = tt
literal_longest (Plain b ∷ qs) h = literal_longest qs h.1
literal_longest (Newline line ∷ qs) h = literal_longest qs h.1
literal_longest (Escape x ∷ qs) h = absurd h.0
literal_longest (UnicodeEscape u digits ∷ qs) h = absurd h.0
literal_longest (Dropped ws line rest ∷ qs) h = absurd h.0

byte_no_line : (b : ℕ) (bs : List ℕ) → eqb b 0x0A ≡ false → eqb b 0x0D ≡ false → newline_len (b ∷ bs) ≡ 0
byte_no_line b bs lf cr = cond-false _ _ _ lf ∙ cond-false _ _ _ (and_left _ _ cr)

-- the first newline has this length
pub first_len_is : (mark : ℕ) (first more : List ℕ) (ps : List StringPiece) → IsQuote mark → EachPiece HasForm ps → IsFirst first ps → newline_len (first ++ (pieces_text ps ++ (mark ∷ more))) ≡ length first
first_len_is mark (b ∷ bs) more ps m h f = newline_found (b ∷ bs) (pieces_text ps ++ (mark ∷ more)) f
first_len_is mark [] more [] m h f = byte_no_line mark more m.mark_lf m.mark_cr
first_len_is mark [] more (Plain b ∷ ps) m h f = byte_no_line b (pieces_text ps ++ (mark ∷ more)) h.0.0 h.0.1
first_len_is mark [] more (Escape x ∷ ps) m h f = refl
first_len_is mark [] more (UnicodeEscape u digits ∷ ps) m h f = refl
first_len_is mark [] more (Dropped ws line spaces ∷ ps) m h f = refl
first_len_is mark [] more (Newline line ∷ ps) m h f = absurd f

three_read : (kind : StringKind) (first bs : List ℕ) (ps : List StringPiece) (rest : List ℕ) (step : List ℕ → Option Step) → newline_len (first ++ bs) ≡ length first → ((e : ℕ) × (pieces_from step 0 bs ≡ Some (ps ++ replicate e (Plain (quote_of kind)))) × (begins (is_byte (quote_of kind)) rest ≡ false → e ≡ 0)) →
    IsRead kind first ps rest (option_map (λ qs. record { kind = kind; first = take (newline_len (first ++ bs)) (first ++ bs); pieces = qs }) (pieces_from step 0 (drop (newline_len (first ++ bs)) (first ++ bs))))
three_read kind first bs ps rest step n r = (r.0, rw (n, drop_at first bs (length first) refl, take_at first bs (length first) refl, r.1) refl, r.2)

pub token_found : (kind : StringKind) (first : List ℕ) (ps : List StringPiece) (rest : List ℕ) → IsContent kind first ps → IsRead kind first ps rest (token_of kind (first ++ (pieces_text ps ++ (closing kind ++ rest))))
token_found Basic first ps rest h = subst (λ l. IsRead Basic first ps rest (token_of Basic (l ++ (pieces_text ps ++ (0x22 ∷ rest))))) (sym h.0)
    (one_read Basic first ps rest _ h.0 (one_found IsBasicPiece 0x22 quote basic_at basic_form basic_found basic_other (λ q rest k. basic_ends q rest k) ps rest h.1))
token_found Literal first ps rest h = subst (λ l. IsRead Literal first ps rest (token_of Literal (l ++ (pieces_text ps ++ (0x27 ∷ rest))))) (sym h.0)
    (one_read Literal first ps rest _ h.0 (one_found IsLiteralPiece 0x27 apostrophe literal_at literal_form literal_found literal_other (λ q rest k. literal_ends q rest k) ps rest h.1))
token_found MultiLineBasic first ps rest h =
    three_read MultiLineBasic first (pieces_text ps ++ (three 0x22 ++ rest)) ps rest (three_step 0x22 multi_line_basic_at)
    (first_len_is 0x22 first (0x22 ∷ 0x22 ∷ rest) ps quote (forms IsMultiLineBasicPiece multi_line_basic_form ps h.1) h.0)
    (three_found IsMultiLineBasicPiece 0x22 quote multi_line_basic_at multi_line_basic_form multi_line_basic_found 0 ps rest (omega arith) h.1 h.2 h.3)
token_found MultiLineLiteral first ps rest h =
    three_read MultiLineLiteral first (pieces_text ps ++ (three 0x27 ++ rest)) ps rest (three_step 0x27 multi_line_literal_at)
    (first_len_is 0x27 first (0x27 ∷ 0x27 ∷ rest) ps apostrophe (forms IsMultiLineLiteralPiece multi_line_literal_form ps h.1) h.0)
    (three_found IsMultiLineLiteralPiece 0x27 apostrophe multi_line_literal_at multi_line_literal_form multi_line_literal_found 0 ps rest (omega arith) h.1 h.2 (literal_longest ps h.1))

-- which kind the marks open

pub string_split : (kind : StringKind) (first : List ℕ) (ps : List StringPiece) (rest : List ℕ) → IsContent kind first ps → string_text kind first ps ++ rest ≡ replicate (marks_len kind) (quote_of kind) ++ (first ++ (pieces_text ps ++ (closing kind ++ rest)))
string_split Basic first ps rest h = ap (λ l. 0x22 ∷ l) (append_assoc (pieces_text ps) (0x22 ∷ []) rest ∙ ap (λ l. l ++ (pieces_text ps ++ (0x22 ∷ rest))) (sym h.0))
string_split Literal first ps rest h = ap (λ l. 0x27 ∷ l) (append_assoc (pieces_text ps) (0x27 ∷ []) rest ∙ ap (λ l. l ++ (pieces_text ps ++ (0x27 ∷ rest))) (sym h.0))
string_split MultiLineBasic first ps rest h = sym (three_text 0x22 first (first ++ (pieces_text ps ++ (three 0x22 ++ rest))) rest ps refl)
string_split MultiLineLiteral first ps rest h = sym (three_text 0x27 first (first ++ (pieces_text ps ++ (three 0x27 ++ rest))) rest ps refl)

run_more : (mark : ℕ) (bs : List ℕ) → run_len (is_byte mark) (mark ∷ bs) ≡ run_len (is_byte mark) bs + 1
run_more mark bs = cond-true _ _ _ (eq-eqb mark mark refl)

-- in a one-line string no third mark stands in front
one_mark : (mark : ℕ) (ps : List StringPiece) (rest : List ℕ) → IsQuote mark → EachPiece HasForm ps → EachPiece (λ q. is_mark mark q ≡ false) ps → begins (is_byte mark) rest ≡ false → run_len (is_byte mark) (pieces_text ps ++ (mark ∷ rest)) < 2
one_mark mark [] rest m h other stop = omega (arith, run_no mark rest stop, run_more mark rest)
one_mark mark (q ∷ qs) rest m h other stop =
    let start : begins (is_byte mark) (piece_text q ++ (pieces_text qs ++ (mark ∷ rest))) ≡ false = form_begins mark m q (pieces_text qs ++ (mark ∷ rest)) h.0 other.0 in
    let none : run_len (is_byte mark) (piece_text q ++ (pieces_text qs ++ (mark ∷ rest))) ≡ 0 = run_no mark (piece_text q ++ (pieces_text qs ++ (mark ∷ rest))) start in
    omega (arith, none, ap (run_len (is_byte mark)) (append_assoc (piece_text q) (pieces_text qs) (mark ∷ rest)))

-- the kind that some marks in a row open
not_three : (mark : ℕ) (bs : List ℕ) → run_len (is_byte mark) bs < 2 → begins_three mark (mark ∷ bs) ≡ false
not_three mark bs h = lt-leb 3 (run_len (is_byte mark) (mark ∷ bs)) (omega (arith, run_more mark bs))

is_three : (mark : ℕ) (bs : List ℕ) → begins_three mark (three mark ++ bs) ≡ true
is_three mark bs = le-leb 3 (run_len (is_byte mark) (three mark ++ bs)) (omega (arith, run_more mark (mark ∷ mark ∷ bs), run_more mark (mark ∷ bs), run_more mark bs))

kind_of_one : (kind : StringKind) (bs : List ℕ) → (is_multi_line kind ≡ false) → run_len (is_byte (quote_of kind)) bs < 2 → kind_at (quote_of kind ∷ bs) ≡ Some kind
kind_of_one Basic bs e h = ap Some (cond-false _ _ _ (not_three 0x22 bs h))
kind_of_one Literal bs e h = ap Some (cond-false _ _ _ (not_three 0x27 bs h))
kind_of_one MultiLineBasic bs e h = absurd cc
kind_of_one MultiLineLiteral bs e h = absurd cc

kind_of_three : (kind : StringKind) (bs : List ℕ) → is_multi_line kind ≡ true → kind_at (three (quote_of kind) ++ bs) ≡ Some kind
kind_of_three Basic bs e = absurd cc
kind_of_three Literal bs e = absurd cc
kind_of_three MultiLineBasic bs e = ap Some (cond-true _ _ _ (is_three 0x22 bs))
kind_of_three MultiLineLiteral bs e = ap Some (cond-true _ _ _ (is_three 0x27 bs))

others : (P : StringPiece → Type 0) (mark : ℕ) → ((q : StringPiece) → P q → is_mark mark q ≡ false) → (qs : List StringPiece) → EachPiece P qs → EachPiece (λ q. is_mark mark q ≡ false) qs
others P mark f [] h = tt
others P mark f (q ∷ qs) h = (f q h.0, others P mark f qs h.1)

pub opens_found : (kind : StringKind) (first : List ℕ) (ps : List StringPiece) (rest : List ℕ) → IsContent kind first ps → begins (is_byte (quote_of kind)) rest ≡ false → kind_at (string_text kind first ps ++ rest) ≡ Some kind
opens_found Basic first ps rest h stop =
    ap (λ l. kind_at (0x22 ∷ l)) (append_assoc (pieces_text ps) (0x22 ∷ []) rest)
    ∙ kind_of_one Basic (pieces_text ps ++ (0x22 ∷ rest)) refl (one_mark 0x22 ps rest quote (forms IsBasicPiece basic_form ps h.1) (others IsBasicPiece 0x22 basic_other ps h.1) stop)
opens_found Literal first ps rest h stop =
    ap (λ l. kind_at (0x27 ∷ l)) (append_assoc (pieces_text ps) (0x27 ∷ []) rest)
    ∙ kind_of_one Literal (pieces_text ps ++ (0x27 ∷ rest)) refl (one_mark 0x27 ps rest apostrophe (forms IsLiteralPiece literal_form ps h.1) (others IsLiteralPiece 0x27 literal_other ps h.1) stop)
opens_found MultiLineBasic first ps rest h stop = kind_of_three MultiLineBasic ((first ++ (pieces_text ps ++ three 0x22)) ++ rest) refl
opens_found MultiLineLiteral first ps rest h stop = kind_of_three MultiLineLiteral ((first ++ (pieces_text ps ++ three 0x27)) ++ rest) refl

-- before any bytes, unless the string is two marks alone
pub opens_or_two : (kind : StringKind) (first : List ℕ) (ps : List StringPiece) (rest : List ℕ) → IsContent kind first ps → (kind_at (string_text kind first ps ++ rest) ≡ Some kind) ⊎ (length (string_text kind first ps) ≡ 2)
opens_or_two Basic first [] rest h = inr refl
opens_or_two Basic first (q ∷ qs) rest h = inl (
    let more : List ℕ = pieces_text qs ++ (0x22 ∷ []) in
    let start : begins (is_byte 0x22) (piece_text q ++ (more ++ rest)) ≡ false = form_begins 0x22 quote q (more ++ rest) (basic_form q h.1.0) (basic_other q h.1.0) in
    let none : run_len (is_byte 0x22) (piece_text q ++ (more ++ rest)) ≡ 0 = run_no 0x22 (piece_text q ++ (more ++ rest)) start in
    ap (λ l. kind_at (0x22 ∷ l)) (ap (λ l. l ++ rest) (append_assoc (piece_text q) (pieces_text qs) (0x22 ∷ [])) ∙ append_assoc (piece_text q) more rest)
    ∙ kind_of_one Basic (piece_text q ++ (more ++ rest)) refl (omega arith))
opens_or_two Literal first [] rest h = inr refl
opens_or_two Literal first (q ∷ qs) rest h = inl (
    let more : List ℕ = pieces_text qs ++ (0x27 ∷ []) in
    let start : begins (is_byte 0x27) (piece_text q ++ (more ++ rest)) ≡ false = form_begins 0x27 apostrophe q (more ++ rest) (literal_form q h.1.0) (literal_other q h.1.0) in
    let none : run_len (is_byte 0x27) (piece_text q ++ (more ++ rest)) ≡ 0 = run_no 0x27 (piece_text q ++ (more ++ rest)) start in
    ap (λ l. kind_at (0x27 ∷ l)) (ap (λ l. l ++ rest) (append_assoc (piece_text q) (pieces_text qs) (0x27 ∷ [])) ∙ append_assoc (piece_text q) more rest)
    ∙ kind_of_one Literal (piece_text q ++ (more ++ rest)) refl (omega arith))
opens_or_two MultiLineBasic first ps rest h = inl (kind_of_three MultiLineBasic ((first ++ (pieces_text ps ++ three 0x22)) ++ rest) refl)
opens_or_two MultiLineLiteral first ps rest h = inl (kind_of_three MultiLineLiteral ((first ++ (pieces_text ps ++ three 0x27)) ++ rest) refl)

pub string_at_found : (kind : StringKind) (first : List ℕ) (ps : List StringPiece) (rest : List ℕ) → IsContent kind first ps → kind_at (string_text kind first ps ++ rest) ≡ Some kind → IsRead kind first ps rest (string_at (string_text kind first ps ++ rest))
unfolding string_at
string_at_found kind first ps rest h opens =
    let behind : drop (marks_len kind) (string_text kind first ps ++ rest) ≡ first ++ (pieces_text ps ++ (closing kind ++ rest)) =
    ap (drop (marks_len kind)) (string_split kind first ps rest h) ∙ drop_at (closing kind) (first ++ (pieces_text ps ++ (closing kind ++ rest))) (marks_len kind) (length-replicate (marks_len kind) (quote_of kind)) in
    rw (opens, behind) (token_found kind first ps rest h)
