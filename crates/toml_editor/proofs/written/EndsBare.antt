-- A text whose last byte is a newline ends with a line of no bytes.
use Rattle.std.proofs.Common.{◌≡◌, ◌∙◌, ◌⊎◌, inl, inr, ⊎_elim, ℕ, ◌==◌, Bool, true, false, List, [], ◌∷◌, ◌++◌, refl, sym, ap, subst, append_assoc, append-nil, true≢false}
use Rattle.std.specs.Prelude.{Option, Some, None}
use Rattle.std.proofs.lemmas.Bool.{eqb-true}
use Rattle.toml_text.specs.Bytes.{is_ws, is_comment, is_digit, is_hex, is_octal, is_binary}
use Rattle.toml_text.specs.Forms.{Each, IsWs, IsComment, IsNewline}
use Rattle.toml_scalar.specs.Booleans.{IsBool}
use Rattle.toml_scalar.specs.Floats.{IsExponent, IsFloat, IsFloatTail, IsFraction, IsNamedFloat}
use Rattle.toml_scalar.specs.Integers.{AreDigits, IsBased, IsBasedBy, IsDecimal, IsSign, IsUnsigned, Signed}
use Rattle.toml_scalar.specs.Moments.{IsDate, IsDateTime, IsDelimiter, IsMoment, IsOffset, IsSecondFraction, IsTime}
use Rattle.toml_scalar.specs.Strings.{StringPiece, pieces_text, string_text, three}
use Rattle.toml_scalar.specs.Tokens.{IsToken}
use Rattle.toml_scalar.specs.declared.kind.MomentKind.{MomentKind}
use Rattle.toml_scalar.specs.declared.kind.MomentKind.TheVariants.{Offset, Local, Date, Time}
use Rattle.toml_scalar.specs.declared.kind.ScalarKind.{ScalarKind}
use Rattle.toml_scalar.specs.declared.kind.ScalarKind.TheVariants as kinds
use Rattle.toml_scalar.specs.declared.strings.kind.StringKind.{StringKind}
use Rattle.toml_scalar.specs.declared.strings.kind.StringKind.TheVariants.{Basic, MultiLineBasic, Literal, MultiLineLiteral}
use Rattle.toml_tree.specs.Spells.{AreLines, IsBlank, IsCommentOrNone, IsExpr, IsValue, Part, array_header_parts, assign_parts, blank_parts, comment_parts, equals_parts, expr_parts, gap_parts, header_parts, items_parts, joined, key_parts, keyval_parts, line_parts, lines_parts, pairs_parts, piece, begin, symbol, value_parts}
use Rattle.toml_tree.specs.Tree.{Piece, Blank, Assign, Value, Scalar, Array, Inline, Items, Close, Last, More, Pairs, ClosePairs, LastPair, MorePairs, Header, Expr, BlankLine, KeyValLine, TableLine, ArrayTableLine, Line}
use Rattle.toml_tree.proofs.Proved.{parts_join}
use Rattle.toml_working.specs.Manners.{ends_in_newline}

-- the last byte is no newline, or there is none
abbrev IsUnended : List ℕ → Type 0
IsUnended bs = ends_in_newline bs ≡ false

-- ---- bytes

-- A byte behind others ends them, with what follows it.
ends_behind : (x : List ℕ) (b : ℕ) (y : List ℕ) → ends_in_newline (x ++ b ∷ y) ≡ ends_in_newline (b ∷ y)
ends_behind [] b y = refl
ends_behind (c ∷ []) b y = refl
ends_behind (c ∷ d ∷ x) b y = ends_behind (d ∷ x) b y

cons_unended : (b : ℕ) (bs : List ℕ) → (b == 0x0A) ≡ false → IsUnended bs → IsUnended (b ∷ bs)
cons_unended b [] other un = other
cons_unended b (c ∷ bs) other un = un

append_unended : (x y : List ℕ) → IsUnended x → IsUnended y → IsUnended (x ++ y)
append_unended x [] front back = subst IsUnended (sym (append-nil x)) front
append_unended x (b ∷ y) front back = ends_behind x b y ∙ back

-- A byte of a class without the newline is another.
other_byte : (p : ℕ → Bool) (b : ℕ) → p 0x0A ≡ false → p b ≡ true → (b == 0x0A) ≡ false
other_byte p b none is = by (b == 0x0A) refl
  where
    by : (t : Bool) → (b == 0x0A) ≡ t → t ≡ false
    by true h = absurd (true≢false (sym is ∙ ap p (eqb-true b 0x0A h) ∙ none))
    by false h = refl

other_than : (b c : ℕ) → (c == 0x0A) ≡ false → b ≡ c → (b == 0x0A) ≡ false
other_than b c other is = ap (λ x. x == 0x0A) is ∙ other

each_unended : (p : ℕ → Bool) (bs : List ℕ) → p 0x0A ≡ false → Each p bs → IsUnended bs
each_unended p [] none is = refl
each_unended p (b ∷ bs) none is = cons_unended b bs (other_byte p b none is.0) (each_unended p bs none is.1)

-- ---- numbers and booleans

digits_unended : (p : ℕ → Bool) (bs : List ℕ) → p 0x0A ≡ false → AreDigits p bs → IsUnended bs
digits_unended p [] none is = absurd is
digits_unended p (d ∷ []) none is = other_byte p d none is
digits_unended p (d ∷ e ∷ bs) none is = ⊎_elim
    (λ (h : AreDigits p (e ∷ bs)). digits_unended p (e ∷ bs) none h)
    (λ (h : (e ≡ 0x5F) × AreDigits p bs). cons_unended e bs (other_than e 0x5F refl h.0) (digits_unended p bs none h.1))
    is.1

sign_other : (b : ℕ) → IsSign b → (b == 0x0A) ≡ false
sign_other b (inl is) = other_than b 0x2B refl is
sign_other b (inr is) = other_than b 0x2D refl is

signed_unended : (F : List ℕ → Type 0) → ((bs : List ℕ) → F bs → IsUnended bs) → (bs : List ℕ) → Signed F bs → IsUnended bs
signed_unended F all [] is = refl
signed_unended F all (b ∷ bs) (inl h) = cons_unended b bs (sign_other b h.0) (all bs h.1)
signed_unended F all (b ∷ bs) (inr h) = all (b ∷ bs) h

unsigned_unended : (bs : List ℕ) → IsUnsigned bs → IsUnended bs
unsigned_unended [] is = absurd is
unsigned_unended (d ∷ []) is = other_byte is_digit d refl is
unsigned_unended (d ∷ e ∷ bs) is = digits_unended is_digit (d ∷ e ∷ bs) refl is.1

decimal_unended : (bs : List ℕ) → IsDecimal bs → IsUnended bs
decimal_unended bs is = signed_unended IsUnsigned unsigned_unended bs is

based_by_unended : (letter : ℕ) (bs : List ℕ) → IsBasedBy letter bs → IsUnended (letter ∷ bs)
based_by_unended l bs (inl h) = cons_unended l bs (other_than l 0x78 refl h.0) (digits_unended is_hex bs refl h.1)
based_by_unended l bs (inr (inl h)) = cons_unended l bs (other_than l 0x6F refl h.0) (digits_unended is_octal bs refl h.1)
based_by_unended l bs (inr (inr h)) = cons_unended l bs (other_than l 0x62 refl h.0) (digits_unended is_binary bs refl h.1)

based_unended : (bs : List ℕ) → IsBased bs → IsUnended bs
based_unended [] is = absurd is
based_unended (z ∷ []) is = absurd is
based_unended (z ∷ letter ∷ bs) is = based_by_unended letter bs is.1

integer_unended : (bs : List ℕ) → IsDecimal bs ⊎ IsBased bs → IsUnended bs
integer_unended bs (inl is) = decimal_unended bs is
integer_unended bs (inr is) = based_unended bs is

exponent_unended : (bs : List ℕ) → IsExponent bs → IsUnended bs
exponent_unended [] is = absurd is
exponent_unended (e ∷ bs) is =
    cons_unended e bs (letter is.0) (signed_unended (AreDigits is_digit) (λ ds. digits_unended is_digit ds refl) bs is.1)
  where
    letter : (e ≡ 0x65) ⊎ (e ≡ 0x45) → (e == 0x0A) ≡ false
    letter (inl h) = other_than e 0x65 refl h
    letter (inr h) = other_than e 0x45 refl h

fraction_unended : (bs : List ℕ) → IsFraction bs → IsUnended bs
fraction_unended [] is = absurd is
fraction_unended (b ∷ bs) is = cons_unended b bs (other_than b 0x2E refl is.0) (digits_unended is_digit bs refl is.1)

tail_unended : (bs : List ℕ) → IsFloatTail bs → IsUnended bs
tail_unended bs (inl is) = exponent_unended bs is
tail_unended bs (inr (inl is)) = fraction_unended bs is
tail_unended bs (inr (inr h)) = subst IsUnended (sym h.2) (append_unended h.0 h.1 (fraction_unended h.0 h.3) (exponent_unended h.1 h.4))

named_unended : (bs : List ℕ) → IsNamedFloat bs → IsUnended bs
named_unended bs (inl is) = subst IsUnended (sym is) refl
named_unended bs (inr is) = subst IsUnended (sym is) refl

float_unended : (bs : List ℕ) → IsFloat bs → IsUnended bs
float_unended bs (inl is) = signed_unended IsNamedFloat named_unended bs is
float_unended bs (inr h) = subst IsUnended (sym h.2) (append_unended h.0 h.1 (decimal_unended h.0 h.3) (tail_unended h.1 h.4))

bool_unended : (bs : List ℕ) → IsBool bs → IsUnended bs
bool_unended bs (inl is) = subst IsUnended (sym is) refl
bool_unended bs (inr is) = subst IsUnended (sym is) refl

-- ---- dates and times

date_unended : (bs : List ℕ) → IsDate bs → IsUnended bs
date_unended (y1 ∷ y2 ∷ y3 ∷ y4 ∷ dash ∷ m1 ∷ m2 ∷ hyphen ∷ d1 ∷ d2 ∷ []) is = other_byte is_digit d2 refl is.4.1
date_unended _ is = absurd is

fraction_of_second_unended : (bs : List ℕ) → (bs ≡ []) ⊎ IsSecondFraction bs → IsUnended bs
fraction_of_second_unended bs (inl is) = subst IsUnended (sym is) refl
fraction_of_second_unended [] (inr is) = absurd is
fraction_of_second_unended (point ∷ []) (inr is) = absurd is
fraction_of_second_unended (point ∷ digit ∷ digits) (inr is) = each_unended is_digit (digit ∷ digits) refl is.1

time_unended : (bs : List ℕ) → IsTime bs → IsUnended bs
time_unended (h1 ∷ h2 ∷ colon ∷ m1 ∷ m2 ∷ colon2 ∷ s1 ∷ s2 ∷ bs) is =
    cons_unended s2 bs (other_byte is_digit s2 refl is.4.1) (fraction_of_second_unended bs is.5)
time_unended _ is = absurd is

offset_unended : (bs : List ℕ) → IsOffset bs → IsUnended bs
offset_unended (z ∷ []) (inl is) = other_than z 0x5A refl is
offset_unended (z ∷ []) (inr is) = other_than z 0x7A refl is
offset_unended (sign ∷ h1 ∷ h2 ∷ colon ∷ m1 ∷ m2 ∷ []) is = other_byte is_digit m2 refl is.3.1
offset_unended _ is = absurd is

delimiter_other : (t : ℕ) → IsDelimiter t → (t == 0x0A) ≡ false
delimiter_other t (inl is) = other_than t 0x54 refl is
delimiter_other t (inr (inl is)) = other_than t 0x74 refl is
delimiter_other t (inr (inr is)) = other_than t 0x20 refl is

date_time_unended : (bs : List ℕ) → IsDateTime bs → IsUnended bs
date_time_unended bs h = subst IsUnended (sym h.3)
    (append_unended h.0 (h.1 ∷ h.2) (date_unended h.0 h.4) (cons_unended h.1 h.2 (delimiter_other h.1 h.5) (time_unended h.2 h.6)))

moment_unended : (kind : MomentKind) (bs : List ℕ) → IsMoment kind bs → IsUnended bs
moment_unended Offset bs h = subst IsUnended (sym h.2) (append_unended h.0 h.1 (date_time_unended h.0 h.3) (offset_unended h.1 h.4))
moment_unended Local bs h = date_time_unended bs h
moment_unended Date bs h = date_unended bs h
moment_unended Time bs h = time_unended bs h

-- ---- tokens

string_unended : (kind : StringKind) (first : List ℕ) (ps : List StringPiece) → IsUnended (string_text kind first ps)
string_unended Basic first ps = ends_behind (0x22 ∷ pieces_text ps) 0x22 []
string_unended MultiLineBasic first ps =
    ap ends_in_newline (sym (append_assoc (three 0x22) first (pieces_text ps ++ three 0x22)) ∙ sym (append_assoc (three 0x22 ++ first) (pieces_text ps) (three 0x22)))
    ∙ ends_behind ((three 0x22 ++ first) ++ pieces_text ps) 0x22 (0x22 ∷ 0x22 ∷ [])
string_unended Literal first ps = ends_behind (0x27 ∷ pieces_text ps) 0x27 []
string_unended MultiLineLiteral first ps =
    ap ends_in_newline (sym (append_assoc (three 0x27) first (pieces_text ps ++ three 0x27)) ∙ sym (append_assoc (three 0x27 ++ first) (pieces_text ps) (three 0x27)))
    ∙ ends_behind ((three 0x27 ++ first) ++ pieces_text ps) 0x27 (0x27 ∷ 0x27 ∷ [])

-- No token ends in a newline.
token_unended : (kind : ScalarKind) (bs : List ℕ) → IsToken kind bs → IsUnended bs
token_unended kinds.Text bs h = subst IsUnended (sym h.1.1.3) (string_unended h.0 h.1.1.0 h.1.1.1)
token_unended kinds.Integer bs h = integer_unended bs h.0
token_unended kinds.Float bs h = float_unended bs h
token_unended kinds.Bool bs h = bool_unended bs h
token_unended (kinds.Moment kind) bs h = moment_unended kind bs h

-- ---- parts

-- a byte of the parts, from which on they do not end in a newline
record IsShut (ps : List Part) : Type 0 where
  front : List ℕ
  byte : ℕ
  back : List ℕ
  split : joined ps ≡ front ++ byte ∷ back
  unended : IsUnended (byte ∷ back)

shut_unended : (ps : List Part) → IsShut ps → IsUnended (joined ps)
shut_unended ps s = ap ends_in_newline s.split ∙ ends_behind s.front s.byte s.back ∙ s.unended

-- Parts behind others shut these too.
shut_behind : (ps qs : List Part) → IsShut qs → IsShut (ps ++ qs)
shut_behind ps qs s = record {
  front = joined ps ++ s.front;
  byte = s.byte;
  back = s.back;
  split = parts_join ps qs ∙ ap (λ t. joined ps ++ t) s.split ∙ sym (append_assoc (joined ps) s.front (s.byte ∷ s.back));
  unended = s.unended;
}

shut_by : (b : ℕ) → (b == 0x0A) ≡ false → IsShut (symbol (b ∷ []) ∷ [])
shut_by b other = record { front = []; byte = b; back = []; split = refl; unended = other }

both_unended : (ps qs : List Part) → IsUnended (joined ps) → IsUnended (joined qs) → IsUnended (joined (ps ++ qs))
both_unended ps qs front back = ap ends_in_newline (parts_join ps qs) ∙ append_unended (joined ps) (joined qs) front back

-- ---- values

items_shut : (is : Items) → IsShut (items_parts is)
items_shut (Close g) = shut_behind (gap_parts g) _ (shut_by 0x5D refl)
items_shut (Last g v h) = shut_behind (gap_parts g) _ (shut_behind (value_parts v) _ (shut_behind (gap_parts h) _ (shut_by 0x5D refl)))
items_shut (More g v h is) =
    shut_behind (gap_parts g) _ (shut_behind (value_parts v) _ (shut_behind (gap_parts h) _ (shut_behind (symbol (0x2C ∷ []) ∷ []) _ (items_shut is))))

pairs_shut : (ps : Pairs) → IsShut (pairs_parts ps)
pairs_shut (ClosePairs g) = shut_behind (gap_parts g) _ (shut_by 0x7D refl)
pairs_shut (LastPair g a v h) =
    shut_behind (gap_parts g) _ (shut_behind (assign_parts a) _ (shut_behind (value_parts v) _ (shut_behind (gap_parts h) _ (shut_by 0x7D refl))))
pairs_shut (MorePairs g a v h ps) =
    shut_behind (gap_parts g) _ (shut_behind (assign_parts a) _ (shut_behind (value_parts v) _ (shut_behind (gap_parts h) _
    (shut_behind (symbol (0x2C ∷ []) ∷ []) _ (pairs_shut ps)))))

-- No value ends in a newline.
value_unended : (v : Value) → IsValue v → IsUnended (joined (value_parts v))
value_unended (Scalar kind p) is = subst IsUnended (sym (append-nil p.text)) (token_unended kind p.text is)
value_unended (Array whole items) is = shut_unended _ (shut_behind (begin whole ∷ symbol (0x5B ∷ []) ∷ []) _ (items_shut items))
value_unended (Inline whole pairs) is = shut_unended _ (shut_behind (begin whole ∷ symbol (0x7B ∷ []) ∷ []) _ (pairs_shut pairs))

-- ---- expressions

ws_unended : (bs : List ℕ) → IsWs bs → IsUnended bs
ws_unended bs is = each_unended is_ws bs refl is

comment_unended : (c : Option Piece) → IsCommentOrNone c → IsUnended (joined (comment_parts c))
comment_unended None is = refl
comment_unended (Some p) is = subst IsUnended (sym (append-nil p.text)) (by p.text is)
  where
    by : (bs : List ℕ) → IsComment bs → IsUnended bs
    by [] h = absurd h
    by (b ∷ bs) h = cons_unended b bs (other_than b 0x23 refl h.0) (each_unended is_comment bs refl h.1)

blank_unended : (b : Blank) → IsBlank b → IsUnended (joined (blank_parts b))
blank_unended b is = append_unended b.ws.text (joined (comment_parts b.comment)) (ws_unended b.ws.text is.0) (comment_unended b.comment is.1)

assign_unended : (a : Assign) → IsWs a.after_equals.text → IsUnended (joined (assign_parts a))
assign_unended a after = shut_unended (assign_parts a) (shut_behind (key_parts a.key) (equals_parts a.before_equals a.after_equals) (record {
  front = a.before_equals.text;
  byte = 0x3D;
  back = a.after_equals.text ++ [];
  split = refl;
  unended = cons_unended 0x3D (a.after_equals.text ++ []) refl (subst IsUnended (sym (append-nil a.after_equals.text)) (ws_unended a.after_equals.text after));
}))

header_shut : (h : Header) → IsShut (header_parts h)
header_shut h =
    shut_behind (symbol (0x5B ∷ []) ∷ piece h.before ∷ []) _ (shut_behind (key_parts h.key) _ (shut_behind (piece h.after ∷ []) _ (shut_by 0x5D refl)))

array_header_shut : (h : Header) → IsShut (array_header_parts h)
array_header_shut h = shut_behind (symbol (0x5B ∷ []) ∷ []) _ (shut_behind (header_parts h) _ (shut_by 0x5D refl))

-- No expression ends in a newline.
expr_unended : (e : Expr) → IsExpr e → IsUnended (joined (expr_parts e))
expr_unended (BlankLine b) is = blank_unended b is
expr_unended (KeyValLine ws k b) is = append_unended ws.text (joined (keyval_parts k ++ blank_parts b)) (ws_unended ws.text is.0)
    (both_unended (keyval_parts k) (blank_parts b)
    (both_unended (assign_parts k.assign) (value_parts k.value) (assign_unended k.assign is.1.0.2) (value_unended k.value is.1.1)) (blank_unended b is.2))
expr_unended (TableLine ws h b) is = append_unended ws.text (joined (header_parts h ++ blank_parts b)) (ws_unended ws.text is.0)
    (both_unended (header_parts h) (blank_parts b) (shut_unended (header_parts h) (header_shut h)) (blank_unended b is.2))
expr_unended (ArrayTableLine ws h b) is = append_unended ws.text (joined (array_header_parts h ++ blank_parts b)) (ws_unended ws.text is.0)
    (both_unended (array_header_parts h) (blank_parts b) (shut_unended (array_header_parts h) (array_header_shut h)) (blank_unended b is.2))

-- ---- lines

-- the text of a line alone, which has no newline
alone_text : (l : Line) → l.newline.text ≡ [] → joined (lines_parts (l ∷ [])) ≡ joined (expr_parts l.expr)
alone_text l none =
    parts_join (line_parts l) []
    ∙ append-nil (joined (line_parts l))
    ∙ parts_join (expr_parts l.expr) (piece l.newline ∷ [])
    ∙ ap (λ t. joined (expr_parts l.expr) ++ (t ++ [])) none
    ∙ append-nil (joined (expr_parts l.expr))

-- the text of a line before others
before_text : (l m : Line) (ls : List Line)
    → joined (lines_parts (l ∷ m ∷ ls)) ≡ joined (line_parts l) ++ joined (lines_parts (m ∷ ls))
before_text l m ls = parts_join (line_parts l) (lines_parts (m ∷ ls))

-- the lines end with one of no bytes
abbrev EndsBare : List Line → Type 0
EndsBare lines = (front : List Line) × (l : Line) × (lines ≡ front ++ l ∷ []) × (joined (expr_parts l.expr) ≡ []) × (l.newline.text ≡ [])

front_none : (x y : List ℕ) → x ++ y ≡ [] → x ≡ []
front_none [] y h = refl
front_none (b ∷ x) y h = absurd (cc)

back_none : (x y : List ℕ) → x ++ y ≡ [] → y ≡ []
back_none [] y h = h
back_none (b ∷ x) y h = absurd (cc)

-- Lines without a byte are one.
bare_lines : (m : Line) (ls : List Line) → AreLines (m ∷ ls) → joined (lines_parts (m ∷ ls)) ≡ [] → EndsBare (m ∷ ls)
bare_lines m [] is none = ([], m, refl, sym (alone_text m is.1) ∙ none, is.1)
bare_lines m (n ∷ ls) is none = absurd (by m.newline.text is.1 (front_none m.newline.text [] behind))
  where
    front : joined (line_parts m) ≡ []
    front = front_none (joined (line_parts m)) (joined (lines_parts (n ∷ ls))) (sym (before_text m n ls) ∙ none)

    behind : m.newline.text ++ [] ≡ []
    behind = back_none (joined (expr_parts m.expr)) (m.newline.text ++ []) (sym (parts_join (expr_parts m.expr) (piece m.newline ∷ [])) ∙ front)

    by : (bs : List ℕ) → IsNewline bs → bs ≡ [] → ⊥
    by bs (inl h) e = cc
    by bs (inr h) e = cc

back_ended : (x y : List ℕ) → ends_in_newline (x ++ y) ≡ true → (y ≡ []) ⊎ (ends_in_newline y ≡ true)
back_ended x [] h = inl refl
back_ended x (b ∷ y) h = inr (sym (ends_behind x b y) ∙ h)

-- Lines in the forms of which the text ends in a newline end with a line of no bytes.
pub ends_bare : (lines : List Line) → AreLines lines → ends_in_newline (joined (lines_parts lines)) ≡ true
    → (front : List Line) × (l : Line) × (lines ≡ front ++ l ∷ []) × (joined (expr_parts l.expr) ≡ []) × (l.newline.text ≡ [])
ends_bare [] is ends = absurd is
ends_bare (l ∷ []) is ends = absurd (true≢false (sym ends ∙ ap ends_in_newline (alone_text l is.1) ∙ expr_unended l.expr is.0))
ends_bare (l ∷ m ∷ ls) is ends = more (⊎_elim
    (λ (none : joined (lines_parts (m ∷ ls)) ≡ []). bare_lines m ls is.2 none)
    (λ (h : ends_in_newline (joined (lines_parts (m ∷ ls))) ≡ true). ends_bare (m ∷ ls) is.2 h)
    (back_ended (joined (line_parts l)) (joined (lines_parts (m ∷ ls))) (sym (ap ends_in_newline (before_text l m ls)) ∙ ends)))
  where
    more : EndsBare (m ∷ ls) → EndsBare (l ∷ m ∷ ls)
    more (front, last, split, none, bare) = (l ∷ front, last, ap (λ r. l ∷ r) split, none, bare)
