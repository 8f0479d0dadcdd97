-- Gaps that read alike, and parts of the same texts: what the rules of the layouts tell of the ones they tell of the others.
use Rattle.std.proofs.Common.{◌≡◌, ◌∙◌, ℕ, Bool, true, false, cond, ◌&&◌, ◌||◌, List, [], ◌∷◌, ◌++◌, Option, Some, None, refl, ap, ap₂, sym, append_assoc, append-nil}
use Rattle.std.proofs.lemmas.Bool.{false≢true}
use Rattle.std.proofs.lemmas.List.{map-append}
use Rattle.std.proofs.lemmas.List.Folds.{list_all-append}
use Rattle.std.proofs.lemmas.Option.{none-some, same_Some}
use Rattle.std.specs.List.{list_all, list_any}
use Rattle.std.specs.Prelude.{option_map}
use Rattle.toml_layout.specs.declared.tree.GapPart.{GapPart}
use Rattle.toml_layout.specs.declared.tree.GapPart.TheVariants as parts
use Rattle.toml_layout.specs.Gaps.{are_blank, are_ws, begins_line, is_blank, is_comment, is_newline, is_ws}
use Rattle.toml_layout.specs.OpenOutlines.{leaf_text, part_read, parts_read}
use Rattle.toml_layout.specs.PartOutlines.{AreOwn, IsParted, is_lines, outlined, part}
use Rattle.toml_layout.specs.Parts as outline
use Rattle.toml_layout.specs.Parts.{PartOutline, Ws, Comment, Newline, Lines, lines_apart, parts_of}
use Rattle.toml_layout.specs.Takings.{IsPartedIf}
use Rattle.toml_layout.proofs.GapSpelled.{parts_found}
use Rattle.toml_layout.proofs.PartLaws.{parts_apart}

-- ---- lists

pub same_head : {A : Type 0} (x y : A) (xs ys : List A) → ◌≡◌ {A = List A} (x ∷ xs) (y ∷ ys) → x ≡ y
same_head x y xs ys e = cc

pub same_tail : {A : Type 0} (x y : A) (xs ys : List A) → ◌≡◌ {A = List A} (x ∷ xs) (y ∷ ys) → xs ≡ ys
same_tail x y xs ys e = cc

pub none_one : {A : Type 0} (x : A) (xs : List A) → ◌≡◌ {A = List A} [] (x ∷ xs) → ⊥
none_one x xs e = cc

-- what is told alike in each case
pub same_cond : {A B : Type 0} (f : A → B) (b c : Bool) (x y z w : A) → b ≡ c → f x ≡ f y → f z ≡ f w → f (cond b x z) ≡ f (cond c y w)
same_cond f true true x y z w e one other = one
same_cond f false false x y z w e one other = other
same_cond f true false x y z w e one other = absurd (false≢true (sym e))
same_cond f false true x y z w e one other = absurd (false≢true e)

-- ---- how parts read

pub read_joined : (ps qs : List GapPart) → parts_read (ps ++ qs) ≡ parts_read ps ++ parts_read qs
read_joined [] qs = refl
read_joined (p ∷ ps) qs = ap (λ t. part_read p ++ t) (read_joined ps qs) ∙ sym (append_assoc (part_read p) (parts_read ps) (parts_read qs))

as_read : PartOutline → List PartOutline
as_read (Ws text) = Ws text ∷ []
as_read (Comment text) = Comment text ∷ []
as_read (Newline text) = Newline text ∷ []
as_read (Lines text) = lines_apart text

all_as_read : List PartOutline → List PartOutline
all_as_read [] = []
all_as_read (p ∷ ps) = as_read p ++ all_as_read ps

read_so : (p : GapPart) → part_read p ≡ as_read (part p)
unfolding as_read
read_so (parts.Ws ws) = refl
read_so (parts.Comment comment) = refl
read_so (parts.Newline newline) = refl
read_so (parts.Lines lines) = refl

all_read_so : (ps : List GapPart) → parts_read ps ≡ all_as_read (outlined ps)
unfolding all_as_read
all_read_so [] = refl
all_read_so (p ∷ ps) = ap₂ ◌++◌ (read_so p) (all_read_so ps)

-- parts of the same texts read alike
pub read_same : (ps qs : List GapPart) → outlined ps ≡ outlined qs → parts_read ps ≡ parts_read qs
read_same ps qs same = all_read_so ps ∙ ap all_as_read same ∙ sym (all_read_so qs)

-- ---- gaps that read alike are taken apart alike

apart : PartOutline → List PartOutline
apart (Ws text) = Ws text ∷ []
apart (Comment text) = Comment text ∷ []
apart (Newline text) = Newline text ∷ []
apart (Lines text) = parts_of text

all_apart : List PartOutline → List PartOutline
all_apart [] = []
all_apart (p ∷ ps) = apart p ++ all_apart ps

apart_joined : (ps qs : List PartOutline) → all_apart (ps ++ qs) ≡ all_apart ps ++ all_apart qs
unfolding all_apart
apart_joined [] qs = refl
apart_joined (p ∷ ps) qs = ap (λ t. apart p ++ t) (apart_joined ps qs) ∙ sym (append_assoc (apart p) (all_apart ps) (all_apart qs))

no_more : (ps : List PartOutline) → list_any is_lines ps ≡ false → all_apart ps ≡ ps
unfolding apart all_apart
no_more [] none = refl
no_more (Ws text ∷ ps) none = ap (λ t. Ws text ∷ t) (no_more ps none)
no_more (Comment text ∷ ps) none = ap (λ t. Comment text ∷ t) (no_more ps none)
no_more (Newline text ∷ ps) none = ap (λ t. Newline text ∷ t) (no_more ps none)
no_more (Lines text ∷ ps) none = absurd (false≢true (sym none))

lines_read : (text : List ℕ) → list_any is_lines (parts_of text) ≡ false → all_apart (lines_apart text) ≡ parts_of text
unfolding apart all_apart
lines_read text none = by (list_any outline.is_newline (parts_of text))
  where
    by : (b : Bool) → all_apart (cond b (parts_of text) (Lines text ∷ [])) ≡ parts_of text
    by true = no_more (parts_of text) none
    by false = append-nil (parts_of text)

own_read : (p : GapPart) (own : List GapPart) → AreOwn p own → outlined own ≡ all_apart (part_read p)
unfolding apart all_apart
own_read (parts.Ws ws) own is = ap outlined is
own_read (parts.Comment comment) own is = ap outlined is
own_read (parts.Newline newline) own is = ap outlined is
own_read (parts.Lines lines) own is =
    let found : parts_of (leaf_text lines) ≡ outlined own = parts_found (leaf_text lines) (outlined own) is in
    sym found ∙ sym (lines_read (leaf_text lines) (ap (list_any is_lines) found ∙ parts_apart (leaf_text lines) (outlined own) is))

parted_read : (gap all : List GapPart) → IsParted gap all → outlined all ≡ all_apart (parts_read gap)
unfolding all_apart
parted_read [] all none = ap outlined none
parted_read (p ∷ ps) all (own, rest, is, split, more) =
    ap outlined split ∙ map-append part own rest ∙ ap₂ ◌++◌ (own_read p own is) (parted_read ps rest more)
    ∙ sym (apart_joined (part_read p) (parts_read ps))

pub parted_same : (one other all both : List GapPart) → parts_read one ≡ parts_read other → IsParted one all → IsParted other both → outlined all ≡ outlined both
parted_same one other all both same parted too = parted_read one all parted ∙ ap all_apart same ∙ sym (parted_read other both too)

pub parted_same_if : (one other all both : Option (List GapPart)) → option_map parts_read one ≡ option_map parts_read other → IsPartedIf one all → IsPartedIf other both
    → option_map outlined all ≡ option_map outlined both
parted_same_if None None all both same parted too = ap (option_map outlined) (parted ∙ sym too)
parted_same_if None (Some other) all both same parted too = absurd (none-some (parts_read other) same)
parted_same_if (Some one) None all both same parted too = absurd (none-some (parts_read one) (sym same))
parted_same_if (Some one) (Some other) all both same (ps, parted, is) (qs, too, other_is) =
    ap (option_map outlined) is ∙ ap Some (parted_same one other ps qs (same_Some (parts_read one) (parts_read other) same) parted too)
    ∙ sym (ap (option_map outlined) other_is)

-- ---- whitespace, newlines and comments

abbrev pub ws_one : PartOutline → Bool
ws_one (Ws text) = true
ws_one (Comment text) = false
ws_one (Newline text) = false
ws_one (Lines text) = false

ws_so : (p : GapPart) → is_ws p ≡ ws_one (part p)
ws_so (parts.Ws ws) = refl
ws_so (parts.Comment comment) = refl
ws_so (parts.Newline newline) = refl
ws_so (parts.Lines lines) = refl

newline_so : (p : GapPart) → is_newline p ≡ outline.is_newline (part p)
newline_so (parts.Ws ws) = refl
newline_so (parts.Comment comment) = refl
newline_so (parts.Newline newline) = refl
newline_so (parts.Lines lines) = refl

comment_one : PartOutline → Bool
comment_one (Ws text) = false
comment_one (Comment text) = true
comment_one (Newline text) = false
comment_one (Lines text) = false

comment_so : (p : GapPart) → is_comment p ≡ comment_one (part p)
unfolding comment_one
comment_so (parts.Ws ws) = refl
comment_so (parts.Comment comment) = refl
comment_so (parts.Newline newline) = refl
comment_so (parts.Lines lines) = refl

pub ws_same : (p q : GapPart) → part p ≡ part q → is_ws p ≡ is_ws q
ws_same p q same = ws_so p ∙ ap ws_one same ∙ sym (ws_so q)

pub newline_same : (p q : GapPart) → part p ≡ part q → is_newline p ≡ is_newline q
newline_same p q same = newline_so p ∙ ap outline.is_newline same ∙ sym (newline_so q)

pub comment_same : (p q : GapPart) → part p ≡ part q → is_comment p ≡ is_comment q
comment_same p q same = comment_so p ∙ ap comment_one same ∙ sym (comment_so q)

blank_same : (p q : GapPart) → part p ≡ part q → is_blank p ≡ is_blank q
blank_same p q same = ap₂ ◌||◌ (ws_same p q same) (newline_same p q same)

-- a test that tells parts of one text alike tells lists of them alike
pub all_same : (test : GapPart → Bool) → ((p q : GapPart) → part p ≡ part q → test p ≡ test q) → (ps qs : List GapPart) → outlined ps ≡ outlined qs
    → list_all test ps ≡ list_all test qs
all_same test each [] [] same = refl
all_same test each [] (q ∷ qs) same = absurd (none_one (part q) (outlined qs) same)
all_same test each (p ∷ ps) [] same = absurd (none_one (part p) (outlined ps) (sym same))
all_same test each (p ∷ ps) (q ∷ qs) same =
    ap₂ ◌&&◌ (each p q (same_head (part p) (part q) (outlined ps) (outlined qs) same))
    (all_same test each ps qs (same_tail (part p) (part q) (outlined ps) (outlined qs) same))

pub any_same : (test : GapPart → Bool) → ((p q : GapPart) → part p ≡ part q → test p ≡ test q) → (ps qs : List GapPart) → outlined ps ≡ outlined qs
    → list_any test ps ≡ list_any test qs
any_same test each [] [] same = refl
any_same test each [] (q ∷ qs) same = absurd (none_one (part q) (outlined qs) same)
any_same test each (p ∷ ps) [] same = absurd (none_one (part p) (outlined ps) (sym same))
any_same test each (p ∷ ps) (q ∷ qs) same =
    ap₂ ◌||◌ (each p q (same_head (part p) (part q) (outlined ps) (outlined qs) same))
    (any_same test each ps qs (same_tail (part p) (part q) (outlined ps) (outlined qs) same))

pub all_ws_same : (ps qs : List GapPart) → outlined ps ≡ outlined qs → are_ws ps ≡ are_ws qs
all_ws_same = all_same is_ws ws_same

pub all_blank_same : (ps qs : List GapPart) → outlined ps ≡ outlined qs → are_blank ps ≡ are_blank qs
all_blank_same = all_same is_blank blank_same

pub begins_same : (ps qs : List GapPart) → outlined ps ≡ outlined qs → begins_line ps ≡ begins_line qs
begins_same = any_same is_newline newline_same

-- ---- whitespace in a gap as it reads

not_all : (ps : List PartOutline) → list_any outline.is_newline ps ≡ true → list_all ws_one ps ≡ false
not_all [] some = absurd (false≢true some)
not_all (Ws text ∷ ps) some = not_all ps some
not_all (Comment text ∷ ps) some = refl
not_all (Newline text ∷ ps) some = refl
not_all (Lines text ∷ ps) some = refl

lines_not : (text : List ℕ) → list_all ws_one (lines_apart text) ≡ false
lines_not text = by (list_any outline.is_newline (parts_of text)) (λ some. not_all (parts_of text) some)
  where
    by : (b : Bool) → (b ≡ true → list_all ws_one (parts_of text) ≡ false) → list_all ws_one (cond b (parts_of text) (Lines text ∷ [])) ≡ false
    by true some = some refl
    by false some = refl

read_ws : (p : GapPart) → is_ws p ≡ list_all ws_one (part_read p)
read_ws (parts.Ws ws) = refl
read_ws (parts.Comment comment) = refl
read_ws (parts.Newline newline) = refl
read_ws (parts.Lines lines) = sym (lines_not (leaf_text lines))

all_read_ws : (ps : List GapPart) → are_ws ps ≡ list_all ws_one (parts_read ps)
all_read_ws [] = refl
all_read_ws (p ∷ ps) = ap₂ ◌&&◌ (read_ws p) (all_read_ws ps) ∙ sym (list_all-append ws_one (part_read p) (parts_read ps))

pub read_ws_same : (ps qs : List GapPart) → parts_read ps ≡ parts_read qs → are_ws ps ≡ are_ws qs
read_ws_same ps qs same = all_read_ws ps ∙ ap (list_all ws_one) same ∙ sym (all_read_ws qs)
