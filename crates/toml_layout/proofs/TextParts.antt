-- The parts of a text, as it is cut into them.
use Rattle.std.proofs.Common.{◌≡◌, ◌∙◌, ℕ, zero, suc, ◌+◌, ◌-◌, ◌<◌, ◌≤◌, Bool, true, false, cond, List, [], ◌∷◌, ◌++◌, length, take, drop, get_or, refl, ap, ap₂, sym, subst, arith, append_assoc, append-nil, IsUtf8, IsCharBoundary, ⊎_elim, inl, inr, ◌⊎◌, ◌≢◌}
use Rattle.std.proofs.iter.AsciiBoundary.{after_IsAscii, before_ascii}
use Rattle.std.proofs.lemmas.Bool.{or_parts, leb-false, ltb-true}
use Rattle.std.proofs.lemmas.Bool.Decides.{nat_tests}
use Rattle.std.proofs.lemmas.Str.{IsCharBoundary-end}
use Rattle.std.proofs.lemmas.List.{length-drop, length-take-le, map-append, take-append-drop, take_all, take_more}
use Rattle.std.specs.Prelude.{nat_lt}
use Rattle.toml_text.specs.Bytes.{is_ws, is_comment}
use Rattle.toml_text.specs.Forms.{Each, IsNewline}
use Rattle.toml_text.specs.Runs.{run_len, newline_len}
use Rattle.toml_text.proofs.Proved.{run_piece, run_stop, newlines_piece}
use Rattle.toml_layout.specs.declared.tree.GapPart.{GapPart}
use Rattle.toml_layout.specs.declared.tree.GapPart.TheVariants as parts
use Rattle.toml_layout.specs.OpenOutlines.{gap_part_text, gap_parts_text}
use Rattle.toml_layout.specs.PartOutlines.{AddsParted, AreOwn, IsParted, outlined, part}
use Rattle.toml_layout.specs.Parts.{AreParts, PartOutline, Ws, Comment, Newline, behind_first, first_part, part_text}

-- ---- where a text may be cut

each_at : (p : ℕ → Bool) (bs : List ℕ) (n i : ℕ) → Each p (take n bs) → i < n → n ≤ length bs → p (get_or bs i 0) ≡ true
each_at p [] n i each low fits = absurd (omega arith)
each_at p (b ∷ bs) zero i each low fits = absurd (omega arith)
each_at p (b ∷ bs) (suc n) zero each low fits = each.0
each_at p (b ∷ bs) (suc n) (suc i) each low fits = each_at p bs n i each.1 (omega arith) (omega arith)

ws_ascii : (b : ℕ) → is_ws b ≡ true → b < 128
ws_ascii b h = grind (arith, nat_tests)

comment_stop : (b : ℕ) → is_comment b ≡ false → b < 128
comment_stop b h = leb-false 128 b (or_parts _ _ h).1

pub ws_bound : (text : List ℕ) (n : ℕ) → IsUtf8 text → n ≡ run_len is_ws text → IsCharBoundary text n
ws_bound text n utf8 is =
    let (within, each) = run_piece is_ws text in
    subst (IsCharBoundary text) (sym is)
    (after_IsAscii text (run_len is_ws text) utf8 within (λ some. ws_ascii _ (each_at is_ws text (run_len is_ws text) (run_len is_ws text - 1) each (omega arith) within)))

newline_ascii : (bs : List ℕ) → IsNewline bs → get_or bs (length bs - 1) 0 < 128
newline_ascii bs is = ⊎_elim (λ (e : bs ≡ 0x0A ∷ []). rw e (omega arith)) (λ (e : bs ≡ 0x0D ∷ 0x0A ∷ []). rw e (omega arith)) is

got_front : (bs : List ℕ) (n i : ℕ) → i < n → get_or (take n bs) i 0 ≡ get_or bs i 0
got_front [] zero i low = refl
got_front [] (suc n) i low = refl
got_front (b ∷ bs) zero i low = absurd (omega arith)
got_front (b ∷ bs) (suc n) zero low = refl
got_front (b ∷ bs) (suc n) (suc i) low = got_front bs n i (omega arith)

newline_last : (bs : List ℕ) (n : ℕ) → n ≤ length bs → IsNewline (take n bs) → 0 < n → get_or bs (n - 1) 0 < 128
newline_last bs n within is some =
    let all = newline_ascii (take n bs) is in
    let long = length-take-le n bs within in
    let at : get_or (take n bs) (n - 1) 0 < 128 = subst (λ k. get_or (take n bs) (k - 1) 0 < 128) long all in
    subst (λ (b : ℕ). b < 128) (got_front bs n (n - 1) (omega arith)) at

pub newline_bound : (text : List ℕ) (n : ℕ) → IsUtf8 text → n ≡ newline_len text → IsCharBoundary text n
newline_bound text n utf8 is =
    let (within, piece) = newlines_piece text in
    subst (IsCharBoundary text) (sym is) (after_IsAscii text (newline_len text) utf8 within (λ some. by piece within some))
  where
    by : (newline_len text ≡ 0) ⊎ IsNewline (take (newline_len text) text) → newline_len text ≤ length text → 0 < newline_len text → get_or text (newline_len text - 1) 0 < 128
    by (inl none) within some = absurd (omega arith)
    by (inr newline) within some = newline_last text (newline_len text) within newline some

pub comment_bound : (text : List ℕ) (n : ℕ) → n ≡ run_len is_comment text → IsCharBoundary text n
comment_bound text n is =
    let within = (run_piece is_comment text).0 in
    subst (IsCharBoundary text) (sym is) (before_ascii text (run_len is_comment text) within (λ low. comment_stop _ (run_stop is_comment text low)))

-- ---- the first part

some_below : (a : ℕ) → 0 < a → nat_lt 0 a ≡ true
some_below zero low = absurd (omega arith)
some_below (suc a) low = grind (arith, nat_tests)

none_below : (a : ℕ) → a ≤ 0 → nat_lt 0 a ≡ false
none_below zero low = grind (arith, nat_tests)
none_below (suc a) low = absurd (omega arith)

pub first_ws : (text : List ℕ) (n : ℕ) → n ≡ run_len is_ws text → 0 < n → first_part text ≡ Ws (take n text)
first_ws text n is some =
    let found : nat_lt 0 (run_len is_ws text) ≡ true = some_below _ (subst (λ k. 0 < k) is some) in
    rw found (ap (λ k. Ws (take k text)) (sym is))

pub first_newline : (text : List ℕ) (w n : ℕ) → w ≡ run_len is_ws text → w ≤ 0 → n ≡ newline_len text → 0 < n → first_part text ≡ Newline (take n text)
first_newline text w n w_is none is some =
    let past : nat_lt 0 (run_len is_ws text) ≡ false = none_below _ (subst (λ k. k ≤ 0) w_is none) in
    let found : nat_lt 0 (newline_len text) ≡ true = some_below _ (subst (λ k. 0 < k) is some) in
    rw (past, found) (ap (λ k. Newline (take k text)) (sym is))

-- where a comment is cut off
abbrev pub IsCommentCut : List ℕ → ℕ → ℕ → Type 0
IsCommentCut text n cut = ((0 < n) × (cut ≡ n)) ⊎ ((n ≤ 0) × (cut ≡ length text))

pub cut_fits : (text : List ℕ) (n cut : ℕ) → n ≡ run_len is_comment text → IsCommentCut text n cut → cut ≤ length text
cut_fits text n cut is (inl (some, cut_is)) = let within = (run_piece is_comment text).0 in omega (arith, within, is, cut_is)
cut_fits text n cut is (inr (none, cut_is)) = omega (arith, cut_is)

pub first_comment : (text : List ℕ) (w l n cut : ℕ) → w ≡ run_len is_ws text → w ≤ 0 → l ≡ newline_len text → l ≤ 0 → n ≡ run_len is_comment text
    → IsCommentCut text n cut → first_part text ≡ Comment (take cut text)
first_comment text w l n cut w_is no_ws l_is no_newline is cases =
    let past : nat_lt 0 (run_len is_ws text) ≡ false = none_below _ (subst (λ k. k ≤ 0) w_is no_ws) in
    let behind : nat_lt 0 (newline_len text) ≡ false = none_below _ (subst (λ k. k ≤ 0) l_is no_newline) in
    rw (past, behind) (by cases)
  where
    by : IsCommentCut text n cut
        → cond (nat_lt 0 (run_len is_comment text)) (Comment (take (run_len is_comment text) text)) (Comment text) ≡ Comment (take cut text)
    by (inl (some, cut_is)) =
        let found : nat_lt 0 (run_len is_comment text) ≡ true = some_below _ (subst (λ k. 0 < k) is some) in
        rw found (ap (λ k. Comment (take k text)) (sym is ∙ sym cut_is))
    by (inr (none, cut_is)) =
        let found : nat_lt 0 (run_len is_comment text) ≡ false = none_below _ (subst (λ k. k ≤ 0) is none) in
        rw found (ap Comment (sym (take_all (length text) text (omega arith))) ∙ ap (λ k. Comment (take k text)) (sym cut_is))

-- what is behind it
pub behind_cut : (text : List ℕ) (n : ℕ) → n ≤ length text → part_text (first_part text) ≡ take n text → drop n text ≡ behind_first text
behind_cut text n fits is = ap (λ k. drop k text) (sym (ap length is ∙ length-take-le n text fits))

-- how long it is
abbrev CutAt : List ℕ → PartOutline → Type 0
CutAt text p = (n : ℕ) × (n ≤ length text) × (part_text p ≡ take n text) × (text ≢ [] → 0 < n)

long : (text : List ℕ) → text ≢ [] → 0 < length text
long [] some = absurd (some refl)
long (b ∷ bs) some = omega arith

comment_or : (text : List ℕ) (n : ℕ) (b : Bool) → n ≤ length text → nat_lt 0 n ≡ b → CutAt text (cond b (Comment (take n text)) (Comment text))
comment_or text n true fits some = (n, fits, refl, λ any. ltb-true 0 n some)
comment_or text n false fits none = (length text, omega arith, sym (take_all (length text) text (omega arith)), long text)

newline_or : (text : List ℕ) (n : ℕ) (b : Bool) (other : PartOutline) → n ≤ length text → nat_lt 0 n ≡ b → CutAt text other
    → CutAt text (cond b (Newline (take n text)) other)
newline_or text n true other fits some cut = (n, fits, refl, λ any. ltb-true 0 n some)
newline_or text n false other fits none cut = cut

ws_or : (text : List ℕ) (n : ℕ) (b : Bool) (other : PartOutline) → n ≤ length text → nat_lt 0 n ≡ b → CutAt text other
    → CutAt text (cond b (Ws (take n text)) other)
ws_or text n true other fits some cut = (n, fits, refl, λ any. ltb-true 0 n some)
ws_or text n false other fits none cut = cut

pub first_cut : (text : List ℕ) → CutAt text (first_part text)
first_cut text =
    ws_or text (run_len is_ws text) _ _ (run_piece is_ws text).0 refl
    (newline_or text (newline_len text) _ _ (newlines_piece text).0 refl
    (comment_or text (run_len is_comment text) _ (run_piece is_comment text).0 refl))

-- it stands in front of what is behind it
pub first_joined : (text : List ℕ) → part_text (first_part text) ++ behind_first text ≡ text
first_joined text =
    let (n, fits, is, some) = first_cut text in
    ap₂ ◌++◌ is (sym (behind_cut text n fits is)) ∙ take-append-drop n text

-- what is behind it is shorter, where the text has a byte
pub behind_less : (text : List ℕ) → text ≢ [] → length (behind_first text) < length text
behind_less text any =
    let (n, fits, is, some) = first_cut text in
    let low = some any in
    let behind = ap length (sym (behind_cut text n fits is)) ∙ length-drop n text in
    omega (arith, behind, low, fits)

-- ---- all parts

pub text_of_part : (p : GapPart) → gap_part_text p ≡ part_text (part p)
text_of_part (parts.Ws ws) = refl
text_of_part (parts.Comment comment) = refl
text_of_part (parts.Newline newline) = refl
text_of_part (parts.Lines lines) = refl

pub parts_text : (text : List ℕ) (ps : List GapPart) → AreParts text (outlined ps) → gap_parts_text ps ≡ text
parts_text text [] none = sym none
parts_text text (p ∷ ps) (some, is, rest) =
    ap₂ ◌++◌ (text_of_part p ∙ ap part_text is) (parts_text (behind_first text) ps rest) ∙ first_joined text

-- one more is cut off
pub cut_on : (whole text : List ℕ) (own : List GapPart) (p : GapPart) → text ≢ [] → part p ≡ first_part text
    → ((qs : List PartOutline) → AreParts text qs → AreParts whole (outlined own ++ qs)) → (qs : List PartOutline) → AreParts (behind_first text) qs
    → AreParts whole (outlined (own ++ p ∷ []) ++ qs)
cut_on whole text own p some is so_far qs rest =
    subst (AreParts whole) (sym (ap (λ t. t ++ qs) (map-append part own (p ∷ [])) ∙ append_assoc (outlined own) (part p ∷ []) qs)) (so_far (part p ∷ qs) (some, is, rest))

-- all parts are cut off
pub cut_all : (whole text : List ℕ) (own : List GapPart) → text ≡ [] → ((qs : List PartOutline) → AreParts text qs → AreParts whole (outlined own ++ qs))
    → AreParts whole (outlined own)
cut_all whole text own none so_far = subst (AreParts whole) (append-nil (outlined own)) (so_far [] none)

-- ---- a gap

pub parted_more : (ps all : List GapPart) (p : GapPart) (own : List GapPart) → IsParted ps all → AreOwn p own → IsParted (ps ++ p ∷ []) (all ++ own)
parted_more [] all p own none is = (own, [], is, ap (λ t. t ++ own) none ∙ sym (append-nil own), refl)
parted_more (q ∷ ps) all p own (first, rest, first_is, split, more) is =
    (first, rest ++ own, first_is, ap (λ t. t ++ own) split ∙ append_assoc first rest own, parted_more ps rest p own more is)

pub end_bound : (text : List ℕ) (n : ℕ) → n ≡ length text → IsCharBoundary text n
end_bound text n is = subst (IsCharBoundary text) (sym is) (IsCharBoundary-end text)

-- one more part of a gap is taken apart
pub parted_on : (ps : List GapPart) (i : ℕ) (d : GapPart) (all new : List GapPart) → i < length ps → IsParted (take i ps) all
    → AddsParted (get_or ps i d) all new → IsParted (take (i + 1) ps) new
parted_on ps i d all new low so_far (own, is_own, new_is) =
    subst (λ t. IsParted t new) (sym (take_more ps i d low))
    (subst (IsParted (take i ps ++ get_or ps i d ∷ [])) (sym new_is) (parted_more (take i ps) all (get_or ps i d) own so_far is_own))
