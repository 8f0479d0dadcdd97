-- How an item begins its line, and the gaps around it there: in gaps that read alike they read alike.
use Rattle.std.proofs.Common.{◌≡◌, ◌∙◌, Bool, true, false, cond, ◌&&◌, ◌||◌, List, [], ◌∷◌, ◌++◌, Option, Some, None, MatchOption, inl, inr, refl, ap, ap₂, sym, append_assoc}
use Rattle.std.proofs.lemmas.Bool.{false≢true, or_parts}
use Rattle.std.proofs.lemmas.List.{append_cancel_left, map-append}
use Rattle.toml_layout.specs.declared.tree.GapPart.{GapPart}
use Rattle.toml_layout.specs.Gaps.{SplitsFirst, SplitsLast, begins_line, is_comment, is_newline}
use Rattle.toml_layout.specs.Margins.{IndentsComment, IsLineIn, IsMarginAlone, IsOnLine, PutsLine, are_tabs, has_comment, has_own_comment, indent_of, is_tab_run, last_of, margin, margin_alone, newline_of}
use Rattle.toml_layout.specs.OpenOutlines.{gap_part_text, parts_read}
use Rattle.toml_layout.specs.PartOutlines.{outlined, part}
use Rattle.toml_layout.specs.Parts as outline
use Rattle.toml_layout.specs.Parts.{part_text}
use Rattle.toml_layout.proofs.LeftParts.{begins_so, lines_are, newline_in}
use Rattle.toml_layout.proofs.SameLeft.{joined_same, lines_same}
use Rattle.toml_layout.proofs.SameParts.{all_same, begins_same, comment_same, newline_same, none_one, parted_same, same_head, same_tail}
use Rattle.toml_layout.proofs.TextParts.{text_of_part}

-- ---- the first line of a gap, and all of its lines

-- what does not pass a test is not of the same text as what does
differ : (test : GapPart → Bool) → ((p q : GapPart) → part p ≡ part q → test p ≡ test q) → (p q : GapPart) → part p ≡ part q → test p ≡ true → test q ≡ false → ⊥
differ test each p q same passes fails = false≢true (sym fails ∙ sym (each p q same) ∙ passes)

-- up to the first part that passes a test
module _ (test : GapPart → Bool) (each : (p q : GapPart) → part p ≡ part q → test p ≡ test q) (tested : List GapPart → Bool)
    (tested_is : (p : GapPart) (ps : List GapPart) → tested (p ∷ ps) ≡ (test p || tested ps)) where
  fronts_same : (f g : List GapPart) (p q : GapPart) (b c : List GapPart) → outlined (f ++ p ∷ b) ≡ outlined (g ++ q ∷ c) → test p ≡ true → test q ≡ true
      → tested f ≡ false → tested g ≡ false → (outlined f ≡ outlined g) × (part p ≡ part q) × (outlined b ≡ outlined c)
  fronts_same [] [] p q b c same one other none too =
      (refl, same_head (part p) (part q) (outlined b) (outlined c) same, same_tail (part p) (part q) (outlined b) (outlined c) same)
  fronts_same [] (s ∷ g) p q b c same one other none too =
      absurd (differ test each p s (same_head (part p) (part s) (outlined b) (outlined (g ++ q ∷ c)) same) one
      (or_parts (test s) (tested g) (sym (tested_is s g) ∙ too)).0)
  fronts_same (r ∷ f) [] p q b c same one other none too =
      absurd (differ test each q r (sym (same_head (part r) (part q) (outlined (f ++ p ∷ b)) (outlined c) same)) other
      (or_parts (test r) (tested f) (sym (tested_is r f) ∙ none)).0)
  fronts_same (r ∷ f) (s ∷ g) p q b c same one other none too =
      let rest = fronts_same f g p q b c (same_tail (part r) (part s) (outlined (f ++ p ∷ b)) (outlined (g ++ q ∷ c)) same) one other
      (or_parts (test r) (tested f) (sym (tested_is r f) ∙ none)).1 (or_parts (test s) (tested g) (sym (tested_is s g) ∙ too)).1 in
      (ap₂ ◌∷◌ (same_head (part r) (part s) (outlined (f ++ p ∷ b)) (outlined (g ++ q ∷ c)) same) rest.0, rest.1, rest.2)

split_is : (all line rest more : List GapPart) (p : GapPart) → all ≡ line ++ rest → line ≡ more ++ p ∷ [] → all ≡ more ++ p ∷ rest
split_is all line rest more p is ends = is ∙ ap (λ l. l ++ rest) ends ∙ append_assoc more (p ∷ []) rest

pub first_same : (all both line other rest more : List GapPart) → outlined all ≡ outlined both → SplitsFirst all line rest → SplitsFirst both other more
    → (outlined line ≡ outlined other) × (outlined rest ≡ outlined more)
first_same all both line other rest more same one two =
    let fronts = fronts_same is_newline newline_same begins_line (λ p ps. refl) one.more two.more one.newline two.newline rest more
    (ap outlined (sym (split_is all line rest one.more one.newline one.is one.ends)) ∙ same ∙ ap outlined (split_is both other more two.more two.newline two.is two.ends))
    one.is_one two.is_one one.first two.first in
    let ends : outlined (one.newline ∷ []) ≡ outlined (two.newline ∷ []) = ap (λ p. p ∷ []) fronts.1 in
    (ap outlined one.ends ∙ joined_same one.more two.more (one.newline ∷ []) (two.newline ∷ []) fronts.0 ends ∙ sym (ap outlined two.ends), fronts.2)

first_begins : (all line rest : List GapPart) → SplitsFirst all line rest → begins_line all ≡ true
first_begins all line rest split =
    ap begins_line (split.is ∙ ap (λ l. l ++ rest) split.ends) ∙ newline_in split.more split.newline rest split.is_one

pub last_same : (all both lines others indent more : List GapPart) → outlined all ≡ outlined both → SplitsLast all lines indent → SplitsLast both others more
    → (outlined lines ≡ outlined others) × (outlined indent ≡ outlined more)
last_same all both lines others indent more same one two =
    let front : outlined lines ≡ outlined others =
    ap outlined (lines_are all lines indent one) ∙ lines_same all both same ∙ sym (ap outlined (lines_are both others more two)) in
    let whole : outlined lines ++ outlined indent ≡ outlined lines ++ outlined more =
    sym (map-append part lines indent) ∙ ap outlined (sym one.is) ∙ same ∙ ap outlined two.is ∙ map-append part others more ∙ ap (λ l. l ++ outlined more) (sym front) in
    (front, append_cancel_left (outlined lines) (outlined indent) (outlined more) whole)

-- ---- a margin

last_of_same : (ps qs : List GapPart) → outlined ps ≡ outlined qs → outlined (last_of ps) ≡ outlined (last_of qs)
last_of_same [] [] same = refl
last_of_same [] (q ∷ qs) same = absurd (none_one (part q) (outlined qs) same)
last_of_same (p ∷ ps) [] same = absurd (none_one (part p) (outlined ps) (sym same))
last_of_same (p ∷ []) (q ∷ []) same = same
last_of_same (p ∷ []) (q ∷ r ∷ qs) same = absurd (none_one (part r) (outlined qs) (same_tail (part p) (part q) [] (outlined (r ∷ qs)) same))
last_of_same (p ∷ r ∷ ps) (q ∷ []) same = absurd (none_one (part r) (outlined ps) (sym (same_tail (part p) (part q) (outlined (r ∷ ps)) [] same)))
last_of_same (p ∷ r ∷ ps) (q ∷ s ∷ qs) same = last_of_same (r ∷ ps) (s ∷ qs) (same_tail (part p) (part q) (outlined (r ∷ ps)) (outlined (s ∷ qs)) same)

pub margin_same : (lines others indent more : List GapPart) → outlined lines ≡ outlined others → outlined indent ≡ outlined more
    → margin lines indent ≡ margin others more
margin_same lines others indent more one other = joined_same (last_of lines) (last_of others) indent more (last_of_same lines others one) other

newline_of_same : (ps qs : List GapPart) → outlined ps ≡ outlined qs → outlined (newline_of ps) ≡ outlined (newline_of qs)
newline_of_same [] [] same = refl
newline_of_same [] (q ∷ qs) same = absurd (none_one (part q) (outlined qs) same)
newline_of_same (p ∷ ps) [] same = absurd (none_one (part p) (outlined ps) (sym same))
newline_of_same (p ∷ ps) (q ∷ qs) same = ap (λ r. r ∷ []) (same_head (part p) (part q) (outlined ps) (outlined qs) same)

indent_of_same : (ps qs : List GapPart) → outlined ps ≡ outlined qs → outlined (indent_of ps) ≡ outlined (indent_of qs)
indent_of_same [] [] same = refl
indent_of_same [] (q ∷ qs) same = absurd (none_one (part q) (outlined qs) same)
indent_of_same (p ∷ ps) [] same = absurd (none_one (part p) (outlined ps) (sym same))
indent_of_same (p ∷ ps) (q ∷ qs) same = same_tail (part p) (part q) (outlined ps) (outlined qs) same

-- ---- the first comment on a line of its own

any_comment_same : (ps qs : List GapPart) → outlined ps ≡ outlined qs → has_comment ps ≡ has_comment qs
any_comment_same [] [] same = refl
any_comment_same [] (q ∷ qs) same = absurd (none_one (part q) (outlined qs) same)
any_comment_same (p ∷ ps) [] same = absurd (none_one (part p) (outlined ps) (sym same))
any_comment_same (p ∷ ps) (q ∷ qs) same =
    ap₂ ◌||◌ (comment_same p q (same_head (part p) (part q) (outlined ps) (outlined qs) same))
    (any_comment_same ps qs (same_tail (part p) (part q) (outlined ps) (outlined qs) same))

own_comment_same : (ps qs : List GapPart) → outlined ps ≡ outlined qs → has_own_comment ps ≡ has_own_comment qs
own_comment_same [] [] same = refl
own_comment_same [] (q ∷ qs) same = absurd (none_one (part q) (outlined qs) same)
own_comment_same (p ∷ ps) [] same = absurd (none_one (part p) (outlined ps) (sym same))
own_comment_same (p ∷ ps) (q ∷ qs) same =
    let tails = same_tail (part p) (part q) (outlined ps) (outlined qs) same in
    ap₂ ◌||◌ (ap₂ ◌&&◌ (newline_same p q (same_head (part p) (part q) (outlined ps) (outlined qs) same)) (any_comment_same ps qs tails))
    (own_comment_same ps qs tails)

-- one behind a newline is one on a line of its own
comment_in : (f : List GapPart) (p : GapPart) (b : List GapPart) → is_comment p ≡ true → has_comment (f ++ p ∷ b) ≡ true
comment_in [] p b one = ap (λ t. t || has_comment b) one
comment_in (q ∷ f) p b one = ap (λ t. is_comment q || t) (comment_in f p b one) ∙ by (is_comment q)
  where
    by : (t : Bool) → (t || true) ≡ true
    by true = refl
    by false = refl

own_in : (f : List GapPart) (p : GapPart) (b : List GapPart) → is_comment p ≡ true → begins_line f ≡ true → has_own_comment (f ++ p ∷ b) ≡ true
own_in [] p b one none = absurd (false≢true none)
own_in (q ∷ f) p b one begun =
    ap (λ t. (is_newline q && t) || has_own_comment (f ++ p ∷ b)) (comment_in f p b one)
    ∙ by (is_newline q) (begins_line f) (has_own_comment (f ++ p ∷ b)) begun (λ some. own_in f p b one some)
  where
    by : (n l o : Bool) → (n || l) ≡ true → (l ≡ true → o ≡ true) → ((n && true) || o) ≡ true
    by true l o some rest = refl
    by false l o some rest = rest some

-- what stands before it is of one text
indents_front : (f g : List GapPart) (p q : GapPart) (b c : List GapPart) → outlined (f ++ p ∷ b) ≡ outlined (g ++ q ∷ c) → is_comment p ≡ true
    → is_comment q ≡ true → begins_line f ≡ true → begins_line g ≡ true → has_own_comment f ≡ false → has_own_comment g ≡ false → outlined f ≡ outlined g
indents_front [] g p q b c same one other begun too none never = absurd (false≢true begun)
indents_front (r ∷ f) [] p q b c same one other begun too none never = absurd (false≢true too)
indents_front (r ∷ f) (s ∷ g) p q b c same one other begun too none never =
    let heads = same_head (part r) (part s) (outlined (f ++ p ∷ b)) (outlined (g ++ q ∷ c)) same in
    let tails = same_tail (part r) (part s) (outlined (f ++ p ∷ b)) (outlined (g ++ q ∷ c)) same in
    let left = or_parts (is_newline r && has_comment f) (has_own_comment f) none in
    let right = or_parts (is_newline s && has_comment g) (has_own_comment g) never in
    ap₂ ◌∷◌ heads (by (is_newline r) (is_newline s) (newline_same r s heads) begun too left.0 right.0
    (λ off far. (fronts_same is_comment comment_same has_comment (λ x xs. refl) f g p q b c tails one other off far).0)
    (λ some more. indents_front f g p q b c tails one other some more left.1 right.1))
  where
    by : (n m : Bool) → n ≡ m → (n || begins_line f) ≡ true → (m || begins_line g) ≡ true → (n && has_comment f) ≡ false → (m && has_comment g) ≡ false
        → (has_comment f ≡ false → has_comment g ≡ false → outlined f ≡ outlined g) → (begins_line f ≡ true → begins_line g ≡ true → outlined f ≡ outlined g)
        → outlined f ≡ outlined g
    by true true e begun too off far here later = here off far
    by false false e begun too off far here later = later begun too
    by true false e begun too off far here later = absurd (false≢true (sym e))
    by false true e begun too off far here later = absurd (false≢true e)

indents_same : (all both indent more : List GapPart) → outlined all ≡ outlined both → IndentsComment all indent → IndentsComment both more → outlined indent ≡ outlined more
indents_same all both indent more same one two =
    (last_same one.front two.front one.lines two.lines indent more
    (indents_front one.front two.front one.comment two.comment one.behind two.behind (ap outlined (sym one.is) ∙ same ∙ ap outlined two.is) one.is_one two.is_one
    (begins_so one.front one.lines indent one.own) (begins_so two.front two.lines more two.own) one.first two.first) one.own two.own).1

own_there : (all indent : List GapPart) → IndentsComment all indent → has_own_comment all ≡ true
own_there all indent it =
    ap has_own_comment it.is ∙ own_in it.front it.comment it.behind it.is_one (begins_so it.front it.lines indent it.own)

-- ---- between brackets where no item stands

tabs_same : (ps qs : List GapPart) → outlined ps ≡ outlined qs → are_tabs ps ≡ are_tabs qs
tabs_same [] [] same = refl
tabs_same [] (q ∷ qs) same = absurd (none_one (part q) (outlined qs) same)
tabs_same (p ∷ ps) [] same = absurd (none_one (part p) (outlined ps) (sym same))
tabs_same (p ∷ ps) (q ∷ qs) same = all_same (λ r. is_tab_run (gap_part_text r)) each (p ∷ ps) (q ∷ qs) same
  where
    each : (r s : GapPart) → part r ≡ part s → is_tab_run (gap_part_text r) ≡ is_tab_run (gap_part_text s)
    each r s is = ap is_tab_run (text_of_part r ∙ ap part_text is ∙ sym (text_of_part s))

abbrev Found : List GapPart → Option (List GapPart) → Type 0
Found all comment = MatchOption comment (has_own_comment all ≡ false) (IndentsComment all)

margin_alone_same : (all both lines others closing more : List GapPart) (o p : Option (List GapPart)) → outlined all ≡ outlined both → outlined lines ≡ outlined others
    → outlined closing ≡ outlined more → Found all o → Found both p → margin_alone o lines closing ≡ margin_alone p others more
margin_alone_same all both lines others closing more None None same one other found too =
    ap₂ (λ m t. m ++ outline.Ws t ∷ []) (margin_same lines others closing more one other)
    (ap (λ b. cond b (0x09 ∷ []) (0x20 ∷ 0x20 ∷ [])) (tabs_same closing more other))
margin_alone_same all both lines others closing more (Some i) (Some j) same one other found too =
    margin_same lines others i j one (indents_same all both i j same found too)
margin_alone_same all both lines others closing more None (Some j) same one other found too =
    absurd (false≢true (sym found ∙ own_comment_same all both same ∙ own_there both j too))
margin_alone_same all both lines others closing more (Some i) None same one other found too =
    absurd (false≢true (sym too ∙ sym (own_comment_same all both same) ∙ own_there all i found))

pub alone_same : (all both lines others closing more own too : List GapPart) → outlined all ≡ outlined both → outlined lines ≡ outlined others
    → outlined closing ≡ outlined more → IsMarginAlone all lines closing (outlined own) → IsMarginAlone both others more (outlined too) → outlined own ≡ outlined too
alone_same all both lines others closing more own too same one other here there =
    here.is ∙ margin_alone_same all both lines others closing more here.comment there.comment same one other here.found there.found ∙ sym there.is

-- ---- on a line of its own

pub on_line_same : (m n line other rest more before first behind second : List GapPart) → outlined m ≡ outlined n → outlined line ≡ outlined other
    → outlined rest ≡ outlined more → IsOnLine m line rest before behind → IsOnLine n other more first second
    → (outlined before ≡ outlined first) × (outlined behind ≡ outlined second)
on_line_same m n line other rest more before first behind second margins lines rests here there = (
  ap outlined here.before_is ∙ joined_same line other (indent_of m) (indent_of n) lines (indent_of_same m n margins) ∙ sym (ap outlined there.before_is),
  ap outlined here.behind_is ∙ joined_same (newline_of m) (newline_of n) rest more (newline_of_same m n margins) rests ∙ sym (ap outlined there.behind_is),
)

line_in_same : (all both m n before first behind second : List GapPart) → outlined all ≡ outlined both → outlined m ≡ outlined n → IsLineIn all m before behind
    → IsLineIn both n first second → (outlined before ≡ outlined first) × (outlined behind ≡ outlined second)
line_in_same all both m n before first behind second same margins (inl (line, rest, one, here)) (inl (other, more, two, there)) =
    let parts = first_same all both line other rest more same one two in
    on_line_same m n line other rest more before first behind second margins parts.0 parts.1 here there
line_in_same all both m n before first behind second same margins (inr (none, own, left)) (inr (never, too, other)) =
    (ap outlined own ∙ margins ∙ sym (ap outlined too), ap outlined left ∙ same ∙ sym (ap outlined other))
line_in_same all both m n before first behind second same margins (inl (line, rest, one, here)) (inr (never, too, other)) =
    absurd (false≢true (sym never ∙ sym (begins_same all both same) ∙ first_begins all line rest one))
line_in_same all both m n before first behind second same margins (inr (none, own, left)) (inl (other, more, two, there)) =
    absurd (false≢true (sym none ∙ begins_same all both same ∙ first_begins both other more two))

pub line_same : (gap other m n before first behind second : List GapPart) → parts_read gap ≡ parts_read other → outlined m ≡ outlined n → PutsLine gap m before behind
    → PutsLine other n first second → (outlined before ≡ outlined first) × (outlined behind ≡ outlined second)
line_same gap other m n before first behind second same margins here there =
    line_in_same here.parts there.parts m n before first behind second (parted_same gap other here.parts there.parts same here.parted there.parted) margins here.made there.made
