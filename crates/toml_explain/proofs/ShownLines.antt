-- The lines that an excerpt shows.
use Rattle.std.proofs.Common.{◌≡◌, ℕ, ◌+◌, ◌-◌, ◌==◌, true, false, List, [], ◌∷◌, ◌++◌, length, Option, Some, None, refl, sym, ap, ◌∙◌, subst, append_assoc, arith, take}
use Rattle.std.specs.Prelude.{IfOk, OnOk, Ok, Err, Result, codes, count_by, decimal, min, replicate, slice_range, string_bytes}
use Rattle.std.proofs.lemmas.Bool.{cond-false, cond-true, eqb-false, eqb-true}
use Rattle.std.proofs.lemmas.Option.{none-some}
use Rattle.toml_text.specs.Positions.{IsPosition, is_lf}
use Rattle.toml_text.specs.declared.span.Position.{Position}
use Rattle.toml_tree.specs.declared.profile.Profile.{Profile}
use Rattle.toml_mentions.specs.Redefined.{FindsBoth, found_clash}
use Rattle.toml_mentions.specs.Sought.{Sight, seen_clash, seen_of}
use Rattle.toml_mentions.specs.declared.redefined.Redefined.{Redefined}
use Rattle.toml_mentions.specs.declared.seeker.Clash.{Clash}
use Rattle.toml_explain.specs.Documents.{EndsInFound, ShowsClash}
use Rattle.toml_explain.specs.Excerpts.{Drawn, EndsInBoth, EndsInLine, Gains, GainsCarets, GainsLine, GainsMore, HasLineOf, IsDrawn, IsDrawnAt, IsDrawnOf, ShowsBoth, below_line, first_defined, labelled, line_number, margin, noted, numbered, space_behind}
use Rattle.toml_explain.specs.Openings.{EndsIn}
use Rattle.toml_explain.specs.Shown.{ShowsLine}
use Rattle.toml_explain.specs.declared.drawing.Drawing.{Drawing}
use Rattle.toml_explain.specs.declared.excerpt.Excerpt.{Excerpt}

-- what is pushed piece by piece
pub margin_is : (old t1 t2 t3 t4 t5 label : List ℕ) (width n m : ℕ) → t1 ≡ old ++ codes "  " → t2 ≡ t1 ++ replicate n 0x20 → n ≡ width - length label → t3 ≡ t2 ++ label → t4 ≡ t3 ++ replicate m 0x20
    → m ≡ min width 1 → t5 ≡ t4 ++ codes "| " → t5 ≡ old ++ margin width label
margin_is old t1 t2 t3 t4 t5 label width n m e1 e2 en e3 e4 em e5 =
    let spaces = replicate (width - length label) 0x20 in
    let two : t2 ≡ old ++ (codes "  " ++ spaces) = e2 ∙ ((λ i. e1 i ++ replicate (en i) 0x20) ∙ append_assoc old (codes "  ") spaces) in
    let three : t3 ≡ old ++ ((codes "  " ++ spaces) ++ label) = e3 ∙ (ap (λ l. l ++ label) two ∙ append_assoc old (codes "  " ++ spaces) label) in
    let four : t4 ≡ old ++ (((codes "  " ++ spaces) ++ label) ++ space_behind width) =
    e4 ∙ ((λ i. three i ++ replicate (em i) 0x20) ∙ append_assoc old ((codes "  " ++ spaces) ++ label) (space_behind width)) in
    let five = e5 ∙ (ap (λ l. l ++ codes "| ") four ∙ append_assoc old (((codes "  " ++ spaces) ++ label) ++ space_behind width) (codes "| ")) in
    five ∙ ap (λ l. old ++ l) (append_assoc ((codes "  " ++ spaces) ++ label) (space_behind width) (codes "| ")
    ∙ (append_assoc (codes "  " ++ spaces) label (space_behind width ++ codes "| ") ∙ append_assoc (codes "  ") spaces (label ++ (space_behind width ++ codes "| "))))

pub below_is : (old t1 t2 t3 t4 carets note : List ℕ) (width : ℕ) → t1 ≡ old ++ margin width [] → t2 ≡ t1 ++ carets → t3 ≡ t2 ++ noted note → t4 ≡ t3 ++ (0x0A ∷ []) → t4 ≡ old ++ below_line width carets note
below_is old t1 t2 t3 t4 carets note width e1 e2 e3 e4 =
    let front = margin width [] in
    let two : t2 ≡ old ++ (front ++ carets) = e2 ∙ (ap (λ l. l ++ carets) e1 ∙ append_assoc old front carets) in
    let three : t3 ≡ old ++ ((front ++ carets) ++ noted note) = e3 ∙ (ap (λ l. l ++ noted note) two ∙ append_assoc old (front ++ carets) (noted note)) in
    let four = e4 ∙ (ap (λ l. l ++ 0x0A ∷ []) three ∙ append_assoc old ((front ++ carets) ++ noted note) (0x0A ∷ [])) in
    four ∙ ap (λ l. old ++ l) (append_assoc (front ++ carets) (noted note) (0x0A ∷ []) ∙ append_assoc front carets (noted note ++ 0x0A ∷ []))

pub labelled_is : (old t1 t2 t3 t4 label line carets note : List ℕ) (width again : ℕ) → t1 ≡ old ++ margin width label → t2 ≡ t1 ++ line → t3 ≡ t2 ++ (0x0A ∷ []) → t4 ≡ t3 ++ below_line again carets note → again ≡ width
    → t4 ≡ old ++ labelled width label line carets note
labelled_is old t1 t2 t3 t4 label line carets note width again e1 e2 e3 e4 same =
    let front = margin width label in
    let rest = below_line width carets note in
    let two : t2 ≡ old ++ (front ++ line) = e2 ∙ (ap (λ l. l ++ line) e1 ∙ append_assoc old front line) in
    let three : t3 ≡ old ++ ((front ++ line) ++ 0x0A ∷ []) = e3 ∙ (ap (λ l. l ++ 0x0A ∷ []) two ∙ append_assoc old (front ++ line) (0x0A ∷ [])) in
    let four = e4 ∙ ((λ i. three i ++ below_line (same i) carets note) ∙ append_assoc old ((front ++ line) ++ 0x0A ∷ []) rest) in
    four ∙ ap (λ l. old ++ l) (append_assoc (front ++ line) (0x0A ∷ []) rest ∙ append_assoc front line (0x0A ∷ rest))

-- what is drawn
abbrev drawn_of : (d : Drawing) → IsDrawn d → Drawn
drawn_of d drawn = record { line = string_bytes d.text; carets = string_bytes d.below; one = drawn.line; other = drawn.carets }

pub gains_carets : {T E : Type 0} (old new : Excerpt) (d : Drawing) (bytes : List ℕ) (at : ℕ) (note : List ℕ) (r : Result T E) → IsDrawnAt bytes at d
    → OnOk r (Gains old new (below_line old.width (string_bytes d.below) note)) → OnOk r (GainsCarets old new bytes at note)
gains_carets old new d bytes at note (Ok t) is gains = (drawn_of d is.drawn, is.line, gains)
gains_carets old new d bytes at note (Err e) is gains = tt

pub gains_line : {T E : Type 0} (old new : Excerpt) (d : Drawing) (bytes : List ℕ) (at : ℕ) (note : List ℕ) (r : Result T E) (number : ℕ) (label : List ℕ) → number ≡ line_number bytes at → label ≡ decimal number
    → IsDrawnAt bytes at d → OnOk r (Gains old new (labelled old.width label (string_bytes d.text) (string_bytes d.below) note)) → OnOk r (GainsLine old new bytes at note)
gains_line old new d bytes at note (Ok t) number label is said drawn gains =
    (drawn_of d drawn.drawn, drawn.line, subst (λ l. Gains old new (labelled old.width l (string_bytes d.text) (string_bytes d.below) note)) (said ∙ ap decimal is) gains)
gains_line old new d bytes at note (Err e) number label is said drawn gains = tt

pub gains_more : {T E : Type 0} (old new : Excerpt) (more : List ℕ) (r : Result T E) → OnOk r (Gains old new more) → OnOk r (GainsMore old new)
gains_more old new more (Ok t) gains = (more, gains)
gains_more old new more (Err e) gains = tt

-- a drawing of the line of a place
pub drawn_at : {E : Type 0} (bytes : List ℕ) (at : ℕ) (p : Position) → IsPosition bytes (min at (length bytes)) p → (r : Result Drawing E)
    → IfOk r (IsDrawnOf (slice_range bytes p.line_span.start p.line_span.end)) → IfOk r (IsDrawnAt bytes at)
drawn_at bytes at p exact (Ok d) is = record { drawn = is.drawn; line = record { position = p; exact = exact; run = is.run } }
drawn_at bytes at p exact (Err e) is = tt

-- a test of two numbers
pub same_number : (m n : ℕ) → m ≡ n → (m == n) ≡ true
same_number m n e = elim (m == n) as (λ t. (m == n) ≡ t → t ≡ true) [ true ↦ λ _. refl | false ↦ λ f. absurd (eqb-false m n f e) ] refl

pub other_number : (m n : ℕ) → ¬ (m ≡ n) → (m == n) ≡ false
other_number m n e = elim (m == n) as (λ t. (m == n) ≡ t → t ≡ false) [ true ↦ λ f. absurd (e (eqb-true m n f)) | false ↦ λ _. refl ] refl

-- two places in one line, and in two
module _ (bytes : List ℕ) (first again : ℕ) (start one done : Excerpt) (empty : string_bytes start.text ≡ []) (wide : start.width ≡ length (decimal (line_number bytes again))) where
  line_is : (gains : GainsLine start one bytes again []) → string_bytes one.text ≡ labelled (length (decimal (line_number bytes again))) (decimal (line_number bytes again)) gains.0.line gains.0.carets []
  line_is (d, is, gains) = gains.text ∙ (λ i. empty i ++ labelled (wide i) (decimal (line_number bytes again)) d.line d.carets [])

  width_is : GainsLine start one bytes again [] → one.width ≡ length (decimal (line_number bytes again))
  width_is (d, is, gains) = gains.width ∙ wide

  pub both_in_one : GainsLine start one bytes again [] → GainsCarets one done bytes first first_defined → (line_number bytes first == line_number bytes again) ≡ true → ShowsBoth bytes first again (string_bytes done.text)
  both_in_one gains (c, at, more) same =
      let shown = line_is gains in
      let width = width_is gains in (
        gains.0,
        c,
        gains.1,
        at,
        more.text ∙ (λ i. shown i ++ below_line (width i) c.carets first_defined)
            ∙ ap (λ l. labelled (length (decimal (line_number bytes again))) (decimal (line_number bytes again)) gains.0.line gains.0.carets [] ++ l) (sym (cond-true _ _ _ same)),
      )

  pub both_in_two : GainsLine start one bytes again [] → GainsLine one done bytes first first_defined → (line_number bytes first == line_number bytes again) ≡ false → ShowsBoth bytes first again (string_bytes done.text)
  both_in_two gains (c, at, more) other =
      let shown = line_is gains in
      let width = width_is gains in (
        gains.0,
        c,
        gains.1,
        at,
        more.text ∙ (λ i. shown i ++ labelled (width i) (decimal (line_number bytes first)) c.line c.carets first_defined)
            ∙ ap (λ l. labelled (length (decimal (line_number bytes again))) (decimal (line_number bytes again)) gains.0.line gains.0.carets [] ++ l) (sym (cond-false _ _ _ other)),
      )

-- behind a sentence
pub ends_in_found : (bytes : List ℕ) (found : Option Redefined) (twice : Redefined) (clash : Clash) (sentence shown text : List ℕ) → found ≡ Some twice → twice.clash ≡ Some clash
    → ShowsBoth bytes clash.first.span.start clash.again.span.start shown → text ≡ sentence ++ 0x0A ∷ shown → EndsInFound bytes found text
ends_in_found bytes found twice clash sentence shown text is there shows e = λ first again h.
    let got : Some (seen_of clash.first, seen_of clash.again) ≡ Some (first, again) = sym (ap found_clash is ∙ ap seen_clash there) ∙ h in
    let same : (seen_of clash.first, seen_of clash.again) ≡ (first, again) = cc in
    record {
      front = sentence;
      shown = shown;
      lines = subst (λ (p : Sight × Sight). ShowsBoth bytes p.0.span.start p.1.span.start shown) same shows;
      ends = e;
    }

-- nothing is shown of what was not found
pub none_found : (bytes : List ℕ) (found : Option Redefined) (text : List ℕ) → found_clash found ≡ None → EndsInFound bytes found text
none_found bytes found text none = λ first again h. absurd (none-some (first, again) (sym none ∙ h))

module _ {S E : Type 0} (f : S → List ℕ) (bytes : List ℕ) (found : Option Redefined) where
  pub nothing_found : (r : Result S E) → found_clash found ≡ None → IfOk r (λ t. EndsInFound bytes found (f t))
  nothing_found (Ok t) none = none_found bytes found (f t) none
  nothing_found (Err e) none = tt

  pub both_found : (twice : Redefined) (clash : Clash) (sentence shown : List ℕ) (r : Result S E) → found ≡ Some twice → twice.clash ≡ Some clash
      → ShowsBoth bytes clash.first.span.start clash.again.span.start shown → IfOk r (λ t. f t ≡ sentence ++ 0x0A ∷ shown) → IfOk r (λ t. EndsInFound bytes found (f t))
  both_found twice clash sentence shown (Ok t) is there shows e = ends_in_found bytes found twice clash sentence shown (f t) is there shows e
  both_found twice clash sentence shown (Err d) is there shows e = tt

-- behind an opening
pub shows_clash : {S E : Type 0} (f : S → List ℕ) (profile : Profile) (bytes : List ℕ) (number : ℕ) (found : Option Redefined) → FindsBoth profile bytes found → (lines rest : List ℕ) → rest ≡ lines
    → EndsInFound bytes found lines → (r : Result S E) → IfOk r (λ t. EndsIn rest (f t)) → IfOk r (λ t. ShowsClash profile bytes number (f t))
shows_clash f profile bytes number found finds lines rest same ends (Ok t) behind = λ first again h.
    let e : EndsInBoth bytes first.span.start again.span.start lines = ends first again (finds number first again h) in
    record {
      front = behind.0 ++ e.front;
      shown = e.shown;
      lines = e.lines;
      ends = behind.1 ∙ ap (λ l. behind.0 ++ l) (same ∙ e.ends) ∙ sym (append_assoc behind.0 e.front (0x0A ∷ e.shown));
    }
shows_clash f profile bytes number found finds lines rest same ends (Err d) behind = tt

-- one line, behind a sentence and behind an opening
module _ {S E : Type 0} (f : S → List ℕ) where
  pub line_below : (bytes : List ℕ) (at : ℕ) (start done : Excerpt) → string_bytes start.text ≡ [] → start.width ≡ length (decimal (line_number bytes at)) → GainsLine start done bytes at []
      → (sentence : List ℕ) (r : Result S E) → IfOk r (λ t. f t ≡ sentence ++ 0x0A ∷ string_bytes done.text) → IfOk r (λ t. EndsInLine bytes at (f t))
  line_below bytes at start done empty wide (d, is, gains) sentence (Ok t) e = record {
    front = sentence;
    shown = d;
    line = is;
    ends = e ∙ ap (λ l. sentence ++ 0x0A ∷ l) (gains.text ∙ (λ i. empty i ++ labelled (wide i) (decimal (line_number bytes at)) d.line d.carets []));
  }
  line_below bytes at start done empty wide gains sentence (Err d) e = tt

  pub line_behind : (bytes : List ℕ) (at : ℕ) (lines rest : List ℕ) → rest ≡ lines → EndsInLine bytes at lines → (r : Result S E) → IfOk r (λ t. EndsIn rest (f t)) → IfOk r (λ t. EndsInLine bytes at (f t))
  line_behind bytes at lines rest same e (Ok t) behind = record {
    front = behind.0 ++ e.front;
    shown = e.shown;
    line = e.line;
    ends = behind.1 ∙ ap (λ l. behind.0 ++ l) (same ∙ e.ends) ∙ sym (append_assoc behind.0 e.front _);
  }
  line_behind bytes at lines rest same e (Err d) behind = tt

  -- a line and more
  pub line_among : (bytes : List ℕ) (at : ℕ) (start one done : Excerpt) → string_bytes start.text ≡ [] → start.width ≡ length (decimal (line_number bytes at)) → GainsLine start one bytes at []
      → (more : List ℕ) → string_bytes done.text ≡ string_bytes one.text ++ more → (sentence lines rest : List ℕ) → lines ≡ sentence ++ 0x0A ∷ string_bytes done.text → rest ≡ lines
      → (r : Result S E) → IfOk r (λ t. EndsIn rest (f t)) → IfOk r (λ t. HasLineOf bytes at (f t))
  line_among bytes at start one done empty wide (d, is, gains) more then sentence lines rest e same (Ok t) behind =
      let line : string_bytes one.text ≡ numbered (line_number bytes at) d = gains.text ∙ (λ i. empty i ++ labelled (wide i) (decimal (line_number bytes at)) d.line d.carets []) in
      record {
        front = behind.0 ++ sentence;
        shown = d;
        line = is;
        rest = more;
        has = behind.1 ∙ ap (λ l. behind.0 ++ l) (same ∙ (e ∙ ap (λ l. sentence ++ 0x0A ∷ l) (then ∙ ap (λ l. l ++ more) line))) ∙ sym (append_assoc behind.0 sentence _);
      }
  line_among bytes at start one done empty wide gains more then sentence lines rest e same (Err d) behind = tt

-- the end stands in the line of each place behind it
pub same_line : (bytes : List ℕ) (place at : ℕ) → at ≡ min place (length bytes) → (text : List ℕ) → EndsInLine bytes at text → EndsInLine bytes place text
same_line bytes place at is text h =
    let same : min at (length bytes) ≡ min place (length bytes) = omega (arith, is) in
    let number : line_number bytes at ≡ line_number bytes place = ap (λ n. count_by is_lf (take n bytes) + 1) same in
    record {
      front = h.front;
      shown = h.shown;
      line = record { position = h.line.position; exact = subst (λ (n : ℕ). IsPosition bytes n h.line.position) same h.line.exact; run = h.line.run };
      ends = h.ends ∙ ap (λ (n : ℕ). h.front ++ 0x0A ∷ numbered n h.shown) number;
    }
