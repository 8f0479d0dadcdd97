-- Lines that have no bytes.
use Rattle.std.proofs.Common.{◌≡◌, ◌∙◌, ℕ, zero, suc, ◌-◌, ◌≤◌, ◌==◌, Bool, true, false, ◌&&◌, not, List, [], ◌∷◌, ◌++◌, length, drop, map, Option, Some, None, refl, ap, ap₂, sym, subst, arith, slice_range, length-drop, true≢false}
use Rattle.std.specs.Prelude.{is_some, option_map, slice_get}
use Rattle.std.specs.declared.alloc.Global.{Global}
use Rattle.std.specs.declared.vec.Vec.{Vec}
use Rattle.std.proofs.lemmas.Bool.{and_parts, eqb-false, eqb-true}
use Rattle.std.proofs.lemmas.List.{length-take-le}
use Rattle.std.proofs.lemmas.Option.{none-some, same_Some, slice_get-map}
use Rattle.toml_text.specs.Forms.{IsComment}
use Rattle.toml_tree.specs.Spells.{IsCommentOrNone, IsExpr}
use Rattle.toml_tree.specs.Tree as tree
use Rattle.toml_tree.specs.Tree.{BlankLine, KeyValLine, TableLine, ArrayTableLine}
use Rattle.toml_layout.specs.Outlines as outline
use Rattle.toml_layout.specs.Outlines.{AssignOutline, ExprOutline, LineOutline, ValueOutline, assign_outlined, comment_outlined, dotted_outlined, expr_outlined, line_outlined, no_line, value_outlined}
use Rattle.toml_layout.specs.TreeOutlines.{line_outline, value_outline}
use Rattle.toml_working.specs.declared.lines.Body.TheVariants as bodies
use Rattle.toml_working.specs.declared.lines.Kept.{Kept}
use Rattle.toml_working.specs.declared.lines.Line.{Line}
use Rattle.toml_working.specs.declared.lines.Slot.{Slot}
use Rattle.toml_working.specs.declared.lines.Slot.TheVariants as slots
use Rattle.toml_working.specs.declared.working.Position.{Position}
use Rattle.toml_working.specs.Headers.{has_no_bytes, is_nothing}
use Rattle.toml_working.specs.PuttingHeaders.{HasNoBytesAt, LineHasNoBytes, SlotHasNoBytes, TellsNoBytes}
use Rattle.toml_working.specs.Standing.{Standing, Read, body_outline, kept_outline, line_standing, outline_of, slot_standing}
use Rattle.toml_working.specs.Stands.{BodyKept, IsKept, SlotKept}
use Rattle.toml_working.proofs.AtPlace.{line_in, no_line as no_place}
use Rattle.toml_working.proofs.Each.{each_get}

-- ---- outlines

nothing_is : (e : ExprOutline) → is_nothing e ≡ true → e ≡ outline.Nothing
nothing_is outline.Nothing h = refl
nothing_is (outline.Pair a v) h = absurd (true≢false (sym h))
nothing_is (outline.Header opening before first rest after closing) h = absurd (true≢false (sym h))

none_is : (xs : List ℕ) → (length xs == 0) ≡ true → xs ≡ []
none_is [] h = refl
none_is (x ∷ xs) h = absurd (let e = eqb-true (length (x ∷ xs)) 0 h in omega (arith, e))

no_comment_is : (c : Option (List ℕ)) → not (is_some c) ≡ true → c ≡ None
no_comment_is None h = refl
no_comment_is (Some c) h = absurd (true≢false (sym h))

pub empty_is : (l : LineOutline) → has_no_bytes l ≡ true → l ≡ no_line
empty_is l h =
    let (four, newline) = and_parts _ (length l.newline == 0) h in
    let (three, comment) = and_parts _ (not (is_some l.comment)) four in
    let (two, tail) = and_parts _ (length l.tail == 0) three in
    let (expr, ws) = and_parts (is_nothing l.expr) (length l.ws == 0) two in
    ap₂ (λ w e. record { ws = w; expr = e; tail = l.tail; comment = l.comment; newline = l.newline }) (none_is l.ws ws) (nothing_is l.expr expr)
    ∙ ap₂ (λ t c. record { ws = []; expr = outline.Nothing; tail = t; comment = c; newline = l.newline }) (none_is l.tail tail) (no_comment_is l.comment comment)
    ∙ ap (λ n. record { ws = []; expr = outline.Nothing; tail = []; comment = None; newline = n }) (none_is l.newline newline)

-- ---- lines of a text

both_empty : (xs ys : List ℕ) → xs ++ ys ≡ [] → (xs ≡ []) × (ys ≡ [])
both_empty [] ys h = (refl, h)
both_empty (x ∷ xs) ys h = cc

no_equals : (a : AssignOutline) (v : ValueOutline) (behind : List ℕ) → (assign_outlined a ++ value_outlined v) ++ behind ≡ [] → ⊥
no_equals a v behind h =
    let assign = (both_empty (assign_outlined a) (value_outlined v) (both_empty (assign_outlined a ++ value_outlined v) behind h).0).0 in
    let rest = (both_empty a.first _ assign).1 in
    let last = (both_empty a.before_equals _ (both_empty (dotted_outlined a.rest) _ rest).1).1 in
    cc

-- of one of its form, what spells nothing has no bytes
spells_nothing : (e : tree.Expr) (n : tree.Piece) → IsExpr e → line_outlined (line_outline (record { expr = e; newline = n })) ≡ []
    → has_no_bytes (line_outline (record { expr = e; newline = n })) ≡ true
spells_nothing (BlankLine b) n form h =
    let (tail, behind) = both_empty b.ws.text _ h in
    let (comment, newline) = both_empty (comment_outlined (option_map (λ (p : tree.Piece). p.text) b.comment)) n.text behind in
    ap₂ (λ t m. (length t == 0) && not (is_some (option_map (λ (p : tree.Piece). p.text) b.comment)) && (length m == 0)) tail newline
    ∙ ap (λ c. not (is_some c) && true) (no_comment b.comment form.1 comment)
  where
    no_comment : (c : Option tree.Piece) → IsCommentOrNone c → comment_outlined (option_map (λ (p : tree.Piece). p.text) c) ≡ []
        → option_map (λ (p : tree.Piece). p.text) c ≡ None
    no_comment None form h = refl
    no_comment (Some p) form h = absurd (subst IsComment h form)
spells_nothing (KeyValLine ws pair tail) n form h = absurd (no_equals _ (value_outline pair.value) (tail.ws.text ++ (comment_outlined (option_map (λ (p : tree.Piece). p.text) tail.comment) ++ n.text)) (both_empty ws.text _ h).1)
spells_nothing (TableLine ws header tail) n form h = let none = (both_empty ws.text _ h).1 in cc
spells_nothing (ArrayTableLine ws header tail) n form h = let none = (both_empty ws.text _ h).1 in cc

length_range : (text : List ℕ) (i j : ℕ) → i ≤ j → j ≤ length text → length (slice_range text i j) ≡ j - i
length_range text i j low high = length-take-le (j - i) (drop i text) (omega (arith, low, high, length-drop i text))

nothing_long : (xs : List ℕ) → length xs ≡ 0 → xs ≡ []
nothing_long [] e = refl
nothing_long (x ∷ xs) e = absurd (omega (arith, e))

-- a line that is as it was
pub kept_told : (text : List ℕ) (read : Read) (kept : Kept) → IsKept text read kept → (kept.span.start == kept.span.end) ≡ has_no_bytes (kept_outline read kept)
kept_told text read kept is =
    let same : kept_outline read kept ≡ line_outline is.line = ap outline_of is.is in
    by (kept.span.start == kept.span.end) refl (has_no_bytes (line_outline is.line)) refl ∙ sym (ap has_no_bytes same)
  where
    spelled : slice_range text kept.span.start kept.span.end ≡ line_outlined (line_outline is.line)
    spelled = is.spells

    long : length (line_outlined (line_outline is.line)) ≡ kept.span.end - kept.span.start
    long = ap length (sym spelled) ∙ length_range text kept.span.start kept.span.end is.held.order is.held.end.0

    by : (a : Bool) → (kept.span.start == kept.span.end) ≡ a → (b : Bool) → has_no_bytes (line_outline is.line) ≡ b → a ≡ b
    by true h true k = refl
    by false h false k = refl
    by true h false k =
        let equal = eqb-true kept.span.start kept.span.end h in
        let none : line_outlined (line_outline is.line) ≡ [] = nothing_long (line_outlined (line_outline is.line)) (omega (arith, long, equal)) in
        absurd (true≢false (sym (spells_nothing is.line.expr is.line.newline is.stands.0 none) ∙ k))
    by false h true k =
        let none : line_outlined (line_outline is.line) ≡ [] = ap line_outlined (empty_is (line_outline is.line) k) in
        let order = is.held.order in
        let nothing = ap length none in
        absurd (eqb-false kept.span.start kept.span.end h (omega (arith, order, long, nothing)))

-- ---- a line of the working tree

pub kept_line_told : (l : Line) (kept : Kept) → l.body ≡ bodies.Kept kept → LineHasNoBytes l (kept.span.start == kept.span.end)
kept_line_told l kept is text read so =
    kept_told text read kept (subst (BodyKept text read) is so) ∙ sym (ap (λ b. has_no_bytes (body_outline read b)) is)

pub line_told : (slot : Slot) (lines : Vec Line Global) (index : ℕ) (l : Line) (b : Bool) → slot ≡ slots.Lines lines → slice_get lines.items index ≡ Some l → LineHasNoBytes l b → SlotHasNoBytes slot index b
line_told slot lines index l b is there told text read kept s at =
    let here : slice_get (map (line_standing read) lines.items) index ≡ Some s = subst (λ x. slice_get (slot_standing read x) index ≡ Some s) is at in
    let same : line_standing read l ≡ s = same_Some (line_standing read l) s (sym (slice_get-map (line_standing read) lines.items index ∙ ap (option_map (line_standing read)) there) ∙ here) in
    subst (TellsNoBytes b) same (told text read (each_get (λ (x : Line). BodyKept text read x.body) lines.items index l (subst (SlotKept text read) is kept) there))

pub no_line_told : (slot : Slot) (lines : Vec Line Global) (index : ℕ) (b : Bool) → slot ≡ slots.Lines lines → slice_get lines.items index ≡ None → SlotHasNoBytes slot index b
no_line_told slot lines index b is none text read kept s at =
    let here : slice_get (map (line_standing read) lines.items) index ≡ Some s = subst (λ x. slice_get (slot_standing read x) index ≡ Some s) is at in
    absurd (none-some s (sym (slice_get-map (line_standing read) lines.items index ∙ ap (option_map (line_standing read)) none) ∙ here))

pub kept_slot_told : (slot : Slot) (kept : Kept) (index : ℕ) → slot ≡ slots.Kept kept → SlotHasNoBytes slot index (kept.span.start == kept.span.end)
kept_slot_told slot kept index is text read so s at =
    by index (subst (λ x. slice_get (slot_standing read x) index ≡ Some s) is at)
  where
    by : (i : ℕ) → slice_get (slot_standing read (slots.Kept kept)) i ≡ Some s → (kept.span.start == kept.span.end) ≡ has_no_bytes s.outline
    by zero e =
        kept_told text read kept (subst (SlotKept text read) is so) ∙ ap (λ (x : Standing). has_no_bytes x.outline) (same_Some _ s e)
    by (suc i) e = cc

pub slot_told : (slots : List Slot) (at : Position) (slot : Slot) (b : Bool) → slice_get slots at.slot ≡ Some slot → SlotHasNoBytes slot at.index b → HasNoBytesAt slots at b
slot_told slots at slot b there told text read kept s e =
    told text read (each_get (SlotKept text read) slots at.slot slot kept there) s (line_in read slots at slot s there e)

pub no_slot_told : (slots : List Slot) (at : Position) (b : Bool) → slice_get slots at.slot ≡ None → HasNoBytesAt slots at b
no_slot_told slots at b none text read kept s e = absurd (no_place read slots at s none e)
