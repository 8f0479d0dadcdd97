-- What is left of lines of the working tree that are taken out.
use Rattle.std.proofs.Common.{◌≡◌, ◌∙◌, ℕ, ◌==◌, ◌&&◌, ◌||◌, Bool, true, false, cond, List, [], ◌∷◌, ◌++◌, length, map, Option, Some, None, refl, ap, ap₂, sym, subst, append_assoc, append-nil, true≢false}
use Rattle.std.specs.Prelude.{not}
use Rattle.std.specs.declared.alloc.Global.{Global}
use Rattle.std.specs.declared.vec.Vec.{Vec}
use Rattle.std.proofs.lemmas.Bool.{eqb-true, false_from_ne_true}
use Rattle.std.proofs.lemmas.List.{map-append, nil_from_length}
use Rattle.toml_names.specs.model.Addresses.{Address}
use Rattle.toml_text.specs.Source.{text_of}
use Rattle.toml_tree.specs.Tree as tree
use Rattle.toml_layout.specs.declared.texts.Texts.{Texts}
use Rattle.toml_layout.specs.Emptying.{line_emptied}
use Rattle.toml_layout.specs.Outlines.{Nothing}
use Rattle.toml_working.specs.declared.lines.Line.{Line}
use Rattle.toml_working.specs.declared.lines.Slot.{Slot}
use Rattle.toml_working.specs.declared.lines.Slot.TheVariants as slots
use Rattle.toml_working.specs.Becoming.{BodyBecomes}
use Rattle.toml_working.specs.OpeningLines.{HasOutline, alone}
use Rattle.toml_working.specs.Putting.{LineIsLast}
use Rattle.toml_working.specs.RemoveStanding.{empty_standing, left_of_pair, makes, parts_to}
use Rattle.toml_working.specs.RemovingBelow.{StaysBehindSlot}
use Rattle.toml_working.specs.RemovingIn.{LeavesBehind, LeavesLines, LeavesSlot, LinesKept, lines_of, stays_behind, stays_past, left_of_one, left_of_all}
use Rattle.toml_working.specs.Standing.{Standing, Read, body_outline, lies_below, line_standing}
use Rattle.toml_working.specs.Stands.{BodyKept, OpensSlot}
use Rattle.toml_working.proofs.Turned.{opened_kept, opened_standing}
use Rattle.toml_working.proofs.Each.{each_append, each_back, each_front}

or_false : (b : Bool) → (b || false) ≡ b
or_false true = refl
or_false false = refl

-- a table that a line does not become stays as it was
keeps_on : (stays made : Bool) → (stays || not made) ≡ true → stays ≡ (stays || made)
keeps_on true made is = refl
keeps_on false true is = absurd (true≢false (sym is))
keeps_on false false is = refl

-- a line goes by which the table does not stand
pub goes_by_line : (stays made : Bool) → made ≡ false → (stays || not made) ≡ true
goes_by_line true made is = refl
goes_by_line false made is = ap not is

-- the line comes to stand for the table
pub stood_for : (texts : Texts) (lines : List tree.Line) (q : Address) (stays : Bool) (l now : Line) → stays ≡ false → makes q l.base l.address ≡ true
    → now.base ≡ l.base → now.address ≡ Some q → BodyBecomes texts lines (line_emptied (parts_to q l.base)) l.body now.body
    → LeavesBehind texts lines q stays true l (Some now)
stood_for texts lines q stays l now gone made base address becomes read same kept =
    let (kept_now, outline) = becomes read same kept in (
      (kept_now, tt),
      ap₂ (λ a b. record { address = a; base = b; outline = body_outline read now.body } ∷ []) address base
          ∙ ap (λ o. record { address = Some q; base = l.base; outline = o } ∷ []) outline
          ∙ ap₂ (λ s m. left_of_pair q (s || not m) (line_standing read l)) (sym gone) (sym made),
      ap₂ (λ s m. s || m) (sym gone) (sym made),
    )

-- a last line leaves one of no bytes,
pub last_leaves : (texts : Texts) (lines : List tree.Line) (q : Address) (stays : Bool) (l e : Line) (last : Bool)
    → (stays || not (makes q l.base l.address)) ≡ true → LineIsLast l last → last ≡ true → e.address ≡ None → e.base ≡ None
    → HasOutline (alone Nothing []) e.body → LeavesBehind texts lines q stays stays l (Some e)
last_leaves texts lines q stays l e last goes tells is address base (o, opened, outlined) read same kept =
    let no_bytes : (length (body_outline read l.body).newline == 0) ≡ true = ap (λ t. length t == 0) ((tells (text_of texts.source) read kept).0 is) in (
      (subst (BodyKept (text_of texts.source) read) (sym opened) tt, tt),
      ap₂ (λ a b. record { address = a; base = b; outline = body_outline read e.body } ∷ []) address base
          ∙ ap (λ x. record { address = None; base = None; outline = x } ∷ []) (ap (body_outline read) opened ∙ outlined)
          ∙ ap (λ b. cond b (empty_standing ∷ []) []) (sym no_bytes) ∙ ap (λ b. left_of_pair q b (line_standing read l)) (sym goes),
      keeps_on stays (makes q l.base l.address) goes,
    )

-- and another leaves none
pub other_leaves : (texts : Texts) (lines : List tree.Line) (q : Address) (stays : Bool) (l : Line) (last : Bool)
    → (stays || not (makes q l.base l.address)) ≡ true → LineIsLast l last → last ≡ false → LeavesBehind texts lines q stays stays l None
other_leaves texts lines q stays l last goes tells is read same kept = (
  tt,
  ap (λ b. cond b (empty_standing ∷ []) []) (sym (some (body_outline read l.body).newline (tells (text_of texts.source) read kept).1))
      ∙ ap (λ b. left_of_pair q b (line_standing read l)) (sym goes),
  keeps_on stays (makes q l.base l.address) goes,
)
  where
    some : (newline : List ℕ) → (newline ≡ [] → last ≡ true) → (length newline == 0) ≡ false
    some newline ends = false_from_ne_true (length newline == 0) (λ none.
        true≢false (sym (ends (nil_from_length newline (eqb-true (length newline) 0 none))) ∙ is))

-- a line that stands there is taken out, and another one stays
pub below_leaves : (texts : Texts) (lines : List tree.Line) (p q : Address) (stays then_stays : Bool) (l : Line) (left : Option Line)
    → lies_below p l.address ≡ true → LeavesBehind texts lines q stays then_stays l left
    → LeavesLines texts lines p q stays then_stays (l ∷ []) (lines_of left)
below_leaves texts lines p q stays then_stays l left below leaves read same kept =
    let (kept_left, is, after) = leaves read same kept.0 in
    let s = line_standing read l in
    let its = left_of_pair q (stays || not (makes q l.base l.address)) s in (
      kept_left,
      is ∙ ap (λ b. cond b its (s ∷ [])) (sym below) ∙ sym (append-nil (left_of_one p q stays s)),
      after ∙ ap (λ b. stays || (b && makes q l.base l.address)) (sym below),
    )

-- ---- lines behind others

pub out_append : (p q : Address) (stays : Bool) (xs ys : List Standing)
    → left_of_all p q stays (xs ++ ys) ≡ left_of_all p q stays xs ++ left_of_all p q (stays_behind p q stays xs) ys
out_append p q stays [] ys = refl
out_append p q stays (x ∷ xs) ys =
    ap (λ r. left_of_one p q stays x ++ r) (out_append p q (stays_past p q stays x) xs ys)
    ∙ sym (append_assoc (left_of_one p q stays x) (left_of_all p q (stays_past p q stays x) xs) _)

pub behind_append : (p q : Address) (stays : Bool) (xs ys : List Standing)
    → stays_behind p q stays (xs ++ ys) ≡ stays_behind p q (stays_behind p q stays xs) ys
behind_append p q stays [] ys = refl
behind_append p q stays (x ∷ xs) ys = behind_append p q (stays_past p q stays x) xs ys

-- one line more
pub more_left : (texts : Texts) (lines : List tree.Line) (p q : Address) (stays mid then_stays : Bool) (old now new : List Line) (l : Line) (left : List Line)
    → LeavesLines texts lines p q stays mid old now → LeavesLines texts lines p q mid then_stays (l ∷ []) left → now ++ left ≡ new
    → LeavesLines texts lines p q stays then_stays (old ++ l ∷ []) new
more_left texts lines p q stays mid then_stays old now new l left so_far here is read same kept =
    let f = line_standing read in
    let P : Line → Type 0 = λ x. BodyKept (text_of texts.source) read x.body in
    let (kept_now, now_is, mid_is) = so_far read same (each_front P old (l ∷ []) kept) in
    let (kept_left, left_is, after) = here read same (each_back P old (l ∷ []) kept) in
    let both = map-append f old (l ∷ []) in (
      subst (LinesKept (text_of texts.source) read) is (each_append P now left kept_now kept_left),
      ap (map f) (sym is) ∙ map-append f now left ∙ ap₂ (λ a b. a ++ b) now_is left_is
          ∙ ap (λ b. left_of_all p q stays (map f old) ++ left_of_all p q b (f l ∷ [])) mid_is
          ∙ sym (out_append p q stays (map f old) (f l ∷ [])) ∙ ap (left_of_all p q stays) (sym both),
      after ∙ ap (λ b. stays_behind p q b (f l ∷ [])) mid_is ∙ sym (behind_append p q stays (map f old) (f l ∷ []))
          ∙ ap (stays_behind p q stays) (sym both),
    )

pub none_left : (texts : Texts) (lines : List tree.Line) (p q : Address) (stays : Bool) → LeavesLines texts lines p q stays stays [] []
none_left texts lines p q stays read same kept = (tt, refl, refl)

-- the lines of a slot
pub slot_leaves : (texts : Texts) (read : Read) (p q : Address) (stays then_stays : Bool) (old mid : Slot) (lines made : Vec Line Global)
    → OpensSlot read.units old mid → mid ≡ slots.Lines lines → LeavesLines texts read.lines p q stays then_stays lines.items made.items
    → LeavesSlot texts read p q stays old (slots.Lines made)
slot_leaves texts read p q stays then_stays old mid lines made opens is leaves kept =
    let (kept_now, left, after) = leaves read refl (opened_kept (text_of texts.source) read old mid lines opens is kept) in
    (kept_now, left ∙ ap (left_of_all p q stays) (opened_standing read old mid lines opens is))

-- and the table above
pub slot_stays : (texts : Texts) (read : Read) (p q : Address) (stays then_stays : Bool) (old mid : Slot) (lines made : Vec Line Global)
    → OpensSlot read.units old mid → mid ≡ slots.Lines lines → LeavesLines texts read.lines p q stays then_stays lines.items made.items
    → StaysBehindSlot texts read p q stays then_stays old
slot_stays texts read p q stays then_stays old mid lines made opens is leaves kept =
    let (kept_now, left, after) = leaves read refl (opened_kept (text_of texts.source) read old mid lines opens is kept) in
    after ∙ ap (stays_behind p q stays) (opened_standing read old mid lines opens is)
