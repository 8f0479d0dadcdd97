-- One of the lines of the working tree turns into another, and no other does.
use Rattle.std.proofs.Common.{◌≡◌, ◌∙◌, ℕ, ◌<◌, ◌≤◌, List, length, get_or, map, set, Option, Some, None, refl, ap, sym, subst}
use Rattle.std.specs.declared.alloc.Global.{Global}
use Rattle.std.specs.declared.vec.Vec.{Vec}
use Rattle.std.proofs.lemmas.List.{map-set}
use Rattle.std.proofs.lemmas.Option.{none-some, same_Some, slice_get-get_or, slice_get-map, slice_get_past}
use Rattle.std.proofs.lemmas.Result.{IfOk-weaker}
use Rattle.std.specs.Prelude.{option_map, slice_get, IfOk, MatchOption, Result}
use Rattle.toml_text.specs.Source.{text_of}
use Rattle.toml_tree.specs.Spells.{EachIs}
use Rattle.toml_working.specs.declared.lines.Line.{Line}
use Rattle.toml_working.specs.declared.lines.Slot.{Slot}
use Rattle.toml_working.specs.declared.lines.Slot.TheVariants as slots
use Rattle.toml_layout.specs.declared.texts.Texts.{Texts}
use Rattle.toml_working.specs.Standing.{Standing, Read, line_standing, slot_standing}
use Rattle.toml_working.specs.Stands.{BodyKept, OpensSlot, SlotKept}
use Rattle.toml_working.specs.Turning.{LineTurns, OneTurns, SlotTurns}
use Rattle.toml_working.proofs.Each.{each_get, each_set}

-- the one with the index has turned into another, or there is none
pub one_turns : {A : Type 0} (R : A → A → Type 0) (i : ℕ) (old now : List A) (x y : A) → i < length old → x ≡ get_or old i x
    → now ≡ set old i y → R x y → OneTurns R i old now
one_turns {A} R i old now x y low is put turns =
    let there : Some x ≡ slice_get old i = ap Some is ∙ sym (slice_get-get_or old i x low) in
    subst (λ o. MatchOption o (now ≡ old) (λ v. (w : A) × (now ≡ set old i w) × R v w)) there (y, put, turns)

-- where there is one, this has turned
pub one_turned : {A : Type 0} (R : A → A → Type 0) (i : ℕ) (old now : List A) (x : A) → slice_get old i ≡ Some x → OneTurns R i old now
    → (y : A) × (now ≡ set old i y) × R x y
one_turned {A} R i old now x there turns = subst (λ o. MatchOption o (now ≡ old) (λ v. (w : A) × (now ≡ set old i w) × R v w)) there turns

-- so it is wherever there is an answer
pub if_one_turns : {A X E : Type 0} (r : Result X E) (R : X → A → A → Type 0) (i : ℕ) (old : List A) (x y : A) → i < length old
    → x ≡ get_or old i x
    → IfOk r (λ v. R v x y) → IfOk r (λ v. OneTurns (R v) i old (set old i y))
if_one_turns r R i old x y low is = IfOk-weaker r (λ v. R v x y) (λ v. OneTurns (R v) i old (set old i y))
    (λ v turns. one_turns (R v) i old (set old i y) x y low is refl turns)

pub none_turns : {A : Type 0} (R : A → A → Type 0) (i : ℕ) (old : List A) → length old ≤ i → OneTurns R i old old
none_turns {A} R i old past =
    subst (λ o. MatchOption o (old ≡ old) (λ v. (w : A) × (old ≡ set old i w) × R v w)) (sym (slice_get_past old i past)) refl

-- what stands on the lines of a slot once it is opened
pub opened_standing : (read : Read) (old mid : Slot) (lines : Vec Line Global) → OpensSlot read.units old mid → mid ≡ slots.Lines lines
    → map (line_standing read) lines.items ≡ slot_standing read old
opened_standing read (slots.Lines ls) mid lines opens is = let e : slots.Lines ls ≡ slots.Lines lines = sym opens ∙ is in
    sym (ap (slot_standing read) e)
opened_standing read (slots.Kept kept) mid lines (ls, made, one) is =
    let e : slots.Lines ls ≡ slots.Lines lines = sym made ∙ is in sym (ap (slot_standing read) e) ∙ ap (map (line_standing read)) one

pub opened_kept : (text : List ℕ) (read : Read) (old mid : Slot) (lines : Vec Line Global) → OpensSlot read.units old mid
    → mid ≡ slots.Lines lines
    → SlotKept text read old → EachIs (λ (l : Line). BodyKept text read l.body) lines.items
opened_kept text read (slots.Lines ls) mid lines opens is kept = let e : slots.Lines ls ≡ slots.Lines lines = sym opens ∙ is in
    subst (SlotKept text read) e kept
opened_kept text read (slots.Kept k) mid lines (ls, made, one) is kept =
    let e : slots.Lines ls ≡ slots.Lines lines = sym made ∙ is in
    subst (SlotKept text read) e (subst (EachIs (λ (l : Line). BodyKept text read l.body)) (sym one) (kept, tt))

-- one of the lines of a slot has turned into another, or none
pub slot_turns : (texts : Texts) (read : Read) (R : Standing → Standing → Type 0) (index : ℕ) (old mid : Slot)
    (lines made : Vec Line Global)
    → OpensSlot read.units old mid → mid ≡ slots.Lines lines → OneTurns (LineTurns texts read.lines R) index lines.items made.items
    → SlotTurns texts read R index old (slots.Lines made)
slot_turns texts read R index old mid lines made opens opened turns kept = by (slice_get lines.items index) refl turns
  where
    text : List ℕ
    text = text_of texts.source

    BodiesKept : List Line → Type 0
    BodiesKept = EachIs (λ (l : Line). BodyKept text read l.body)

    stood : map (line_standing read) lines.items ≡ slot_standing read old
    stood = opened_standing read old mid lines opens opened

    each : BodiesKept lines.items
    each = opened_kept text read old mid lines opens opened kept

    at_index : (s : Standing) → slice_get (slot_standing read old) index ≡ Some s
        → option_map (line_standing read) (slice_get lines.items index) ≡ Some s
    at_index s at = sym (slice_get-map (line_standing read) lines.items index) ∙ ap (λ xs. slice_get xs index) stood ∙ at

    by : (o : Option Line) → slice_get lines.items index ≡ o
        → MatchOption o (made.items ≡ lines.items)
        (λ l. (m : Line) × (made.items ≡ set lines.items index m) × LineTurns texts read.lines R l m)
        → BodiesKept made.items × ((s : Standing) → slice_get (slot_standing read old) index ≡ Some s
        → (t : Standing) × (map (line_standing read) made.items ≡ set (slot_standing read old) index t) × R s t)
    by None there same = (
      subst BodiesKept (sym same) each,
      λ s at. let none : None ≡ Some s = sym (ap (option_map (line_standing read)) there) ∙ at_index s at in absurd (none-some s none),
    )
    by (Some l) there (m, put, turned) =
        let (kept_now, as_is) = turned read refl (each_get (λ (x : Line). BodyKept text read x.body) lines.items index l each there) in (
          subst BodiesKept (sym put) (each_set (λ (x : Line). BodyKept text read x.body) lines.items index m each kept_now),
          λ s at.
              let same : line_standing read l ≡ s = same_Some (line_standing read l) s
              (sym (ap (option_map (line_standing read)) there) ∙ at_index s at) in (
                line_standing read m,
                ap (map (line_standing read)) put ∙ map-set (line_standing read) lines.items index m
                    ∙ ap (λ xs. set xs index (line_standing read m)) stood,
                subst (λ x. R x (line_standing read m)) same as_is,
              ),
        )
