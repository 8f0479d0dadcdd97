-- The plain reader reads a text exactly where a tree spells it, and reads that tree.
use Rattle.std.proofs.Common.{◌≡◌, ℕ, ◌+◌, ◌≤◌, List, [], ◌++◌, length, drop, Option, Some, None, sym, refl, ap, ◌∙◌, subst, arith}
use Rattle.std.specs.Prelude.{IfSome}
use Rattle.std.proofs.lemmas.Option.{none-some, some_pair_parts, same_Some, option_and_then_some}
use Rattle.toml_tree.specs.Tree.{Piece, Line}
use Rattle.toml_tree.specs.Profiles.{AreLinesOfProfile, SpellsIn, SpelledByNone, OneTreeIn}
use Rattle.toml_tree.specs.Spells.{joined, lines_parts, SpellLines, mark_of}
use Rattle.toml_tree.specs.Reading.{Cursor, here, ahead}
use Rattle.toml_tree.specs.ReadingLines.{lines_at, document_at}
use Rattle.toml_scalar.specs.Faults.{place_of}
use Rattle.toml_tree.specs.Document.{Refuses}
use Rattle.toml_tree.specs.Laws.{OneTree, ReaderIsSound, ReaderIsComplete}
use Rattle.toml_tree.specs.Reads.{Fails, end}
use Rattle.toml_scalar.specs.declared.fault.SyntaxFault.{SyntaxFault}
use Rattle.toml_tree.specs.declared.profile.Profile.{Profile}
use Rattle.toml_tree.specs.declared.profile.Profile.TheVariants.{Two}
use Rattle.toml_tree.proofs.Spans.{Spans, spans_joined, spans_placed, spans_from}
use Rattle.toml_tree.proofs.SoundLines.{AreLinesOf, lines_sound}
use Rattle.toml_tree.proofs.CompleteLines.{lines_complete}
use Rattle.toml_tree.proofs.Many.{append-nil}
use Rattle.toml_tree.proofs.Marks.{mark_front}

-- what is read from a place is spelled from there on
lines_found : (p : Profile) (ls : List Line) (c d : Cursor) → lines_at p c ≡ Some (ls, d) → SpellLines ls c.at c.rest × AreLinesOfProfile p ls
lines_found p ls c d e =
    let R : List Line × Cursor → Type 0 = λ r. AreLinesOf p r.0 × Spans (lines_parts r.0) c r.1 × (r.1.rest ≡ []) in
    let k : R (ls, d) = subst (λ o. IfSome o R) e (lines_sound p c) in (
      record {
        forms = k.0.0;
        text_is = sym (append-nil (joined (lines_parts ls))) ∙ ap (λ l. joined (lines_parts ls) ++ l) (sym k.2) ∙ sym (spans_joined (lines_parts ls) c d k.1).rest;
        placed = spans_placed (lines_parts ls) c d k.1;
      },
      k.0.1,
    )

-- what is spelled from a place on is read from there
pub lines_read : (p : Profile) (ls : List Line) (c : Cursor) → SpellLines ls c.at c.rest → AreLinesOfProfile p ls → lines_at p c ≡ Some (ls, record { at = c.at + length (joined (lines_parts ls)); rest = [] })
lines_read p ls c h plain =
    let d : Cursor = record { at = c.at + length (joined (lines_parts ls)); rest = [] } in
    let s = spans_from (lines_parts ls) c.at [] h.placed in
    let at_start : record { at = c.at; rest = joined (lines_parts ls) ++ [] } ≡ c = λ i. record { at = c.at; rest = (append-nil (joined (lines_parts ls)) ∙ h.text_is) i } in
    lines_complete p ls c d (h.forms, plain) (subst (λ x. Spans (lines_parts ls) x d) at_start s) refl

-- where the lines of a text begin
abbrev pub behind_mark : List ℕ → Cursor
behind_mark text = record { at = length (mark_of text); rest = drop (length (mark_of text)) text }

none : (p : Profile) (text : List ℕ) → lines_at p (behind_mark text) ≡ None → SpelledByNone p text
none p text e d h = none-some _ (sym e ∙ lines_read p d.lines (behind_mark text) h.0.lines h.1)

-- the reader of profile 2 reads each tree that spells the text
pub one_tree : OneTree
one_tree d e text h k =
    let same = (some_pair_parts _ _ _ _ (sym (lines_read Two d.lines (behind_mark text) h.lines tt) ∙ lines_read Two e.lines (behind_mark text) k.lines tt)).0 in
    λ i. record { mark = (h.mark ∙ sym k.mark) i; lines = same i }

pub one_tree_in : OneTreeIn
one_tree_in p d e text h k = one_tree d e text h.0 k.0

-- where a text begins
abbrev pub start : List ℕ → Cursor
start text = record { at = 0; rest = text }

mark_ahead : (text : List ℕ) → ahead (length (mark_of text)) (start text) ≡ behind_mark text
mark_ahead text = λ i. record { at = (let e : 0 + length (mark_of text) ≡ length (mark_of text) = omega arith in e) i; rest = drop (length (mark_of text)) text }

-- the mark and the lines behind it were read
pub found : (p : Profile) (text : List ℕ) (mark : Piece) (ls : List Line) (c d : Cursor) → mark ≡ here (length (mark_of text)) (start text) → c ≡ ahead (length (mark_of text)) (start text) → lines_at p c ≡ Some (ls, d) → SpellsIn p (record { mark = mark; lines = ls }) text
found p text mark ls c d mark_is behind read =
    let k = lines_found p ls c d read in (
      record {
        mark = mark_is ∙ (λ i. record { start = 0; text = mark_front text i });
        lines = subst (λ (x : Cursor). SpellLines ls x.at x.rest) (behind ∙ mark_ahead text) k.0;
      },
      k.1,
    )

-- nothing was read behind the mark
pub refuses : (p : Profile) (text : List ℕ) (fault : SyntaxFault) (c : Cursor) → end c ≡ end (start text) → c ≡ ahead (length (mark_of text)) (start text) → Fails (end c) fault (lines_at p c) → Refuses p text fault
refuses p text fault c total behind fails = refused (place_of fault) fails
  where
    refused : (place : Option ℕ) → IfSome place (λ at. (at ≤ end c) × (lines_at p c ≡ None)) → IfSome place (λ at. (at ≤ length text) × SpelledByNone p text)
    refused None h = tt
    refused (Some at) h = (omega arith, none p text (ap (lines_at p) (sym (behind ∙ mark_ahead text)) ∙ h.1))

pub reader_sound : ReaderIsSound
unfolding document_at
reader_sound p text d e =
    let first = ahead (length (mark_of text)) (start text) in
    option_and_then_some _ (lines_at p first) d e (λ r read is. subst (λ x. SpellsIn p x text) (same_Some _ _ is) (found p text (here (length (mark_of text)) (start text)) r.0 first r.1 refl refl read))

pub reader_complete : ReaderIsComplete
unfolding document_at
reader_complete p text d h =
    let mark : here (length (mark_of text)) (start text) ≡ d.mark = (λ i. record { start = 0; text = mark_front text i }) ∙ sym h.0.mark in
    rw (ap (lines_at p) (mark_ahead text) ∙ lines_read p d.lines (behind_mark text) h.0.lines h.1) (λ i. Some (record { mark = mark i; lines = d.lines }))
