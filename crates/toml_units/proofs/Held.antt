-- Units that are held of a text, with the newlines of its lines, are its units.
use Rattle.std.proofs.Common.{◌≡◌, ℕ, ◌+◌, ◌≤◌, List, [], ◌∷◌, ◌++◌, length, map, take, drop, Option, None, length-append, refl, sym, ap, subst, ◌∙◌, arith}
use Rattle.std.proofs.Math.Seq.{take-append_seam}
use Rattle.std.proofs.lemmas.List.{append-nil, length-drop}
use Rattle.toml_tree.proofs.Proved.{sizes_add}
use Rattle.toml_tree.specs.HandedOut.{AreLinesIn}
use Rattle.toml_tree.specs.Parts.{size}
use Rattle.toml_tree.specs.Spells.{AreLines, expr_parts, line_parts, lines_parts, mark_of, piece}
use Rattle.toml_tree.specs.Profiles.{SpellsIn}
use Rattle.toml_tree.specs.Tree.{Doc, Line}
use Rattle.toml_tree.specs.declared.profile.Profile.{Profile}
use Rattle.toml_names.specs.declared.line_names.LineNames.{LineNames}
use Rattle.toml_names.specs.mentions.Mentions.{Named, named_by, root}
use Rattle.toml_names.specs.reader.LineNames.{StandFor}
use Rattle.toml_names.specs.reader.Names.{own_address}
use Rattle.toml_units.specs.Cursors.{HasNextNewline, Walks, ahead, later_newlines, lined_behind, lined_first, newlines_ahead, own_newline}
use Rattle.toml_units.specs.Lined.{LinedUnit, lined, lined_from, with_newline}
use Rattle.toml_units.specs.Opened.{opened_units}
use Rattle.toml_units.specs.Plain.{line_span, plain_from, plain_line, plain_units}
use Rattle.toml_units.specs.Reading.{IsDone, IsLeft}
use Rattle.toml_units.specs.View.{all_units}
use Rattle.toml_units.specs.declared.cursor.UnitCursor.{UnitCursor}
use Rattle.toml_units.specs.declared.reading.Left.{Left}
use Rattle.toml_units.specs.declared.reading.Reading.{Reading}
use Rattle.toml_units.specs.declared.taken.TakenLines.{TakenLines}
use Rattle.toml_units.specs.Taken.{HasTaken, newline_text}
use Rattle.toml_units.specs.declared.reading.Left.TheVariants.{Nothing, Refused}
use Rattle.toml_units.specs.declared.opened.Opened.{Opened}
use Rattle.toml_units.specs.declared.unit.UnitKind.TheVariants as kinds
use Rattle.toml_units.proofs.Ahead.{behind_front}
use Rattle.toml_units.proofs.Lined.{line_no_lines}
use Rattle.toml_units.proofs.Standing.{mark_ahead}
use Rattle.toml_units.proofs.UnitsFew.{newline_long}

abbrev newlines_of : List Line → List (List ℕ)
newlines_of ls = map (λ (l : Line). l.newline.text) ls

-- units of lines, of which each takes its newline
lines_behind : (ls : List Line) (earlier : List Named) (n : ℕ) (newline : List ℕ) → lined_behind newline (newlines_of ls) (plain_from earlier n ls) ≡ lined_from earlier n ls
lines_behind [] earlier n newline = refl
lines_behind (l ∷ ls) earlier n newline =
    let at = own_address earlier l.expr in
    let old = earlier ++ named_by earlier n l.expr in
    let own = l.newline.text in
    let first : LinedUnit = record { unit = line_span at l.expr; newline = own } in
    ap (λ us. first ∷ us) (behind_front own (newlines_of ls) (plain_line at l.expr) (plain_from old (n + 1) ls) (line_no_lines at l.expr))
    ∙ ap (λ us. first ∷ (with_newline own (plain_line at l.expr) ++ us)) (lines_behind ls old (n + 1) own)

-- the first one is a line
lines_first : (ls : List Line) (none : List ℕ)
    → lined_first (own_newline kinds.Line none (newlines_of ls)) (later_newlines kinds.Line (newlines_of ls)) (plain_units ls) ≡ lined ls
lines_first [] none = refl
lines_first (l ∷ ls) none = lines_behind (l ∷ ls) (root ∷ []) 0 none

-- the mark of a tree is the one of its text
mark_is : (text : List ℕ) → take (length (mark_of text)) text ≡ mark_of text
mark_is text =
    let mark = mark_of text in
    ap (take (length mark)) (sym (mark_ahead text)) ∙ take-append_seam mark (drop (length mark) text)

-- there are not many lines: all but the last end in a newline
lines_few : (ls : List Line) → AreLines ls → length ls ≤ size (lines_parts ls) + 1
lines_few [] are = absurd are
lines_few (l ∷ []) are = omega arith
lines_few (l ∷ m ∷ ls) are =
    let long = newline_long l.newline.text are.1 in
    let more = lines_few (m ∷ ls) are.2 in
    let b = sizes_add (expr_parts l.expr) (piece l.newline ∷ []) in
    let c = sizes_add (line_parts l) (lines_parts (m ∷ ls)) in
    let d = length-append l.newline.text [] in
    omega (arith, long, more, b, c, d)

-- the lines of a tree that spells a text are the lines of the text
are_lines : (profile : Profile) (text : List ℕ) (d : Doc) → SpellsIn profile d text → AreLinesIn profile text d.lines
are_lines profile text d (spells, of_profile) =
    let few = lines_few d.lines spells.lines.forms in
    let bytes = ap length spells.lines.text_is in
    let behind = length-drop (length (mark_of text)) text in
    record {
      spelled = (record { mark = ap (λ t. record { start = 0; text = t }) (mark_is text); lines = spells.lines }, of_profile);
      few = omega (arith, few, bytes, behind);
    }

-- a cursor that holds them, and took the newline of the first line, stands before the first unit
module _ (profile : Profile) (text : List ℕ) (d : Doc) (spelled : SpellsIn profile d text) (were : TakenLines) (h : HasTaken were d.lines)
    (c new : UnitCursor) (own : c.reading ≡ were.reading) (units : c.units.items ≡ were.units.items) (first : c.place ≡ 0)
    (later : newlines_ahead c ≡ map newline_text were.newlines.items) (taken : HasNextNewline c new) where
  left : c.reading.left ≡ Nothing
  left = ap (λ (r : Reading). r.left) own ∙ h.left

  closed : c.reading.opened ≡ None
  closed = ap (λ (r : Reading). r.opened) own ∙ h.closed

  held_ahead : lined d.lines ≡ ahead new
  held_ahead =
      let ns = newlines_of d.lines in
      let kept : all_units (drop new.place new.units.items) ≡ plain_units d.lines =
      (λ i. all_units (drop ((taken.place ∙ first) i) (taken.units i).items)) ∙ ap all_units units ∙ h.units in
      let texts : newlines_ahead c ≡ ns = later ∙ h.newlines in
      let none : new.reading.opened ≡ None = ap (λ r. r.opened) taken.reading ∙ closed in
      let all : all_units (drop new.place new.units.items) ++ opened_units new.reading.opened ≡ plain_units d.lines =
      ap (λ (o : Option Opened). all_units (drop new.place new.units.items) ++ opened_units o) none ∙ append-nil (all_units (drop new.place new.units.items)) ∙ kept in
      let newline = taken.newline ∙ ap (own_newline kinds.Line c.newline.now) texts in
      let more = taken.newlines ∙ ap (later_newlines kinds.Line) texts in
      sym (lines_first d.lines c.newline.now) ∙ sym (λ i. lined_first (newline i) (more i) (all i))

  pub held_walks : Walks profile text new []
  held_walks =
      let none : new.reading.left ≡ Nothing = ap (λ r. r.left) taken.reading ∙ left in
      let names_is : new.reading.names ≡ were.reading.names = ap (λ (r : Reading). r.names) (taken.reading ∙ own) in
      let not_refused : ¬ (new.reading.left ≡ Refused) = λ refused. let e : Nothing ≡ Refused = sym none ∙ refused in cc in
      record {
        stands = record {
          lines = d.lines;
          read = subst (λ (l : Left). IsLeft profile text new.reading d.lines l) (sym none)
              (subst (λ (n : LineNames). StandFor n d.lines) (sym names_is) h.names, are_lines profile text d spelled);
          units = λ kept. held_ahead;
          none = λ refused. absurd (not_refused refused);
        };
        some = λ end. (subst IsDone (sym none) tt, ap (λ r. r.opened) taken.reading ∙ closed);
      }
