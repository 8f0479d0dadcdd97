-- A cursor goes from unit to unit, and from line to line.
use Rattle.std.proofs.Common.{◌≡◌, ℕ, ◌+◌, ◌<◌, List, [], ◌∷◌, ◌++◌, length, map, drop, Option, Some, None, refl, sym, ap, subst, ◌∙◌, arith, append_assoc}
use Rattle.std.specs.Prelude.{IsSome}
use Rattle.std.specs.Vec.Iter.{into_iter_items}
use Rattle.std.proofs.lemmas.List.{append-nil}
use Rattle.std.proofs.lemmas.Option.{same_Some}
use Rattle.toml_tree.specs.declared.profile.Profile.{Profile}
use Rattle.toml_names.specs.mentions.Mentions.{named}
use Rattle.toml_names.specs.reader.Names.{own_address}
use Rattle.toml_units.specs.Taken.{newline_text}
use Rattle.toml_units.specs.Cursors.{Comes, HasWalked, IsCome, Moves, Stand, Stands, Walks, ahead, current, lined_first, newlines_ahead, to_go}
use Rattle.toml_units.specs.Lined.{LinedUnit, lined, lined_line, with_newline}
use Rattle.toml_units.specs.Opened.{opened_items, opened_units}
use Rattle.toml_units.specs.Plain.{line_span, line_spans, plain_line}
use Rattle.toml_units.specs.Reading.{HandsMore, HasRead, IsDone, IsHanded, IsLeft, IsOver, to_read}
use Rattle.toml_units.specs.View.{all_units}
use Rattle.toml_units.specs.declared.cursor.UnitCursor.{UnitCursor}
use Rattle.toml_units.specs.declared.reading.Left.{Left}
use Rattle.toml_units.specs.declared.reading.Left.TheVariants.{Lines, Nothing, Refused}
use Rattle.toml_units.specs.declared.reading.Reading.{Reading}
use Rattle.toml_units.specs.declared.unit.Unit.{Unit as Made}
use Rattle.toml_units.proofs.Ahead.{ahead_closed, ahead_is, ahead_none, behind_line, fewer, none_held, none_kept, none_there, rest}
use Rattle.toml_units.proofs.Lined.{line_no_lines}
use Rattle.toml_units.proofs.OpenedLines.{opened_few}
use Rattle.toml_units.proofs.ReadLines.{lined_push, read_stays}

not_empty : {A : Type 0} (x : A) (xs : List A) → ¬ (x ∷ xs ≡ [])
not_empty x xs = λ e. cc

pub some_of : {A : Type 0} (o : Option A) → IsSome o → (x : A) × (o ≡ Some x)
some_of (Some x) is = (x, refl)
some_of None is = cc

module _ (profile : Profile) (text : List ℕ) (past : List LinedUnit) (c new : UnitCursor) (x : LinedUnit) (is : current c ≡ Some x)
    (same : new.reading ≡ c.reading) (units : new.units ≡ c.units) (place : new.place ≡ c.place + 1) (left : ahead new ≡ rest c) where
  -- the unit was walked past
  pub stands_on : Stands profile text c past → Stands profile text new (past ++ x ∷ [])
  stands_on s = record {
    lines = s.lines;
    read = subst (λ (r : Reading). HasRead profile text r s.lines) (sym same) s.read;
    units = λ kept. s.units (λ refused. kept (ap (λ r. r.left) same ∙ refused))
        ∙ ap (λ us. past ++ us) (ahead_is c x is ∙ ap (λ us. x ∷ us) (sym left))
        ∙ sym (append_assoc past (x ∷ []) (ahead new));
    none = λ refused. absurd (not_empty x (rest c) (sym (ahead_is c x is) ∙ s.none (sym (ap (λ r. r.left) same) ∙ refused)));
  }

  pub less_on : to_go new < to_go c
  less_on =
      let read = ap (λ (r : Reading). to_read r.left) same in
      let items = ap (λ (r : Reading). opened_items r.opened) same in
      let held : length (drop new.place new.units.items) ≡ length (drop (c.place + 1) c.units.items) = λ i. length (drop (place i) (units i).items) in
      let whole = fewer c x is in
      omega (arith, read, items, held, whole)

  -- and there is one more
  pub moves : ¬ (current new ≡ None) → Walks profile text c past → Moves profile text past c new
  moves there w = record {
    walks = λ y at. subst (λ (z : LinedUnit). Walks profile text new (past ++ z ∷ [])) (same_Some x y (sym is ∙ at))
        (record { stands = stands_on w.stands; some = λ none. absurd (there none) });
    less = less_on;
  }

  -- or none that is held, and the next line was come to
  pub moves_on : (last : UnitCursor) → IsCome profile text (past ++ x ∷ []) new last → Moves profile text past c last
  moves_on last h = record {
    walks = λ y at. subst (λ (z : LinedUnit). Walks profile text last (past ++ z ∷ [])) (same_Some x y (sym is ∙ at)) h.walks;
    less = omega (arith, h.less, less_on);
  }

left_none : (l : Left) → l ≡ Refused → to_read l ≡ 0
left_none l is = ap to_read is

done_none : (l : Left) → IsDone l → to_read l ≡ 0
done_none (Lines reader) is = absurd is
done_none Nothing is = refl
done_none Refused is = refl

-- the first of the units that are held
some_held : (c : UnitCursor) → c.place ≡ 0 → 0 < length c.units.items → ¬ (current c ≡ None)
some_held c first some = λ none.
    let long = none_there c none in
    let all = ap (λ i. length (drop i c.units.items)) first in
    absurd (omega (arith, some, long, all))

module _ (profile : Profile) (text : List ℕ) (past : List LinedUnit) (old new : UnitCursor) (s : Stands profile text old past) (none : current old ≡ None)
    (first : new.place ≡ 0) where
  -- a line was read
  pub came : old.reading.opened ≡ None → IsHanded profile text s.lines old.reading new.reading new.units.items new.newline
      → length new.units.items < 18446744073709551616 → IsCome profile text past old new
  came closed h small =
      let at = own_address (named s.lines) h.line.expr in
      let newlines = newlines_ahead new in
      let held = opened_units new.reading.opened in
      let is : ahead new ≡ lined_line at h.line =
      ap (λ i. lined_first new.newline.now newlines (all_units (drop i new.units.items) ++ held)) first
      ∙ ap (lined_first new.newline.now newlines) h.units.units
      ∙ ap (λ us. record { unit = line_span at h.line.expr; newline = new.newline.now } ∷ us)
      (behind_line new.newline.now newlines (plain_line at h.line.expr) (line_no_lines at h.line.expr))
      ∙ ap (λ n. with_newline n (line_spans at h.line.expr)) h.newline_is in
      let went : ¬ (old.reading.left ≡ Refused) = λ refused. let e = left_none old.reading.left refused in absurd (omega (arith, e, h.less)) in
      let before : lined s.lines ≡ past = s.units went ∙ ap (λ us. past ++ us) (ahead_closed old none closed) ∙ append-nil past in
      let all = ap (λ i. length (drop i new.units.items)) first in
      let few = opened_few new.reading.opened in
      record {
        walks = record {
          stands = record {
            lines = s.lines ++ h.line ∷ [];
            read = h.read;
            units = λ kept. lined_push s.lines h.line ∙ ap (λ us. us ++ lined_line at h.line) before ∙ ap (λ us. past ++ us) (sym is);
            none = λ refused. absurd (h.kept refused);
          };
          some = λ end. absurd (some_held new first (omega (arith, h.units.some)) end);
        };
        less = omega (arith, h.less, all, few, small);
      }

  -- an item was handed out
  pub came_item : (cleared : List Made) → cleared ≡ [] → new.newline ≡ old.newline → new.newlines ≡ old.newlines → HandsMore old.reading cleared new.reading new.units.items
      → length new.units.items < 18446744073709551616 → IsCome profile text past old new
  came_item cleared empty newline newlines h small =
      let held = opened_units new.reading.opened in
      let is : ahead new ≡ ahead old =
      ap (λ i. lined_first new.newline.now (newlines_ahead new) (all_units (drop i new.units.items) ++ held)) first
      ∙ ap (lined_first new.newline.now (newlines_ahead new)) (h.units.units ∙ ap (λ us. all_units us ++ opened_units old.reading.opened) empty)
      ∙ (λ i. lined_first (newline i).now (map newline_text (into_iter_items (newlines i))) (opened_units old.reading.opened))
      ∙ sym (ahead_none old none) in
      let all = ap (λ i. length (drop i new.units.items)) first in
      let read = ap to_read h.left in
      record {
        walks = record {
          stands = record {
            lines = s.lines;
            read = read_stays profile text s.lines old.reading new.reading h.names h.section_is h.left s.read;
            units = λ kept. s.units (λ refused. kept (h.left ∙ refused)) ∙ ap (λ us. past ++ us) (sym is);
            none = λ refused. is ∙ s.none (sym h.left ∙ refused);
          };
          some = λ end. absurd (some_held new first (omega (arith, h.units.some)) end);
        };
        less = omega (arith, h.less, all, read, small);
      }

  -- there was none
  pub stayed : old.reading.opened ≡ None → IsOver profile text s.lines old.reading new.reading → new.units.items ≡ [] → IsCome profile text past old new
  stayed closed h empty =
      let is : ahead new ≡ [] = none_held new empty h.closed in
      let done = done_none new.reading.left h.over in
      let items = ap opened_items h.closed in
      let all = ap (λ i. length (drop i new.units.items)) first ∙ ap length empty in
      record {
        walks = record {
          stands = record {
            lines = s.lines;
            read = h.read;
            units = λ kept. s.units (λ refused. kept (h.stays refused)) ∙ ap (λ us. past ++ us) (ahead_closed old none closed ∙ sym is);
            none = λ _. is;
          };
          some = λ _. (h.over, h.closed);
        };
        less = omega (arith, done, items, all);
      }

-- nothing is read yet
starts : (profile : Profile) (text : List ℕ) (c : UnitCursor) → HasRead profile text c.reading [] → ahead c ≡ [] → Stands profile text c []
starts profile text c read empty = record { lines = []; read = read; units = λ _. sym empty; none = λ _. empty }

pub starts_stand : (profile : Profile) (text : List ℕ) (c : UnitCursor) → HasRead profile text c.reading [] → c.reading.opened ≡ None → c.units.items ≡ [] → Stand c
starts_stand profile text c read closed none = (profile, text, [], starts profile text c read (none_held c none closed), none_kept c none)

-- and then the first line was come to
pub starts_walk : (profile : Profile) (text : List ℕ) (c new : UnitCursor) → HasRead profile text c.reading [] → c.reading.opened ≡ None → c.units.items ≡ []
    → (Stands profile text c [] → Comes profile text [] c new) → Walks profile text new []
starts_walk profile text c new read closed none comes = (comes (starts profile text c read (none_held c none closed)) (none_kept c none)).walks

-- all units were walked past
pub walked : (profile : Profile) (text : List ℕ) (past : List LinedUnit) (c : UnitCursor) (left : Left) → c.reading.left ≡ left → ¬ (left ≡ Refused) → current c ≡ None
    → Walks profile text c past → HasWalked profile text past c.reading.names
walked profile text past c (Lines reader) is kept none w = absurd (subst IsDone is (w.some none).0)
walked profile text past c Nothing is kept none w =
    let s = w.stands in
    let read = subst (λ (l : Left). IsLeft profile text c.reading s.lines l) is s.read in
    record {
      lines = s.lines;
      are = read.1;
      names_are = read.0;
      units = s.units (λ refused. kept (sym is ∙ refused)) ∙ ap (λ us. past ++ us) (ahead_closed c none (w.some none).1) ∙ append-nil past;
    }
walked profile text past c Refused is kept none w = absurd (kept refl)
