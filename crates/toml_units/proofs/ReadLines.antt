-- Lines read one after another, and what all of them give.
use Rattle.std.proofs.Common.{◌≡◌, refl, Bool, true, false, ℕ, ◌+◌, ◌<◌, ◌≤◌, List, [], ◌∷◌, ◌++◌, length, Option, Some, None, Ok, sym, ap, subst, ◌∙◌, arith, append_assoc}
use Rattle.std.specs.Borrow.{Bor}
use Rattle.std.proofs.lemmas.List.{append-nil}
use Rattle.toml_tree.specs.HandedOut.{HandsNext, HandsOn, HandsOut, left}
use Rattle.toml_tree.specs.Lines.{line as tree_line}
use Rattle.toml_tree.specs.View.{expr}
use Rattle.toml_tree.specs.Tree.{Blank, BlankLine, Expr, KeyVal, KeyValLine, Line, Piece}
use Rattle.toml_tree.specs.declared.line.Line as declared
use Rattle.toml_tree.specs.declared.line_reader.LineReader.{LineReader}
use Rattle.toml_tree.specs.declared.profile.Profile.{Profile}
use Rattle.toml_names.specs.mentions.Mentions.{Named, root, named, named_by, named_from, section}
use Rattle.toml_names.specs.model.Documents.{IsDocumentIn}
use Rattle.toml_names.specs.reader.LineNames.{IsTold, StandFor}
use Rattle.toml_names.specs.reader.Names.{own_address}
use Rattle.toml_names.specs.reader.Texts.{AreLeft}
use Rattle.toml_units.specs.declared.reading.Left.{Left}
use Rattle.toml_units.specs.declared.reading.Left.TheVariants.{Lines, Nothing, Refused}
use Rattle.toml_units.specs.declared.reading.Reading.{Reading}
use Rattle.toml_units.specs.declared.unit.Unit.{Unit as Made}
use Rattle.toml_names.specs.model.Addresses.{Address}
use Rattle.toml_units.specs.Lined.{lined, lined_from, lined_line}
use Rattle.toml_units.specs.Opened.{AddsFirst, opened_units}
use Rattle.toml_units.specs.Plain.{line_span, line_spans, plain_from, plain_units}
use Rattle.toml_units.specs.Reading.{Handed, IsReadBehind, HasEnteredText, HasEntered, HasNames, HasRead, IsDone, IsHanded, IsLeft, IsOver, left_of, to_read, with_left}
use Rattle.toml_names.proofs.Proved.{pairs_leave_alike}
use Rattle.toml_units.specs.Arrays.{Begins, IsOwn}
use Rattle.toml_units.specs.View.{Spanned, all_units}
use Rattle.toml_units.specs.declared.opened.Opened.{Opened}
use Rattle.toml_units.proofs.AllLines.{named_from-push}
use Rattle.toml_units.proofs.OpenedLines.{adds_first}

lined_from-push : (ls : List Line) (earlier : List Named) (n : ℕ) (l : Line)
    → lined_from earlier n (ls ++ l ∷ []) ≡ lined_from earlier n ls ++ lined_line (own_address (named_from earlier n ls) l.expr) l
lined_from-push [] earlier n l = append-nil (lined_line (own_address earlier l.expr) l)
lined_from-push (k ∷ ls) earlier n l =
    let here = lined_line (own_address earlier k.expr) k in
    ap (λ us. here ++ us) (lined_from-push ls (earlier ++ named_by earlier n k.expr) (n + 1) l)
    ∙ sym (append_assoc here (lined_from (earlier ++ named_by earlier n k.expr) (n + 1) ls) _)

-- the units of one line more
pub lined_push : (lines : List Line) (l : Line) → lined (lines ++ l ∷ []) ≡ lined lines ++ lined_line (own_address (named lines) l.expr) l
lined_push lines l = lined_from-push lines (root ∷ []) 0 l

plain_from-push : (ls : List Line) (earlier : List Named) (n : ℕ) (l : Line)
    → plain_from earlier n (ls ++ l ∷ []) ≡ plain_from earlier n ls ++ line_spans (own_address (named_from earlier n ls) l.expr) l.expr
plain_from-push [] earlier n l = append-nil (line_spans (own_address earlier l.expr) l.expr)
plain_from-push (k ∷ ls) earlier n l =
    let here = line_spans (own_address earlier k.expr) k.expr in
    ap (λ us. here ++ us) (plain_from-push ls (earlier ++ named_by earlier n k.expr) (n + 1) l)
    ∙ sym (append_assoc here (plain_from (earlier ++ named_by earlier n k.expr) (n + 1) ls) _)

-- the units of one line more, by the plain function
pub plain_push : (lines : List Line) (l : Line) → plain_units (lines ++ l ∷ []) ≡ plain_units lines ++ line_spans (own_address (named lines) l.expr) l.expr
plain_push lines l = plain_from-push lines (root ∷ []) 0 l

-- what is left behind a line that was handed out
pub passes : (profile : Profile) (text : List ℕ) (front : List Line) (n : ℕ) (l : declared.Line) (more : Option LineReader)
    → HandsOn profile text front n (Ok (l, more)) → AreLeft profile text (front ++ tree_line l ∷ []) more × (to_read (left_of more) < n + 1)
passes profile text front n l (Some r) h = (h.0, omega (arith, h.1))
passes profile text front n l None h = (h, omega arith)

few_of : (profile : Profile) (text : List ℕ) (front : List Line) (more : Option LineReader) → AreLeft profile text front more
    → length text ≤ 16777216 → length front < 18446744073709551615
few_of profile text front (Some r) h fits = omega (arith, h.few, h.within)
few_of profile text front None h fits = omega (arith, h.few)

-- the lines were entered, whatever is left to read
pub begun : (profile : Profile) (text : List ℕ) (lines : List Line) (r : Reading) → HasEnteredText profile text r lines → HasEntered r lines
begun profile text lines r h = record { names = h.entered.names; section_is = h.entered.section_is; few = h.entered.few }

pub still : (profile : Profile) (text : List ℕ) (lines : List Line) (r : Reading) (left : Left) → HasEnteredText profile text r lines → HasEnteredText profile text (with_left r left) lines
still profile text lines r left h = record { entered = record { names = h.entered.names; section_is = h.entered.section_is; few = h.entered.few }; fits = h.fits }

has_left : (profile : Profile) (text : List ℕ) (front : List Line) (r : Reading) (more : Option LineReader) → HasEnteredText profile text r front
    → AreLeft profile text front more → IsLeft profile text r front (left_of more)
has_left profile text front r (Some reader) are h = (are, h)
has_left profile text front r None are h = (are.entered.names, h)

not_refused : (more : Option LineReader) → ¬ (left_of more ≡ Refused)
not_refused (Some reader) = λ e. cc
not_refused None = λ e. cc

module _ (profile : Profile) (text : List ℕ) (lines : List Line) (before : Reading) (reader : LineReader) (is : before.left ≡ Lines reader) (read : HasRead profile text before lines) where
  pub stood : HasEnteredText profile text before lines × HandsOut profile text lines reader
  stood = subst (λ (left : Left). IsLeft profile text before lines left) is read

  -- a line was handed out and entered, and units of it are held
  pub handed : (l : declared.Line) (more : Option LineReader) (mid r : Reading) (held : List Made) (own : Option Address) (newline : Bor (List ℕ))
      → HandsOn profile text lines (left reader) (Ok (l, more)) → HasNames lines (tree_line l) mid own
      → AddsFirst [] held (line_spans own (expr l.expr)) (opened_units r.opened) → newline.now ≡ (tree_line l).newline.text
      → r.names ≡ mid.names → r.section ≡ mid.section → r.left ≡ left_of more → IsHanded profile text lines before r held newline
  handed l more mid r held own newline on entered added ends names at now =
      let front = lines ++ tree_line l ∷ [] in
      let passed = passes profile text lines (left reader) l more on in
      let stand : HasEntered r front = record {
        names = subst (λ n. StandFor n front) (sym names) entered.names;
        section_is = at ∙ entered.section_is;
        few = few_of profile text front more passed.0 stood.0.fits;
      } in
      record {
        line = tree_line l;
        read = subst (λ (left : Left). IsLeft profile text r front left) (sym now)
            (has_left profile text front r more (record { entered = stand; fits = stood.0.fits }) passed.0);
        units = subst (λ (o : Option Address). AddsFirst [] held (line_spans o (expr l.expr)) (opened_units r.opened)) entered.own_is added;
        newline_is = ends;
        less = subst (λ (left : Left). to_read left < to_read before.left) (sym now)
            (subst (λ (left : Left). to_read (left_of more) < to_read left) (sym is) passed.1);
        kept = λ e. not_refused more (sym now ∙ e);
      }

-- so too where the reader behind the lines handed it out
module _ (profile : Profile) (text : List ℕ) (lines : List Line) (before : Reading) (by : LineReader) (given : Handed) (at : IsReadBehind profile text lines before by given)
    (l : declared.Line) (more : Option LineReader) (is : given ≡ Ok (l, more)) where
  pub read_one : (mid r : Reading) (held : List Made) (own : Option Address) (newline : Bor (List ℕ)) → HasNames lines (tree_line l) mid own
      → AddsFirst [] held (line_spans own (expr l.expr)) (opened_units r.opened) → newline.now ≡ (tree_line l).newline.text
      → r.names ≡ mid.names → r.section ≡ mid.section → r.left ≡ left_of more → IsHanded profile text lines (with_left before (Lines by)) r held newline
  read_one mid r held own newline =
      handed profile text lines (with_left before (Lines by)) by refl (still profile text lines before (Lines by) at.0, at.1) l more mid r held own newline
      (subst (HandsNext by) is at.2 profile text lines at.1)

-- the text was refused
pub is_over : (profile : Profile) (text : List ℕ) (lines : List Line) (before r : Reading) → r.left ≡ Refused
    → ¬ IsDocumentIn profile text → r.opened ≡ None → IsOver profile text lines before r
is_over profile text lines before r is none closed = record {
  read = subst (λ (left : Left). IsLeft profile text r lines left) (sym is) none;
  over = subst IsDone (sym is) tt;
  closed = closed;
  stays = λ _. is;
}

-- what one more line names
named_push : (lines : List Line) (l : Line) → named (lines ++ l ∷ []) ≡ named lines ++ named_by (named lines) (length lines) l.expr
named_push lines l = named_from-push lines (root ∷ []) 0 (length lines) l (omega arith)

-- a line that is no header leaves the table of the last one
pub pair_stays : (lines : List Line) (l : Line) (ws : Piece) (k : KeyVal) (b : Blank) → l.expr ≡ KeyValLine ws k b → section (named (lines ++ l ∷ [])) ≡ section (named lines)
pair_stays lines l ws k b is =
    ap section (named_push lines l ∙ ap (λ e. named lines ++ named_by (named lines) (length lines) e) is)
    ∙ (pairs_leave_alike (named lines) (length lines) (section (named lines)) k.assign k.value).sections

pub blank_stays : (lines : List Line) (l : Line) (b : Blank) → l.expr ≡ BlankLine b → section (named (lines ++ l ∷ [])) ≡ section (named lines)
blank_stays lines l b is = ap section (named_push lines l ∙ ap (λ e. named lines ++ named_by (named lines) (length lines) e) is ∙ append-nil (named lines))

-- all units of a line are held, and it is not opened;
pub all_held : (units : List Made) (own : Option Address) (e : Expr) (o : Option Opened) → all_units units ≡ line_spans own e → o ≡ None
    → AddsFirst [] units (line_spans own e) (opened_units o)
all_held units own e o h none =
    subst (λ (p : Option Opened). AddsFirst [] units (line_spans own e) (opened_units p)) (sym none)
    (adds_first [] units (line_spans own e) [] (line_spans own e) h (append-nil (line_spans own e)) (omega arith))

-- or its own, and the others are left
pub own_held : (units : List Made) (own : Option Address) (e : Expr) (at : Address) (rest : List Spanned) → IsOwn own e units → own ≡ Some at
    → line_spans (Some at) e ≡ line_span (Some at) e ∷ rest → AddsFirst [] units (line_spans own e) rest
own_held units own e at rest h here behind =
    adds_first [] units (line_span own e ∷ []) rest (line_spans own e) h
    (ap (λ p. line_span p e ∷ rest) here ∙ sym behind ∙ ap (λ p. line_spans p e) (sym here)) (omega arith)

-- what was added behind a line's own unit, of an expression that is the same
pub begun_behind : (first held : List Made) (own : Option Address) (e f : Expr) (told array : Option Address) → e ≡ f → told ≡ array → IsOwn own f first
    → ((at : Option Address) → IsOwn at e first → Begins held at e told) → Begins held own f array
begun_behind first held own e f told array same is h begins =
    subst (Begins held own f) is (subst (λ (x : Expr). Begins held own x told) same (begins own (subst (λ (x : Expr). IsOwn own x first) (sym same) h)))

-- what was read stays where only the opened line changes
module _ (profile : Profile) (text : List ℕ) (lines : List Line) (before r : Reading) (names : r.names ≡ before.names) (section_is : r.section ≡ before.section) where
  entered_stays : HasEnteredText profile text before lines → HasEnteredText profile text r lines
  entered_stays h = record {
    entered = record {
      names = subst (λ n. StandFor n lines) (sym names) h.entered.names;
      section_is = section_is ∙ h.entered.section_is;
      few = h.entered.few;
    };
    fits = h.fits;
  }

  left_stays : (left : Left) → IsLeft profile text before lines left → IsLeft profile text r lines left
  left_stays (Lines reader) h = (entered_stays h.0, h.1)
  left_stays Nothing h = (subst (λ n. StandFor n lines) (sym names) h.0, h.1)
  left_stays Refused h = h

  pub read_stays : r.left ≡ before.left → HasRead profile text before lines → HasRead profile text r lines
  read_stays is h = left_stays r.left (subst (λ (left : Left). IsLeft profile text before lines left) (sym is) h)

-- a line that has an address is told it
pub told_some : (own : Option Address) (old here at : Address) (told : Bool) → IsTold own old here told → own ≡ Some at → own ≡ Some here
told_some own old here at true h is = h
told_some own old here at false h is = absurd (no_some (sym h.0 ∙ is))
  where
    no_some : None ≡ Some at → ⊥
    no_some e = cc
