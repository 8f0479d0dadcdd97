-- The units of a document that were walked past, with their newlines, as the definitions have them.
use Rattle.std.proofs.Common.{◌≡◌, ℕ, zero, suc, ◌+◌, ◌↔◌, inl, inr, cond, List, [], ◌∷◌, length, map, take, Some, refl, sym, ap, ◌∙◌, arith}
use Rattle.std.specs.List.{fold}
use Rattle.std.specs.Prelude.{option_map, slice_get}
use Rattle.std.proofs.lemmas.Option.{same_Some, none-some}
use Rattle.std.proofs.lemmas.Simd.{map-map}
use Rattle.toml_text.specs.Forms.{IsNewline}
use Rattle.toml_tree.specs.Spells.{AreLines, Spells}
use Rattle.toml_tree.specs.Tree.{Doc, Line}
use Rattle.toml_units.specs.declared.unit.UnitKind.TheVariants as kinds
use Rattle.toml_units.specs.Lined.{LinedUnit, line_at, lined}
use Rattle.toml_units.specs.Places.{is_line}
use Rattle.toml_units.specs.Plain.{Spanned, spanned}
use Rattle.toml_units.specs.Texts.{ReadsIn}
use Rattle.toml_units.specs.Units.{TextUnit, units}
use Rattle.toml_units.proofs.Proved.{lined_are_units, lined_have_newlines, plain_is_units, units_read_the_text}
use Rattle.toml_checker.specs.Pairs.{IsLastLine, line_number, newline_of}
use Rattle.toml_checker.specs.Traces.{Met, lined_of, spans_of}
use Rattle.toml_checker.specs.UnmarkedComments.{text_at}
use Rattle.toml_checker.proofs.Each.{each_get, image_at, whose_image}
use Rattle.toml_checker.proofs.NewComments.{read_at}

-- the element at the same place of a list with the same images
same_image : {A B C : Type 0} (f : A → C) (g : B → C) (xs : List A) (ys : List B) → map f xs ≡ map g ys → (i : ℕ) (x : A)
    → slice_get xs i ≡ Some x → (y : B) × (slice_get ys i ≡ Some y) × (g y ≡ f x)
same_image f g xs ys e i x is = whose_image g ys i (f x) (ap (λ zs. slice_get zs i) (sym e) ∙ image_at f xs i x is)

lines_from : (xs : List LinedUnit) (us : List TextUnit) → map (λ (x : LinedUnit). x.unit) xs ≡ map spanned us → (k n : ℕ)
    → fold (λ m (x : LinedUnit). m + cond (is_line x.unit.kind) 1 0) n (take k xs) ≡ fold (λ m (u : TextUnit). m + cond (is_line u.kind) 1 0) n (take k us)
lines_from xs us e zero n = refl
lines_from [] [] e (suc k) n = refl
lines_from [] (u ∷ us) e (suc k) n = cc
lines_from (x ∷ xs) [] e (suc k) n = cc
lines_from (x ∷ xs) (u ∷ us) e (suc k) n =
    let first : x.unit ≡ spanned u = cc in
    let rest : map (λ (x : LinedUnit). x.unit) xs ≡ map spanned us = cc in
    lines_from xs us rest k (n + cond (is_line x.unit.kind) 1 0)
    ∙ ap (λ (s : Spanned). fold (λ m (u : TextUnit). m + cond (is_line u.kind) 1 0) (n + cond (is_line s.kind) 1 0) (take k us)) first

-- ---- the last line alone has no newline

is_newline : (bs : List ℕ) → IsNewline bs → bs ≡ [] → ⊥
is_newline bs (inl e) none = cc
is_newline bs (inr e) none = cc

last_line : (ls : List Line) (i : ℕ) (l : Line) → AreLines ls → slice_get ls i ≡ Some l → (l.newline.text ≡ []) ↔ (i + 1 ≡ length ls)
last_line [] i l forms is = absurd (none-some l is)
last_line (m ∷ []) zero l forms is = ((λ e. refl), (λ e. ap (λ (x : Line). x.newline.text) (sym (same_Some m l is)) ∙ forms.1))
last_line (m ∷ []) (suc i) l forms is = absurd (none-some l is)
last_line (m ∷ n ∷ ls) zero l forms is =
    ((λ e. absurd (is_newline m.newline.text forms.1 (ap (λ (x : Line). x.newline.text) (same_Some m l is) ∙ e))), (λ e. absurd (omega arith)))
last_line (m ∷ n ∷ ls) (suc i) l forms is =
    let h = last_line (n ∷ ls) i l forms.2 is in ((λ e. let a = h.0 e in omega arith), (λ e. h.1 (omega arith)))

-- a line that is there
line_there : (ls : List Line) (i : ℕ) (newline : List ℕ) → option_map (λ (l : Line). l.newline.text) (slice_get ls i) ≡ Some newline
    → (l : Line) × (slice_get ls i ≡ Some l) × (l.newline.text ≡ newline)
line_there [] i newline is = absurd (none-some newline is)
line_there (l ∷ ls) zero newline is = (l, refl, same_Some l.newline.text newline is)
line_there (l ∷ ls) (suc i) newline is = line_there ls i newline is

-- a unit of the list is that of the definition at its place: its text stands in the document's, and its newline is that of its line
pub record IsUnitAt (d : Doc) (text : List ℕ) (i : ℕ) (x : LinedUnit) (w : TextUnit) : Type 0 where
  pub there : slice_get (units d.lines) i ≡ Some w
  pub is : x.unit ≡ spanned w
  pub reads : text_at text x.unit ≡ w.piece.text
  pub newline : w.kind ≡ kinds.Line → newline_of d i ≡ Some x.newline
  pub last : w.kind ≡ kinds.Line → (x.newline ≡ []) ↔ IsLastLine d i

module _ (d : Doc) (text : List ℕ) (spells : Spells d text) where
  pub spans_are : map (λ (x : LinedUnit). x.unit) (lined d.lines) ≡ map spanned (units d.lines)
  spans_are = lined_are_units d.lines ∙ plain_is_units d text spells

  pub met_spans : (ms : List Met) → lined d.lines ≡ lined_of ms → spans_of ms ≡ map spanned (units d.lines)
  met_spans ms is = sym (map-map (λ (x : LinedUnit). x.unit) (λ (m : Met). m.lined) ms) ∙ ap (map (λ (x : LinedUnit). x.unit)) (sym is) ∙ spans_are

  number : (i : ℕ) → line_at (lined d.lines) i ≡ line_number (units d.lines) i
  number i = lines_from (lined d.lines) (units d.lines) spans_are i 0

  newline_is : (i : ℕ) (x : LinedUnit) → slice_get (lined d.lines) i ≡ Some x → x.unit.kind ≡ kinds.Line → newline_of d i ≡ Some x.newline
  newline_is i x at line =
      ap (λ n. option_map (λ (l : Line). l.newline.text) (slice_get d.lines n)) (sym (number i)) ∙ lined_have_newlines d.lines i x at line

  last_is : (i : ℕ) (x : LinedUnit) → newline_of d i ≡ Some x.newline → (x.newline ≡ []) ↔ IsLastLine d i
  last_is i x newline =
      let l = line_there d.lines (line_number (units d.lines) i) x.newline newline in
      let h = last_line d.lines (line_number (units d.lines) i) l.0 spells.lines.forms l.1 in
      ((λ e. h.0 (l.2 ∙ e)), (λ e. sym l.2 ∙ h.1 e))

  same : (i : ℕ) (x : LinedUnit) (w : TextUnit) → slice_get (lined d.lines) i ≡ Some x → slice_get (units d.lines) i ≡ Some w
      → x.unit ≡ spanned w → IsUnitAt d text i x w
  same i x w at there is =
      let newline = λ (line : w.kind ≡ kinds.Line). newline_is i x at (ap (λ (s : Spanned). s.kind) is ∙ line) in
      record {
        there = there;
        is = is;
        reads =
            ap (text_at text) is ∙ read_at text w (each_get (ReadsIn text) (units d.lines) i w (units_read_the_text d text spells) there);
        newline = newline;
        last = λ line. last_is i x (newline line);
      }

  pub unit_of : (i : ℕ) (x : LinedUnit) → slice_get (lined d.lines) i ≡ Some x → (w : TextUnit) × IsUnitAt d text i x w
  unit_of i x at =
      let w = same_image (λ (x : LinedUnit). x.unit) spanned (lined d.lines) (units d.lines) spans_are i x at in (w.0, same i x w.0 at w.1 (sym w.2))

  pub lined_of_unit : (i : ℕ) (w : TextUnit) → slice_get (units d.lines) i ≡ Some w
      → (x : LinedUnit) × (slice_get (lined d.lines) i ≡ Some x) × IsUnitAt d text i x w
  lined_of_unit i w there =
      let x = same_image spanned (λ (x : LinedUnit). x.unit) (units d.lines) (lined d.lines) (sym spans_are) i w there in
      (x.0, x.1, same i x.0 w x.1 there x.2)
