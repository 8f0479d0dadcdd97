-- The lines after a `remove` by which the line of a value comes to stand for the table right above it, by what finds them, and their units.
use Rattle.std.proofs.Common.{◌≡◌, ◌∙◌, ℕ, ◌+◌, ◌-◌, Bool, true, false, cond, Option, Some, None, List, [], ◌∷◌, ◌++◌, length, length-append, refl, sym, ap, ap₂, subst, append_assoc, append-nil}
use Rattle.std.specs.Prelude.{flat_map}
use Rattle.std.proofs.lemmas.List.{take-map}
use Rattle.toml_tree.specs.Spells.{EachIs}
use Rattle.toml_tree.specs.Pieces.{expr_piece}
use Rattle.toml_tree.specs.Tree.{Piece, Value, Line}
use Rattle.toml_names.specs.model.Addresses.{Address, below, same_address}
use Rattle.toml_names.specs.mentions.Alike.{AreAlike}
use Rattle.toml_names.specs.mentions.Keys.{Key, key_names}
use Rattle.toml_names.specs.mentions.Mentions.{Named, named, named_by, section}
use Rattle.toml_names.specs.mentions.Rules.{KeepsRules}
use Rattle.toml_names.proofs.Proved.{pairs_leave_alike}
use Rattle.toml_units.specs.Units.{TextUnit, line_units, units, units_from}
use Rattle.toml_layout.specs.Emptying as layout
use Rattle.toml_layout.specs.Outlines.{Pair}
use Rattle.toml_layout.specs.TreeOutlines.{dotted_outline, line_outline}
use Rattle.toml_working.specs.Removing.{assign_cut, emptied_line, empty_table, lines_left}
use Rattle.toml_working.specs.RemoveStanding.{standing_emptied, is_pair, left_of_pair, removed_one}
use Rattle.toml_layout.specs.Holders.{parent_of}
use Rattle.toml_working.specs.Standing.{AreOrdered, Standing, line_stands, standing, standing_from}
use Rattle.toml_editor.specs.UnitBlocks.{BeginWithLine, pair_line_units}
use Rattle.toml_editor.proofs.written.Alike.{alike_sym, alike_trans}
use Rattle.toml_editor.proofs.written.BelowPlace.{standing_behind}
use Rattle.toml_editor.proofs.written.Clear.{self}
use Rattle.toml_editor.proofs.written.DocumentSections.{named_next}
use Rattle.toml_editor.proofs.written.EmptiedLine.{IsEmptying, below_last, pair_line, right_above}
use Rattle.toml_editor.proofs.written.EmptyAlone.{others_apart}
use Rattle.toml_editor.proofs.written.RemoveStanding.{stands_alike}
use Rattle.toml_editor.proofs.written.StandingOrder.{rules_order}
use Rattle.toml_editor.proofs.written.UnitsAlike.{step_alike, units_alike}
use Rattle.toml_editor.proofs.written.UnitsPut.{lines_first}

-- behind alike lists lines stand alike
from_alike : (ls : List Line) (xs ys : List Named) (n m : ℕ) → AreAlike xs ys → standing_from ys m ls ≡ standing_from xs n ls
from_alike [] xs ys n m alike = refl
from_alike (l ∷ ls) xs ys n m alike =
    ap₂ (λ s t. s ∷ t) (stands_alike [] xs ys alike l)
    (from_alike ls (xs ++ named_by xs n l.expr) (ys ++ named_by ys m l.expr) (n + 1) (m + 1) (step_alike xs ys n m l.expr alike))

-- the units of lines behind others
units_behind : (a b before : List Line) → units_from (named before) (length before) (a ++ b)
    ≡ units_from (named before) (length before) a ++ units_from (named (before ++ a)) (length (before ++ a)) b
units_behind [] b before = ap (λ bs. units_from (named bs) (length bs) b) (sym (append-nil before))
units_behind (l ∷ a) b before =
    let next = ap₂ (λ xs k. units_from xs k (a ++ b)) (sym (named_next before l)) (sym (length-append before (l ∷ []))) in
    let back = ap₂ (λ xs k. units_from xs k a) (named_next before l) (length-append before (l ∷ [])) in
    ap (λ r. line_units (named before) l.expr ++ r)
    (next ∙ units_behind a b (before ++ l ∷ [])
    ∙ ap₂ (λ x bs. x ++ units_from (named bs) (length bs) b) back (append_assoc before (l ∷ []) a))
    ∙ sym (append_assoc (line_units (named before) l.expr) _ _)

-- lines that are no pair of the value stay
others_stay : (p : Address) (b : Bool) (ss : List Standing) → EachIs (λ t. is_pair p t ≡ false) ss → flat_map (removed_one p b) ss ≡ ss
others_stay p b [] h = refl
others_stay p b (s ∷ ss) h = ap₂ (λ t r. cond t (left_of_pair (parent_of p) b s) (s ∷ []) ++ r) h.0 (others_stay p b ss h.1)

one_emptied : (p : Address) (front : List Standing) (s : Standing) (back : List Standing) → EachIs (λ t. is_pair p t ≡ false) front → is_pair p s ≡ true
    → EachIs (λ t. is_pair p t ≡ false) back → flat_map (removed_one p false) (front ++ s ∷ back) ≡ front ++ standing_emptied (parent_of p) s ∷ back
one_emptied p [] s back ahead here after = ap₂ (λ t r. cond t (standing_emptied (parent_of p) s ∷ []) (s ∷ []) ++ r) here (others_stay p false back after)
one_emptied p (x ∷ front) s back ahead here after =
    ap₂ (λ t r. cond t (standing_emptied (parent_of p) x ∷ []) (x ∷ []) ++ r) ahead.0 (one_emptied p front s back ahead.1 here after)

-- the units of the line of the value, and of what it comes to
pub record AreEmptied (q p : Address) (old new : List TextUnit) : Type 0 where
  pub front : List TextUnit
  pub back : List TextUnit
  pub piece : Piece
  pub next : Piece
  pub base : ℕ
  pub value : Value
  pub comment : Option Piece
  pub before : old ≡ front ++ (pair_line_units piece p base value comment ++ back)
  pub after : new ≡ front ++ (pair_line_units next q base empty_table None ++ back)
  pub begins : BeginWithLine back

module _ (p : Address) (lines : List Line) (e : IsEmptying p lines) (keeps : KeepsRules (named lines)) where
  abbrev s : Address
  s = section (named e.front)

  abbrev key : Key
  key = e.cut.first ∷ e.cut.rest

  abbrev q : Address
  q = below s key

  abbrev xs : List Named
  xs = named e.front

  abbrev n : ℕ
  n = length e.front

  abbrev parts : ℕ
  parts = length (parent_of p) - length s

  abbrev l : Line
  l = pair_line e.ws e.pair e.tail e.newline

  abbrev l' : Line
  l' = emptied_line parts l

  to : below s (key_names e.pair.assign.key) ≡ p
  to = ap (below s) e.cut.whole ∙ below_last s key e.cut.last ∙ sym e.at

  own : below s (key_names (assign_cut parts e.pair.assign).key) ≡ parent_of p
  own = ap (below s) e.cut.front ∙ sym (right_above p lines e)

  same_outline : line_outline l' ≡ layout.line_emptied parts (line_outline l)
  same_outline =
      ap (λ r. record {
        ws = e.ws.text;
        expr = Pair
            (record { first = e.pair.assign.key.first.text; rest = r; before_equals = 0x20 ∷ []; after_equals = 0x20 ∷ [] }) layout.no_pairs;
        tail = [];
        comment = None;
        newline = e.newline.text;
      }) (sym (take-map dotted_outline (parts - 1) e.pair.assign.key.rest))

  line_is : line_stands xs l' ≡ standing_emptied (parent_of p) (line_stands xs l)
  line_is = ap₂ (λ a o. record { address = Some a; base = Some (length s); outline = o }) own same_outline

  behind_alike : AreAlike (xs ++ named_by xs n l.expr) (xs ++ named_by xs n l'.expr)
  behind_alike =
      alike_trans (xs ++ named_by xs n l.expr) xs (xs ++ named_by xs n l'.expr) (pairs_leave_alike xs n s e.pair.assign e.pair.value)
      (alike_sym (xs ++ named_by xs n l'.expr) xs (pairs_leave_alike xs n s (assign_cut parts e.pair.assign) empty_table))

  pub empty_stands : standing (lines_left p false lines) ≡ flat_map (removed_one p false) (standing lines)
  empty_stands =
      let rest = standing_from (xs ++ named_by xs n l.expr) (n + 1) e.back in
      let stands : standing lines ≡ standing e.front ++ line_stands xs l ∷ rest = ap standing e.was ∙ standing_behind e.front (l ∷ e.back) [] in
      let pair : is_pair p (line_stands xs l) ≡ true = ap (λ a. same_address a p) to ∙ self p in
      let (ahead, after) = others_apart p (line_stands xs l) pair (standing e.front) rest (subst AreOrdered stands (rules_order lines keeps)) in
      ap standing e.now ∙ standing_behind e.front (l' ∷ e.back) []
      ∙ ap₂ (λ x r. standing e.front ++ x ∷ r) line_is
      (from_alike e.back (xs ++ named_by xs n l.expr) (xs ++ named_by xs n l'.expr) (n + 1) (n + 1) behind_alike)
      ∙ sym (ap (flat_map (removed_one p false)) stands ∙ one_emptied p (standing e.front) (line_stands xs l) rest ahead pair after)

  pub units_emptied : AreEmptied (parent_of p) p (units lines) (units (lines_left p false lines))
  units_emptied =
      let rest = units_from (xs ++ named_by xs n l.expr) (n + 1) e.back in
      record {
        front = units e.front;
        back = rest;
        piece = expr_piece l.expr;
        next = expr_piece l'.expr;
        base = length s;
        value = e.pair.value;
        comment = e.tail.comment;
        before =
            ap units e.was ∙ units_behind e.front (l ∷ e.back) []
            ∙ ap (λ a. units e.front ++ (pair_line_units (expr_piece l.expr) a (length s) e.pair.value e.tail.comment ++ rest)) to;
        after =
            ap units e.now ∙ units_behind e.front (l' ∷ e.back) []
            ∙ ap₂ (λ a r. units e.front ++ (pair_line_units (expr_piece l'.expr) a (length s) empty_table None ++ r)) own
            (units_alike e.back (xs ++ named_by xs n l'.expr) (xs ++ named_by xs n l.expr) (n + 1) (n + 1)
            (alike_sym (xs ++ named_by xs n l.expr) (xs ++ named_by xs n l'.expr) behind_alike));
        begins = lines_first e.back (xs ++ named_by xs n l.expr) (n + 1);
      }
