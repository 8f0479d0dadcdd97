-- A slot for each line, unit by unit: the unit of a line comes before those that lie in it.
use Rattle.std.proofs.Common.{◌≡◌, ◌∙◌, ◌+◌, ◌≤◌, ◌⊎◌, inl, inr, ℕ, zero, suc, Bool, true, false, true≢false, List, [], ◌∷◌, ◌++◌, map, Option, Some, None, ap, refl, sym, subst, add-one, append_assoc, append-nil, length, length-append, drop, drop-drop}
use Rattle.std.specs.Prelude.{option_and_then, slice_get}
use Rattle.std.proofs.lemmas.List.{drop_all}
use Rattle.std.proofs.lemmas.Option.{none-some, same_Some}
use Rattle.toml_names.specs.mentions.Mentions.{Named, root, named_by}
use Rattle.toml_names.specs.model.Addresses.{Address}
use Rattle.toml_names.specs.reader.Names.{own_address}
use Rattle.toml_tree.specs.Spells.{EachIs}
use Rattle.toml_tree.specs.Tree.{Line}
use Rattle.toml_units.proofs.Proved.{line_no_lines}
use Rattle.toml_units.specs.declared.unit.Unit.{Unit as CodeUnit}
use Rattle.toml_units.specs.declared.unit.UnitKind.{UnitKind}
use Rattle.toml_units.specs.declared.unit.UnitKind.TheVariants as kinds
use Rattle.toml_units.specs.Places.{is_line}
use Rattle.toml_units.specs.Plain.{Spanned, spanned}
use Rattle.toml_units.specs.Units.{TextUnit, inside_line, line_unit, units, units_from}
use Rattle.toml_units.specs.View.{all_units, unit}
use Rattle.toml_working.proofs.Each.{each_append}
use Rattle.toml_working.proofs.LinesLie.{LineLies, line_kept}
use Rattle.toml_working.specs.declared.lines.Kept.{Kept}
use Rattle.toml_working.specs.declared.lines.Slot.{Slot}
use Rattle.toml_working.specs.declared.lines.Slot.TheVariants as slots
use Rattle.toml_layout.specs.Outlines.{LineOutline}
use Rattle.toml_working.specs.Standing.{Read, Standing, kept_standing, line_stands, outline_of, slot_standing, slots_standing, standing, standing_from}
use Rattle.toml_working.specs.Stands.{SlotKept, Stands}
use Rattle.toml_working.specs.Starting.{IsKeptOf, KeepsLine}

-- So many units are passed: the slots stand for the first lines, and the units that are left lie in the last of these, or are those of
-- the lines that are left.
pub record StartedWith (text : List ℕ) (read : Read) (passed : ℕ) (all : List Slot) : Type 0 where
  pub inner : List TextUnit
  pub left : List Line
  pub earlier : List Named
  pub n : ℕ
  pub units : all_units (drop passed read.units) ≡ map spanned (inner ++ units_from earlier n left)
  pub no_lines : EachIs (λ w. ¬ (w.kind ≡ kinds.Line)) inner
  pub lines : left ≡ drop (length all) read.lines
  pub lie : EachIs (LineLies text) left
  pub kept : EachIs (SlotKept text read) all
  pub are : slots_standing read all ++ standing_from earlier n left ≡ standing read.lines

-- the first of a list, and the others
first_is : {A : Type 0} (x y : A) (xs ys : List A) → x ∷ xs ≡ y ∷ ys → x ≡ y
first_is x y xs ys is = cc

rest_is : {A : Type 0} (x y : A) (xs ys : List A) → x ∷ xs ≡ y ∷ ys → xs ≡ ys
rest_is x y xs ys is = cc

unlike_line : (k : UnitKind) → ¬ (k ≡ kinds.Line) → is_line k ≡ true → ⊥
unlike_line kinds.Line other is = other refl
unlike_line kinds.TailComment other is = true≢false (sym is)
unlike_line kinds.InnerComment other is = true≢false (sym is)
unlike_line kinds.Element other is = true≢false (sym is)
unlike_line kinds.Pair other is = true≢false (sym is)

-- what stands at a place is the first of what is left there
got_first : {A : Type 0} (xs : List A) (i : ℕ) (x : A) → slice_get xs i ≡ Some x → drop i xs ≡ x ∷ drop (i + 1) xs
got_first [] i x is = cc
got_first (y ∷ ys) zero x is = ap (λ z. z ∷ ys) (same_Some y x is)
got_first (y ∷ ys) (suc i) x is = rw add-one (got_first ys i x is ∙ ap (λ n. x ∷ drop n ys) (add-one i))

passed_one : {A : Type 0} (xs : List A) (i : ℕ) (y : A) (ys : List A) → y ∷ ys ≡ drop i xs → ys ≡ drop (i + 1) xs
passed_one xs i y ys is = ap (drop 1) is ∙ drop-drop 1 i xs

left_got : {A : Type 0} (xs : List A) (i : ℕ) (y : A) (ys : List A) → y ∷ ys ≡ drop i xs → slice_get xs i ≡ Some y
left_got [] zero y ys is = cc
left_got [] (suc i) y ys is = cc
left_got (x ∷ xs) zero y ys is = ap Some (sym (first_is y x ys xs is))
left_got (x ∷ xs) (suc i) y ys is = left_got xs i y ys is

-- one slot more stands for one line more
standing_append : (read : Read) (ss ts : List Slot) → slots_standing read (ss ++ ts) ≡ slots_standing read ss ++ slots_standing read ts
standing_append read [] ts = refl
standing_append read (s ∷ ss) ts =
    ap (λ r. slot_standing read s ++ r) (standing_append read ss ts) ∙ sym (append_assoc (slot_standing read s) (slots_standing read ss) (slots_standing read ts))

same_standing : (a b : Option Address) (m n : Option ℕ) (o p : LineOutline) → a ≡ b → m ≡ n → o ≡ p
    → ◌≡◌ {A = Standing} (record { address = a; base = m; outline = o }) (record { address = b; base = n; outline = p })
same_standing a b m n o p a_is m_is o_is = cc

pub started : (text : List ℕ) (read : Read) → all_units read.units ≡ map spanned (units read.lines) → EachIs (LineLies text) read.lines → StartedWith text read 0 []
started text read are lie = record {
  inner = [];
  left = read.lines;
  earlier = root ∷ [];
  n = 0;
  units = are;
  no_lines = tt;
  lines = refl;
  lie = lie;
  kept = tt;
  are = refl;
}

-- all units are passed
pub started_all : (text : List ℕ) (read : Read) (passed : ℕ) (all : List Slot) → length read.units ≤ passed → StartedWith text read passed all
    → Stands text read all (standing read.lines)
started_all text read passed all past h = by h.inner h.left (sym (ap all_units (drop_all passed read.units past)) ∙ h.units) h.are
  where
    by : (inner : List TextUnit) (left : List Line) → [] ≡ map spanned (inner ++ units_from h.earlier h.n left)
        → slots_standing read all ++ standing_from h.earlier h.n left ≡ standing read.lines → Stands text read all (standing read.lines)
    by (w ∷ ws) left none are = cc
    by [] (l ∷ ls) none are = cc
    by [] [] none are = record { kept = h.kept; are = sym (append-nil (slots_standing read all)) ∙ are }

module _ (text : List ℕ) (read : Read) (passed : ℕ) (all : List Slot) (u : CodeUnit) (got : slice_get read.units passed ≡ Some u) (h : StartedWith text read passed all) where
  -- the next unit is the first of those that are left
  next_unit : unit u ∷ all_units (drop (passed + 1) read.units) ≡ map spanned (h.inner ++ units_from h.earlier h.n h.left)
  next_unit = sym (ap all_units (got_first read.units passed u got)) ∙ h.units

  -- a unit that is no line lies in the last line
  started_inside : is_line u.kind ≡ false → StartedWith text read (passed + 1) all
  started_inside other = by h.inner h.left next_unit h.no_lines h.lines h.lie h.are
    where
      by : (inner : List TextUnit) (left : List Line) → unit u ∷ all_units (drop (passed + 1) read.units) ≡ map spanned (inner ++ units_from h.earlier h.n left)
          → EachIs (λ w. ¬ (w.kind ≡ kinds.Line)) inner → left ≡ drop (length all) read.lines → EachIs (LineLies text) left
          → slots_standing read all ++ standing_from h.earlier h.n left ≡ standing read.lines → StartedWith text read (passed + 1) all
      by (w ∷ ws) left is none lines lie are = record {
        inner = ws;
        left = left;
        earlier = h.earlier;
        n = h.n;
        units = rest_is _ _ _ _ is;
        no_lines = none.1;
        lines = lines;
        lie = lie;
        kept = h.kept;
        are = are;
      }
      by [] (l ∷ ls) is none lines lie are =
          let line : u.kind ≡ kinds.Line = ap (λ (s : Spanned). s.kind) (first_is _ _ _ _ is) in
          absurd (true≢false (sym (ap is_line line) ∙ other))
      by [] [] is none lines lie are = cc

  -- a unit of a line begins the next one
  pub started_line : (kept : Kept) → KeepsLine read.lines (length all) u passed kept → StartedWith text read (passed + 1) (all ++ slots.Kept kept ∷ [])
  started_line kept keeps = by h.inner h.left next_unit h.no_lines h.lines h.lie h.are
    where
      by : (inner : List TextUnit) (left : List Line) → unit u ∷ all_units (drop (passed + 1) read.units) ≡ map spanned (inner ++ units_from h.earlier h.n left)
          → EachIs (λ w. ¬ (w.kind ≡ kinds.Line)) inner → left ≡ drop (length all) read.lines → EachIs (LineLies text) left
          → slots_standing read all ++ standing_from h.earlier h.n left ≡ standing read.lines
          → StartedWith text read (passed + 1) (all ++ slots.Kept kept ∷ [])
      by (w ∷ ws) left is none lines lie are =
          let same : u.kind ≡ w.kind = ap (λ (s : Spanned). s.kind) (first_is _ _ _ _ is) in
          absurd (unlike_line w.kind none.0 (sym (ap is_line same) ∙ keeps.own))
      by [] [] is none lines lie are = cc
      by [] (l ∷ ls) is none lines lie are =
          let own : unit u ≡ spanned (line_unit h.earlier l.expr) = first_is _ _ _ _ is in
          let line : keeps.line ≡ l = first_is _ _ _ _ (sym (got_first read.lines (length all) keeps.line keeps.is) ∙ sym lines) in
          let here : slice_get read.lines kept.line ≡ Some l = ap (slice_get read.lines) keeps.counts ∙ keeps.is ∙ ap Some line in
          let first : slice_get read.units kept.first ≡ Some u = ap (slice_get read.units) keeps.begins ∙ got in
          let stands : kept_standing read kept ≡ line_stands h.earlier l =
          same_standing _ _ _ _ _ _ (ap (option_and_then (λ (x : CodeUnit). x.address)) first ∙ ap (λ (s : Spanned). s.address) own)
          (ap (option_and_then (λ (x : CodeUnit). x.base)) first ∙ ap (λ (s : Spanned). s.base) own) (ap outline_of here) in
          let long : length (all ++ slots.Kept kept ∷ []) ≡ length all + 1 = length-append all (slots.Kept kept ∷ []) in
          record {
            inner = inside_line (own_address h.earlier l.expr) l.expr;
            left = ls;
            earlier = h.earlier ++ named_by h.earlier h.n l.expr;
            n = h.n + 1;
            units = rest_is _ _ _ _ is;
            no_lines = line_no_lines h.earlier l.expr;
            lines = passed_one read.lines (length all) l ls lines ∙ ap (λ k. drop k read.lines) (sym long);
            lie = lie.1;
            kept = each_append (SlotKept text read) all (slots.Kept kept ∷ []) h.kept (line_kept text read kept l here lie.0 (subst (λ x. IsKeptOf x kept) line keeps.says), tt);
            are =
                ap (λ r. r ++ standing_from (h.earlier ++ named_by h.earlier h.n l.expr) (h.n + 1) ls)
                (standing_append read all (slots.Kept kept ∷ []) ∙ ap (λ s. slots_standing read all ++ (s ∷ [])) stands)
                ∙ append_assoc (slots_standing read all) (line_stands h.earlier l ∷ []) (standing_from (h.earlier ++ named_by h.earlier h.n l.expr) (h.n + 1) ls) ∙ are;
          }

  -- and there is one
  started_full : is_line u.kind ≡ true → ¬ (slice_get read.lines (length all) ≡ None)
  started_full own none = by h.inner h.left next_unit h.no_lines h.lines
    where
      by : (inner : List TextUnit) (left : List Line) → unit u ∷ all_units (drop (passed + 1) read.units) ≡ map spanned (inner ++ units_from h.earlier h.n left)
          → EachIs (λ w. ¬ (w.kind ≡ kinds.Line)) inner → left ≡ drop (length all) read.lines → ⊥
      by (w ∷ ws) left is apart lines =
          let same : u.kind ≡ w.kind = ap (λ (s : Spanned). s.kind) (first_is _ _ _ _ is) in
          unlike_line w.kind apart.0 (sym (ap is_line same) ∙ own)
      by [] [] is apart lines = cc
      by [] (l ∷ ls) is apart lines = none-some _ (sym none ∙ left_got read.lines (length all) l ls lines)

  -- so a unit of no line lies in the last line
  pub started_past : (is_line u.kind ≡ false) ⊎ (slice_get read.lines (length all) ≡ None) → StartedWith text read (passed + 1) all
  started_past (inl other) = started_inside other
  started_past (inr none) = by (is_line u.kind) refl
    where
      by : (b : Bool) → is_line u.kind ≡ b → StartedWith text read (passed + 1) all
      by true own = absurd (started_full own none)
      by false other = started_inside other
