-- The units after an `insert`.
use Rattle.std.proofs.Common.{◌≡◌, ◌∙◌, inl, inr, ℕ, suc, ◌+◌, false, Some, None, List, [], ◌∷◌, ◌++◌, length, refl, sym, ap, ap₂, subst, subst₂, append_assoc, append-nil, arith}
use Rattle.std.specs.List.{join_by}
use Rattle.std.specs.Prelude.{slice_get}
use Rattle.std.proofs.lemmas.Option.{same_Some}
use Rattle.toml_scalar.specs.Spelling.{spelled}
use Rattle.toml_tree.specs.Bare.{fresh}
use Rattle.toml_tree.specs.Spells.{AreLines, IsExpr, equals_parts, expr_parts, joined, key_parts, piece, value_parts}
use Rattle.toml_tree.specs.Tree.{Value, Expr, Line}
use Rattle.toml_tree.proofs.Proved.{parts_join}
use Rattle.toml_names.specs.model.Addresses.{Address, below, child}
use Rattle.toml_names.specs.reader.Names.{header_end, own_address}
use Rattle.toml_names.specs.mentions.Keys.{Key, key_names}
use Rattle.toml_names.specs.mentions.Mentions.{Named, ends_table, entered, followed, named, named_by, named_from, root, section, section_from}
use Rattle.toml_units.specs.Units.{TextUnit, line_units, inside, units_from, units}
use Rattle.toml_units.specs.declared.unit.UnitKind.TheVariants as kinds
use Rattle.toml_layout.specs.declared.layout.Layout.TheVariants as layouts
use Rattle.toml_layout.specs.declared.tree.Brackets.TheVariants.{One}
use Rattle.toml_layout.specs.Spacings.{Spacing, plain_spacing}
use Rattle.toml_working.specs.FreshKeys.{key_named}
use Rattle.toml_working.specs.Heading.{header_expr, header_line}
use Rattle.toml_working.specs.Headers.{names_of}
use Rattle.toml_working.specs.Inserting.{has_pair, new_assign, new_expr, new_line, line_put}
use Rattle.toml_working.specs.InsertingInTables.{insert_in}
use Rattle.toml_working.specs.Manners.{Manner}
use Rattle.toml_working.specs.Premises.{HasImplied, HasTable}
use Rattle.toml_working.specs.Standing.{standing_from}
use Rattle.toml_editor.specs.UnitBlocks.{Both, InsertUnits, IsBlockPut, OneLine, pair_line_units, pair_text}
use Rattle.toml_editor.proofs.written.Alike.{alike_self, alike_pair}
use Rattle.toml_editor.proofs.written.CountedAlike.{stand_same}
use Rattle.toml_editor.proofs.written.FreshKeys.{key_again, key_is}
use Rattle.toml_editor.proofs.written.HeaderCounted.{header_counted}
use Rattle.toml_editor.proofs.written.InsertedTables.{IsInserted, insert_in_place}
use Rattle.toml_editor.proofs.written.InsertPlace.{IsFull}
use Rattle.toml_editor.proofs.written.InsertSpaced.{line_formed}
use Rattle.toml_editor.proofs.written.InsertStands.{section_append}
use Rattle.toml_editor.proofs.written.LastLines.{full_line}
use Rattle.toml_editor.proofs.written.UnitsAlike.{units_alike}
use Rattle.toml_editor.proofs.written.UnitsHeaded.{header_block, new_units as header_line_is, units_same}
use Rattle.toml_editor.proofs.written.UnitsPut.{IsPutWell, formed_well, line_lines, lines_first, put_among, put_before, put_behind, put_last, some_lines}
use Rattle.toml_editor.proofs.written.WayBlock.{lines_append}
use Rattle.toml_editor.proofs.written.WayFits.{newlines}
use Rattle.toml_editor.proofs.written.WayZip.{lines_in}

-- ---- a line by a key

module _ (at : Address) (first : List ℕ) (rest : Key) (v : Value) where
  abbrev key : Key
  key = first ∷ rest

  abbrev pub block : Spacing → List TextUnit
  block s = pair_line_units (fresh (pair_text s key v)) (below at key) (length at) v None

  text_is : (s : Spacing) → joined (expr_parts (new_expr s key v)) ≡ pair_text s key v
  text_is s =
      let names = key_parts (key_named key) in
      let equals = equals_parts (fresh s.before_equals) (fresh s.after_equals) in
      let end = piece (fresh []) ∷ [] in
      let around : List ℕ → List ℕ = λ t. s.before_equals ++ 0x3D ∷ (s.after_equals ++ t) in
      ap (λ r. s.ws ++ r)
      (ap joined (append_assoc (names ++ equals) (value_parts v) end ∙ append_assoc names equals (value_parts v ++ end))
      ∙ key_is key (equals ++ (value_parts v ++ end))
      ∙ ap (λ t. join_by spelled (0x2E ∷ []) key ++ around t) (parts_join (value_parts v) end ∙ append-nil (joined (value_parts v))))

  abbrev line_of : List ℕ → Address → ℕ → List TextUnit
  line_of text a base = record { kind = kinds.Line; piece = fresh text; address = Some a; base = Some base } ∷ (inside a v ++ [])

  new_units : (s : Spacing) (xs : List Named) → section xs ≡ at → line_units xs (new_expr s key v) ≡ block s
  new_units s xs there =
      ap₂ (λ a k. line_of (joined (expr_parts (new_expr s key v))) (below a k) (length a)) there (key_again first rest)
      ∙ ap (λ t. line_of t (below at key) (length at)) (text_is s)

  put_first : (Formed : Type 0) (s : Spacing) (xs : List Named) (n m : ℕ) (ls : List Line) (ending : List ℕ) → section xs ≡ at
      → IsPutWell Formed (units_from xs n ls) (block s) (line_units xs (new_expr s key v) ++ units_from (xs ++ named_by xs m (new_expr s key v)) (m + 1) ls) (newlines ls) (ending ∷ newlines ls)
  put_first Formed s xs n m ls ending there =
      put_before Formed (new_expr s key v) (block s) xs n m ls ending (new_units s xs there)
      (units_alike ls xs (xs ++ named_by xs m (new_expr s key v)) n (m + 1) (alike_pair xs xs (alike_self xs) m (section xs) (new_assign s key) v))

  module _ (manner : Manner) (s : Spacing) (l : Line) (keyed : IsFull l.expr) where
    abbrev Well : List TextUnit → List TextUnit → List (List ℕ) → List (List ℕ) → Type 0
    Well old new = IsPutWell (IsExpr l.expr) old (block s) new

    put_line : (ls : List Line) (xs : List Named) (n : ℕ) → section (xs ++ named_by xs n l.expr) ≡ at
        → Well (units_from xs n (l ∷ ls)) (units_from xs n (line_put s key v manner l ls)) (newlines (l ∷ ls)) (newlines (line_put s key v manner l ls))
    put_line [] xs n there =
        put_last (IsExpr l.expr) l (new_expr s key v) (block s) xs n manner.newline (new_units s (xs ++ named_by xs n l.expr) there) (full_line xs l.expr keyed)
    put_line (m ∷ ms) xs n there =
        put_behind (IsExpr l.expr) (line_units xs l.expr) (units_from (xs ++ named_by xs n l.expr) (n + 1) (m ∷ ms)) (block s) _ (newlines (m ∷ ms))
        (manner.newline ∷ newlines (m ∷ ms)) l.newline.text (line_lines xs l.expr) (some_lines (xs ++ named_by xs n l.expr) (n + 1) m ms)
        (put_first (IsExpr l.expr) s (xs ++ named_by xs n l.expr) (n + 1) (n + 1) (m ∷ ms) manner.newline there)

    put_at : (front back : List Line) (xs : List Named) (n : ℕ) → section (named_from xs n (front ++ l ∷ [])) ≡ at
        → Well (units_from xs n (front ++ l ∷ back)) (units_from xs n (front ++ line_put s key v manner l back)) (newlines (front ++ l ∷ back))
        (newlines (front ++ line_put s key v manner l back))
    put_at front back = put_among (IsExpr l.expr) (block s) l back (line_put s key v manner l back) (l ∷ []) (λ xs. section xs ≡ at) (put_line back) front

-- ---- a header and a line behind it

-- behind a header stands the section to which its key leads
header_section : (n : ℕ) (xs : List Named) (names : Key) (k : List ℕ) (at before : Address) → section_from before (followed n xs (ends_table n) at (k ∷ names)) ≡ header_end xs at (k ∷ names)
header_section n xs [] k at before = refl
header_section n xs (m ∷ names) k at before = header_section n xs names m (entered xs (child at k)) before

module _ (q : Address) (name : List ℕ) (v : Value) (style ws : List ℕ) (s : Spacing) where
  abbrev header : Expr
  header = header_expr One q ws

  abbrev line : Expr
  line = new_expr s (name ∷ []) v

  abbrev pub both_blocks : List TextUnit
  both_blocks = header_block One q ws ++ block q name [] v s

  behind_is : (xs : List Named) (n : ℕ) → own_address xs header ≡ Some q → section (xs ++ named_by xs n header) ≡ q
  behind_is xs n leads = by (key_names (key_named (names_of q))) refl
    where
      by : (names : Key) → key_names (key_named (names_of q)) ≡ names → section (xs ++ named_by xs n header) ≡ q
      by [] none = cc
      by (k ∷ names) is =
          section_append [] xs (named_by xs n header) ∙ ap (λ key. section_from (section xs) (followed n xs (ends_table n) [] key)) is
          ∙ header_section n xs names k [] (section xs) ∙ ap (header_end xs []) (sym is) ∙ same_Some _ q leads

  put_both : (Formed : Type 0) (xs : List Named) (n : ℕ) (m : Line) (ms : List Line) → own_address xs header ≡ Some q → has_pair (m ∷ ms) ≡ false
      → IsPutWell Formed (units_from xs n (m ∷ ms)) both_blocks
      (units_from xs n (header_line One q ws style ∷ new_line s (name ∷ []) v style ∷ m ∷ ms)) (newlines (m ∷ ms)) (style ∷ style ∷ newlines (m ∷ ms))
  put_both Formed xs n m ms leads unkeyed = record {
    put = record {
      front = [];
      back = old;
      before = refl;
      after =
          ap₂ (λ x y. x ++ (y ++ behind)) (header_line_is One q ws xs leads) (new_units q name [] v s ys there)
          ∙ ap (λ r. header_block One q ws ++ (block q name [] v s ++ r)) (sym same) ∙ sym (append_assoc (header_block One q ws) (block q name [] v s) old);
      next = lines_first (m ∷ ms) xs n;
    };
    front_ends = λ a low. let e : ⊥ = omega (arith, low) in absurd e;
    back_ends = λ a.
        ap (slice_get (newlines (m ∷ ms))) (let e : 0 + a ≡ a = omega arith in e)
        ∙ ap (slice_get (style ∷ style ∷ newlines (m ∷ ms)))
        (let two = two_lines in let e : suc (suc a) ≡ 0 + (lines_in both_blocks + a) = omega (arith, two) in e);
    full = λ formed none. tt;
  }
    where
      ys : List Named
      ys = xs ++ named_by xs n header

      zs : List Named
      zs = ys ++ named_by ys (n + 1) line

      old : List TextUnit
      old = units_from xs n (m ∷ ms)

      behind : List TextUnit
      behind = units_from zs ((n + 1) + 1) (m ∷ ms)

      there : section ys ≡ q
      there = behind_is xs n leads

      same : old ≡ behind
      same =
          units_same (m ∷ ms) xs ys n (n + 1)
          (stand_same (m ∷ ms) xs ys n (n + 1) (inr unkeyed) (header_counted One q ws xs n (standing_from xs n (m ∷ ms)) leads tt))
          ∙ units_alike (m ∷ ms) ys zs (n + 1) ((n + 1) + 1) (alike_pair ys ys (alike_self ys) (n + 1) (section ys) (new_assign s (name ∷ [])) v)

      two_lines : lines_in both_blocks ≡ 2
      two_lines =
          lines_append (header_block One q ws) (block q name [] v s)
          ∙ ap₂ (λ a b. a + b) (ap lines_in (sym (header_line_is One q ws xs leads)) ∙ line_lines xs header) (ap lines_in (sym (new_units q name [] v s ys there)) ∙ line_lines ys line)

-- ---- of the lines of an `insert`

-- one line's units come, or those of a header and a line
pub data IsPutIn (q : Address) (name : List ℕ) (v : Value) (manner : Manner) (lines new : List Line) : Type 0 where
  PutLine : (at : Address) → (first : List ℕ) → (rest : Key) → child q name ≡ below at (first ∷ rest) → (s : Spacing) → (manner.layout ≡ layouts.Plain → s ≡ plain_spacing)
      → IsPutWell (AreLines lines) (units lines) (block at first rest v s) (units new) (newlines lines) (newlines new) → IsPutIn q name v manner lines new
  PutBoth : ¬ (q ≡ []) → HasImplied lines q → (ws : List ℕ) → (s : Spacing) → (manner.layout ≡ layouts.Plain → (ws ≡ []) × (s ≡ plain_spacing))
      → IsPutWell (AreLines lines) (units lines) (both_blocks q name v [] ws s) (units new) (newlines lines) (newlines new) → IsPutIn q name v manner lines new

module _ (q : Address) (name : List ℕ) (v : Value) (manner : Manner) where
  put_lines : (lines new : List Line) → IsInserted q name v manner lines new → IsPutIn q name v manner lines new
  put_lines lines new (inl (inl (at_root, first))) =
      PutLine [] name [] (ap (λ a. child a name) at_root) plain_spacing (λ is. refl)
      (subst (λ ls. IsPutWell (AreLines lines) (units lines) (block [] name [] v plain_spacing) (units ls) (newlines lines) (newlines ls)) (sym first)
      (put_first [] name [] v (AreLines lines) plain_spacing (root ∷ []) 0 0 lines manner.newline refl))
  put_lines lines new (inl (inr put)) =
      let l = put.line in
      let s = put.spacing in
      let was = put.front ++ l ∷ put.back in
      let made = put.front ++ line_put s (put.first ∷ put.rest) v manner l put.back in
      let mine = block put.section_at put.first put.rest v s in
      PutLine put.section_at put.first put.rest put.same s put.plain
      (subst₂ (λ ls ms. IsPutWell (AreLines ls) (units ls) mine (units ms) (newlines ls) (newlines ms)) (sym put.was) (sym put.is)
      (formed_well (IsExpr l.expr) (AreLines was) (units was) (units made) mine (newlines was) (newlines made) (line_formed put.front put.back l)
      (put_at put.section_at put.first put.rest v manner s l put.full put.front put.back (root ∷ []) 0 put.section_is)))
  put_lines lines new (inr (implied, put)) = by put.back put.some put.was put.is put.unkeyed
    where
      by : (back : List Line) → ¬ (back ≡ []) → lines ≡ put.front ++ back
          → new ≡ put.front ++ header_line One q put.ws manner.newline ∷ new_line put.spacing (name ∷ []) v manner.newline ∷ back
          → has_pair back ≡ false → IsPutIn q name v manner lines new
      by [] some was is unkeyed = absurd (some refl)
      by (m ∷ ms) some was is unkeyed =
          PutBoth put.not_root implied put.ws put.spacing put.plain
          (subst₂ (λ ls ms. IsPutWell (AreLines lines) (units ls) (both_blocks q name v manner.newline put.ws put.spacing) (units ms) (newlines ls) (newlines ms)) (sym was) (sym is)
          (put_among (AreLines lines) (both_blocks q name v manner.newline put.ws put.spacing) m ms
          (header_line One q put.ws manner.newline ∷ new_line put.spacing (name ∷ []) v manner.newline ∷ m ∷ ms) []
          (λ xs. own_address xs (header_expr One q put.ws) ≡ Some q)
          (λ xs n there. put_both q name v manner.newline put.ws put.spacing (AreLines lines) xs n m ms there unkeyed)
          put.front (root ∷ []) 0 (ap (λ ls. own_address (named ls) (header_expr One q put.ws)) (append-nil put.front) ∙ put.leads)))

  pub puts_lines : (lines : List Line) → HasTable lines q
      → IsPutIn q name v manner lines (insert_in q name v manner lines)
  puts_lines lines there = put_lines lines _ (insert_in_place q name v manner lines there)

pub insert_units : InsertUnits
insert_units q name v manner lines there = elim (puts_lines q name v manner lines there) [
  | PutLine at first rest same s plain well ↦
      OneLine at (first ∷ rest) (λ e. cc) same s plain (subst (λ a. IsBlockPut (units lines) (pair_line_units (fresh (pair_text s (first ∷ rest) v)) a (length at) v None) (units (insert_in q name v manner lines))) (sym same) well.put)
  | PutBoth not_root implied ws s plain well ↦ Both not_root implied ws s plain well.put
]
