-- The lines after an `insert` in a table that dotted keys make, by what finds them.
use Rattle.std.proofs.Common.{◌≡◌, ◌∙◌, inl, ℕ, ◌+◌, Bool, true, false, ◌||◌, ◌&&◌, not, cond, Some, List, [], ◌∷◌, ◌++◌, length, refl, sym, ap, ap₂, subst, append_assoc}
use Rattle.std.specs.List.{list_any}
use Rattle.toml_tree.specs.Spells.{AreLines}
use Rattle.toml_tree.specs.Tree.{Value, Expr, BlankLine, KeyValLine, TableLine, ArrayTableLine, Line}
use Rattle.toml_names.specs.mentions.Keys.{Key, key_names}
use Rattle.toml_names.specs.mentions.Mentions.{Named, named, named_by, section}
use Rattle.toml_names.specs.model.Addresses.{Address, below, is_above}
use Rattle.toml_names.specs.reader.Names.{own_address}
use Rattle.toml_units.specs.Units.{line_base}
use Rattle.toml_layout.specs.declared.layout.Layout.{Layout}
use Rattle.toml_layout.specs.declared.layout.Layout.TheVariants as layouts
use Rattle.toml_layout.specs.TreeOutlines.{line_outline, value_outline}
use Rattle.toml_working.specs.DottedTables.{PutsDotted, has_in_table, has_more, is_maker, makes_from, stands_in_table}
use Rattle.toml_working.specs.FirstKeys.{spacing_put}
use Rattle.toml_working.specs.Inserting as lines
use Rattle.toml_working.specs.InsertingInTables as tree
use Rattle.toml_working.specs.InsertStanding.{line_put}
use Rattle.toml_working.specs.Manners.{Manner}
use Rattle.toml_working.specs.Placing.{is_header}
use Rattle.toml_working.specs.Sections.{is_of_section}
use Rattle.toml_working.specs.Seeing.{is_dotted}
use Rattle.toml_working.specs.Standing.{Standing, line_stands, standing, standing_from}
use Rattle.toml_editor.specs.StandingLaws.{InsertStandsAmong}
use Rattle.toml_editor.proofs.written.BelowPlace.{IsKeyed, standing_behind}
use Rattle.toml_editor.proofs.written.BelowStands.{back_formed}
use Rattle.toml_editor.proofs.written.DocumentSections.{line_in_section, named_next, nat_self}
use Rattle.toml_editor.proofs.written.DottedKeys.{maker_keys}
use Rattle.toml_editor.proofs.written.DottedPlace.{IsPutAmong, among_place, keyed_head, section_line, section_next}
use Rattle.toml_editor.proofs.written.InsertPlace.{IsHeadless}
use Rattle.toml_editor.proofs.written.InsertStands.{has_same}
use Rattle.toml_editor.proofs.written.PutStands.{put_stands}
use Rattle.toml_editor.proofs.written.TablesStay.{any_at}

-- ---- the lines behind a place

-- lines below the table, by their tree
in_table_same : (q s : Address) (ls : List Line) (xs : List Named) (n : ℕ) → section xs ≡ s → has_in_table q (standing_from xs n ls) ≡ tree.has_in_table s q ls
in_table_same q s [] xs n there = refl
in_table_same q s (l ∷ ls) xs n there = by l.expr refl (λ head. in_table_same q s ls (xs ++ named_by xs n l.expr) (n + 1) (section_line xs n l.expr head ∙ there))
  where
    rest : List Standing
    rest = standing_from (xs ++ named_by xs n l.expr) (n + 1) ls

    either : (b c : Bool) → cond b true c ≡ (b || c)
    either true c = refl
    either false c = refl

    by : (e : Expr) → l.expr ≡ e → (IsHeadless l.expr → has_in_table q rest ≡ tree.has_in_table s q ls)
        → cond (stands_in_table q (line_base xs l.expr) (own_address xs l.expr)) true (not (is_header (line_base xs l.expr) (own_address xs l.expr)) && has_in_table q rest)
        ≡ elim l.expr [
          | BlankLine b ↦ tree.has_in_table s q ls
          | KeyValLine ws pair tail ↦ is_above q (below s (key_names pair.assign.key)) || tree.has_in_table s q ls
          | TableLine ws header tail ↦ false
          | ArrayTableLine ws header tail ↦ false
        ]
    by e is more = subst (λ x. Same x) (sym is) (at e (λ head. more (subst IsHeadless (sym is) head)))
      where
        Same : Expr → Type 0
        Same x = cond (stands_in_table q (line_base xs x) (own_address xs x)) true (not (is_header (line_base xs x) (own_address xs x)) && has_in_table q rest)
            ≡ elim x [
              | BlankLine b ↦ tree.has_in_table s q ls
              | KeyValLine ws pair tail ↦ is_above q (below s (key_names pair.assign.key)) || tree.has_in_table s q ls
              | TableLine ws header tail ↦ false
              | ArrayTableLine ws header tail ↦ false
            ]

        at : (x : Expr) → (IsHeadless x → has_in_table q rest ≡ tree.has_in_table s q ls) → Same x
        at (BlankLine b) same = same tt
        at (KeyValLine ws pair tail) same =
            ap₂ (λ a c. cond (is_above q (below a (key_names pair.assign.key))) true c) there (same tt)
            ∙ either (is_above q (below s (key_names pair.assign.key))) (tree.has_in_table s q ls)
        at (TableLine ws header tail) same = refl
        at (ArrayTableLine ws header tail) same = refl

more_same : (layout : Layout) (q s : Address) (ls : List Line) (xs : List Named) (n : ℕ) → section xs ≡ s
    → has_more layout q (standing_from xs n ls) ≡ tree.has_more layout s q ls
more_same layouts.Plain q s ls xs n there = has_same ls xs n
more_same layouts.Follow q s ls xs n there = in_table_same q s ls xs n there

-- ---- the new line

module _ (q : Address) (name : List ℕ) (v : Value) (manner : Manner) (old new : List Line) (put : IsPutAmong q name v manner old new) where
  abbrev xs : List Named
  xs = named put.front

  abbrev n : ℕ
  n = length put.front

  abbrev l : Line
  l = put.line

  abbrev behind : List Standing
  behind = standing_from (xs ++ named_by xs n l.expr) (n + 1) put.back

  -- the line that makes the table is one of those
  makes : list_any (is_maker put.section_at q) (standing old) ≡ true
  makes =
      let bs = named put.before in
      let made = maker_keys q bs put.maker put.makes in
      let base : line_base bs put.maker.expr ≡ Some (length (section bs)) = ap (line_base bs) made.is in
      let whole : old ≡ put.before ++ put.maker ∷ (put.mid ++ put.back) =
      put.was ∙ sym (append_assoc put.front (l ∷ []) put.back) ∙ ap (λ r. r ++ put.back) (sym put.parts) ∙ append_assoc put.before (put.maker ∷ put.mid) put.back in
      let here : makes_from put.section_at q (line_base bs put.maker.expr) (own_address bs put.maker.expr) ≡ true =
      ap (λ a. makes_from a q (line_base bs put.maker.expr) (own_address bs put.maker.expr)) (sym put.made_in)
      ∙ ap (λ b. makes_from (section bs) q b (own_address bs put.maker.expr)) base
      ∙ ap₂ (λ a b. a && b) (nat_self (length (section bs))) (ap (λ b. is_dotted q b (own_address bs put.maker.expr)) (sym base) ∙ put.makes) in
      ap (list_any (is_maker put.section_at q)) (ap standing whole ∙ standing_behind put.before (put.maker ∷ (put.mid ++ put.back)) [])
      ∙ any_at (is_maker put.section_at q) (standing put.before) (line_stands bs put.maker) _ here

  front_section : section xs ≡ put.section_at
  front_section = sym (section_next put.front l (keyed_head l.expr put.keyed)) ∙ put.section_is

  -- the line before the new one is in the section
  of_section : is_of_section put.section_at (line_stands xs l) ≡ true
  of_section = subst (λ a. is_of_section a (line_stands xs l) ≡ true) front_section (line_in_section xs l (pair l.expr refl put.keyed))
    where
      pair : (e : Expr) → l.expr ≡ e → IsKeyed e → (k : ℕ) × (line_base xs l.expr ≡ Some k)
      pair (KeyValLine ws assign tail) is h = (length (section xs), ap (line_base xs) is)
      pair (BlankLine b) is h = absurd h
      pair (TableLine ws header tail) is h = absurd h
      pair (ArrayTableLine ws header tail) is h = absurd h

  spaced : lines.spacing_behind manner l ≡ spacing_put manner (standing put.front) (line_stands xs l)
  spaced = by l.expr refl put.keyed
    where
      Spaced : Line → Type 0
      Spaced m = lines.spacing_behind manner m ≡ spacing_put manner (standing put.front) (line_stands xs m)

      by : (e : Expr) → l.expr ≡ e → IsKeyed e → Spaced l
      by (KeyValLine ws pair tail) is h = subst (λ e. Spaced (record { expr = e; newline = l.newline })) (sym is) refl
      by (BlankLine b) is h = absurd h
      by (TableLine ws header tail) is h = absurd h
      by (ArrayTableLine ws header tail) is h = absurd h

  there : section (xs ++ named_by xs n l.expr) ≡ put.section_at
  there = ap section (sym (named_next put.front l)) ∙ put.section_is

  stands : AreLines old → standing_from xs n (lines.line_put (lines.spacing_behind manner l) put.key v manner l put.back)
      ≡ line_put put.section_at (lines.spacing_behind manner l) put.key (value_outline v) manner (line_stands xs l) (line_outline l).newline ++ behind
  stands are = subst (λ (key : Key). standing_from xs n (lines.line_put (lines.spacing_behind manner l) key v manner l put.back)
      ≡ line_put put.section_at (lines.spacing_behind manner l) key (value_outline v) manner (line_stands xs l) (line_outline l).newline ++ behind)
      (sym put.some.2)
      (put_stands put.section_at put.some.0 put.some.1 v manner (lines.spacing_behind manner l) xs n l put.back
      (back_formed put.front put.back l (subst AreLines put.was are)) there)

  among_puts : AreLines old → PutsDotted q name (value_outline v) manner (standing old) (standing new)
  among_puts are = record {
    section = put.section_at;
    key = put.key;
    same = put.same;
    made = makes;
    front = standing put.front;
    line = line_stands xs l;
    back = behind;
    was = ap standing put.was ∙ standing_behind put.front (l ∷ put.back) [];
    among = inl of_section;
    in_table = put.in_table;
    last = more_same manner.layout q put.section_at put.back (xs ++ named_by xs n l.expr) (n + 1) there ∙ put.last;
    is =
        ap standing put.is ∙ standing_behind put.front (lines.line_put (lines.spacing_behind manner l) put.key v manner l put.back) []
        ∙ ap (λ r. standing put.front ++ r)
        (stands are
        ∙ ap (λ s. line_put put.section_at s put.key (value_outline v) manner (line_stands xs l) (line_outline l).newline ++ behind) spaced);
  }

pub insert_stands_among : InsertStandsAmong
insert_stands_among q name v manner ls are some has =
    among_puts q name v manner ls (tree.insert_in q name v manner ls) (among_place q name v manner ls some has) are
