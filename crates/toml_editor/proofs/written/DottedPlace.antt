-- Where the new line of an `insert` in a table that dotted keys make stands.
use Rattle.std.proofs.Common.{◌≡◌, ◌∙◌, ℕ, ◌+◌, Bool, true, false, ◌||◌, List, [], ◌∷◌, ◌++◌, length, refl, sym, ap, subst, subst₂, true≢false, append_assoc, append-nil}
use Rattle.std.specs.List.{list_any}
use Rattle.std.proofs.lemmas.Bool.{cond-true, cond-false}
use Rattle.toml_tree.specs.Spells.{EachIs}
use Rattle.toml_tree.specs.Tree.{Value, Expr, BlankLine, KeyValLine, TableLine, ArrayTableLine, Line}
use Rattle.toml_names.specs.mentions.Keys.{Key, key_names}
use Rattle.toml_names.specs.mentions.Mentions.{Named, named, named_by, section}
use Rattle.toml_names.specs.model.Addresses.{Address, below, child, is_above}
use Rattle.toml_names.specs.reader.Names.{own_address}
use Rattle.toml_units.specs.Units.{line_base}
use Rattle.toml_layout.specs.declared.layout.Layout.{Layout}
use Rattle.toml_layout.specs.declared.layout.Layout.TheVariants as layouts
use Rattle.toml_layout.specs.Spacings.{Spacing}
use Rattle.toml_working.specs.declared.lines.Sought.TheVariants as sought
use Rattle.toml_working.specs.DottedTables.{StandsInTable, stands_in_table}
use Rattle.toml_working.specs.Inserting.{has_pair, line_put, put_last, spacing_behind}
use Rattle.toml_working.specs.InsertingInTables.{has_in_table, has_more, insert_among, insert_in, is_maker_of, key_behind}
use Rattle.toml_working.specs.Manners.{Manner}
use Rattle.toml_working.specs.Premises.{HasDotted}
use Rattle.toml_working.specs.Seeing.{is_sought_line}
use Rattle.toml_working.specs.Standing.{line_stands, standing_from}
use Rattle.toml_editor.proofs.written.Alike.{section_pair}
use Rattle.toml_editor.proofs.written.BelowPlace.{IsKeyed, standing_next}
use Rattle.toml_editor.proofs.written.DocumentSections.{named_next}
use Rattle.toml_editor.proofs.written.DottedKeys.{Makes, child_below, key_behind_is, maker_keys}
use Rattle.toml_editor.proofs.written.FreshKeys.{HasNames}
use Rattle.toml_editor.proofs.written.InsertPlace.{IsHeadless, pair_heads}

-- ---- a section goes on

-- a line without a header leaves it
pub section_line : (xs : List Named) (n : ℕ) (e : Expr) → IsHeadless e → section (xs ++ named_by xs n e) ≡ section xs
section_line xs n (BlankLine b) head = ap section (append-nil xs)
section_line xs n (KeyValLine ws pair tail) head = section_pair xs n (section xs) pair.assign pair.value
section_line xs n (TableLine ws header tail) head = absurd head
section_line xs n (ArrayTableLine ws header tail) head = absurd head

pub section_next : (before : List Line) (l : Line) → IsHeadless l.expr → section (named (before ++ l ∷ [])) ≡ section (named before)
section_next before l head = ap section (named_next before l) ∙ section_line (named before) (length before) l.expr head

-- so do some
pub section_stays : (ls before : List Line) → EachIs (λ (l : Line). IsHeadless l.expr) ls → section (named (before ++ ls)) ≡ section (named before)
section_stays [] before heads = ap (λ bs. section (named bs)) (append-nil before)
section_stays (l ∷ ls) before heads =
    ap (λ bs. section (named bs)) (sym (append_assoc before (l ∷ []) ls)) ∙ section_stays ls (before ++ l ∷ []) heads.1 ∙ section_next before l heads.0

pub keyed_head : (e : Expr) → IsKeyed e → IsHeadless e
keyed_head (BlankLine b) keyed = absurd keyed
keyed_head (KeyValLine ws pair tail) keyed = tt
keyed_head (TableLine ws header tail) keyed = absurd keyed
keyed_head (ArrayTableLine ws header tail) keyed = absurd keyed

-- ---- the last line behind which the new one may go

module _ (layout : Layout) (s q : Address) where
  -- a line with a key and a value in that section, by layout `Follow` below the table
  abbrev IsWithin : Layout → Expr → Type 0
  IsWithin layouts.Plain e = Unit {0}
  IsWithin layouts.Follow (KeyValLine ws pair tail) = is_above q (below s (key_names pair.assign.key)) ≡ true
  IsWithin layouts.Follow e = Unit {0}

  none_left : has_more layout s q [] ≡ false
  none_left = by layout
    where
      by : (o : Layout) → has_more o s q [] ≡ false
      by layouts.Plain = refl
      by layouts.Follow = refl

  in_table_heads : (l : Line) (ls : List Line) → has_in_table s q (l ∷ ls) ≡ true → IsHeadless l.expr
  in_table_heads l ls is = by l.expr is
    where
      by : (e : Expr) → elim e [
        | BlankLine b ↦ has_in_table s q ls
        | KeyValLine ws pair tail ↦ is_above q (below s (key_names pair.assign.key)) || has_in_table s q ls
        | TableLine ws header tail ↦ false
        | ArrayTableLine ws header tail ↦ false
      ] ≡ true → IsHeadless e
      by (BlankLine b) h = tt
      by (KeyValLine ws pair tail) h = tt
      by (TableLine ws header tail) h = absurd (true≢false (sym h))
      by (ArrayTableLine ws header tail) h = absurd (true≢false (sym h))

  more_heads : (l : Line) (ls : List Line) → has_more layout s q (l ∷ ls) ≡ true → IsHeadless l.expr
  more_heads l ls is = by layout is
    where
      by : (o : Layout) → has_more o s q (l ∷ ls) ≡ true → IsHeadless l.expr
      by layouts.Plain h = pair_heads l ls h
      by layouts.Follow h = in_table_heads l ls h

  pair_keyed : (l : Line) (ls : List Line) → has_pair (l ∷ ls) ≡ true → has_pair ls ≡ false → IsKeyed l.expr
  pair_keyed l ls is none = by l.expr is
    where
      by : (e : Expr) → elim e [ BlankLine b ↦ has_pair ls | KeyValLine ws pair tail ↦ true | TableLine ws header tail ↦ false | ArrayTableLine ws header tail ↦ false ] ≡ true
          → IsKeyed e
      by (BlankLine b) h = absurd (true≢false (sym h ∙ none))
      by (KeyValLine ws pair tail) h = tt
      by (TableLine ws header tail) h = absurd (true≢false (sym h))
      by (ArrayTableLine ws header tail) h = absurd (true≢false (sym h))

  first_of : (a b : Bool) → (a || b) ≡ true → b ≡ false → a ≡ true
  first_of true b h none = refl
  first_of false b h none = absurd (true≢false (sym h ∙ none))

  in_table_keyed : (l : Line) (ls : List Line) → has_in_table s q (l ∷ ls) ≡ true → has_in_table s q ls ≡ false → IsKeyed l.expr × IsWithin layouts.Follow l.expr
  in_table_keyed l ls is none = by l.expr is
    where
      by : (e : Expr) → elim e [
        | BlankLine b ↦ has_in_table s q ls
        | KeyValLine ws pair tail ↦ is_above q (below s (key_names pair.assign.key)) || has_in_table s q ls
        | TableLine ws header tail ↦ false
        | ArrayTableLine ws header tail ↦ false
      ] ≡ true → IsKeyed e × IsWithin layouts.Follow e
      by (BlankLine b) h = absurd (true≢false (sym h ∙ none))
      by (KeyValLine ws pair tail) h = (tt, first_of (is_above q (below s (key_names pair.assign.key))) (has_in_table s q ls) h none)
      by (TableLine ws header tail) h = absurd (true≢false (sym h))
      by (ArrayTableLine ws header tail) h = absurd (true≢false (sym h))

  last_keyed : (l : Line) (ls : List Line) → has_more layout s q (l ∷ ls) ≡ true → has_more layout s q ls ≡ false → IsKeyed l.expr × IsWithin layout l.expr
  last_keyed l ls is none = by layout is none
    where
      by : (o : Layout) → has_more o s q (l ∷ ls) ≡ true → has_more o s q ls ≡ false → IsKeyed l.expr × IsWithin o l.expr
      by layouts.Plain h n = (pair_keyed l ls h n, tt)
      by layouts.Follow h n = in_table_keyed l ls h n

  -- such a line stands below the table
  within_stands : (xs : List Named) (l : Line) → section xs ≡ s → IsKeyed l.expr → IsWithin layout l.expr → StandsInTable layout q (line_stands xs l)
  within_stands xs l there keyed within = by layout within
    where
      follow : (e : Expr) → l.expr ≡ e → IsKeyed e → IsWithin layouts.Follow e → stands_in_table q (line_base xs l.expr) (own_address xs l.expr) ≡ true
      follow (BlankLine b) is k w = absurd k
      follow (KeyValLine ws pair tail) is k w =
          ap (λ e. stands_in_table q (line_base xs e) (own_address xs e)) is ∙ ap (λ a. is_above q (below a (key_names pair.assign.key))) there ∙ w
      follow (TableLine ws header tail) is k w = absurd k
      follow (ArrayTableLine ws header tail) is k w = absurd k

      by : (o : Layout) → IsWithin o l.expr → StandsInTable o q (line_stands xs l)
      by layouts.Plain w = tt
      by layouts.Follow w = follow l.expr refl keyed w

  module _ (key : Key) (v : Value) (manner : Manner) (spacing : Line → Spacing) where
    abbrev put : List Line → List Line
    put = put_last (has_more layout s q) spacing key v manner

    record IsLastOne (old new : List Line) : Type 0 where
      mid : List Line
      line : Line
      back : List Line
      was : old ≡ mid ++ line ∷ back
      headless : EachIs (λ (l : Line). IsHeadless l.expr) mid
      keyed : IsKeyed line.expr
      within : IsWithin layout line.expr
      last : has_more layout s q back ≡ false
      is : new ≡ mid ++ line_put (spacing line) key v manner line back

    last_one : (ls : List Line) → has_more layout s q ls ≡ true → IsLastOne ls (put ls)
    last_one [] has = absurd (true≢false (sym has ∙ none_left))
    last_one (l ∷ ls) has = by (has_more layout s q ls) refl (last_one ls)
      where
        by : (b : Bool) → has_more layout s q ls ≡ b → (has_more layout s q ls ≡ true → IsLastOne ls (put ls)) → IsLastOne (l ∷ ls) (put (l ∷ ls))
        by true here more =
            let found = more here in
            record {
              mid = l ∷ found.mid;
              line = found.line;
              back = found.back;
              was = ap (λ r. l ∷ r) found.was;
              headless = (more_heads l ls has, found.headless);
              keyed = found.keyed;
              within = found.within;
              last = found.last;
              is = cond-true _ _ _ here ∙ ap (λ r. l ∷ r) found.is;
            }
        by false here more =
            let (keyed, within) = last_keyed l ls has here in
            record { mid = []; line = l; back = ls; was = refl; headless = tt; keyed = keyed; within = within; last = here; is = cond-false _ _ _ here }

-- ---- the place

module _ (q : Address) (name : List ℕ) (v : Value) (manner : Manner) where
  -- Behind a line with a key and a value, in a section of which a line before it, or the line itself, makes the table by its dotted key.
  pub record IsPutAmong (old new : List Line) : Type 0 where
    pub section_at : Address
    pub key : Key
    pub some : HasNames key
    pub same : child q name ≡ below section_at key
    pub before : List Line
    pub maker : Line
    pub mid : List Line
    pub makes : is_sought_line sought.Dotted q (line_stands (named before) maker) ≡ true
    pub made_in : section (named before) ≡ section_at
    pub headless : EachIs (λ (l : Line). IsHeadless l.expr) mid
    pub front : List Line
    pub line : Line
    pub back : List Line
    pub parts : before ++ maker ∷ mid ≡ front ++ line ∷ []
    pub keyed : IsKeyed line.expr
    pub in_table : StandsInTable manner.layout q (line_stands (named front) line)
    pub last : has_more manner.layout section_at q back ≡ false
    pub was : old ≡ front ++ line ∷ back
    pub is : new ≡ front ++ line_put (spacing_behind manner line) key v manner line back
    pub section_is : section (named (front ++ line ∷ [])) ≡ section_at

  module _ (before : List Line) (maker : Line) (ls : List Line) (makes : is_sought_line sought.Dotted q (line_stands (named before) maker) ≡ true) where
    abbrev xs : List Named
    xs = named before

    abbrev s : Address
    s = section xs

    abbrev key : Key
    key = key_behind (length s) (child q name)

    abbrev New : List Line
    New = before ++ put_last (has_more manner.layout s q) (spacing_behind manner) key v manner (maker ∷ ls)

    made : Makes q xs maker.expr
    made = maker_keys q xs maker makes

    -- the key has the names from the section to the new one
    child_is : child q name ≡ below s (made.key.0 ∷ (made.key.1 ++ name ∷ []))
    child_is = ap (λ a. child a name) made.key.2 ∙ child_below s (made.key.0 ∷ made.key.1) name

    key_is : key ≡ made.key.0 ∷ (made.key.1 ++ name ∷ [])
    key_is = ap (key_behind (length s)) child_is ∙ key_behind_is s (made.key.0 ∷ (made.key.1 ++ name ∷ []))

    key_some : HasNames key
    key_some = (made.key.0, made.key.1 ++ name ∷ [], key_is)

    key_same : child q name ≡ below s key
    key_same = child_is ∙ ap (below s) (sym key_is)

    maker_keyed : IsKeyed maker.expr
    maker_keyed = subst IsKeyed (sym made.is) tt

    maker_within : IsWithin manner.layout s q manner.layout maker.expr
    maker_within = by manner.layout
      where
        by : (o : Layout) → IsWithin manner.layout s q o maker.expr
        by layouts.Plain = tt
        by layouts.Follow = subst (IsWithin manner.layout s q layouts.Follow) (sym made.is) made.above

    maker_head : IsHeadless maker.expr
    maker_head = keyed_head maker.expr maker_keyed

    section_is_kept : (mid : List Line) → EachIs (λ (l : Line). IsHeadless l.expr) mid → section (named (before ++ maker ∷ mid)) ≡ s
    section_is_kept mid heads = section_stays (maker ∷ mid) before (maker_head, heads)

    maker_place : IsPutAmong (before ++ maker ∷ ls) New
    maker_place = by (has_more manner.layout s q ls) refl
      where
        by : (b : Bool) → has_more manner.layout s q ls ≡ b → IsPutAmong (before ++ maker ∷ ls) New
        by false none = record {
          section_at = s;
          key = key;
          some = key_some;
          same = key_same;
          before = before;
          maker = maker;
          mid = [];
          makes = makes;
          made_in = refl;
          headless = tt;
          front = before;
          line = maker;
          back = ls;
          parts = refl;
          keyed = maker_keyed;
          in_table = within_stands manner.layout s q xs maker refl maker_keyed maker_within;
          last = none;
          was = refl;
          is = ap (λ r. before ++ r) (cond-false _ _ _ none);
          section_is = section_is_kept [] tt;
        }
        by true has =
            let one = last_one manner.layout s q key v manner (spacing_behind manner) ls has in
            let front = before ++ maker ∷ one.mid in
            let one_head = keyed_head one.line.expr one.keyed in
            record {
              section_at = s;
              key = key;
              some = key_some;
              same = key_same;
              before = before;
              maker = maker;
              mid = one.mid ++ one.line ∷ [];
              makes = makes;
              made_in = refl;
              headless = each_join one.mid one.line one.headless one_head;
              front = front;
              line = one.line;
              back = one.back;
              parts = sym (append_assoc before (maker ∷ one.mid) (one.line ∷ []));
              keyed = one.keyed;
              in_table = within_stands manner.layout s q (named front) one.line (section_is_kept one.mid one.headless) one.keyed one.within;
              last = one.last;
              was = ap (λ r. before ++ maker ∷ r) one.was ∙ sym (append_assoc before (maker ∷ one.mid) (one.line ∷ one.back));
              is =
                  ap (λ r. before ++ r) (cond-true _ _ _ has ∙ ap (λ r. maker ∷ r) one.is)
                  ∙ sym (append_assoc before (maker ∷ one.mid) (line_put (spacing_behind manner one.line) key v manner one.line one.back));
              section_is = section_next front one.line one_head ∙ section_is_kept one.mid one.headless;
            }
          where
            each_join : (mid : List Line) (l : Line) → EachIs (λ (m : Line). IsHeadless m.expr) mid → IsHeadless l.expr
                → EachIs (λ (m : Line). IsHeadless m.expr) (mid ++ l ∷ [])
            each_join [] l heads head = (head, tt)
            each_join (m ∷ mid) l heads head = (heads.0, each_join mid l heads.1 head)

  among_from : (ls before : List Line) → list_any (is_sought_line sought.Dotted q) (standing_from (named before) (length before) ls) ≡ true
      → IsPutAmong (before ++ ls) (before ++ insert_among q name v manner before ls)
  among_from [] before there = absurd (true≢false (sym there))
  among_from (l ∷ ls) before there = by (is_maker_of q before l) refl there (λ more. among_from ls (before ++ l ∷ []) more)
    where
      next : list_any (is_sought_line sought.Dotted q) (standing_from (named before ++ named_by (named before) (length before) l.expr) (length before + 1) ls)
          ≡ list_any (is_sought_line sought.Dotted q) (standing_from (named (before ++ l ∷ [])) (length (before ++ l ∷ [])) ls)
      next = ap (list_any (is_sought_line sought.Dotted q)) (standing_next before l ls)

      by : (b : Bool) → is_maker_of q before l ≡ b
          → (b || list_any (is_sought_line sought.Dotted q) (standing_from (named before ++ named_by (named before) (length before) l.expr) (length before + 1) ls)) ≡ true
          → (list_any (is_sought_line sought.Dotted q) (standing_from (named (before ++ l ∷ [])) (length (before ++ l ∷ [])) ls) ≡ true
          → IsPutAmong ((before ++ l ∷ []) ++ ls) ((before ++ l ∷ []) ++ insert_among q name v manner (before ++ l ∷ []) ls))
          → IsPutAmong (before ++ l ∷ ls) (before ++ insert_among q name v manner before (l ∷ ls))
      by true is h more = subst (λ r. IsPutAmong (before ++ l ∷ ls) (before ++ r)) (sym (cond-true _ _ _ is)) (maker_place before l ls is)
      by false is h more =
          subst₂ IsPutAmong (append_assoc before (l ∷ []) ls)
          (append_assoc before (l ∷ []) (insert_among q name v manner (before ++ l ∷ []) ls) ∙ ap (λ r. before ++ r) (sym (cond-false _ _ _ is)))
          (more (sym next ∙ h))

-- Where no line is a header of the table, and a dotted key makes it, the new line goes there.
pub among_place : (q : Address) (name : List ℕ) (v : Value) (manner : Manner) (lines : List Line) → ¬ (q ≡ []) → HasDotted lines q
    → IsPutAmong q name v manner lines (insert_in q name v manner lines)
among_place [] name v manner lines some has = absurd (some refl)
among_place (t ∷ q) name v manner lines some has =
    subst (IsPutAmong (t ∷ q) name v manner lines) (sym (cond-false _ _ _ has.no_header ∙ cond-true _ _ _ has.dotted))
    (among_from (t ∷ q) name v manner lines [] has.dotted)
