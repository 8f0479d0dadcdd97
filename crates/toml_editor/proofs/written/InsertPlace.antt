-- Where the new line of an `insert` at the root stands.
use Rattle.std.proofs.Common.{◌≡◌, ◌⊎◌, inl, inr, ℕ, Bool, true, false, ◌&&◌, List, [], ◌∷◌, ◌++◌, refl, sym, ap, ◌∙◌, subst, true≢false}
use Rattle.std.proofs.lemmas.Bool.{cond-true, cond-false}
use Rattle.std.specs.Prelude.{is_some}
use Rattle.toml_tree.specs.Spells.{EachIs}
use Rattle.toml_tree.specs.Tree.{Value, Expr, BlankLine, KeyValLine, TableLine, ArrayTableLine, Line}
use Rattle.toml_layout.specs.declared.layout.Layout.{Layout}
use Rattle.toml_layout.specs.declared.layout.Layout.TheVariants as layouts
use Rattle.toml_working.specs.Inserting.{comments_end, goes_below, has_comment, has_pair, insert_behind, insert_lines, is_comment, line_behind, new_line}
use Rattle.toml_working.specs.Manners.{Manner}
use Rattle.toml_layout.specs.Spacings.{plain_spacing}

-- no header stands on the line
abbrev pub IsHeadless : Expr → Type 0
IsHeadless (BlankLine b) = Unit {0}
IsHeadless (KeyValLine ws pair tail) = Unit {0}
IsHeadless (TableLine ws header tail) = ⊥
IsHeadless (ArrayTableLine ws header tail) = ⊥

-- a key, a header or a comment does
abbrev pub IsFull : Expr → Type 0
IsFull (BlankLine b) = is_some b.comment ≡ true
IsFull (KeyValLine ws pair tail) = Unit {0}
IsFull (TableLine ws header tail) = Unit {0}
IsFull (ArrayTableLine ws header tail) = Unit {0}

-- ---- the lines that are meant

pub pair_heads : (l : Line) (ls : List Line) → has_pair (l ∷ ls) ≡ true → IsHeadless l.expr
pair_heads l ls is = by l.expr is
  where
    by : (e : Expr) → elim e [ BlankLine b ↦ has_pair ls | KeyValLine ws pair tail ↦ true | TableLine ws header tail ↦ false | ArrayTableLine ws header tail ↦ false ] ≡ true → IsHeadless e
    by (BlankLine b) h = tt
    by (KeyValLine ws pair tail) h = tt
    by (TableLine ws header tail) h = absurd (true≢false (sym h))
    by (ArrayTableLine ws header tail) h = absurd (true≢false (sym h))

pair_full : (l : Line) (ls : List Line) → has_pair (l ∷ ls) ≡ true → has_pair ls ≡ false → IsFull l.expr
pair_full l ls is none = by l.expr is
  where
    by : (e : Expr) → elim e [ BlankLine b ↦ has_pair ls | KeyValLine ws pair tail ↦ true | TableLine ws header tail ↦ false | ArrayTableLine ws header tail ↦ false ] ≡ true → IsFull e
    by (BlankLine b) h = absurd (true≢false (sym h ∙ none))
    by (KeyValLine ws pair tail) h = tt
    by (TableLine ws header tail) h = absurd (true≢false (sym h))
    by (ArrayTableLine ws header tail) h = absurd (true≢false (sym h))

comment_head : (e : Expr) → is_comment e ≡ true → IsHeadless e
comment_head (BlankLine b) h = tt
comment_head (KeyValLine ws pair tail) h = tt
comment_head (TableLine ws header tail) h = absurd (true≢false (sym h))
comment_head (ArrayTableLine ws header tail) h = absurd (true≢false (sym h))

comment_full : (e : Expr) → is_comment e ≡ true → IsFull e
comment_full (BlankLine b) h = h
comment_full (KeyValLine ws pair tail) h = tt
comment_full (TableLine ws header tail) h = absurd (true≢false (sym h))
comment_full (ArrayTableLine ws header tail) h = absurd (true≢false (sym h))

pub comment_heads : (l : Line) (ls : List Line) → has_comment (l ∷ ls) ≡ true → IsHeadless l.expr
comment_heads l ls is = comment_head l.expr is

both_first : (a b : Bool) → (a && b) ≡ true → a ≡ true
both_first true b h = refl
both_first false b h = h

pub below_has : (layout : Layout) (ls : List Line) → goes_below layout ls ≡ true → has_comment ls ≡ true
below_has layouts.Plain ls is = absurd (true≢false (sym is))
below_has layouts.Follow ls is = both_first (has_comment ls) (comments_end ls) is

-- ---- the place

module _ (name : List ℕ) (v : Value) (manner : Manner) where
  -- behind one of the lines
  pub record IsBehind (old new : List Line) : Type 0 where
    pub front : List Line
    pub line : Line
    pub back : List Line
    pub before : old ≡ front ++ line ∷ back
    pub after : new ≡ front ++ line_behind name v manner line back
    pub heads : EachIs (λ (m : Line). IsHeadless m.expr) front
    pub head : IsHeadless line.expr
    pub full : IsFull line.expr

  module _ (more : List Line → Bool) (none : more [] ≡ false) (heads : (l : Line) (ls : List Line) → more (l ∷ ls) ≡ true → IsHeadless l.expr)
      (full : (l : Line) (ls : List Line) → more (l ∷ ls) ≡ true → more ls ≡ false → IsFull l.expr) where
    behind_one : (ls : List Line) → more ls ≡ true → IsBehind ls (insert_behind more name v manner ls)
    behind_one [] is = absurd (true≢false (sym is ∙ none))
    behind_one (l ∷ ls) is = by (more ls) refl (behind_one ls)
      where
        by : (b : Bool) → more ls ≡ b → (more ls ≡ true → IsBehind ls (insert_behind more name v manner ls))
            → IsBehind (l ∷ ls) (insert_behind more name v manner (l ∷ ls))
        by true here others =
            let found = others here in
            record {
              front = l ∷ found.front;
              line = found.line;
              back = found.back;
              before = ap (λ r. l ∷ r) found.before;
              after = cond-true _ _ _ here ∙ ap (λ r. l ∷ r) found.after;
              heads = (heads l ls is, found.heads);
              head = found.head;
              full = found.full;
            }
        by false here others = record {
          front = [];
          line = l;
          back = ls;
          before = refl;
          after = cond-false _ _ _ here;
          heads = tt;
          head = heads l ls is;
          full = full l ls is here;
        }

  -- before all lines, or behind one
  pub insert_place : (lines : List Line) → (insert_lines name v manner lines ≡ new_line plain_spacing (name ∷ []) v manner.newline ∷ lines)
      ⊎ IsBehind lines (insert_lines name v manner lines)
  insert_place lines = by (has_pair lines) refl (goes_below manner.layout lines) refl
    where
      by : (a : Bool) → has_pair lines ≡ a → (b : Bool) → goes_below manner.layout lines ≡ b
          → (insert_lines name v manner lines ≡ new_line plain_spacing (name ∷ []) v manner.newline ∷ lines) ⊎ IsBehind lines (insert_lines name v manner lines)
      by true has b below = inr (subst (IsBehind lines) (sym (cond-true _ _ _ has)) (behind_one has_pair refl pair_heads pair_full lines has))
      by false has true below =
          inr (subst (IsBehind lines) (sym (cond-false _ _ _ has ∙ cond-true _ _ _ below))
          (behind_one has_comment refl comment_heads (λ l ls is none. comment_full l.expr is) lines (below_has manner.layout lines below)))
      by false has false below = inl (cond-false _ _ _ has ∙ cond-false _ _ _ below)
