-- The units after one line more.
use Rattle.std.proofs.Common.{◌≡◌, ℕ, ◌+◌, Some, None, List, [], ◌∷◌, ◌++◌, length, refl, sym, ap, ap₂, ◌∙◌, append_assoc, append-nil, ◌⊎◌, inl, inr, ◌<◌, zero, suc, arith, Option}
use Rattle.std.specs.Prelude.{slice_get}
use Rattle.toml_tree.specs.Tree.{Piece, Expr, BlankLine, KeyValLine, TableLine, ArrayTableLine, Line}
use Rattle.toml_names.specs.model.Addresses.{Address, below}
use Rattle.toml_names.specs.reader.Names.{own_address}
use Rattle.toml_names.specs.mentions.Keys.{key_names}
use Rattle.toml_names.specs.mentions.Mentions.{Named, named_by, named_from, section}
use Rattle.toml_units.specs.Units.{TextUnit, line_units, inside, comment_units, units_from}
use Rattle.toml_units.specs.declared.unit.UnitKind.TheVariants as kinds
use Rattle.toml_editor.specs.UnitBlocks.{BeginWithLine, IsBlockPut}
use Rattle.toml_editor.proofs.written.LastLines.{LastIsFull, full_behind}
use Rattle.toml_editor.proofs.written.WayBlock.{inside_lines, lines_append}
use Rattle.toml_editor.proofs.written.WayFits.{newlines}
use Rattle.toml_editor.proofs.written.WayZip.{lines_in}

pub lines_first : (ls : List Line) (xs : List Named) (n : ℕ) → BeginWithLine (units_from xs n ls)
lines_first [] xs n = tt
lines_first (l ∷ ls) xs n = refl

-- The newlines of the lines in front and behind stay where the block is put in, but for that of a last line; where that is formed, it has
-- a byte.
pub record IsPutWell (Formed : Type 0) (old block new : List TextUnit) (before after : List (List ℕ)) : Type 0 where
  pub put : IsBlockPut old block new
  pub front_ends : (a : ℕ) → a < lines_in put.front → (slice_get before a ≡ slice_get after a) ⊎ (a + 1 ≡ length before)
  pub back_ends : (a : ℕ) → slice_get before (lines_in put.front + a) ≡ slice_get after (lines_in put.front + (lines_in block + a))
  pub full : Formed → put.back ≡ [] → LastIsFull put.front

one_and : {n : ℕ} → n ≡ 0 → 1 + n ≡ 1
one_and {n} is = omega (arith, is)

comment_lines : (at : Option Address) (o : Option Piece) → lines_in (comment_units kinds.TailComment at o) ≡ 0
comment_lines at None = refl
comment_lines at (Some p) = refl

pub line_lines : (xs : List Named) (e : Expr) → lines_in (line_units xs e) ≡ 1
line_lines xs (BlankLine b) = one_and (comment_lines None b.comment)
line_lines xs (KeyValLine ws k b) =
    let at = below (section xs) (key_names k.assign.key) in
    one_and (lines_append (inside at k.value) (comment_units kinds.TailComment (Some at) b.comment) ∙ ap₂ (λ x y. x + y) (inside_lines at k.value) (comment_lines (Some at) b.comment))
line_lines xs (TableLine ws h b) = one_and (comment_lines (own_address xs (TableLine ws h b)) b.comment)
line_lines xs (ArrayTableLine ws h b) = one_and (comment_lines (own_address xs (ArrayTableLine ws h b)) b.comment)

pub some_lines : (xs : List Named) (n : ℕ) (l : Line) (ls : List Line) → 0 < lines_in (units_from xs n (l ∷ ls))
some_lines xs n l ls = let both = lines_append (line_units xs l.expr)
    (units_from (xs ++ named_by xs n l.expr) (n + 1) ls) in let one = line_lines xs l.expr in omega (arith, both, one)

abbrev pub put_behind : (Formed : Type 0) (us old block new : List TextUnit) (before after : List (List ℕ)) (newline : List ℕ) → lines_in us ≡ 1 → 0 < lines_in old
    → IsPutWell Formed old block new before after
    → IsPutWell Formed (us ++ old) block (us ++ new) (newline ∷ before) (newline ∷ after)
put_behind Formed us old block new before after newline one some h =
    let put = h.put in
    let all : lines_in (us ++ put.front) ≡ suc (lines_in put.front) = lines_append us put.front ∙ ap (λ n. n + lines_in put.front) one ∙ (let e : 1 + lines_in put.front ≡ suc (lines_in put.front) = omega arith in e) in
    record {
      put = record {
        front = us ++ put.front;
        back = put.back;
        before = ap (λ l. us ++ l) put.before ∙ sym (append_assoc us put.front put.back);
        after = ap (λ l. us ++ l) put.after ∙ sym (append_assoc us put.front (block ++ put.back));
        next = put.next;
      };
      front_ends = λ a low. ends a (omega (arith, low, all));
      back_ends = λ a.
          ap (slice_get (newline ∷ before)) (let e : lines_in (us ++ put.front) + a ≡ suc (lines_in put.front + a) = omega (arith, all) in e)
          ∙ h.back_ends a
          ∙ ap (slice_get (newline ∷ after)) (let e : suc (lines_in put.front + (lines_in block + a)) ≡ lines_in (us ++ put.front) + (lines_in block + a) = omega (arith, all) in e);
      full = λ formed none.
          let is : lines_in old ≡ lines_in put.front = ap lines_in (put.before ∙ ap (λ b. put.front ++ b) none ∙ append-nil put.front) in
          full_behind us put.front (omega (arith, some, is)) (h.full formed none);
    }
  where
    ends : (a : ℕ) → a < suc (lines_in h.put.front) → (slice_get (newline ∷ before) a ≡ slice_get (newline ∷ after) a) ⊎ (a + 1 ≡ length (newline ∷ before))
    ends zero low = inl refl
    ends (suc a) low = elim (h.front_ends a (omega (arith, low))) [ inl is ↦ inl is | inr last ↦ inr (omega (arith, last)) ]

-- ---- the units of one line more, whatever stands on it

-- before lines that have the same units behind it
pub put_before : (Formed : Type 0) (e : Expr) (block : List TextUnit) (xs : List Named) (n m : ℕ) (ls : List Line) (ending : List ℕ)
    → line_units xs e ≡ block → units_from xs n ls ≡ units_from (xs ++ named_by xs m e) (m + 1) ls
    → IsPutWell Formed (units_from xs n ls) block (line_units xs e ++ units_from (xs ++ named_by xs m e) (m + 1) ls)
    (newlines ls) (ending ∷ newlines ls)
put_before Formed e block xs n m ls ending own same = record {
  put = record {
    front = [];
    back = units_from xs n ls;
    before = refl;
    after = ap₂ (λ t u. t ++ u) own (sym same);
    next = lines_first ls xs n;
  };
  front_ends = λ a low. let e : ⊥ = omega (arith, low) in absurd e;
  back_ends = λ a.
      ap (slice_get (newlines ls)) (let e : 0 + a ≡ a = omega arith in e)
      ∙ ap (slice_get (ending ∷ newlines ls)) (let one = one_block own in let e : suc a ≡ 0 + (lines_in block + a) = omega (arith, one) in e);
  full = λ formed none. tt;
}
  where
    one_block : line_units xs e ≡ block → lines_in block ≡ 1
    one_block is = ap lines_in (sym is) ∙ line_lines xs e

-- behind a last line, which gets a newline
abbrev pub put_end : (Formed : Type 0) (l : Line) (block us : List TextUnit) (xs : List Named) (ending : List ℕ) (ends : List (List ℕ)) → us ≡ block
    → ((a : ℕ) → slice_get ends (lines_in block + a) ≡ None) → (Formed → LastIsFull (line_units xs l.expr))
    → IsPutWell Formed (line_units xs l.expr ++ []) block (line_units xs l.expr ++ us) (l.newline.text ∷ []) (ending ∷ ends)
put_end Formed l block us xs ending ends own past full = record {
  put = record {
    front = line_units xs l.expr;
    back = [];
    before = refl;
    after = ap (λ b. line_units xs l.expr ++ b) (own ∙ sym (append-nil block));
    next = tt;
  };
  front_ends = λ a low. let one = line_lines xs l.expr in inr (omega (arith, low, one));
  back_ends = λ a.
      ap (slice_get (l.newline.text ∷ [])) (count a) ∙ sym (past a) ∙ ap (slice_get (ending ∷ ends)) (sym (count (lines_in block + a)));
  full = λ formed none. full formed;
}
  where
    count : (a : ℕ) → lines_in (line_units xs l.expr) + a ≡ suc a
    count a = let one = line_lines xs l.expr in omega (arith, one)

-- one line
pub put_last : (Formed : Type 0) (l : Line) (e : Expr) (block : List TextUnit) (xs : List Named) (n : ℕ) (ending : List ℕ)
    → line_units (xs ++ named_by xs n l.expr) e ≡ block → (Formed → LastIsFull (line_units xs l.expr))
    → IsPutWell Formed (line_units xs l.expr ++ []) block (line_units xs l.expr ++ (line_units (xs ++ named_by xs n l.expr) e ++ []))
    (l.newline.text ∷ []) (ending ∷ [] ∷ [])
put_last Formed l e block xs n ending own full =
    let one : lines_in block ≡ 1 = ap lines_in (sym own) ∙ line_lines (xs ++ named_by xs n l.expr) e in
    put_end Formed l block (line_units (xs ++ named_by xs n l.expr) e ++ []) xs ending ([] ∷ []) (append-nil (line_units (xs ++ named_by xs n l.expr) e) ∙ own)
    (λ a. ap (slice_get ([] ∷ [])) (let e : lines_in block + a ≡ suc a = omega (arith, one) in e)) full

-- where it is put in so behind what was named before, and with some lines, it is behind all lines in front
module _ (Formed : Type 0) (block : List TextUnit) (l : Line) (back new some : List Line) (Here : List Named → Type 0)
    (here : (xs : List Named) (n : ℕ) → Here (named_from xs n some)
    → IsPutWell Formed (units_from xs n (l ∷ back)) block (units_from xs n new) (newlines (l ∷ back)) (newlines new)) where
  some_units : (front : List Line) (xs : List Named) (n : ℕ) → 0 < lines_in (units_from xs n (front ++ l ∷ back))
  some_units [] xs n = some_lines xs n l back
  some_units (m ∷ front) xs n = some_lines xs n m (front ++ l ∷ back)

  pub put_among : (front : List Line) (xs : List Named) (n : ℕ) → Here (named_from xs n (front ++ some))
      → IsPutWell Formed (units_from xs n (front ++ l ∷ back)) block (units_from xs n (front ++ new)) (newlines (front ++ l ∷ back)) (newlines (front ++ new))
  put_among [] xs n there = here xs n there
  put_among (m ∷ front) xs n there =
      put_behind Formed (line_units xs m.expr) _ block _ (newlines (front ++ l ∷ back)) (newlines (front ++ new)) m.newline.text (line_lines xs m.expr)
      (some_units front (xs ++ named_by xs n m.expr) (n + 1)) (put_among front (xs ++ named_by xs n m.expr) (n + 1) there)

  -- all stands in front of it, if it does so where it is put in
  pub among_back : ((xs : List Named) (n : ℕ) (there : Here (named_from xs n some)) → (here xs n there).put.back ≡ [])
      → (front : List Line) (xs : List Named) (n : ℕ) (there : Here (named_from xs n (front ++ some))) → (put_among front xs n there).put.back ≡ []
  unfolding put_among
  among_back none [] xs n there = none xs n there
  among_back none (m ∷ front) xs n there = among_back none front (xs ++ named_by xs n m.expr) (n + 1) there

-- the lines in the forms are formed
pub formed_well : (Formed Other : Type 0) (old new block : List TextUnit) (before after : List (List ℕ)) → (Other → Formed) → IsPutWell Formed old block new before after
    → IsPutWell Other old block new before after
formed_well Formed Other old new block before after from well =
    record { put = well.put; front_ends = well.front_ends; back_ends = well.back_ends; full = λ formed none. well.full (from formed) none }
