-- The units after the `remove` of a line.
use Rattle.std.proofs.Common.{◌≡◌, ℕ, map, ◌+◌, ◌<◌, ◌==◌, true, false, cond, Option, List, [], ◌∷◌, ◌++◌, length, length-append, refl, sym, ap, ap₂, ◌∙◌, subst, append_assoc, zero, suc, arith}
use Rattle.toml_tree.specs.Spells.{AreLines}
use Rattle.toml_tree.specs.Tree.{Piece, Value, Line}
use Rattle.toml_names.specs.declared.model.address.Step.TheVariants.{Name}
use Rattle.toml_names.specs.model.Addresses.{Address, below}
use Rattle.toml_names.specs.mentions.Keys.{Key}
use Rattle.toml_names.specs.mentions.Alike.{AreAlike}
use Rattle.toml_names.specs.mentions.Mentions.{Named, named, named_by, section}
use Rattle.toml_units.specs.Units.{TextUnit, line_units, units_from, units}
use Rattle.toml_working.specs.Lines.{lines_from}
use Rattle.toml_working.specs.Removing.{remove_line, left_behind, empty_line}
use Rattle.toml_editor.specs.UnitBlocks.{IsBlockTaken, pair_line_units, left_of}
use Rattle.std.specs.Prelude.{slice_get}
use Rattle.toml_names.specs.mentions.Rules.{KeepsRules}
use Rattle.toml_working.specs.Premises.{HasLine}
use Rattle.toml_editor.proofs.written.WayZip.{lines_in}
use Rattle.toml_editor.proofs.written.WayFits.{newlines}
use Rattle.toml_editor.proofs.written.WayBlock.{lines_append}
use Rattle.toml_editor.proofs.written.Alike.{alike_sym, alike_trans}
use Rattle.toml_editor.proofs.written.Formed.{newline_some}
use Rattle.toml_editor.proofs.written.Plain.{next_alike}
use Rattle.toml_editor.proofs.written.RemoveNamed.{Claim, BehindOne, AtOne, by_document, line_block, taken_lines}
use Rattle.toml_editor.proofs.written.UnitsAlike.{units_alike}
use Rattle.toml_editor.proofs.written.UnitsPut.{lines_first, line_lines}

-- the newline of each line but the last has a byte, and the last has none
abbrev AreEnded : List Line → Type 0
AreEnded [] = Unit {0}
AreEnded (l ∷ []) = (length l.newline.text == 0) ≡ true
AreEnded (l ∷ m ∷ ls) = ((length l.newline.text == 0) ≡ false) × AreEnded (m ∷ ls)

ended : (ls : List Line) → AreLines ls → AreEnded ls
ended [] is = tt
ended (l ∷ []) is = ap (λ x. length x == 0) is.1
ended (l ∷ m ∷ ls) is = (newline_some l.newline.text is.1, ended (m ∷ ls) is.2)

later : (l : Line) (ls : List Line) → AreEnded (l ∷ ls) → AreEnded ls
later l [] is = tt
later l (m ∷ ls) is = is.1

module _ (p : Address) where
  -- a key has a part
  deeper : (s : Address) (key : Key) → below s key ≡ p → ¬ (key ≡ []) → length s < length p
  deeper s [] at some = absurd (some refl)
  deeper s (n ∷ ns) at some = let e : length (s ++ Name n ∷ map Name ns) ≡ length s + length (Name n ∷ map Name ns) = length-append s (Name n ∷ map Name ns) in
      let f = ap length at in omega (arith, e, f)

  abbrev gone : List Named → Line → List Line
  gone = remove_line p true

  -- the units of the line are taken out, and the newlines of the other lines stay
  pub record AreTaken (old new : List TextUnit) (before after : List (List ℕ)) : Type 0 where
    pub piece : Piece
    pub base : ℕ
    pub low : base < length p
    pub value : Value
    pub comment : Option Piece
    pub taken : IsBlockTaken old (pair_line_units piece p base value comment) new
    pub front_ends : (a : ℕ) → a < lines_in taken.front → slice_get before a ≡ slice_get after a
    pub back_ends : (a : ℕ) → a < lines_in taken.back → slice_get before (lines_in taken.front + suc a) ≡ slice_get after (lines_in taken.front + a)

  taken_behind : (us old new : List TextUnit) (before after : List (List ℕ)) (newline : List ℕ) → lines_in us ≡ 1 → AreTaken old new before after → AreTaken (us ++ old) (us ++ new) (newline ∷ before) (newline ∷ after)
  taken_behind us old new before after newline one h =
      let taken = h.taken in
      let all : lines_in (us ++ taken.front) ≡ suc (lines_in taken.front) = lines_append us taken.front ∙ ap (λ n. n + lines_in taken.front) one ∙ (let e : 1 + lines_in taken.front ≡ suc (lines_in taken.front) = omega arith in e) in
      record {
        piece = h.piece;
        base = h.base;
        low = h.low;
        value = h.value;
        comment = h.comment;
        taken = record {
          front = us ++ taken.front;
          back = taken.back;
          before = ap (λ l. us ++ l) taken.before ∙ sym (append_assoc us taken.front (pair_line_units h.piece p h.base h.value h.comment ++ taken.back));
          after = ap (λ l. us ++ l) taken.after ∙ sym (append_assoc us taken.front (left_of taken.back ++ taken.back));
          next = taken.next;
        };
        front_ends = λ a low. ends a (omega (arith, low, all));
        back_ends = λ a low.
            ap (slice_get (newline ∷ before)) (let e : lines_in (us ++ taken.front) + suc a ≡ suc (lines_in taken.front + suc a) = omega (arith, all) in e)
            ∙ h.back_ends a low
            ∙ ap (slice_get (newline ∷ after)) (let e : suc (lines_in taken.front + a) ≡ lines_in (us ++ taken.front) + a = omega (arith, all) in e);
      }
    where
      ends : (a : ℕ) → a < suc (lines_in h.taken.front) → slice_get (newline ∷ before) a ≡ slice_get (newline ∷ after) a
      ends zero low = refl
      ends (suc a) low = h.front_ends a (omega (arith, low))

  left_ends : (xs : List Named) (n : ℕ) (l : Line) (ls : List Line) → AreEnded (l ∷ ls) → (a : ℕ) → a < lines_in (units_from xs n ls) → slice_get (newlines ls) a ≡ slice_get (newlines (left_behind l ++ ls)) a
  left_ends xs n l [] is a low = let e : ⊥ = omega (arith, low) in absurd e
  left_ends xs n l (m ∷ ms) is a low = ap (λ b. slice_get (newlines (cond b (empty_line ∷ []) [] ++ m ∷ ms)) a) (sym is.0)

  -- what is left of a line before some lines
  left_units : (xs : List Named) (n k : ℕ) (l : Line) (ls : List Line) → AreEnded (l ∷ ls) → units_from xs n (left_behind l ++ ls) ≡ left_of (units_from xs k ls) ++ units_from xs n ls
  left_units xs n k l [] is = ap (λ b. units_from xs n (cond b (empty_line ∷ []) [] ++ [])) is
  left_units xs n k l (m ∷ ms) is = ap (λ b. units_from xs n (cond b (empty_line ∷ []) [] ++ m ∷ ms)) is.0

  -- of lines that end as those of a text do
  abbrev Taken : Claim p true
  Taken xs ys n ls = AreEnded ls → AreTaken (units_from xs n ls) (units_from xs n (lines_from gone xs n ls)) (newlines ls) (newlines (lines_from gone xs n ls))

  behind_one : BehindOne p true Taken
  behind_one xs ys n l ls alike stays more is =
      let kept = lines_from gone (xs ++ named_by xs n l.expr) (n + 1) ls in
      subst (λ r. AreTaken (units_from xs n (l ∷ ls)) (units_from xs n (r ++ kept)) (newlines (l ∷ ls)) (newlines (r ++ kept))) (sym stays.0)
      (taken_behind (line_units xs l.expr) (units_from (xs ++ named_by xs n l.expr) (n + 1) ls) (units_from (xs ++ named_by xs n l.expr) (n + 1) kept) (newlines ls) (newlines kept) l.newline.text (line_lines xs l.expr) (more (later l ls is)))

  at_one : AtOne p true Taken
  at_one xs ys n l ls alike goes same is =
      let behind_it : AreAlike xs (xs ++ named_by xs n l.expr) =
      alike_trans xs (ys ++ line_block p (section xs) goes.key goes.value) (xs ++ named_by xs n l.expr)
      (alike_trans xs ys (ys ++ line_block p (section xs) goes.key goes.value) alike (goes.alike ys alike))
      (subst (λ b. AreAlike (ys ++ b) (xs ++ named_by xs n l.expr)) (goes.names ys alike) (alike_sym (xs ++ named_by xs n l.expr) (ys ++ named_by ys 0 l.expr) (next_alike xs ys n l.expr alike))) in
      let us = units_from (xs ++ named_by xs n l.expr) (n + 1) ls in
      let again : units_from xs n ls ≡ us = units_alike ls xs (xs ++ named_by xs n l.expr) n (n + 1) behind_it in
      record {
        piece = goes.units.0;
        base = length (section xs);
        low = deeper (section xs) goes.key goes.at goes.some;
        value = goes.value;
        comment = goes.units.1;
        taken = record {
          front = [];
          back = us;
          before = ap (λ b. b ++ us) goes.units.2;
          after = ap₂ (λ a b. units_from xs n (a ++ b)) goes.gone same ∙ left_units xs n n l ls is ∙ ap (λ r. left_of r ++ r) again;
          next = lines_first ls (xs ++ named_by xs n l.expr) (n + 1);
        };
        front_ends = λ a low. let e : ⊥ = omega (arith, low) in absurd e;
        back_ends = λ a low.
            ap (slice_get (l.newline.text ∷ newlines ls)) (let e : 0 + suc a ≡ suc a = omega arith in e)
            ∙ left_ends (xs ++ named_by xs n l.expr) (n + 1) l ls is a low
            ∙ ap₂ (λ r k. slice_get (newlines r) k) (sym (ap₂ (λ x y. x ++ y) goes.gone same)) (let e : a ≡ 0 + a = omega arith in e);
      }

  pub lines_taken : (lines : List Line) → AreLines lines → HasLine lines p → KeepsRules (named lines)
      → AreTaken (units lines) (units (taken_lines p lines)) (newlines lines) (newlines (taken_lines p lines))
  lines_taken lines is there keeps =
      by_document p true Taken behind_one at_one lines there keeps (ended lines is)
