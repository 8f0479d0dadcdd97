-- A new line in the section of a table, by what finds it.
use Rattle.std.proofs.Common.{◌≡◌, ◌∙◌, inl, inr, ℕ, ◌+◌, Option, Some, None, List, [], ◌∷◌, ◌++◌, length, refl, sym, ap, ap₂, subst}
use Rattle.toml_text.specs.Forms.{IsNewline}
use Rattle.toml_scalar.specs.Spelling.{spelled}
use Rattle.toml_tree.specs.Bare.{fresh}
use Rattle.toml_tree.specs.Spells.{AreLines}
use Rattle.toml_tree.specs.Tree.{Piece, Value, Expr, BlankLine, KeyValLine, TableLine, ArrayTableLine, Line}
use Rattle.toml_names.specs.mentions.Alike.{AreAlike}
use Rattle.toml_names.specs.mentions.Keys.{Key, key_names}
use Rattle.toml_names.specs.mentions.Mentions.{Named, named_by, section}
use Rattle.toml_names.specs.model.Addresses.{Address, below}
use Rattle.toml_names.specs.reader.Names.{own_address}
use Rattle.toml_units.specs.Units.{line_base}
use Rattle.toml_layout.specs.Outlines.{DottedOutline, Pair}
use Rattle.toml_layout.specs.Spacings.{Spacing}
use Rattle.toml_layout.specs.TreeOutlines.{line_outline, value_outline}
use Rattle.toml_working.specs.FreshKeys.{key_named}
use Rattle.toml_working.specs.Inserting as lines
use Rattle.toml_working.specs.InsertStanding.{line_put, new_outline, new_standing_in}
use Rattle.toml_working.specs.Manners.{Manner}
use Rattle.toml_working.specs.Standing.{Standing, line_stands, standing_from}
use Rattle.toml_editor.proofs.written.Alike.{alike_pair, alike_self}
use Rattle.toml_editor.proofs.written.FreshKeys.{key_again, names_outlined}
use Rattle.toml_editor.proofs.written.UnitsAlike.{base_alike, own_alike, step_alike}

-- behind alike lists lines stand alike
pub stand_alike : (ls : List Line) (xs ys : List Named) (n m : ℕ) → AreAlike xs ys → standing_from xs n ls ≡ standing_from ys m ls
stand_alike [] xs ys n m alike = refl
stand_alike (l ∷ ls) xs ys n m alike =
    ap₂ (λ s t. s ∷ t)
    (ap₂ (λ (a : Option Address) (b : Option ℕ). record { address = a; base = b; outline = line_outline l }) (own_alike xs ys alike l.expr) (base_alike xs ys alike l.expr))
    (stand_alike ls (xs ++ named_by xs n l.expr) (ys ++ named_by ys m l.expr) (n + 1) (m + 1) (step_alike xs ys n m l.expr alike))

pub newline_same : (e : Expr) (newline : Piece) → (line_outline (record { expr = e; newline = newline })).newline ≡ newline.text
newline_same (BlankLine t) newline = refl
newline_same (KeyValLine ws pair tail) newline = refl
newline_same (TableLine ws header tail) newline = refl
newline_same (ArrayTableLine ws header tail) newline = refl

pub ends_same : (e : Expr) (newline other : Piece) → line_outline (record { expr = e; newline = other })
    ≡ (let o = line_outline (record { expr = e; newline = newline }) in record o { newline = other.text })
ends_same (BlankLine t) newline other = refl
ends_same (KeyValLine ws pair tail) newline other = refl
ends_same (TableLine ws header tail) newline other = refl
ends_same (ArrayTableLine ws header tail) newline other = refl

module _ (q : Address) (name : List ℕ) (names : Key) (v : Value) (manner : Manner) (s : Spacing) where
  abbrev key : Key
  key = name ∷ names

  new_outlined : (newline : List ℕ) → line_outline (lines.new_line s key v newline) ≡ new_outline s key (value_outline v) newline
  new_outlined newline = ap (λ (r : List DottedOutline). record {
    ws = s.ws;
    expr = Pair (record { first = spelled name; rest = r; before_equals = s.before_equals; after_equals = s.after_equals }) (value_outline v);
    tail = [];
    comment = None;
    newline = newline;
  }) (names_outlined names)

  new_stands : (xs : List Named) (newline : List ℕ) → section xs ≡ q → line_stands xs (lines.new_line s key v newline) ≡ new_standing_in q s key (value_outline v) newline
  new_stands xs newline there =
      ap₂ (λ at o. record { address = Some (below at (key_names (key_named key))); base = Some (length at); outline = o }) there (new_outlined newline)
      ∙ ap (λ k. record { address = Some (below q k); base = Some (length q); outline = new_outline s key (value_outline v) newline }) (key_again name names)

  pub new_first : (xs : List Named) (n m : ℕ) (newline : List ℕ) (ls : List Line) → section xs ≡ q
      → standing_from xs m (lines.new_line s key v newline ∷ ls) ≡ new_standing_in q s key (value_outline v) newline ∷ standing_from xs n ls
  new_first xs n m newline ls there =
      ap₂ (λ x y. x ∷ y) (new_stands xs newline there)
      (sym (stand_alike ls xs (xs ++ named_by xs m (lines.new_expr s key v)) n (m + 1) (alike_pair xs xs (alike_self xs) m (section xs) (lines.new_assign s key) v)))

  put_full : (t : Standing) (newline : List ℕ) → IsNewline newline
      → line_put q s key (value_outline v) manner t newline ≡ t ∷ new_standing_in q s key (value_outline v) manner.newline ∷ []
  put_full t newline (inl is) = ap (line_put q s key (value_outline v) manner t) is
  put_full t newline (inr is) = ap (line_put q s key (value_outline v) manner t) is

  pub put_stands : (xs : List Named) (n : ℕ) (l : Line) (ls : List Line) → AreLines (l ∷ ls) → section (xs ++ named_by xs n l.expr) ≡ q
      → standing_from xs n (lines.line_put s key v manner l ls)
      ≡ line_put q s key (value_outline v) manner (line_stands xs l) (line_outline l).newline ++ standing_from (xs ++ named_by xs n l.expr) (n + 1) ls
  put_stands xs n l [] are there =
      ap₂ (λ o t. record { address = own_address xs l.expr; base = line_base xs l.expr; outline = o } ∷ t) (ends_same l.expr l.newline (fresh manner.newline))
      (new_first (xs ++ named_by xs n l.expr) 0 (n + 1) [] [] there)
      ∙ ap (λ t. line_put q s key (value_outline v) manner (line_stands xs l) t ++ []) (sym (newline_same l.expr l.newline ∙ are.1))
  put_stands xs n l (m ∷ ms) are there =
      ap (λ t. line_stands xs l ∷ t) (new_first (xs ++ named_by xs n l.expr) (n + 1) (n + 1) manner.newline (m ∷ ms) there)
      ∙ ap (λ t. t ++ standing_from (xs ++ named_by xs n l.expr) (n + 1) (m ∷ ms))
      (sym (put_full (line_stands xs l) (line_outline l).newline (subst IsNewline (sym (newline_same l.expr l.newline)) are.1)))
