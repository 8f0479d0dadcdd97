-- The units of a document, each with the newline of its line.
use Rattle.std.specs.Prelude.{◌≡◌, ◌+◌, ℕ, List, [], ◌∷◌, ◌++◌, Option, Some, map, option_map, take, count_by, slice_get}
use Rattle.toml_tree.specs.Tree.{Line}
use Rattle.toml_names.specs.model.Addresses.{Address}
use Rattle.toml_names.specs.mentions.Mentions.{Named, root, named_by}
use Rattle.toml_names.specs.reader.Names.{own_address}
use Rattle.toml_units.specs.declared.unit.UnitKind.TheVariants as kinds
use Rattle.toml_units.specs.Places.{is_line}
use Rattle.toml_units.specs.Plain.{line_spans, plain_units}
use Rattle.toml_units.specs.View.{Spanned}

-- a unit, and the newline of its line, the empty text where that has none
pub record LinedUnit : Type 0 where
  pub unit : Spanned
  pub newline : List ℕ

abbrev pub with_newline : List ℕ → List Spanned → List LinedUnit
with_newline newline us = map (λ (u : Spanned). record { unit = u; newline = newline }) us

-- those of a line at the address
abbrev pub lined_line : Option Address → Line → List LinedUnit
lined_line at l = with_newline l.newline.text (line_spans at l.expr)

abbrev pub lined_from : List Named → ℕ → List Line → List LinedUnit
lined_from earlier n [] = []
lined_from earlier n (l ∷ ls) = lined_line (own_address earlier l.expr) l ++ lined_from (earlier ++ named_by earlier n l.expr) (n + 1) ls

-- those of the lines of a document
abbrev pub lined : List Line → List LinedUnit
lined = lined_from (root ∷ []) 0

-- Law: these are the units of the plain function.
abbrev pub LinedAreUnits : Type 0
LinedAreUnits = (lines : List Line) → map (λ (x : LinedUnit). x.unit) (lined lines) ≡ plain_units lines

-- how many lines are among the first units
abbrev pub line_at : List LinedUnit → ℕ → ℕ
line_at xs i = count_by (λ (x : LinedUnit). is_line x.unit.kind) (take i xs)

-- Law: of a unit that is a line, the newline is that of the line with its number.
abbrev pub LinedHaveNewlines : Type 0
LinedHaveNewlines = (lines : List Line) (i : ℕ) (x : LinedUnit) → slice_get (lined lines) i ≡ Some x → x.unit.kind ≡ kinds.Line
    → option_map (λ (l : Line). l.newline.text) (slice_get lines (line_at (lined lines) i)) ≡ Some x.newline
