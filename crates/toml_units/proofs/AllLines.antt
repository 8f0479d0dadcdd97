-- A loop that takes line by line.
use Rattle.std.proofs.Common.{◌≡◌, ℕ, ◌+◌, ◌<◌, ◌≤◌, List, [], ◌∷◌, ◌++◌, length, map, take, drop, Option, sym, ap, ◌∙◌, get_or, arith, append_assoc}
use Rattle.std.proofs.Math.Logic.{∥∥₁_elim}
use Rattle.std.proofs.Props.{props}
use Rattle.std.proofs.lemmas.List.{append-nil, drop_all, drop_more, take_more, length-take-le, take-append-drop}
use Rattle.toml_tree.specs.Spells.{Spells}
use Rattle.toml_tree.specs.Tree.{Expr, Line, Doc}
use Rattle.toml_names.specs.model.Addresses.{Address}
use Rattle.toml_names.specs.mentions.Mentions.{Named, root, named, named_by, named_from}
use Rattle.toml_names.specs.reader.Names.{own_address, line_address}
use Rattle.toml_names.proofs.Proved.{line_addresses}
use Rattle.toml_units.specs.Plain.{line_spans, plain_from, plain_units}
use Rattle.toml_units.specs.View.{Spanned, spanned}
use Rattle.toml_units.specs.Units.{units}
use Rattle.toml_units.proofs.Plain.{plain_is_units}

-- the units so far, and those of the lines that are left
abbrev pub IsTaken : List Line → ℕ → List Spanned → Type 0
IsTaken lines i now = now ++ plain_from (named (take i lines)) i (drop i lines) ≡ plain_units lines

pub named_from-push : (ls : List Line) (earlier : List Named) (n at : ℕ) (l : Line) → n + length ls ≡ at
    → named_from earlier n (ls ++ l ∷ []) ≡ named_from earlier n ls ++ named_by (named_from earlier n ls) at l.expr
named_from-push [] earlier n at l is =
    let same : n ≡ at = omega arith in
    ap (λ k. earlier ++ named_by earlier k l.expr) same
named_from-push (k ∷ ls) earlier n at l is = named_from-push ls (earlier ++ named_by earlier n k.expr) (n + 1) at l (omega arith)

module _ (lines : List Line) (i : ℕ) (l : Line) (low : i < length lines) (is : get_or lines i l ≡ l) where
  abbrev before : List Named
  before = named (take i lines)

  before_long : length (take i lines) ≡ i
  before_long = length-take-le i lines (omega arith)

  named_more : named (take (i + 1) lines) ≡ before ++ named_by before i l.expr
  named_more =
      ap named (take_more lines i l low ∙ ap (λ m. take i lines ++ m ∷ []) is)
      ∙ named_from-push (take i lines) (root ∷ []) 0 i l (omega (arith, before_long))

  behind : drop i lines ≡ l ∷ drop (i + 1) lines
  behind = drop_more lines i l low ∙ ap (λ m. m ∷ drop (i + 1) lines) is

  -- the line's own address
  pub own_is : line_address (named lines) i ≡ own_address before l.expr
  own_is =
      ap (λ ls. line_address (named ls) i) (sym (take-append-drop i lines) ∙ ap (λ ls. take i lines ++ ls) behind)
      ∙ ap (line_address (named (take i lines ++ l ∷ drop (i + 1) lines))) (sym before_long)
      ∙ line_addresses (take i lines) (drop (i + 1) lines) l

  -- one more line was taken
  pub took_line : (now more : List Spanned) (own : Option Address) (e : Expr) → own ≡ line_address (named lines) i → e ≡ l.expr → more ≡ now ++ line_spans own e → IsTaken lines i now → IsTaken lines (i + 1) more
  took_line now more own e at same new taken =
      let rest = plain_from (named (take (i + 1) lines)) (i + 1) (drop (i + 1) lines) in
      ap (λ us. us ++ rest) (new ∙ ap (λ x. now ++ line_spans own x) same ∙ ap (λ a. now ++ line_spans a l.expr) (at ∙ own_is))
      ∙ append_assoc now (line_spans (own_address before l.expr) l.expr) rest
      ∙ ap (λ ms. now ++ (line_spans (own_address before l.expr) l.expr ++ plain_from ms (i + 1) (drop (i + 1) lines))) named_more
      ∙ ap (λ ls. now ++ plain_from before i ls) (sym behind)
      ∙ taken

-- all lines were taken
pub took_all : (d : Doc) (i : ℕ) (now : List Spanned) → ∥ ((text : List ℕ) × Spells d text) ∥₁ → length d.lines ≤ i → IsTaken d.lines i now → now ≡ map spanned (units d.lines)
took_all d i now some past taken =
    let known : IsTaken d.lines i now = taken in
    sym (append-nil now)
    ∙ ap (λ ls. now ++ plain_from (named (take i d.lines)) i ls) (sym (drop_all i d.lines past))
    ∙ known
    ∙ ∥∥₁_elim some (hlevel props) (λ s. plain_is_units d s.0 s.1)
