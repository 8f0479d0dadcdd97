-- Pairs fit the units of two documents, with their newlines, where they fit the documents.
use Rattle.std.proofs.Common.{◌≡◌, ℕ, ◌↔◌, inl, inr, List, Some, sym, ap, subst, ◌∙◌}
use Rattle.std.proofs.lemmas.Option.{same_Some}
use Rattle.toml_tree.specs.Spells.{Spells}
use Rattle.toml_tree.specs.Tree.{Doc}
use Rattle.toml_edits.specs.Edits.{Change}
use Rattle.toml_units.specs.declared.unit.UnitKind.TheVariants as kinds
use Rattle.toml_units.specs.Lined.{LinedUnit, lined}
use Rattle.toml_units.specs.Plain.{Spanned}
use Rattle.toml_units.specs.Units.{TextUnit}
use Rattle.toml_checker.specs.CarriedTo.{IsCarriedTo}
use Rattle.toml_checker.specs.Pairs.{KeepsNewline, PairsFit, StandsAs}
use Rattle.toml_checker.specs.Traces.{KeepsLine, StandsIn}
use Rattle.toml_checker.specs.Walking.{AllFitIn}
use Rattle.toml_checker.proofs.Each.{each_weaker}
use Rattle.toml_checker.proofs.LinedNewlines.{IsUnitAt, unit_of, lined_of_unit}

kind_of : {d : Doc} {text : List ℕ} {i : ℕ} {x : LinedUnit} {w : TextUnit} (h : IsUnitAt d text i x w) → x.unit.kind ≡ w.kind
kind_of h = ap (λ (s : Spanned). s.kind) h.is

address_of : {d : Doc} {text : List ℕ} {i : ℕ} {x : LinedUnit} {w : TextUnit} (h : IsUnitAt d text i x w) → x.unit.address ≡ w.address
address_of h = ap (λ (s : Spanned). s.address) h.is

-- lines keep their newline
module _ (d e : Doc) (text other : List ℕ) (i k : ℕ) (x y : LinedUnit) (u w : TextUnit) (one : IsUnitAt d text i x u) (two : IsUnitAt e other k y w) (line : u.kind ≡ kinds.Line) (same_line : w.kind ≡ kinds.Line) where
  to_newline : KeepsLine x.newline y.newline → KeepsNewline d e i k
  to_newline (inl same) = inl (one.newline line ∙ ap Some same ∙ sym (two.newline same_line))
  to_newline (inr (inl none)) = inr (inl ((one.last line).0 none))
  to_newline (inr (inr none)) = inr (inr ((two.last same_line).0 none))

  from_newline : KeepsNewline d e i k → KeepsLine x.newline y.newline
  from_newline (inl same) = inl (same_Some x.newline y.newline (sym (one.newline line) ∙ same ∙ two.newline same_line))
  from_newline (inr (inl last)) = inr (inl ((one.last line).1 last))
  from_newline (inr (inr last)) = inr (inr ((two.last same_line).1 last))

module _ (cs : List Change) (d e : Doc) (text other : List ℕ) (first : Spells d text) (second : Spells e other) where
  stands_as : (i k : ℕ) → StandsIn cs text (lined d.lines) other (lined e.lines) i k → StandsAs cs d e i k
  stands_as i k h =
      let u = unit_of d text first i h.first h.first_is in
      let w = unit_of e other second k h.second h.second_is in
      let kind : u.0.kind ≡ w.0.kind = sym (kind_of u.1) ∙ h.alike.0 ∙ kind_of w.1 in
      record {
        first = u.0;
        first_is = u.1.there;
        second = w.0;
        second_is = w.1.there;
        kind = kind;
        text = sym u.1.reads ∙ h.alike.1 ∙ w.1.reads;
        address =
            subst (λ a. IsCarriedTo cs a w.0.address) (address_of u.1) (subst (λ a. IsCarriedTo cs h.first.unit.address a) (address_of w.1) h.alike.2);
        newline =
            (λ line. to_newline d e text other i k h.first h.second u.0 w.0 u.1 w.1 line (sym kind ∙ line) (h.alike.3 (kind_of u.1 ∙ line)));
      }

  stands_in : (i k : ℕ) → StandsAs cs d e i k → StandsIn cs text (lined d.lines) other (lined e.lines) i k
  stands_in i k h =
      let x = lined_of_unit d text first i h.first h.first_is in
      let y = lined_of_unit e other second k h.second h.second_is in
      record {
        first = x.0;
        first_is = x.1;
        second = y.0;
        second_is = y.1;
        alike = (
          kind_of x.2 ∙ h.kind ∙ sym (kind_of y.2),
          x.2.reads ∙ h.text ∙ sym y.2.reads,
          subst (λ a. IsCarriedTo cs a y.0.unit.address) (sym (address_of x.2)) (subst (λ a. IsCarriedTo cs h.first.address a) (sym (address_of y.2)) h.address),
          λ line. let l = sym (kind_of x.2) ∙ line in
              from_newline d e text other i k x.0 y.0 h.first h.second x.2 y.2 l (sym h.kind ∙ l) (h.newline l),
        );
      }

  all_fit : (ps : List (ℕ × ℕ)) → AllFitIn cs text (lined d.lines) other (lined e.lines) ps ↔ PairsFit cs d e ps
  all_fit ps = (
    (λ h. (h.0, each_weaker (λ (p : ℕ × ℕ). StandsIn cs text (lined d.lines) other (lined e.lines) p.0 p.1) (λ (p : ℕ × ℕ). StandsAs cs d e p.0 p.1) (λ p s. stands_as p.0 p.1 s) ps h.1)),
    (λ h. (h.0, each_weaker (λ (p : ℕ × ℕ). StandsAs cs d e p.0 p.1) (λ (p : ℕ × ℕ). StandsIn cs text (lined d.lines) other (lined e.lines) p.0 p.1) (λ p s. stands_in p.0 p.1 s) ps h.1)),
  )

pub pairs_are_told : (cs : List Change) (d e : Doc) (text other : List ℕ) (ps : List (ℕ × ℕ))
    → Spells d text → Spells e other
    → AllFitIn cs text (lined d.lines) other (lined e.lines) ps ↔ PairsFit cs d e ps
pairs_are_told cs d e text other ps first second =
    all_fit cs d e text other first second ps
