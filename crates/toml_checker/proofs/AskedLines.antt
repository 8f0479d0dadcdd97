-- Lines that are asked for.
use Rattle.std.proofs.Common.{◌≡◌, ℕ, ◌&&◌, ◌↔◌, ◌⊎◌, inl, inr, Bool, true, false, List, [], ◌∷◌, length, Option, Some, None, refl, sym, ap, subst, arith}
use Rattle.std.proofs.lemmas.List.{nil_from_length}
use Rattle.toml_tree.specs.Tree.{Doc}
use Rattle.toml_names.specs.model.Addresses.{Address}
use Rattle.toml_edits.specs.Edits.{Change}
use Rattle.toml_units.specs.declared.unit.UnitKind.TheVariants as kinds
use Rattle.toml_units.specs.Lined.{LinedUnit}
use Rattle.toml_units.specs.Plain.{spanned}
use Rattle.toml_units.specs.Units.{TextUnit}
use Rattle.toml_checker.specs.declared.debts.Debts.{Debts}
use Rattle.toml_checker.specs.Added.{has_no_bytes}
use Rattle.toml_checker.specs.CarriedTo.{At}
use Rattle.toml_checker.specs.Debts.{IsAsked, IsCovered}
use Rattle.toml_checker.specs.Lines.{IsEmptyEnd}
use Rattle.toml_checker.specs.Owed.{IsOwed}
use Rattle.toml_checker.specs.Pairs.{IsSecond}
use Rattle.toml_checker.proofs.LinedNewlines.{IsUnitAt}

at_other : (P Q : Address → Type 0) → ((a : Address) → P a → Q a) → (o : Option Address) → At o P → At o Q
at_other P Q f None h = h
at_other P Q f (Some a) h = f a h

parts_true : (a b : Bool) → (a && b) ≡ true → (a ≡ true) × (b ≡ true)
parts_true true b h = (refl, h)
parts_true false b h = cc

empty_is : (bs : List ℕ) → has_no_bytes bs ≡ true → bs ≡ []
empty_is [] h = refl
empty_is (b ∷ bs) h = cc

module _ (cs : List Change) (e : Doc) (text : List ℕ) (ps : List (ℕ × ℕ))
    (ds : Debts) (owed : (a : Address) → IsCovered ds a ↔ IsOwed cs a) (edited : Bool) (edits : (edited ≡ true) ↔ ¬ (cs ≡ []))
    (k : ℕ) (x : LinedUnit) (w : TextUnit) (same : IsUnitAt e text k x w) (line : w.kind ≡ kinds.Line) (paired : Bool) (pair : (paired ≡ true) ↔ IsSecond ps k) where
  to : IsAsked ds paired (edited && has_no_bytes x.newline) (spanned w) → IsSecond ps k ⊎ At w.address (IsOwed cs) ⊎ IsEmptyEnd cs e k w
  to (inl p) = inl (pair.0 p)
  to (inr (inl o)) = inr (inl (at_other (IsCovered ds) (IsOwed cs) (λ a. (owed a).0) w.address o))
  to (inr (inr (last, empty))) =
      let t = parts_true edited (has_no_bytes x.newline) last in
      let zero_long : length w.piece.text ≡ 0 = omega arith in
      inr (inr ((same.last line).0 (empty_is x.newline t.1), nil_from_length w.piece.text zero_long, edits.0 t.0))

  from : IsSecond ps k ⊎ At w.address (IsOwed cs) ⊎ IsEmptyEnd cs e k w → IsAsked ds paired (edited && has_no_bytes x.newline) (spanned w)
  from (inl p) = inl (pair.1 p)
  from (inr (inl o)) = inr (inl (at_other (IsOwed cs) (IsCovered ds) (λ a. (owed a).1) w.address o))
  from (inr (inr (last, empty, some))) =
      let b : has_no_bytes x.newline ≡ true = ap has_no_bytes ((same.last line).1 last) in
      let t : edited ≡ true = edits.1 some in
      let zero_long : length w.piece.text ≡ 0 = ap length empty in
      inr (inr (rw (t, b) refl, omega arith))

  pub line_is_asked : IsAsked ds paired (edited && has_no_bytes x.newline) x.unit
      ↔ (IsSecond ps k ⊎ At w.address (IsOwed cs) ⊎ IsEmptyEnd cs e k w)
  line_is_asked =
      ((λ h. to (subst (IsAsked ds paired (edited && has_no_bytes x.newline)) same.is h)), (λ h. subst (IsAsked ds paired (edited && has_no_bytes x.newline)) (sym same.is) (from h)))
