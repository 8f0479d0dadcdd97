-- A `set` on the lines of the working tree.
use Rattle.std.proofs.Common.{◌≡◌, ◌∙◌, ℕ, Bool, true, false, List, ◌∷◌, ◌++◌, map, All, Option, Some, None, refl, ap, sym, subst}
use Rattle.std.specs.Prelude.{option_map}
use Rattle.std.specs.List.{list_any}
use Rattle.toml_names.specs.model.Addresses.{Address}
use Rattle.toml_text.specs.Source.{text_of}
use Rattle.toml_layout.specs.declared.changing.Inside.TheVariants as changes
use Rattle.toml_working.specs.declared.lines.Slot.{Slot}
use Rattle.toml_layout.specs.declared.texts.Texts.{Texts}
use Rattle.toml_layout.specs.declared.tree.Value.{Value}
use Rattle.toml_working.specs.declared.working.Position.{Position}
use Rattle.toml_working.specs.Changing.{ChangesSlots}
use Rattle.toml_layout.specs.OpenOutlines.{value}
use Rattle.toml_layout.specs.Outlines.{ValueOutline}
use Rattle.toml_working.specs.Seeing.{HoldsNone, line_at}
use Rattle.toml_working.specs.Standing.{Standing, Read, IsApart, StandAlone, holds, has, set_standing}
use Rattle.toml_working.specs.Stands.{SetsLines, Stands}
use Rattle.toml_working.proofs.SetAway.{away_lines, one_is_apart, one_is_set}

-- no line holds what stands at the address
pub none_is_set : (p : Address) (new : ValueOutline) (text : List ℕ) (read : Read) (slots : List Slot) → HoldsNone p read.units slots → SetsLines p new text read slots slots false
none_is_set p new text read slots none not_root ss stands ordered =
    let all = none not_root read.lines (subst (λ xs. StandAlone xs) (sym stands.are) ordered.alone) in
    let away = away_lines p new ss (subst (λ xs. list_any (holds p) xs ≡ false) stands.are all) in
    (record { kept = stands.kept; are = stands.are ∙ sym away.0 }, sym away.1)

-- one does, and it is changed
pub holder_is_set : (p : Address) (new : Value) (texts : Texts) (read : Read) (at : Position) (old now : List Slot) (done : Bool) → option_map (holds p) (line_at read old at) ≡ Some true
    → ChangesSlots texts read at p (changes.Set new) old now done → SetsLines p (value new) (text_of texts.source) read old now done
holder_is_set p new texts read at old now done found changed not_root ss stands ordered = by (line_at read old at) refl found
  where
    by : (o : Option Standing) → line_at read old at ≡ o → option_map (holds p) o ≡ Some true
        → Stands (text_of texts.source) read now (map (set_standing p (value new)) ss) × (done ≡ list_any (has p) ss)
    by None there e = cc
    by (Some s) there e =
        let here : holds p s ≡ true = cc in
        let (kept, changes_at) = changed stands.kept in
        let (front, back, t, was, is, as_is) = changes_at s there in
        let all : ss ≡ front ++ s ∷ back = sym stands.are ∙ was in
        let one = one_is_set p (value new) front s back here (subst (λ xs. StandAlone xs) all ordered.alone) in
        let apart = one_is_apart front s back (subst (λ xs. All (λ (x : Standing). IsApart x.outline.expr) xs) all ordered.apart) in
        let sets = as_is.1 apart here in (
          record { kept = kept; are = is ∙ ap (λ x. front ++ x ∷ back) sets.0 ∙ sym one.0 ∙ ap (map (set_standing p (value new))) (sym all) },
          sets.1 ∙ sym one.1 ∙ ap (list_any (has p)) (sym all),
        )
