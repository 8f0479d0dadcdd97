-- A `remove` of a table, of an array of tables, or of an element that is not its only one, is made.
use Rattle.std.proofs.Common.{◌≡◌, ◌∙◌, ◌⊎◌, ◌∷◌, ◌++◌, [], inl, inr, Bool, true, false, None, List, ap, ap₂, refl, sym, subst}
use Rattle.std.specs.List.{list_any}
use Rattle.std.specs.Prelude.{IsSome, is_some}
use Rattle.toml_tree.specs.Tree.{Line}
use Rattle.toml_tree.specs.declared.profile.Profile.{Profile}
use Rattle.toml_names.specs.declared.model.address.Step.{Step}
use Rattle.toml_names.specs.declared.model.address.Step.TheVariants.{Index, Name}
use Rattle.toml_names.specs.mentions.Mentions.{named}
use Rattle.toml_names.specs.model.Addresses.{Address, element}
use Rattle.toml_names.specs.model.Data.{IsDataOf, Kinds}
use Rattle.toml_edits.specs.Edits.{remove}
use Rattle.toml_edits.specs.Faults.{IsFault}
use Rattle.toml_layout.specs.Holders.{parent_of}
use Rattle.toml_working.specs.Headers.{element_of}
use Rattle.toml_working.specs.Premises.{IsInNoValue}
use Rattle.toml_working.specs.RemoveStanding.{makes_beside}
use Rattle.toml_working.specs.Standing.{standing}
use Rattle.toml_editor.specs.Edited.{TakesLastElement}
use Rattle.toml_editor.proofs.written.AnotherElement.{another_stands}
use Rattle.toml_editor.proofs.written.Fitting.{last_step}
use Rattle.toml_editor.proofs.written.FollowedFacts.{name_is_no_element}
use Rattle.toml_editor.proofs.written.ScalarsLone.{is_there}
use Rattle.toml_editor.proofs.written.TablesStay.{parent_is}

pub table_is_taken : (profile : Profile) (p : Address) (lines : List Line) (kinds : Kinds) → IsDataOf (named lines) kinds
    → IsFault profile (remove p) kinds None → IsInNoValue lines p → (done : Bool) → (is_some (element_of p) ≡ false → done ≡ true)
    → (is_some (element_of p) ≡ true → done ≡ list_any (makes_beside (parent_of p) p) (standing lines))
    → (done ≡ true) ⊎ (¬ TakesLastElement (remove p) kinds) → done ≡ true
table_is_taken profile p lines kinds facts none outside done other_made told (inl made) = made
table_is_taken profile p lines kinds facts none outside done other_made told (inr not_only) = by (is_some (element_of p)) refl (last_step p)
  where
    by : (b : Bool) → is_some (element_of p) ≡ b → (p ≡ []) ⊎ ((q : Address) × (s : Step) × (p ≡ q ++ s ∷ [])) → done ≡ true
    by false is parts = other_made is
    by true is (inl root) = let e : false ≡ true = ap (λ a. is_some (element_of a)) (sym root) ∙ is in cc
    by true is (inr (q, Name n, own)) =
        let e : false ≡ true = sym (ap (λ a. is_some (element_of a)) own ∙ ap is_some (name_is_no_element q n)) ∙ is in cc
    by true is (inr (q, Index i, own)) =
        let there : IsSome (kinds (element q i)) = subst (λ a. IsSome (kinds a)) own (is_there profile kinds p none) in
        told is ∙ ap₂ (λ r a. list_any (makes_beside r a) (standing lines)) (ap parent_of own ∙ parent_is q (Index i)) own
        ∙ another_stands q i lines kinds facts (subst (IsInNoValue lines) own outside) there
        (λ first gone. not_only (q, own ∙ ap (element q) first, is_there profile kinds p none, gone))
