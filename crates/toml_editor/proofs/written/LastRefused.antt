-- An `insert` of an element of an array of tables, and a `remove` of its only one, are not made.
use Rattle.std.proofs.Common.{◌≡◌, ◌∷◌, ◌++◌, ℕ, Bool, false, List, [], None, ap, ap₂, ◌∙◌, subst}
use Rattle.std.specs.Prelude.{IsSome, is_some}
use Rattle.std.specs.List.{list_any}
use Rattle.toml_tree.specs.declared.profile.Profile.{Profile}
use Rattle.toml_names.specs.declared.model.address.Step.{Step}
use Rattle.toml_names.specs.declared.model.address.Step.TheVariants.{Index}
use Rattle.toml_names.specs.model.Addresses.{Address, element}
use Rattle.toml_names.specs.model.Data.{Kinds}
use Rattle.toml_edits.specs.Edits.{insert, remove}
use Rattle.toml_edits.specs.Faults.{IsFault}
use Rattle.toml_layout.specs.Holders.{parent_of}
use Rattle.toml_working.specs.declared.working.Tree.{Tree}
use Rattle.toml_working.specs.HeldLines.{PutsNoElement}
use Rattle.toml_working.specs.Headers.{element_of}
use Rattle.toml_working.specs.RemoveStanding.{makes_beside}
use Rattle.toml_working.specs.RemovingIn.{TakesElement}
use Rattle.toml_working.specs.Standing.{Read, holds, standing}
use Rattle.toml_editor.specs.Exact.{IsAt}
use Rattle.toml_editor.specs.PlainTexts.{IsRefusedIn}
use Rattle.toml_editor.proofs.written.FollowedFacts.{index_is_element}
use Rattle.toml_editor.proofs.written.OnlyElement.{element_in_no_value, only_element}
use Rattle.toml_editor.proofs.written.ScalarsLone.{is_not_there, is_there}
use Rattle.toml_editor.proofs.written.StandingOrder.{rules_order}
use Rattle.toml_editor.proofs.written.TablesStay.{parent_is}

-- By what the working tree tells of an element: no line beside it makes the array.
pub last_refused : (profile : Profile) (read : Read) (old : Tree) (p : Address) (text : List ℕ) (kinds : Kinds) → IsAt profile read old text kinds
    → IsFault profile (remove p) kinds None → (done : Bool) → TakesElement p read old done → IsRefusedIn profile text (remove p) → done ≡ false
last_refused profile read old p text kinds at none done told (q, own, only) =
    let lines = at.good.tree.lines in
    let rules = at.good.good.0 in
    let (outside, unnamed) = only at.good.tree at.good.spelled in
    let first = subst (λ a. IsSome (kinds a)) own (is_there profile kinds p none) in
    let second = is_not_there lines kinds (element q 1) at.good.facts unnamed in
    told (standing lines) at.stands (rules_order lines rules) (ap (λ a. list_any (holds a) (standing lines)) own ∙ element_in_no_value q 0 lines outside)
    (ap (λ a. is_some (element_of a)) own ∙ index_is_element q 0)
    ∙ ap₂ (λ r a. list_any (makes_beside r a) (standing lines)) (ap parent_of own ∙ parent_is q (Index 0)) own
    ∙ only_element q lines kinds at.good.spelled.0.lines.forms rules at.good.facts first second outside

-- No line's value is the array, or holds it.
pub insert_refused : (profile : Profile) (read : Read) (old : Tree) (p : Address) (value text : List ℕ) (kinds : Kinds) → IsAt profile read old text kinds
    → (done : Bool) → ((q : Address) (last : Step) → p ≡ q ++ last ∷ [] → PutsNoElement q p read old done) → IsRefusedIn profile text (insert p value)
    → done ≡ false
insert_refused profile read old p value text kinds at done told (q, i, own, outside) =
    told q (Index i) own (standing at.good.tree.lines) at.stands (rules_order at.good.tree.lines at.good.good.0)
    (outside at.good.tree at.good.spelled) (ap (λ a. is_some (element_of a)) own ∙ index_is_element q i)
