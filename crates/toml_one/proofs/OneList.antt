-- A wish at a place stands for one list of edits.
use Rattle.std.proofs.Common.{◌≡◌, ℕ, Bool, true, false, List, [], ◌∷◌, ◌++◌, inl, inr, Option, Some, None, sym, refl, ap, ◌∙◌, subst}
use Rattle.std.specs.Prelude.{MatchOption, ◌&&◌, is_some, slice_get}
use Rattle.toml_names.specs.declared.model.address.Step.{Step}
use Rattle.toml_names.specs.declared.model.address.Step.TheVariants as steps
use Rattle.toml_names.specs.mentions.Mentions.{Kind, Named}
use Rattle.toml_names.specs.model.Addresses.{Address}
use Rattle.toml_names.specs.model.Data.{Kinds}
use Rattle.toml_places.specs.declared.place.PlaceStep.{PlaceStep}
use Rattle.toml_places.specs.declared.place.PlaceStep.TheVariants.{Name, Index, FromEnd, Behind}
use Rattle.toml_places.specs.Leading.{IsAddressOf, IsStep}
use Rattle.toml_places.proofs.Proved.{one_address}
use Rattle.toml_edits.specs.Edits.{Change, insert, remove, rename}
use Rattle.toml_one.specs.Kept.{up_to_too_deep}
use Rattle.toml_one.specs.Laws.{OneEditList, OneKeptList}
use Rattle.toml_one.specs.Parents.{Front, IsNewStep, IsNewStepOf, Makes, MakesAt, MakesBelow, MakesElement, MakesMissing, MakesProper, MakesTable, further, root}
use Rattle.toml_one.specs.Steps.{ends_in_name, is_index}
use Rattle.toml_one.specs.Wishes.{IsInserted, IsOne, IsSet, IsSetAlone, IsSetAt, IsWithParents, or_nowhere, put_at, to_insert, to_remove, to_rename, to_set}

-- one step
one_step : (kinds : Kinds) (s : PlaceStep) (t u : Step) → IsStep kinds s t → IsStep kinds s u → t ≡ u
one_step kinds s t u one two =
    let same : t ∷ [] ≡ u ∷ [] = one_address kinds (s ∷ []) (t ∷ []) (u ∷ []) (t, [], one, refl, refl) (u, [], two, refl, refl) in cc

pub one_new_step : (kinds : Kinds) (s : PlaceStep) (t u : Step) → IsNewStep kinds s t → IsNewStep kinds s u → t ≡ u
one_new_step kinds (Name name) t u one two = one_step kinds (Name name) t u one two
one_new_step kinds (Index i) t u one two = one_step kinds (Index i) t u one two
one_new_step kinds (FromEnd n) t u one two = one_step kinds (FromEnd n) t u one two
one_new_step kinds Behind t u one two = by (kinds []) one two
  where
    by : (o : Option Kind) → MatchOption o (t ≡ steps.Index 0) (λ k. IsStep kinds Behind t) → MatchOption o (u ≡ steps.Index 0) (λ k. IsStep kinds Behind u) → t ≡ u
    by None here there = here ∙ sym there
    by (Some k) here there = one_step kinds Behind t u here there

one_found : (kinds : Kinds) (s : PlaceStep) (f g : Option Step) → IsNewStepOf kinds s f → IsNewStepOf kinds s g → f ≡ g
one_found kinds s None None one two = refl
one_found kinds s None (Some u) one two = absurd (one u two)
one_found kinds s (Some t) None one two = absurd (two t one)
one_found kinds s (Some t) (Some u) one two = ap Some (one_new_step kinds s t u one two)

-- what is made at one front
module _ (above : Kinds) (at : Address) (cs ds : List Change) where
  one_element : (i : ℕ) → MakesElement above i at cs → MakesElement above i at ds → cs ≡ ds
  one_element i (inl one) (inl two) = one.1 ∙ sym two.1
  one_element i (inl one) (inr two) = absurd (two.0 one.0)
  one_element i (inr one) (inl two) = absurd (one.0 two.0)
  one_element i (inr one) (inr two) = one.1 ∙ sym two.1

  one_table : (t : Option Step) → MakesTable above t at cs → MakesTable above t at ds → cs ≡ ds
  one_table None one two = one ∙ sym two
  one_table (Some (steps.Name name)) one two = one ∙ sym two
  one_table (Some (steps.Index i)) one two = one_element i one two

  one_missing : (in_value indexed : Bool) (next : PlaceStep) (t : Option Step) → MakesMissing in_value indexed next above t at cs → MakesMissing in_value indexed next above t at ds → cs ≡ ds
  one_missing true indexed next t one two = one ∙ sym two
  one_missing false true next t one two = one ∙ sym two
  one_missing false false next t one two = one_table t one two

  one_proper : (there in_value : Bool) (next : PlaceStep) (t : Option Step) → MakesProper there in_value next above t at cs → MakesProper there in_value next above t at ds → cs ≡ ds
  one_proper true in_value next t one two = one ∙ sym two
  one_proper false in_value next t one two = one_missing in_value (is_index next) next t one two

  one_made : (there in_value : Bool) (next : Option PlaceStep) (t : Option Step) → MakesAt there in_value next above t at cs → MakesAt there in_value next above t at ds → cs ≡ ds
  one_made there in_value None t one two = one ∙ sym two
  one_made there in_value (Some next) t one two = one_proper there in_value next t one two

-- what is made at all
all_made : (ms : List Named) (front : Front) (left : List PlaceStep) (cs ds : List Change) (e f : Front) → Makes ms front left cs e → Makes ms front left ds f → (cs ≡ ds) × (e ≡ f)
all_made ms front [] cs ds e f one two = (one.0 ∙ sym two.0, one.1 ∙ sym two.1)
all_made ms front (s ∷ left) cs ds e f (t, first, more, is, makes, on, whole) (u, other, others, so, does, go, all) =
    let same : u ≡ t = one_found front.kinds s u t so is in
    let to = further ms front t in
    let does_too : MakesBelow front t to (slice_get left 0) other = subst (λ v. MakesBelow front v (further ms front v) (slice_get left 0) other) same does in
    let here : first ≡ other = one_made front.kinds to.at first other (is_some (to.kinds [])) front.in_value (slice_get left 0) t makes does_too in
    let behind = all_made ms to left more others e f on (subst (λ v. Makes ms (further ms front v) left others f) same go) in
    (whole ∙ (λ i. here i ++ behind.0 i) ∙ sym all, behind.1)

-- the address
one_found_address : (kinds : Kinds) (place : List PlaceStep) (f g : Option Address) → IsAddressOf kinds place f → IsAddressOf kinds place g → f ≡ g
one_found_address kinds place None None one two = refl
one_found_address kinds place None (Some at) one two = absurd (one at two)
one_found_address kinds place (Some at) None one two = absurd (two at one)
one_found_address kinds place (Some at) (Some behind) one two = ap Some (one_address kinds place at behind one two)

module _ (kinds : Kinds) (ms : List Named) (place : List PlaceStep) (value : List ℕ) (cs ds : List Change) where
  one_set : (found : Option Address) → IsSet kinds place value found cs → IsSet kinds place value found ds → cs ≡ ds
  one_set found (inl one) (inl two) = one.1 ∙ sym two.1
  one_set found (inl one) (inr two) = absurd (two.0 one.0)
  one_set found (inr one) (inl two) = absurd (one.0 two.0)
  one_set found (inr one) (inr two) = one.1 ∙ sym two.1

  one_alone : IsSetAlone kinds place value cs → IsSetAlone kinds place value ds → cs ≡ ds
  one_alone (found, is, one) (other, so, two) = one_set found one (subst (λ f. IsSet kinds place value f ds) (one_found_address kinds place other found so is) two)

  one_edit : (edit : Address → Change) → IsOne kinds place edit cs → IsOne kinds place edit ds → cs ≡ ds
  one_edit edit (found, is, one) (other, so, two) = one ∙ ap (λ f. edit (or_nowhere f) ∷ []) (one_found_address kinds place found other is so) ∙ sym two

  one_with : (may_set : Bool) → IsWithParents may_set kinds ms place value cs → IsWithParents may_set kinds ms place value ds → cs ≡ ds
  one_with may_set (first, end, makes, one) (other, last, does, two) =
      let same = all_made ms (root kinds) place first other end last makes does in
      one ∙ (λ i. same.0 i ++ put_at (may_set && is_some ((same.1 i).kinds [])) (same.1 i).at value ∷ []) ∙ sym two

  one_set_at : (parents : Bool) → IsSetAt parents kinds ms place value cs → IsSetAt parents kinds ms place value ds → cs ≡ ds
  one_set_at true one two = one_with true one two
  one_set_at false one two = one_alone one two

  one_inserted : (parents : Bool) → IsInserted parents kinds ms place value cs → IsInserted parents kinds ms place value ds → cs ≡ ds
  one_inserted true one two = one_with false one two
  one_inserted false one two = one_edit (λ at. insert at value) one two

pub one_edit_list : OneEditList
one_edit_list kinds ms place (to_set value parents) cs ds one two = one_set_at kinds ms place value cs ds (parents && ends_in_name place) one two
one_edit_list kinds ms place (to_insert value parents) cs ds one two = one_inserted kinds ms place value cs ds (parents && ends_in_name place) one two
one_edit_list kinds ms place (to_rename name) cs ds one two = one_edit kinds ms place [] cs ds (λ at. rename at name) one two
one_edit_list kinds ms place to_remove cs ds one two = one_edit kinds ms place [] cs ds remove one two

pub one_kept_list : OneKeptList
one_kept_list kinds ms place wish one two kept other = kept.kept ∙ ap up_to_too_deep (one_edit_list kinds ms place wish kept.all other.all kept.are other.are) ∙ sym other.kept
