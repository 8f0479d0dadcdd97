-- The walk of a place, front by front.
use Rattle.std.proofs.Common.{◌≡◌, ℕ, suc, ◌+◌, ◌<◌, ◌≤◌, Bool, false, List, [], ◌∷◌, ◌++◌, length, map, Option, Some, sym, refl, ap, ◌∙◌, subst, arith, append_assoc, drop, drop-cons, get_or, length-drop, take, ◌-◌}
use Rattle.std.proofs.lemmas.List.{take_all}
use Rattle.std.proofs.Math.ListN.{drop_of_length-le}
use Rattle.std.specs.Prelude.{IfSome, is_some, slice_get}
use Rattle.toml_tree.specs.Tree as spelled
use Rattle.toml_names.specs.declared.model.address.Step.{Step}
use Rattle.toml_names.specs.mentions.Mentions.{Named, named}
use Rattle.toml_names.specs.model.Addresses.{Address}
use Rattle.toml_names.specs.reader.Parts.{IsPart, part_kinds}
use Rattle.toml_names.specs.tree.NameTree.{IsTreeOf}
use Rattle.toml_names.specs.tree.Nodes.{Spot}
use Rattle.toml_places.specs.declared.place.PlaceStep.{PlaceStep}
use Rattle.toml_places.specs.Leading.{below_step}
use Rattle.toml_places.specs.Parts.{Stands, kinds_in}
use Rattle.toml_edits.specs.Edits.{Change, change}
use Rattle.toml_edits.specs.declared.edit.Edit.{Edit}
use Rattle.toml_one.specs.Parents.{Front, IsNewStepOf, Makes, MakesAt, further, root, stands_in_value}
use Rattle.toml_one.specs.Walking.{IsPassed, IsReached}
use Rattle.toml_one.specs.declared.parents.Reached.{Reached}
use Rattle.toml_one.proofs.Standing.{made_is, new_step_is, next_stands, part_there}

-- one step further
module _ (parts : List Spot) (ms : List Named) (front : Reached) (here : Front) (reached : IsReached parts front here) where
  pub reached_next : (t : Step) (at : Address) (part : Option ℕ) (in_value : Bool) → at ≡ front.at ++ t ∷ [] → Stands parts part (below_step t (kinds_in parts front.here.part)) → in_value ≡ stands_in_value ms at (is_some part) front.here.in_value
      → IsReached parts (record { at = at; here = record { part = part; in_value = in_value } }) (further ms here (Some t))
  reached_next t at part in_value is behind value =
      let at_is : at ≡ here.at ++ t ∷ [] = is ∙ ap (λ a. a ++ t ∷ []) reached.at in
      let stands : Stands parts part (below_step t here.kinds) = next_stands parts front.here.part part here.kinds t reached.stands behind in
      record {
        at = at_is;
        stands = stands;
        in_value =
            value
            ∙ ap (λ a. stands_in_value ms a (is_some part) front.here.in_value) at_is
            ∙ ap (λ b. stands_in_value ms (here.at ++ t ∷ []) b front.here.in_value) (part_there parts part (below_step t here.kinds) stands)
            ∙ ap (λ b. stands_in_value ms (here.at ++ t ∷ []) (is_some (below_step t here.kinds [])) b) reached.in_value;
      }

  pub passed : (s : PlaceStep) (left : List PlaceStep) (old new : List Edit) (to : Reached) (found : Option Step) (next : Option PlaceStep) (cs : List Change)
      → IsNewStepOf (kinds_in parts front.here.part) s found → IsReached parts to (further ms here found)
      → next ≡ slice_get left 0 → MakesAt (is_some to.here.part) front.here.in_value next (kinds_in parts front.here.part) found to.at cs
      → map change new ≡ map change old ++ cs
      → IsPassed parts ms here s left old new to
  passed s left old new to found next cs is go follows makes edits =
      let there = further ms here found in
      record {
        step = found;
        made = cs;
        is = new_step_is parts front.here.part here.kinds s found reached.stands is;
        makes =
            subst (λ b. MakesAt b here.in_value (slice_get left 0) here.kinds found there.at cs) (part_there parts to.here.part there.kinds go.stands)
            (subst (λ b. MakesAt (is_some to.here.part) b (slice_get left 0) here.kinds found there.at cs) reached.in_value
            (subst (λ a. MakesAt (is_some to.here.part) front.here.in_value (slice_get left 0) here.kinds found a cs) go.at
            (subst (λ o. MakesAt (is_some to.here.part) front.here.in_value o here.kinds found to.at cs) follows
            (made_is parts front.here.part here.kinds reached.stands to.at cs (is_some to.here.part) front.here.in_value next found makes))));
        reached = go;
        edits = edits;
      }

-- the fronts that were reached go on to the whole
pub record Goes (ms : List Named) (parts : List Spot) (place left : List PlaceStep) (cs : List Change) (to : Reached) : Type 0 where
  pub here : Front
  pub reached : IsReached parts to here
  pub on : (more : List Change) (end : Front) → Makes ms here left more end → Makes ms (root (part_kinds parts 0)) place (cs ++ more) end

-- so over whichever lines these names are of
pub record Walked (parts : List Spot) (place left : List PlaceStep) (edits : List Edit) (to : Reached) : Type 0 where
  pub part : IfSome to.here.part (IsPart parts)
  pub goes : (lines : List spelled.Line) → IsTreeOf parts (named lines) → Goes (named lines) parts place left (map change edits) to

pub starts : (parts : List Spot) (place : List PlaceStep) (to : Reached) → to.at ≡ [] → to.here.part ≡ Some 0 → IfSome to.here.part (IsPart parts) → to.here.in_value ≡ false → Walked parts place place [] to
starts parts place to at part is in_value = record {
  part = is;
  goes = λ lines tree. record {
    here = root (part_kinds parts 0);
    reached = record {
      at = at;
      stands = subst (λ o. Stands parts o (part_kinds parts 0)) (sym part) (subst (λ o. IfSome o (IsPart parts)) part is, λ rest. refl);
      in_value = in_value;
    };
    on = λ more end makes. makes;
  };
}

module _ (parts : List Spot) (place left : List PlaceStep) (old new : List Edit) (front to : Reached) (s : PlaceStep) where
  pub goes_on : (ms : List Named) (goes : Goes ms parts place (s ∷ left) (map change old) front) → IsPassed parts ms goes.here s left old new to → Goes ms parts place left (map change new) to
  goes_on ms goes p = record {
    here = further ms goes.here p.step;
    reached = p.reached;
    on = λ more end makes.
        subst (λ l. Makes ms (root (part_kinds parts 0)) place l end) (sym (append_assoc (map change old) p.made more) ∙ ap (λ l. l ++ more) (sym p.edits))
        (goes.on (p.made ++ more) end (p.step, p.made, more, p.is, p.makes, makes, refl));
  }

  pub walks_on : Walked parts place (s ∷ left) old front → IfSome to.here.part (IsPart parts)
      → ((lines : List spelled.Line) (here : Front) → IsTreeOf parts (named lines) → IsReached parts front here → IsPassed parts (named lines) here s left old new to)
      → Walked parts place left new to
  walks_on walked part passed = record {
    part = part;
    goes = λ lines tree. let goes = walked.goes lines tree in goes_on (named lines) goes (passed lines goes.here tree goes.reached);
  }

pub left_is : (place : List PlaceStep) (i : ℕ) (s d : PlaceStep) → i < length place → s ≡ get_or place i d → drop i place ≡ s ∷ drop (i + 1) place
left_is place i s d low is =
    let one : suc i ≡ i + 1 = omega arith in
    drop-cons place i d low ∙ (λ k. sym is k ∷ drop (one k) place)

pub left_none : (place : List PlaceStep) (i : ℕ) → length place ≤ i → drop i place ≡ []
left_none place i high = drop_of_length-le place high

-- what is lent of a place from a step on
pub rest_is : (place : List PlaceStep) (i : ℕ) → take (length place - i) (drop i place) ≡ drop i place
rest_is place i = take_all (length place - i) (drop i place) (omega (arith, length-drop i place))
