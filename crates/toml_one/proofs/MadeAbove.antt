-- The walk of a place on which no edit so far puts something too deep, and where it ends.
use Rattle.std.proofs.Common.{◌≡◌, ◌⊎◌, true, false, List, [], ◌∷◌, ◌++◌, map, inl, inr, Some, None, sym, refl, ◌∙◌, subst, append-nil}
use Rattle.std.proofs.lemmas.Bool.{or_left}
use Rattle.std.proofs.lemmas.List.Folds.{list_any-append}
use Rattle.std.specs.List.{list_any}
use Rattle.std.specs.Prelude.{IfSome, is_some, slice_get}
use Rattle.std.specs.declared.alloc.Global.{Global}
use Rattle.std.specs.declared.vec.Vec.{Vec}
use Rattle.toml_tree.specs.Tree as spelled
use Rattle.toml_names.specs.mentions.Mentions.{Named, named}
use Rattle.toml_names.specs.reader.Parts.{IsPart, part_kinds}
use Rattle.toml_names.specs.tree.NameTree.{IsTreeOf}
use Rattle.toml_names.specs.tree.Nodes.{Spot}
use Rattle.toml_places.specs.declared.place.PlaceStep.{PlaceStep}
use Rattle.toml_places.specs.Parts.{Stands}
use Rattle.toml_edits.specs.Edits.{Change, change}
use Rattle.toml_edits.specs.declared.edit.Edit.{Edit}
use Rattle.toml_one.specs.Kept.{puts_too_deep, up_to_too_deep}
use Rattle.toml_one.specs.Parents.{Front, Makes, further, root}
use Rattle.toml_one.specs.Walking.{IsMadeAbove, IsPassed, IsReached, ends_too_deep}
use Rattle.toml_one.specs.declared.parents.Reached.{Reached}
use Rattle.toml_one.proofs.Cutting.{IsOneOrNone, ends_deep, still_none, up_here, up_whole}
use Rattle.toml_one.proofs.OneMade.{few_made, nothing_made}
use Rattle.toml_one.proofs.RestMade.{Rest, rest_is_made}
use Rattle.toml_one.proofs.Standing.{part_there}
use Rattle.toml_one.proofs.Walked.{Goes, Walked, goes_on, starts, walks_on}

-- these edits were made on the way, and none puts something too deep
pub record Walks (parts : List Spot) (place left : List PlaceStep) (edits : List Edit) (to : Reached) : Type 0 where
  pub walked : Walked parts place left edits to
  pub none : (lines : List spelled.Line) → IsTreeOf parts (named lines) → list_any puts_too_deep (map change edits) ≡ false

pub begins : (parts : List Spot) (place : List PlaceStep) (to : Reached) → to.at ≡ [] → to.here.part ≡ Some 0 → IfSome to.here.part (IsPart parts) → to.here.in_value ≡ false → Walks parts place place [] to
begins parts place to at part is in_value = record { walked = starts parts place to at part is in_value; none = λ lines tree. refl }

-- one step further
abbrev pub Passes : List Spot → Reached → PlaceStep → List PlaceStep → List Edit → List Edit → Reached → Type 0
Passes parts front s left old new to =
    (lines : List spelled.Line) (here : Front) → IsTreeOf parts (named lines) → IsReached parts front here → IsPassed parts (named lines) here s left old new to

module _ (parts : List Spot) (ms : List Named) (here : Front) (s : PlaceStep) (left : List PlaceStep) (old new : List Edit) (to : Reached)
    (p : IsPassed parts ms here s left old new to) where
  few : IsOneOrNone p.made
  few =
      let below = further ms here p.step in
      few_made here.kinds below.at p.made (is_some (below.kinds [])) here.in_value (slice_get left 0) p.step p.makes

  stays : (is_some to.here.part ≡ true) ⊎ (ends_too_deep (map change new) ≡ false) → (p.made ≡ []) ⊎ (ends_too_deep (map change old ++ p.made) ≡ false)
  stays (inl there) =
      let below = further ms here p.step in
      let stands : is_some (below.kinds []) ≡ true = sym (part_there parts to.here.part below.kinds p.reached.stands) ∙ there in
      inl (nothing_made (is_some (below.kinds [])) here.in_value (slice_get left 0) here.kinds p.step below.at p.made stands p.makes)
  stays (inr free) = inr (subst (λ cs. ends_too_deep cs ≡ false) p.edits free)

  none_on : list_any puts_too_deep (map change old) ≡ false → (is_some to.here.part ≡ true) ⊎ (ends_too_deep (map change new) ≡ false)
      → list_any puts_too_deep (map change new) ≡ false
  none_on none shallow = subst (λ cs. list_any puts_too_deep cs ≡ false) (sym p.edits) (still_none (map change old) p.made none few (stays shallow))

  cut_here : list_any puts_too_deep (map change old) ≡ false → ends_too_deep (map change new) ≡ true → (more : List Change)
      → up_to_too_deep (map change new ++ more) ≡ map change new
  cut_here none ends more =
      let deep = subst (λ cs. ends_too_deep cs ≡ true) p.edits ends in
      subst (λ cs. up_to_too_deep (cs ++ more) ≡ cs) (sym p.edits) (up_here (map change old) p.made none few deep more)

module _ (parts : List Spot) (place left : List PlaceStep) (old : List Edit) (front to : Reached) (s : PlaceStep) (walks : Walks parts place (s ∷ left) old front)
    (part : IfSome to.here.part (IsPart parts)) where
  pub walks_further : (new : List Edit) → Passes parts front s left old new to → (is_some to.here.part ≡ true) ⊎ (ends_too_deep (map change new) ≡ false)
      → Walks parts place left new to
  walks_further new passes shallow = record {
    walked = walks_on parts place left old new front to s walks.walked part passes;
    none = λ lines tree.
        let goes = walks.walked.goes lines tree in
        none_on parts (named lines) goes.here s left old new to (passes lines goes.here tree goes.reached) (walks.none lines tree) shallow;
  }

  -- the walk stops behind the first edit that puts something too deep
  pub stops : (edits : Vec Edit Global) → Passes parts front s left old edits.items to → to.here.part ≡ None → ends_too_deep (map change edits.items) ≡ true
      → (lines : List spelled.Line) → IsTreeOf parts (named lines) → IsMadeAbove parts (named lines) place (record { edits = edits; end = None })
  stops edits passes nothing ends lines tree = cut (walks.walked.goes lines tree)
    where
      some : List Change
      some = map change edits.items

      done : (on : Goes (named lines) parts place left some to) → ((more : List Change) → up_to_too_deep (some ++ more) ≡ some) → Rest (named lines) on.here left
          → IsMadeAbove parts (named lines) place (record { edits = edits; end = None })
      done on up (more, end, makes) = record {
        all = some ++ more;
        end = end;
        makes = on.on more end makes;
        edits = sym (up more);
        reached = list_any-append puts_too_deep some more ∙ or_left (list_any puts_too_deep some) (list_any puts_too_deep more) (ends_deep some ends);
      }

      cut : Goes (named lines) parts place (s ∷ left) (map change old) front → IsMadeAbove parts (named lines) place (record { edits = edits; end = None })
      cut goes =
          let p = passes lines goes.here tree goes.reached in
          let on = goes_on parts place left old edits.items front to s (named lines) goes p in
          done on (cut_here parts (named lines) goes.here s left old edits.items to p (walks.none lines tree) ends)
          (rest_is_made (named lines) on.here left (subst (λ o. Stands parts o on.here.kinds) nothing on.reached.stands))

pub ends : (parts : List Spot) (place : List PlaceStep) (edits : Vec Edit Global) (to : Reached) → Walks parts place [] edits.items to
    → (lines : List spelled.Line) → IsTreeOf parts (named lines) → IsMadeAbove parts (named lines) place (record { edits = edits; end = Some to })
ends parts place edits to walks lines tree =
    let goes = walks.walked.goes lines tree in
    let none = walks.none lines tree in
    record {
      all = map change edits.items;
      end = goes.here;
      makes = subst (λ l. Makes (named lines) (root (part_kinds parts 0)) place l goes.here) (append-nil (map change edits.items)) (goes.on [] goes.here (refl, refl));
      edits = sym (up_whole (map change edits.items) none);
      reached = (none, goes.reached);
    }
