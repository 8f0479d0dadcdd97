use Rattle.std.proofs.Common.{◌≡◌, ◌⊎◌, ◌∷◌, ◌+◌, List, true, false, drop, inl, inr, map, not, ap, ◌∙◌, sym, subst}
use Rattle.std.specs.Prelude.{is_some}
use Rattle.toml_names.specs.mentions.Mentions.{named}
use Rattle.toml_edits.specs.Edits.{change}
use Rattle.toml_edits.specs.declared.edit.Edit.{Edit}
use Rattle.toml_one.specs.Walking.{IsPassed, ends_too_deep}
use Rattle.toml_one.proofs.MadeAbove.{Walks, begins, ends, stops, walks_further}
use Rattle.toml_one.proofs.RestMade.{none_is}
use Rattle.toml_one.proofs.Walked.{left_is, left_none, rest_is}
use Rattle.toml_one.proofs.parents.make_parents.Goals as goal
use Rattle.toml_one.proofs.parents.make_parents.Goals.{else-is_none-via-then-is_none+else-ends_too_deep, else-is_none-via-else-is_none}

pub loop-i-init : goal.loop-i-init
loop-i-init c =
    subst (λ l. Walks c.args.names.now c.args.place.now c.args.place.now l c.root-front.result) (sym c.new-edits.ensures.items)
    (begins c.args.names.now c.args.place.now c.root-front.result c.root-front.ensures.at c.root-front.ensures.part c.root-front.ensures.is c.root-front.ensures.in_value)

pub loop-i-preserved : goal.loop-i-preserved
loop-i-preserved c =
    let names = c.args.names.now in
    let place = c.args.place.now in
    let i = c.loop-i.i in
    let s = c.index-place-i.result in
    let to = c.in_ok-front.front in
    let new = c.pass.new.edits.items in
    let next : drop i place ≡ s ∷ drop (i + 1) place = left_is place i s _ c.loop-i-test.true c.index-place-i.is in
    let walks = subst (λ l. Walks names place l c.loop-i.edits.items c.loop-i.front) next c.loop-i.invariant in
    let shallow : (is_some to.here.part ≡ true) ⊎ (ends_too_deep (map change new) ≡ false) = elim c.else-is_none.branch [
      | else-is_none-via-then-is_none+else-ends_too_deep w ↦
          inr (subst (λ (es : List Edit). ends_too_deep (map change es) ≡ false) w.deref.ensures.value (sym w.ends_too_deep.ensures ∙ w.if-ends_too_deep.false))
      | else-is_none-via-else-is_none w ↦ inl (c.is_none.ensures ∙ ap not w.if-is_none.false)
    ] in
    walks_further names place (drop (i + 1) place) c.loop-i.edits.items c.loop-i.front to s walks c.in_ok-front.ensures.part new
    (λ lines here tree reached.
    subst (λ l. IsPassed names (named lines) here s l c.loop-i.edits.items new to) (rest_is place (i + 1)) (c.in_ok-front.ensures.passed lines here tree reached))
    shallow

pub returns-then-ends_too_deep : goal.returns-then-ends_too_deep
returns-then-ends_too_deep c =
    let names = c.args.names.now in
    let place = c.args.place.now in
    let i = c.loop-i.i in
    let s = c.index-place-i.result in
    let next : drop i place ≡ s ∷ drop (i + 1) place = left_is place i s _ c.loop-i-test.true c.index-place-i.is in
    let walks = subst (λ l. Walks names place l c.loop-i.edits.items c.loop-i.front) next c.loop-i.invariant in
    let deep = subst (λ (es : List Edit). ends_too_deep (map change es) ≡ true) c.deref.ensures.value (sym c.ends_too_deep.ensures ∙ c.if-ends_too_deep.true) in
    stops names place (drop (i + 1) place) c.loop-i.edits.items c.loop-i.front c.in_ok-front.front s walks c.in_ok-front.ensures.part c.pass.new.edits
    (λ lines here tree reached.
    subst (λ l. IsPassed names (named lines) here s l c.loop-i.edits.items c.pass.new.edits.items c.in_ok-front.front) (rest_is place (i + 1)) (c.in_ok-front.ensures.passed lines here tree reached))
    (none_is c.in_ok-front.front.here.part (c.is_none.ensures ∙ ap not c.if-is_none.true)) deep

pub returns : goal.returns
returns c =
    let names = c.args.names.now in
    let place = c.args.place.now in
    let none = left_none place c.loop-i.i c.loop-i-test.false in
    ends names place c.loop-i.edits c.loop-i.front (subst (λ l. Walks names place l c.loop-i.edits.items c.loop-i.front) none c.loop-i.invariant)
