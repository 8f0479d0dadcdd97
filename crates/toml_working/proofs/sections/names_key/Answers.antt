use Rattle.std.proofs.Common.{◌≡◌, ◌<◌, ◌+◌, ◌∙◌, false, Some, None, length, take, map, get_or, string_bytes, ap, sym, subst, arith}
use Rattle.std.specs.Option.{option_copied}
use Rattle.std.specs.Prelude.{option_map, slice_get}
use Rattle.std.proofs.lemmas.Option.{slice_get-map, slice_get_within}
use Rattle.toml_working.proofs.Alone.{slice_get_none}
use Rattle.toml_working.proofs.HeaderSteps.{IsBuilt, indexed_on, named_on, named_out}
use Rattle.toml_working.proofs.OpenedBody.{item_got}
use Rattle.toml_working.specs.PuttingHeaders.{name_texts}
use Rattle.toml_working.proofs.sections.names_key.Goals.{in-Name+in_ok-push-in-Name, in-Index}
use Rattle.toml_working.proofs.sections.names_key.Goals as goal

pub returns-in_default : goal.returns-in_default
returns-in_default c =
    let at = c.args.at.now in
    let texts = map string_bytes c.args.spelled.now in
    let place = c.loop-place.place in
    let none : slice_get texts place ≡ None =
    slice_get-map string_bytes c.args.spelled.now place ∙ ap (option_map string_bytes) (sym (item_got _ _ _ c.get.ensures.lookup) ∙ ap option_copied c.in_default.is) in
    let here : c.step-item.result ≡ get_or at place c.step-item.result = c.step-item.is ∙ ap (λ xs. get_or xs place c.step-item.result) c.steps-step-items.ensures in
    named_out at texts place c.step-item.result (let e = ap length c.steps-step-items.ensures in omega (arith, e)) here c.loop-place.first c.loop-place.key
    (slice_get_none texts place none) c.loop-place.invariant

pub loop-place-preserved : goal.loop-place-preserved
loop-place-preserved c =
    let at = c.args.at.now in
    let texts = map string_bytes c.args.spelled.now in
    let place = c.loop-place.place in
    let low : place < length at = let e = ap length c.steps-step-items.ensures in omega (arith, e) in
    let here : c.step-item.result ≡ get_or at place c.step-item.result = c.step-item.is ∙ ap (λ xs. get_or xs place c.step-item.result) c.steps-step-items.ensures in
    let found : slice_get texts place ≡ Some (string_bytes c.in-Some.text.now) =
    slice_get-map string_bytes c.args.spelled.now place ∙ ap (option_map string_bytes) (sym (item_got _ _ _ c.get.ensures.lookup) ∙ ap option_copied c.in-Some.is) in
    elim c.match-step.branch [
      | in-Name+in_ok-push-in-Name w ↦
          subst (λ f. IsBuilt (name_texts (take (place + 1) at) texts) f c.match-step.key) (sym w.first-is)
          (subst (IsBuilt (name_texts (take (place + 1) at) texts) false) (sym w.key-is)
          (named_on at texts place c.step-item.result low here w.in-Name.field-0 w.as_str.result.now c.loop-place.first c.loop-place.key w.push.new.self w.in-Name.is
          (found ∙ ap Some (sym w.as_str.ensures.value)) c.loop-place.invariant w.in_ok-push-in-Name.ensures.begun w.in_ok-push-in-Name.ensures.added))
      | in-Index w ↦
          subst (λ f. IsBuilt (name_texts (take (place + 1) at) texts) f c.match-step.key) (sym w.first-is)
          (subst (IsBuilt (name_texts (take (place + 1) at) texts) c.loop-place.first) (sym w.key-is)
          (indexed_on at texts place c.step-item.result low here w.in-Index.field-0 c.loop-place.first c.loop-place.key w.in-Index.is
          (slice_get_within texts place _ found) c.loop-place.invariant))
    ]
