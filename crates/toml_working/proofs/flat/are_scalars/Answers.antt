use Rattle.std.proofs.Common.{◌≡◌, ◌<◌, Some, below_more, true≢false, refl, sym, ◌∙◌, arith}
use Rattle.std.proofs.lemmas.Option.{same_Some, slice_get_read, slice_get_within}
use Rattle.std.specs.Prelude.{slice_get, length}
use Rattle.toml_scalar.specs.declared.scalar.Scalar.{Scalar as Token}
use Rattle.toml_names.specs.declared.model.datum.Datum.{Datum, Scalar}
use Rattle.toml_working.proofs.flat.are_scalars.Goals as goal
use Rattle.toml_working.proofs.flat.are_scalars.Goals.{in-Scalar, in_default}

pub loop-item-preserved : goal.loop-item-preserved
loop-item-preserved c =
    let item = slice_get_read c.args.items.now _ c.loop-item.item-index c.item-item.result refl c.loop-item-test.true c.item-item.is in
    below_more (λ i. (d : Datum) → slice_get c.args.items.now i ≡ Some d → (s : Token) × (d ≡ Scalar s)) c.loop-item.item-index c.loop-item.invariant
    (λ d is. let same : c.item-item.result ≡ d = same_Some c.item-item.result d (sym item ∙ is) in
    elim c.match-matches.branch [ in-Scalar w ↦ (w.in-Scalar.field-0, sym same ∙ w.in-Scalar.is) | in_default w ↦ absurd (true≢false (sym c.if-not-matches.false ∙ w.matches-is)) ])

pub returns : goal.returns
returns c = λ yes i d is.
    let within : i < length c.args.items.now = slice_get_within c.args.items.now i d is in
    c.loop-item.invariant i (omega arith) d is
