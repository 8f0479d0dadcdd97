use Rattle.std.proofs.Common.{◌≡◌, true, None, Ok, inl, inr, refl, sym, subst}
use Rattle.tomled.specs.Finishing.{IsFirst, IsPlaced}
use Rattle.tomled.proofs.Settled.{is_replaced, nothing_asked}
use Rattle.tomled.proofs.finishing.placed.Goals as goal

pub returns-then-not-destination : goal.returns-then-not-destination
returns-then-not-destination g c =
    nothing_asked (IsPlaced c.args.file.now c.args.destination c.args.inputs.now c.args.outcome (Ok c.with_named.result)) (g.D.Disk.calls c.args.disk.now)
    (inl (c.if-not-destination.true, refl, c.with_named.result, refl, c.with_named.ensures))

pub returns-then-is_first : goal.returns-then-is_first
returns-then-is_first g c =
    let first = subst (IsFirst c.args.inputs.now) c.deref.ensures.value (c.is_first.ensures.0 c.if-is_first.true) in
    nothing_asked (IsPlaced c.args.file.now c.args.destination c.args.inputs.now c.args.outcome (Ok c.with_named-then-is_first.result)) (g.D.Disk.calls c.args.disk.now)
    (inr (inl (
      c.if-not-destination.false,
      first,
      refl,
      c.without_text.result,
      c.with_named-then-is_first.result,
      refl,
      (c.without_text.ensures.out, c.without_text.ensures.rest),
      c.with_named-then-is_first.ensures,
    )))

pub returns : goal.returns
returns g c =
    is_replaced c.args.file.now None c.args.destination c.args.inputs.now c.args.outcome c.if-not-destination.false
    (λ h.
    let t : c.is_first.result ≡ true = c.is_first.ensures.1 (subst (IsFirst c.args.inputs.now) (sym c.deref.ensures.value) h) in
    let f = c.if-is_first.false in
    cc)
    c.replaced.result _ _ c.replaced.ensures
