use Rattle.std.proofs.Common.{◌≡◌, Err, length, refl, sym, ap, subst, arith}
use Rattle.std.proofs.lemmas.List.{with_items_is}
use Rattle.std.specs.Vec.{with_items}
use Rattle.toml_delivery.specs.Delivery.{IsDelivered}
use Rattle.tomled.specs.Ending.{IsWrittenOut}
use Rattle.tomled.specs.Finishing.{written}
use Rattle.tomled.specs.Opening.{AreOpened}
use Rattle.tomled.specs.Validating.{words_of}
use Rattle.tomled.specs.declared.finishing.Streams.{Streams}
use Rattle.tomled.proofs.Asking.{so}
use Rattle.tomled.proofs.Ended.{all_written}
use Rattle.tomled.proofs.opening.written_out.Goals as goal

pub returns-in-Err : goal.returns-in-Err
returns-in-Err g c =
    let request = c.args.request.now in
    let fault = c.in-Err.fault in
    so (AreOpened {F = g.row.F.Denot} (words_of (written request)) (length c.args.outcome.now.files.items) (Err fault))
    (IsWrittenOut g.F.Write.contents g.O.Write.contents g.E.Write.contents c.args.streams.now c.args.streams.now request c.args.outcome.now (Err fault))
    _ _ c.in-Err.ensures.opened (λ xs h. (h, refl))

pub returns : goal.returns
returns g c =
    let files = c.in-Ok.files in
    let last = c.deliver-status.new.files in
    let new : Streams g.row.O.Denot g.row.E.Denot = record { out = c.deliver-status.new.out; err = c.deliver-status.new.err } in
    let count : length last ≡ files.len = omega (arith, c.deliver-status.auto.files, ap length c.as_mut_slice.ensures.value, files.ok.0) in
    let delivered =
    subst (λ l. IsDelivered g.F.Write.contents g.O.Write.contents g.E.Write.contents c.as_mut_slice.result.now l c.args.streams.now.out c.deliver-status.new.out c.args.streams.now.err c.deliver-status.new.err
    c.args.outcome.now c.deliver-status.result) (sym (with_items_is files last count)) c.deliver-status.ensures in
    all_written g.F.Write.contents g.O.Write.contents g.E.Write.contents c.args.streams.now new c.args.request.now c.args.outcome.now files _ c.as_mut_slice.ensures.value c.in-Ok.ensures.count
    (c.deliver-status.result, with_items files last) delivered _ _ c.in-Ok.ensures.opened
