use Rattle.std.proofs.Common.{arith}
use Rattle.std.proofs.lemmas.Simd.{zip2_splat, zip2_of_maps}
use Rattle.toml_text.proofs.Stops.{mask_stops}
use Rattle.toml_text.proofs.unmarked.stops.Goals as goal

pub returns : goal.returns
returns c =
    let v = c.args.bytes in
    let long = c.fits-bytes.0 in
    mask_stops c.args.mark c.args.other v _ (omega arith) (
    let control = zip2_of_maps _ _ _ v (zip2_splat _ v 16 0x20 long) (zip2_splat _ v 16 0x09 long) in
    let marks = zip2_of_maps _ _ _ v (zip2_splat _ v 16 c.args.mark long) (zip2_splat _ v 16 c.args.other long) in
    zip2_of_maps _ _ _ v (zip2_of_maps _ _ _ v control (zip2_splat _ v 16 0x7F long)) marks
    )
