use Rattle.std.proofs.Common.{◌≡◌, ap, ◌∙◌, subst}
use Rattle.toml_delivery.specs.Takes.{IsLost, IsTaken}
use Rattle.tomled.proofs.reading.read_from.Goals as goal

pub returns-in-Ok-clause-bytes : goal.returns-in-Ok-clause-bytes
returns-in-Ok-clause-bytes g c =
    let start : c.new.result.device.now.reader ≡ c.args.reader = ap (λ d. d.device.now.reader) c.new.ensures ∙ c.of-reader.ensures in
    (_, subst (λ r. IsTaken c.args.source.limit (g.R.Read.remaining r) (g.R.Read.remaining c.take.new.reader.device.now.reader) c.in-Ok.bytes.items) start c.in-Ok.ensures.taken)

pub returns-in-Err-Device-clause-bytes : goal.returns-in-Err-Device-clause-bytes
returns-in-Err-Device-clause-bytes g c =
    let start : c.new.result.device.now.reader ≡ c.args.reader = ap (λ d. d.device.now.reader) c.new.ensures ∙ c.of-reader.ensures in
    (_, subst (λ r. IsLost c.args.source.limit (g.R.Read.remaining r) (g.R.Read.remaining c.take.new.reader.device.now.reader)) start c.in-Err-Device.ensures.lost)

pub returns-clause-bytes : goal.returns-clause-bytes
returns-clause-bytes g c =
    let start : c.new.result.device.now.reader ≡ c.args.reader = ap (λ d. d.device.now.reader) c.new.ensures ∙ c.of-reader.ensures in
    (_, subst (λ r. IsLost c.args.source.limit (g.R.Read.remaining r) (g.R.Read.remaining c.take.new.reader.device.now.reader)) start c.in-Err-NoMemory.ensures.lost)
