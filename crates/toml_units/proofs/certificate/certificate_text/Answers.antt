use Rattle.std.proofs.Common.{string_bytes, refl}
use Rattle.toml_units.proofs.Certificates.{wrote_line}
use Rattle.toml_units.proofs.certificate.certificate_text.Goals as goal

pub loop-first-preserved : goal.loop-first-preserved
loop-first-preserved c =
    wrote_line c.deref-first-items.result.now c.loop-first.first-index (0, 0) (string_bytes c.loop-first.text) _ (string_bytes c.push_pair.new.text) _
    c.loop-first-test.true c.in_ok-push_pair.ensures refl c.loop-first.invariant
