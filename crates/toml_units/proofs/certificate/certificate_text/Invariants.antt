use Rattle.std.proofs.Common.{◌≡◌, ◌++◌, drop, string_bytes}
use Rattle.toml_units.specs.Certificates.{pairs_text, certificate_of}
use Rattle.toml_units.proofs.certificate.certificate_text.Given as goal

abbrev pub invariant-loop-first : goal.invariant-loop-first
invariant-loop-first l = string_bytes l.text ++ pairs_text (drop l.first-index l.first-items) ≡ certificate_of l.first-items
