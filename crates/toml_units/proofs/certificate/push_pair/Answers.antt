use Rattle.std.proofs.Common.{◌++◌, string_bytes, sym, ap, ◌∙◌}
use Rattle.toml_units.specs.Decimals.{number_text}
use Rattle.toml_units.proofs.Certificates.{pair_written}
use Rattle.toml_units.proofs.Decimals.{number_decimal}
use Rattle.toml_units.proofs.certificate.push_pair.Goals as goal

pub returns : goal.returns
returns c =
    let one = c.args.first in
    let two = c.args.second in
    let old = string_bytes c.args.text.now in
    let first = c.in_ok-push_str.ensures.bytes ∙ ap (λ l. old ++ l) (c.format.ensures.text ∙ sym (number_decimal one c.ranges.first.fits)) in
    let second = c.in_ok-push_str-3.ensures.bytes ∙ ap (λ l. string_bytes c.push_str-2.new.self ++ l) (c.format-2.ensures.text ∙ sym (number_decimal two c.ranges.second.fits)) in
    pair_written (number_text one) (number_text two) old _ _ _ _ first c.in_ok-push_str-2.ensures.bytes second c.in_ok-push_str-4.ensures.bytes
