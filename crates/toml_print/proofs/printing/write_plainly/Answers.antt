use Rattle.std.proofs.Common.{◌∙◌, ap, Some}
use Rattle.std.proofs.lemmas.Result.{on_ok_weaker}
use Rattle.toml_scalar.specs.Values.{scalar_value}
use Rattle.toml_names.specs.reader.Parts.{part_kinds, shape_kind}
use Rattle.toml_print.specs.Tagged.{text_of}
use Rattle.toml_print.proofs.PartsPrinted.{scalar_behind}
use Rattle.toml_print.proofs.printing.write_plainly.Goals as goal

pub returns-in-Scalar : goal.returns-in-Scalar
returns-in-Scalar c =
    let v = scalar_value c.in-Scalar.scalar in
    on_ok_weaker c.write_scalar_text.result
    (λ written. scalar_behind (part_kinds c.args.names.now c.args.id) v c.args.out.now.items c.write_scalar_text.new.out.items (text_of v)
    (c.in_ok-scalar.ensures ∙ ap (λ s. Some (shape_kind s)) c.in-Scalar.is) (λ i. text_of v) written)
    c.write_scalar_text.ensures
