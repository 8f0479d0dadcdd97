use Rattle.std.proofs.Common.{◌∙◌, Some, ap, map, string_bytes}
use Rattle.toml_layout.specs.OpenOutlines.{leaf_text}
use Rattle.toml_working.specs.Headers.{header_of}
use Rattle.toml_working.specs.OpeningLines.{alone}
use Rattle.toml_working.specs.PuttingHeaders.{name_texts}
use Rattle.toml_working.proofs.Answered.{if_ok_three}
use Rattle.toml_working.proofs.HeaderSteps.{header_is, texts_named}
use Rattle.toml_working.proofs.sections.NewHeader.line.Goals as goal

pub returns : goal.returns
returns c =
    let it = c.args.self in
    if_ok_three _ _ _ _ c.new.result
    (λ l address base outline. λ spells. (
      address ∙ ap Some c.in_ok-address.ensures,
      base,
      (
        outline.0,
        outline.1,
        outline.2
            ∙ ap (λ e. alone e (leaf_text c.args.newline))
            (header_is it.brackets c.in_ok-names_key.field-0 (name_texts it.at.now (map string_bytes it.spelled.now)) c.in_ok-names_key.ensures
            ∙ ap (header_of it.brackets) (texts_named it.at.now (map string_bytes it.spelled.now) spells)),
      ),
    ))
    c.new.ensures.address c.new.ensures.base c.new.ensures.outline
