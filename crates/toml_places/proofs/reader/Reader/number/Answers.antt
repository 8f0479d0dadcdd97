use Rattle.std.proofs.Common.{ap, ◌∙◌, arith}
use Rattle.toml_text.specs.Source.{text_of}
use Rattle.toml_places.specs.Reading.{numeral_len}
use Rattle.toml_places.proofs.Cuts.{behind_numeral}
use Rattle.toml_places.proofs.Numbers.{number_done, number_missed}
use Rattle.toml_places.proofs.reader.Reader.number.Goals as goal

pub slice-requires : goal.slice-requires
slice-requires c =
    let reader = c.args.self.now in
    let len = c.numeral_len.ensures.run ∙ ap numeral_len c.rest.ensures in
    record { order = omega arith; start = reader.bound; end = behind_numeral (text_of reader.source) reader.at reader.source.is_text reader.bound c.numeral_len.result len }

pub invariant_of-self : goal.invariant_of-self
invariant_of-self c =
    let reader = c.args.self.now in
    let len = c.numeral_len.ensures.run ∙ ap numeral_len c.rest.ensures in
    record { bound = behind_numeral (text_of reader.source) reader.at reader.source.is_text reader.bound c.numeral_len.result len }

pub returns-in-Ok : goal.returns-in-Ok
returns-in-Ok c =
    let reader = c.args.self.now in
    let len = c.numeral_len.ensures.run ∙ ap numeral_len c.rest.ensures in
    number_done (text_of reader.source) reader.at c.numeral_len.result len c.slice.result.now c.slice.ensures c.parse.result c.in-Ok.number c.parse.ensures.value.0 c.in-Ok.is

pub returns-in-Err : goal.returns-in-Err
returns-in-Err c =
    let reader = c.args.self.now in
    let len = c.numeral_len.ensures.run ∙ ap numeral_len c.rest.ensures in
    rw c.refuse.ensures (number_missed (text_of reader.source) reader.at c.numeral_len.result len c.slice.result.now c.slice.ensures c.parse.result c.in-Err.field-0 c.parse.ensures.value.0 c.in-Err.is)
