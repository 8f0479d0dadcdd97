use Rattle.std.proofs.Common.{arith}
use Rattle.std.specs.Prelude.{string_bytes}
use Rattle.toml_explain.proofs.Opened.{byte_as, key_as, length_as, twice_as}
use Rattle.toml_explain.proofs.document.explain_document.Goals as goal

pub returns-in-102 : goal.returns-in-102
returns-in-102 c =
    length_as string_bytes c.args.file.word.now c.args.file.bytes.now c.args.profile c.args.code c.args.place c.explain_length.result c.in-102.is c.explain_length.ensures.file
    c.explain_length.ensures.length

pub returns-in-201 : goal.returns-in-201
returns-in-201 c =
    let told = c.explain_redefined.ensures in
    twice_as string_bytes c.args.file.word.now c.args.file.bytes.now c.args.profile c.args.code c.args.place c.explain_redefined.result c.in-201.is told.file told.line told.offence
    told.clash

pub returns-in-203 : goal.returns-in-203
returns-in-203 c =
    key_as string_bytes c.args.file.word.now c.args.file.bytes.now c.args.profile c.args.code c.args.place c.explain_long.result c.in-203.is c.explain_long.ensures.file c.explain_long.ensures.key
    c.explain_long.ensures.below

pub returns-in_default : goal.returns-in_default
returns-in_default c =
    byte_as string_bytes c.args.file.word.now c.args.file.bytes.now c.args.profile c.args.code c.args.place c.explain_byte.result (λ e. omega (arith, e)) (λ e. omega (arith, e)) (λ e. omega (arith, e))
    c.explain_byte.ensures.file c.explain_byte.ensures.byte c.explain_byte.ensures.below
