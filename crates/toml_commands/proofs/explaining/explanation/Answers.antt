use Rattle.std.proofs.Common.{arith}
use Rattle.std.specs.Prelude.{string_bytes}
use Rattle.toml_commands.proofs.Said.{by_request, more_shown, of_apply, of_check, of_edit, of_get, of_one, of_show}
use Rattle.toml_words.specs.declared.request.Request.TheVariants as requests
use Rattle.toml_commands.proofs.explaining.explanation.Goals as goal

pub returns-in-Show : goal.returns-in-Show
returns-in-Show c =
    let file = c.input in
    of_show string_bytes c.of_document.result c.args.request.now c.args.inputs.now c.args.refusal c.in-Show.profile c.in-Show.file
    file.result.word.now file.result.bytes.now file.ensures.word file.ensures.bytes c.in-Show.list c.in-Show.explain c.in-Show.is c.of_document.ensures

pub returns-in-Check : goal.returns-in-Check
returns-in-Check c =
    let file = c.input-in-Check in
    of_check string_bytes c.of_document-in-Check.result c.args.request.now c.args.inputs.now c.args.refusal c.in-Check.profile c.in-Check.file
    file.result.word.now file.result.bytes.now file.ensures.word file.ensures.bytes c.in-Check.explain c.in-Check.is c.of_document-in-Check.ensures

pub returns-in-Get : goal.returns-in-Get
returns-in-Get c =
    let file = c.input-in-Get in
    let told = c.of_get.ensures in
    of_get string_bytes c.of_get.result c.args.request.now c.args.inputs.now c.args.refusal c.in-Get.profile c.in-Get.file
    file.result.word.now file.result.bytes.now file.ensures.word file.ensures.bytes c.in-Get.place told.no_place told.no_document
    (λ is. more_shown string_bytes file.result.word.now file.result.bytes.now c.of_get.result (told.in_file (omega (arith, is)) (λ e. omega (arith, is, e))))
    (λ low no_value no_place. told.in_file low no_place) c.in-Get.form c.in-Get.default c.in-Get.is

pub returns-in-One : goal.returns-in-One
returns-in-One c =
    let file = c.input-in-One in
    let told = c.of_one.ensures in
    of_one string_bytes c.of_one.result c.args.request.now c.args.inputs.now c.args.refusal c.in-One.profile c.in-One.file
    file.result.word.now file.result.bytes.now file.ensures.word file.ensures.bytes c.in-One.place told.no_place told.no_document told.value told.in_file c.in-One.edit c.in-One.destination c.in-One.layout c.in-One.is

pub returns-in-Edit : goal.returns-in-Edit
returns-in-Edit c =
    let file = c.input-in-Edit in
    let list = c.input-list in
    let told = c.of_list.ensures in
    of_edit string_bytes c.of_list.result c.args.request.now c.args.inputs.now c.args.refusal c.in-Edit.profile c.in-Edit.file
    file.result.word.now file.result.bytes.now file.ensures.word file.ensures.bytes c.in-Edit.edits list.result.word.now list.ensures.word told.no_list told.no_document told.value told.in_file
    c.in-Edit.out c.in-Edit.cert c.in-Edit.explain c.in-Edit.is

pub returns-in-Apply : goal.returns-in-Apply
returns-in-Apply c =
    let file = c.input-in-Apply in
    let list = c.input-list-in-Apply in
    let told = c.of_list-in-Apply.ensures in
    of_apply string_bytes c.of_list-in-Apply.result c.args.request.now c.args.inputs.now c.args.refusal c.in-Apply.profile c.in-Apply.file
    file.result.word.now file.result.bytes.now file.ensures.word file.ensures.bytes c.in-Apply.edits list.result.word.now list.ensures.word told.no_list told.no_document told.value told.in_file
    c.in-Apply.destination c.in-Apply.layout c.in-Apply.is

pub returns-in-Verify : goal.returns-in-Verify
returns-in-Verify c =
    by_request string_bytes c.of_judged.result c.args.request.now c.args.inputs.now c.args.refusal c.in-Verify.profile
    (requests.Verify c.in-Verify.before c.in-Verify.edits c.in-Verify.after c.in-Verify.cert c.in-Verify.explain c.in-Verify.profile) c.in-Verify.is c.of_judged.ensures

pub returns-in-Certify : goal.returns-in-Certify
returns-in-Certify c =
    by_request string_bytes c.of_judged-in-Certify.result c.args.request.now c.args.inputs.now c.args.refusal c.in-Certify.profile
    (requests.Certify c.in-Certify.before c.in-Certify.edits c.in-Certify.after c.in-Certify.cert c.in-Certify.profile) c.in-Certify.is c.of_judged-in-Certify.ensures
