use Rattle.toml_commands.proofs.Asked.{checks, gets, makes_wish, shows}
use Rattle.toml_commands.proofs.answering.answer_of_file.Goals as goal

pub returns-in_ok-show_or_list-in-Show : goal.returns-in_ok-show_or_list-in-Show
returns-in_ok-show_or_list-in-Show c =
    shows c.args.request.now c.in-Show.profile c.args.file.now c.in_ok-show_or_list-in-Show.field-0 c.in-Show.file c.in-Show.list c.in-Show.explain c.in-Show.is
    c.in_ok-show_or_list-in-Show.ensures

pub returns-in_ok-run_check_in-in-Check : goal.returns-in_ok-run_check_in-in-Check
returns-in_ok-run_check_in-in-Check c =
    checks c.args.request.now c.in-Check.profile c.args.file.now c.in_ok-run_check_in-in-Check.field-0 c.in-Check.file c.in-Check.explain c.in-Check.is
    c.in_ok-run_check_in-in-Check.ensures

pub returns-in_ok-run_get_in-in-Get : goal.returns-in_ok-run_get_in-in-Get
returns-in_ok-run_get_in-in-Get c =
    gets c.args.request.now c.in-Get.profile c.args.file.now c.in_ok-run_get_in-in-Get.field-0 c.in-Get.file c.in-Get.place c.in-Get.form c.in-Get.default c.in-Get.is
    c.as_bytes-place.result.now c.as_bytes-place.ensures.value c.get_form.result c.get_form.ensures c.bytes_of-default.result c.bytes_of-default.ensures
    c.in_ok-run_get_in-in-Get.ensures

pub returns-in_ok-run_one_in-in-One : goal.returns-in_ok-run_one_in-in-One
returns-in_ok-run_one_in-in-One c =
    makes_wish c.args.request.now c.in-One.profile c.args.file.now c.in_ok-run_one_in-in-One.field-0 c.in-One.file c.in-One.place c.in-One.edit c.in-One.destination c.in-One.layout c.in-One.is
    c.as_bytes-place-in-One.result.now c.as_bytes-place-in-One.ensures.value c.text_layout-layout.result c.text_layout-layout.ensures c.in_ok-run_one_in-in-One.ensures
