use Rattle.toml_commands.proofs.Asked.{applies, certifies, edits, four_of, three_of, two_of, verifies}
use Rattle.toml_commands.proofs.answering.answer.Goals as goal

pub returns-in_ok-run_apply_in-in-Apply : goal.returns-in_ok-run_apply_in-in-Apply
returns-in_ok-run_apply_in-in-Apply c =
    applies c.args.request.now c.args.inputs.now c.in_ok-run_apply_in-in-Apply.field-0 c.in-Apply.profile c.deref.result.now c.deref-in-Apply.result.now
    c.in-Apply.file c.in-Apply.edits c.in-Apply.destination c.in-Apply.layout c.in-Apply.is c.text_layout.result c.text_layout.ensures c.file-item.result c.edits-item.result
    (two_of c.args.inputs.now c.file-item.result c.edits-item.result c.in-len2.len_at_least c.in-len2.len_below c.file-item.is c.edits-item.is)
    c.deref.ensures.value c.deref-in-Apply.ensures.value c.in_ok-run_apply_in-in-Apply.ensures

pub returns-in_ok-run_edit_in-in-Edit : goal.returns-in_ok-run_edit_in-in-Edit
returns-in_ok-run_edit_in-in-Edit c =
    edits c.args.request.now c.args.inputs.now c.in_ok-run_edit_in-in-Edit.field-0 c.in-Edit.profile c.deref-in-Edit.result.now c.deref-in-Edit-2.result.now
    c.in-Edit.file c.in-Edit.edits c.in-Edit.out c.in-Edit.cert c.in-Edit.explain c.in-Edit.is c.file-item-then-inputs-lt3-2.result c.edits-item-then-inputs-lt3-2.result
    (two_of c.args.inputs.now c.file-item-then-inputs-lt3-2.result c.edits-item-then-inputs-lt3-2.result c.in-len2-inputs.len_at_least c.in-len2-inputs.len_below
    c.file-item-then-inputs-lt3-2.is c.edits-item-then-inputs-lt3-2.is)
    c.deref-in-Edit.ensures.value c.deref-in-Edit-2.ensures.value c.in_ok-run_edit_in-in-Edit.ensures

pub returns-in_ok-run_verify_in-in-Verify : goal.returns-in_ok-run_verify_in-in-Verify
returns-in_ok-run_verify_in-in-Verify c =
    verifies c.args.request.now c.args.inputs.now c.in_ok-run_verify_in-in-Verify.field-0 c.in-Verify.profile c.deref-in-Verify.result.now c.deref-in-Verify-2.result.now
    c.deref-in-Verify-3.result.now c.deref-in-Verify-4.result.now c.in-Verify.before c.in-Verify.edits c.in-Verify.after c.in-Verify.cert c.in-Verify.explain c.in-Verify.is
    c.before-item.result c.edits-item-then-inputs-lt5.result c.after-item.result c.cert-item.result
    (four_of c.args.inputs.now c.before-item.result c.edits-item-then-inputs-lt5.result c.after-item.result c.cert-item.result c.in-len4.len_at_least c.in-len4.len_below
    c.before-item.is c.edits-item-then-inputs-lt5.is c.after-item.is c.cert-item.is)
    c.deref-in-Verify.ensures.value c.deref-in-Verify-2.ensures.value c.deref-in-Verify-3.ensures.value c.deref-in-Verify-4.ensures.value c.in_ok-run_verify_in-in-Verify.ensures.verifies

pub returns-in_ok-run_certify_in-in-Certify : goal.returns-in_ok-run_certify_in-in-Certify
returns-in_ok-run_certify_in-in-Certify c =
    certifies c.args.request.now c.args.inputs.now c.in_ok-run_certify_in-in-Certify.field-0 c.in-Certify.profile c.deref-in-Certify.result.now c.deref-in-Certify-2.result.now
    c.deref-in-Certify-3.result.now c.in-Certify.before c.in-Certify.edits c.in-Certify.after c.in-Certify.cert c.in-Certify.is
    c.before-item-then-inputs-lt4-2.result c.edits-item-then-inputs-lt4-2.result c.after-item-then-inputs-lt4-2.result
    (three_of c.args.inputs.now c.before-item-then-inputs-lt4-2.result c.edits-item-then-inputs-lt4-2.result c.after-item-then-inputs-lt4-2.result
    c.in-len3.len_at_least c.in-len3.len_below c.before-item-then-inputs-lt4-2.is c.edits-item-then-inputs-lt4-2.is c.after-item-then-inputs-lt4-2.is)
    c.deref-in-Certify.ensures.value c.deref-in-Certify-2.ensures.value c.deref-in-Certify-3.ensures.value c.in_ok-run_certify_in-in-Certify.ensures.certifies
