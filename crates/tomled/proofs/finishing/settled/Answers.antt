use Rattle.toml_words.specs.declared.request.Request.TheVariants as requests
use Rattle.tomled.proofs.Settled.{by_request}
use Rattle.tomled.proofs.finishing.settled.Goals as goal

pub returns-in-Certify : goal.returns-in-Certify
returns-in-Certify g c =
    by_request c.args.request.now (requests.Certify c.in-Certify.before c.in-Certify.edits c.in-Certify.after c.in-Certify.cert c.in-Certify.profile) c.in-Certify.is
    c.args.inputs.now c.args.outcome c.certified.result _ _ c.certified.ensures

pub returns-in-One : goal.returns-in-One
returns-in-One g c =
    by_request c.args.request.now (requests.One c.in-One.file c.in-One.place c.in-One.edit c.in-One.destination c.in-One.layout c.in-One.profile) c.in-One.is c.args.inputs.now
    c.args.outcome c.edited.result _ _ c.edited.ensures

pub returns-in-Apply : goal.returns-in-Apply
returns-in-Apply g c =
    by_request c.args.request.now (requests.Apply c.in-Apply.file c.in-Apply.edits c.in-Apply.destination c.in-Apply.layout c.in-Apply.profile) c.in-Apply.is c.args.inputs.now
    c.args.outcome c.edited-in-Apply.result _ _ c.edited-in-Apply.ensures
