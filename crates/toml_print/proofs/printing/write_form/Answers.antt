use Rattle.std.proofs.Common.{sym, subst}
use Rattle.std.proofs.lemmas.Result.{on_ok_weaker}
use Rattle.toml_names.specs.reader.Parts.{part_kinds}
use Rattle.toml_print.specs.Writing.{PrintsBehind}
use Rattle.toml_print.proofs.PartsPrinted.{tagged_printed}
use Rattle.toml_print.proofs.printing.write_form.Goals as goal

pub returns-in-Tagged : goal.returns-in-Tagged
returns-in-Tagged c =
    let f = part_kinds c.args.names.now c.args.id in
    let old = c.args.out.now.items in
    let new = c.write_json-in-Tagged.new.out.items in
    on_ok_weaker c.write_json-in-Tagged.result (λ w. subst (λ form. PrintsBehind form f old new) (sym c.in-Tagged.is) (tagged_printed f old new w)) c.write_json-in-Tagged.ensures
