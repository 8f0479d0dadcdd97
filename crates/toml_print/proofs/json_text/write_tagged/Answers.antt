use Rattle.std.proofs.Common.{subst}
use Rattle.std.proofs.lemmas.Result.{on_ok_weaker}
use Rattle.toml_names.specs.reader.Parts.{part_kinds}
use Rattle.toml_print.specs.TaggedText.{WritesTagged}
use Rattle.toml_print.proofs.TreesTagged.{writes_tagged}
use Rattle.toml_print.proofs.json_text.write_tagged.Goals as goal

pub returns : goal.returns
returns c =
    let parts = c.args.whole.now in
    let old = c.args.out.now.items in
    let new = c.write_json.new.out.items in
    on_ok_weaker c.write_json.result
    (λ w. subst (λ id. WritesTagged (part_kinds parts id) old new) c.root.ensures.root (writes_tagged (part_kinds parts c.root.result) old new w))
    c.write_json.ensures
