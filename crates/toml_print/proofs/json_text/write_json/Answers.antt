use Rattle.std.proofs.Common.{ap, ◌∙◌}
use Rattle.std.proofs.lemmas.Result.{on_ok_weaker}
use Rattle.toml_names.specs.reader.Parts.{part_kinds}
use Rattle.toml_print.proofs.PrintedTokens.{json_written}
use Rattle.toml_print.proofs.json_text.write_json.Goals as goal

pub returns : goal.returns
returns c =
    on_ok_weaker c.write_part-written.result
    (json_written c.args.style (part_kinds c.args.whole.now c.args.id) c.args.out.now.items c.new-writer.result c.write_part-written.new.writer c.into_inner.result.items
    (c.new-writer.ensures.before ∙ ap (λ v. v.items) c.replace.ensures.value) c.new-writer.ensures.tokens c.into_inner.ensures.items)
    c.write_part-written.ensures
