use Rattle.std.proofs.Common.{◌∙◌, ap, sym, subst}
use Rattle.toml_names.specs.reader.Texts as texts
use Rattle.toml_editor.specs.Edited.{RefusesText}
use Rattle.toml_editor.specs.Faults.{of_names, of_syntax}
use Rattle.toml_working.specs.Reading.{IsReadText}
use Rattle.toml_editor.proofs.Judgements.{names_told, text_refused, tree_refused}
use Rattle.toml_editor.proofs.editing.read.Goals as goal

pub returns-in-Err-clause-refused : goal.returns-in-Err-clause-refused
returns-in-Err-clause-refused c = text_refused c.args.profile c.args.before.now c.in-Err.fault c.in-Err.ensures

pub returns-in-Err-Syntax-clause-refused : goal.returns-in-Err-Syntax-clause-refused
returns-in-Err-Syntax-clause-refused c =
    let before = c.args.before.now in
    let is = c.in-Ok.ensures.0 in
    let told = subst (texts.RefusesText c.args.profile before) c.in-Err-Syntax.field-0-is (subst (λ t. texts.RefusesText c.args.profile t c.in-Err-Syntax.field-0) is c.in-Err-Syntax.ensures.refused) in
    subst (RefusesText c.args.profile before) (sym (c.from.ensures ∙ ap of_syntax c.in-Err-Syntax.fault-is)) (tree_refused c.args.profile before c.in-Err-Syntax.fault c.in-Ok.ensures.1 told)

pub returns-in-Err-Names-clause-refused : goal.returns-in-Err-Names-clause-refused
returns-in-Err-Names-clause-refused c =
    let before = c.args.before.now in
    let is = c.in-Ok.ensures.0 in
    let told = subst (texts.RefusesText c.args.profile before) c.in-Err-Names.field-0-is (subst (λ t. texts.RefusesText c.args.profile t c.in-Err-Names.field-0) is c.in-Err-Names.ensures.refused) in
    subst (RefusesText c.args.profile before) (sym (c.from-in-Err-Names.ensures ∙ ap of_names c.in-Err-Names.fault-is)) (names_told c.args.profile before c.in-Err-Names.fault c.in-Ok.ensures.1 told)

pub returns-in-Ok-read_document-clause-read : goal.returns-in-Ok-read_document-clause-read
returns-in-Ok-read_document-clause-read c =
    let is = c.in-Ok.ensures.0 in
    record {
      text_is = is;
      read = record {
        within = c.in-Ok.ensures.1;
        lines = subst (λ t. IsReadText c.args.profile t c.in-Ok-read_document.document) is c.in-Ok-read_document.ensures.read;
      };
    }
