use Rattle.std.proofs.Common.{map, refl, string_bytes, subst, sym}
use Rattle.toml_edits.specs.Edits.{change}
use Rattle.toml_editor.specs.Edited.{TellsWith}
use Rattle.toml_editor.specs.Editing.{IsMadeText, IsReadFrom}
use Rattle.toml_editor.specs.declared.making.Read.{Read}
use Rattle.toml_editor.proofs.ReadDocuments.{read_from}
use Rattle.toml_editor.proofs.editing.edit_read.Goals as goal

pub make_text-made-requires-clause-read : goal.make_text-made-requires-clause-read
make_text-made-requires-clause-read c =
    let document = c.args.document in
    let r : Read = record { before = record { known = c.deref.result; units = c.units.result }; names = c.names.result; profile = c.args.profile } in
    subst (λ t. IsReadFrom t r document.facts.items) (sym c.requires.read.text_is)
    (read_from c.args.profile c.args.before.now document r document.facts.items c.requires.read.read refl c.deref.ensures.value c.units.ensures c.names.ensures refl)

pub certify-requires-clause-walks : goal.certify-requires-clause-walks
certify-requires-clause-walks c cursor stands =
    let read = c.requires.read.read in
    stands c.args.profile c.args.before.now _ read.lines.are.spelled read.lines.read_so.taken

pub certify-requires-clause-made : goal.certify-requires-clause-made
certify-requires-clause-made c =
    let made = c.in-Ok.it in
    subst (λ t. IsMadeText c.args.layout c.args.profile t (map change c.args.edits.now) (string_bytes made.text) made.pieces.items)
    c.requires.read.text_is c.in-Ok.ensures.made

pub returns-in-Err-clause-told : goal.returns-in-Err-clause-told
returns-in-Err-clause-told c =
    subst (λ t. TellsWith c.args.layout c.args.profile t (map change c.args.edits.now) c.in-Err.fault) c.requires.read.text_is c.in-Err.ensures.told
