use Rattle.std.proofs.Common.{ap, length, refl, map, string_bytes, subst, sym}
use mathlib.Core.Path.{fun_ext}
use Rattle.toml_text.specs.Source.{text_of}
use Rattle.toml_names.specs.model.AddressSets.{is_hidden}
use Rattle.toml_names.specs.model.Data.{fact_at}
use Rattle.toml_names.specs.model.Hidden.{beside}
use Rattle.toml_names.specs.mentions.Mentions.{named}
use Rattle.toml_names.specs.reader.LineNames.{AreDataNear}
use Rattle.toml_edits.specs.Drafts.{drafted}
use Rattle.toml_edits.specs.Edits.{change}
use Rattle.toml_edits.proofs.Proved.{leads_beside}
use Rattle.toml_layout.specs.declared.texts.Texts.{Texts}
use Rattle.toml_working.specs.Starting.{read_of}
use Rattle.toml_editor.proofs.Answered.{if_ok_two}
use Rattle.toml_editor.proofs.Judgements.{any_tells}
use Rattle.toml_editor.proofs.NearFaults.{any_of_all, has_data, shows_last}
use Rattle.toml_editor.proofs.SourceKept.{as_read}
use Rattle.toml_editor.proofs.PassedRefused.{none_is_refused, stops_told}
use Rattle.toml_editor.proofs.ReadDocuments.{is_document, is_read_of, spelled, tree}
use Rattle.toml_editor.proofs.PlainMade.{last_written, plain_written}
use Rattle.toml_editor.proofs.editing.make_text.Goals as goal

pub returns-clause-told : goal.returns-clause-told
returns-clause-told c =
    let text = text_of c.args.source in
    let profile = c.args.read.profile in
    let is = c.requires.read in
    let d = tree text c.args.read c.args.facts.items is in
    let document = is_document text c.args.read c.args.facts.items is in
    let spells = spelled text c.args.read c.args.facts.items is in
    let cs = map change c.args.edits.now in
    let old = fact_at (named d.lines) in
    let facts = has_data profile text d document spells in
    let part = drafted c.of-draft.result in
    let near = subst (λ k. AreDataNear c.args.read.names.now (is_hidden c.args.touched.now) k) (sym (fun_ext c.of-draft.ensures)) c.in_ok-near.ensures d.lines is.names old facts in
    let told = c.in-Err-make_all.ensures.told in
    let opened = c.in-Ok.ensures in
    let fault = c.in-Err-make_all.fault in
    let any = any_of_all profile (is_hidden c.args.touched.now) old cs c.requires.touched part near fault told.told in
    let both = stops_told profile (read_of c.args.read.before) d text c.in-Ok.tree document
    spells opened.stands (ap (λ (t : Texts). text_of t.source) opened.texts_are) opened.elements c.args.layout
    (as_read c.args.layout _ c.in-Ok.tree d opened.texts_are refl opened.style opened.blank spells)
    (is_hidden c.args.touched.now) cs c.requires.touched old facts part near fault told.stops in
    any_tells c.args.layout profile text cs d old fault document spells facts any both.0 both.1

pub returns-in-Ok-make_all-clause-made : goal.returns-in-Ok-make_all-clause-made
returns-in-Ok-make_all-clause-made c =
    let text = text_of c.args.source in
    let profile = c.args.read.profile in
    let is = c.requires.read in
    let d = tree text c.args.read c.args.facts.items is in
    let document = is_document text c.args.read c.args.facts.items is in
    let spells = spelled text c.args.read c.args.facts.items is in
    let cs = map change c.args.edits.now in
    let old = fact_at (named d.lines) in
    let facts = has_data profile text d document spells in
    let part = drafted c.of-draft.result in
    let near = subst (λ k. AreDataNear c.args.read.names.now (is_hidden c.args.touched.now) k) (sym (fun_ext c.of-draft.ensures)) c.in_ok-near.ensures d.lines is.names old facts in
    let new = drafted c.make_all.new.draft in
    let leads = leads_beside profile (is_hidden c.args.touched.now) cs old part new
    c.requires.touched near c.in-Ok-make_all.ensures.made.lead in
    let opened = c.in-Ok.ensures in
    let mannered = as_read c.args.layout _ c.in-Ok.tree d opened.texts_are refl opened.style opened.blank spells in
    if_ok_two _ _ _ c.write_out.result
    (λ made pieces written. record {
      plain =
          plain_written profile (read_of c.args.read.before) d text c.in-Ok.tree document
          spells opened.stands (ap (λ (t : Texts). text_of t.source) opened.texts_are) opened.elements c.args.layout mannered cs old
          (beside (is_hidden c.args.touched.now) old new) c.make_all.new.tree (string_bytes made.text) facts leads
          c.in-Ok-make_all.ensures.made.done.makes written;
      last =
          last_written profile (read_of c.args.read.before) d text c.in-Ok.tree document
          spells opened.stands (ap (λ (t : Texts). text_of t.source) opened.texts_are) opened.elements c.args.layout mannered cs old
          (beside (is_hidden c.args.touched.now) old new) c.make_all.new.tree (string_bytes made.text) facts leads
          part (shows_last profile (is_hidden c.args.touched.now) old cs c.requires.touched part near)
          c.in-Ok-make_all.ensures.made.done.holds written;
      passed =
          none_is_refused profile (read_of c.args.read.before) d text c.in-Ok.tree document
          spells opened.stands (ap (λ (t : Texts). text_of t.source) opened.texts_are) opened.elements c.args.layout mannered
          (is_hidden c.args.touched.now) cs c.requires.touched old facts part near
          (length cs) c.in-Ok-make_all.ensures.made.done.passes;
      are_defined = (document, (d, spells, old, facts, (beside (is_hidden c.args.touched.now) old new, leads)));
      pieces = pieces;
    }) c.write_out.ensures.pieces c.write_out.ensures.written

pub of-built-requires-clause-read : goal.of-built-requires-clause-read
of-built-requires-clause-read c = is_read_of (text_of c.args.source) c.args.read c.args.facts.items c.requires.read
