use Rattle.std.proofs.Common.{◌≡◌, Err, map, string_bytes, refl, ap, ◌∙◌}
use Rattle.std.proofs.lemmas.Result.{err_from_is_err_and}
use Rattle.toml_words.specs.Marking.{marked_words}
use Rattle.toml_words.specs.declared.asking.WordsFault.TheVariants.{NoMemory}
use Rattle.toml_delivery.specs.declared.fault.RunFault.TheVariants.{Memory}
use Rattle.tomled.specs.Validating.{words_of}
use Rattle.tomled.proofs.Ended.{obeyed_none, obeyed_request}
use Rattle.tomled.proofs.serving.obeyed.Goals as goal

pub returns-in_err-marked : goal.returns-in_err-marked
returns-in_err-marked g c =
    let p = err_from_is_err_and c.from_residual.result c.from_residual.ensures.1 in
    rw (p.1, p.2)
    (obeyed_none g.F.Write.contents g.O.Write.contents g.E.Write.contents c.args.streams.now c.args.streams.now (map string_bytes c.args.words.now)
    (marked_words (map string_bytes c.args.words.now)) refl NoMemory tt (Err Memory) (Err Memory, refl, (refl, refl))
    (g.I.Inputs.reads c.args.system.now.inputs) (g.D.Disk.calls c.args.system.now.disk) (g.S.Opener.opened c.args.system.now.opener))

pub returns-in_err-texts : goal.returns-in_err-texts
returns-in_err-texts g c =
    let p = err_from_is_err_and c.from_residual-in_err-texts.result c.from_residual-in_err-texts.ensures.1 in
    rw (p.1, p.2)
    (obeyed_none g.F.Write.contents g.O.Write.contents g.E.Write.contents c.args.streams.now c.args.streams.now (map string_bytes c.args.words.now)
    (marked_words (map string_bytes c.args.words.now)) refl NoMemory tt (Err Memory) (Err Memory, refl, (refl, refl))
    (g.I.Inputs.reads c.args.system.now.inputs) (g.D.Disk.calls c.args.system.now.disk) (g.S.Opener.opened c.args.system.now.opener))

pub returns-in-Ok : goal.returns-in-Ok
returns-in-Ok g c =
    let marked : words_of c.as_slice.result.now ≡ marked_words (map string_bytes c.args.words.now) =
    ap words_of c.as_slice.ensures.value ∙ (c.in_ok-texts.ensures ∙ (ap (map string_bytes) c.deref.ensures.value ∙ c.in_ok-marked.ensures)) in
    obeyed_request g.F.Write.contents g.O.Write.contents g.E.Write.contents c.args.streams.now c.served.new.streams (map string_bytes c.args.words.now)
    (words_of c.as_slice.result.now) marked c.in-Ok.request c.in-Ok.ensures.ok c.served.result _ _ _ _ _ _ c.served.ensures

pub returns : goal.returns
returns g c =
    let marked : words_of c.as_slice.result.now ≡ marked_words (map string_bytes c.args.words.now) =
    ap words_of c.as_slice.ensures.value ∙ (c.in_ok-texts.ensures ∙ (ap (map string_bytes) c.deref.ensures.value ∙ c.in_ok-marked.ensures)) in
    obeyed_none g.F.Write.contents g.O.Write.contents g.E.Write.contents c.args.streams.now c.told_words.new.streams (map string_bytes c.args.words.now)
    (words_of c.as_slice.result.now) marked c.in-Err.fault c.in-Err.ensures.err c.told_words.result c.told_words.ensures
    (g.I.Inputs.reads c.args.system.now.inputs) (g.D.Disk.calls c.args.system.now.disk) (g.S.Opener.opened c.args.system.now.opener)
