use Rattle.std.proofs.Common.{◌+◌, ◌++◌, ◌∷◌, [], take, Err, inl, inr, refl, sym, subst}
use Rattle.std.proofs.lemmas.Result.{err_from_is_err_and}
use Rattle.toml_delivery.specs.Outcomes.{texts_of}
use Rattle.tomled.specs.Asking.{Asked}
use Rattle.tomled.specs.Reads.{AreRead, GaveAll}
use Rattle.tomled.specs.declared.reading.FileFault.TheVariants.{NoMemory}
use Rattle.tomled.proofs.AllRead.{gave_more, stopped}
use Rattle.tomled.proofs.Asking.{one_more}
use Rattle.tomled.proofs.reading.read_all.Goals as goal

pub returns-in_err-bytes : goal.returns-in_err-bytes
returns-in_err-bytes g c =
    let p = err_from_is_err_and c.from_residual.result c.from_residual.ensures.1 in
    let sources = c.args.sources.now in
    let i = c.loop-source.source-index in
    let vs = c.loop-source.list.items in
    rw (p.1, p.2)
    (one_more (GaveAll (take i sources) (texts_of vs)) (AreRead sources (Err c.in_err-bytes.field-0.0)) _ _ _ _ c.loop-source.invariant c.in_err-bytes.ensures.added
    (λ xs h. inr (stopped sources i c.loop-source-test.true _ vs c.in_err-bytes.field-0.0 c.in_err-bytes.ensures.word xs h)))

pub returns-in_default : goal.returns-in_default
returns-in_default g c =
    let sources = c.args.sources.now in
    one_more (GaveAll (take c.loop-source.source-index sources) (texts_of c.loop-source.list.items)) (AreRead sources (Err NoMemory)) _ _ _ _ c.loop-source.invariant c.in_ok-bytes.ensures.added (λ xs h. inl refl)

pub loop-source-preserved : goal.loop-source-preserved
loop-source-preserved g c =
    let sources = c.args.sources.now in
    let i = c.loop-source.source-index in
    let vs = c.loop-source.list.items in
    subst (λ l. Asked (g.I.Inputs.reads c.args.inputs.now) (g.I.Inputs.reads c.read.new.self) (GaveAll (take (i + 1) sources) (texts_of l))) (sym c.in-Ok-push.ensures.items)
    (one_more (GaveAll (take i sources) (texts_of vs)) (GaveAll (take (i + 1) sources) (texts_of (vs ++ c.in_ok-bytes.bytes ∷ []))) _ _ _ _ c.loop-source.invariant c.in_ok-bytes.ensures.added
    (λ xs h. gave_more sources i c.loop-source-test.true _ vs c.in_ok-bytes.bytes xs h))
