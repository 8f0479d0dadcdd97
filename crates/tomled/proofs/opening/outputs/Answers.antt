use Rattle.std.proofs.Common.{◌≡◌, ◌+◌, [], ◌∷◌, ◌++◌, length, Some, Ok, Err, sym, ap, ◌∙◌, subst, arith}
use Rattle.std.specs.Prelude.{slice_get}
use Rattle.std.proofs.lemmas.List.{length_push}
use Rattle.std.proofs.lemmas.Result.{err_from_is_err_and}
use Rattle.tomled.specs.Asking.{Asked}
use Rattle.tomled.specs.Finishing.{written}
use Rattle.tomled.specs.Opening.{AreOpened, GaveFiles, IsCreated, OpensFront, unfailed}
use Rattle.tomled.specs.Validating.{words_of}
use Rattle.tomled.specs.declared.reading.FileFault.TheVariants.{NoMemory}
use Rattle.tomled.proofs.Asking.{more, nothing}
use Rattle.tomled.proofs.Opened.{none_opened, one_opened, stopped_front, stopped_opening, word_at}
use Rattle.tomled.proofs.opening.outputs.Goals as goal

pub loop-index-init : goal.loop-index-init
loop-index-init g c =
    let paths = words_of (written c.args.request.now) in
    let start = g.S.Opener.opened c.args.opener.now in
    record {
      count = ap length c.in-Ok.ensures.items;
      opened = subst (λ l. Asked start start (GaveFiles {F = g.row.F.Denot} paths l)) (sym c.in-Ok.ensures.items) (nothing (GaveFiles {F = g.row.F.Denot} paths []) start (none_opened paths));
    }

pub returns-in_err-file-clause-opened : goal.returns-in_err-file-clause-opened
returns-in_err-file-clause-opened g c =
    let p = err_from_is_err_and c.from_residual.result c.from_residual.ensures.1 in
    let paths = words_of (written c.args.request.now) in
    let files = c.loop-index.files.items in
    let word = c.in-Some.word in
    let fault = c.in_err-file.field-0.0 in
    let count = length c.args.outcome.now.files.items in
    let there : slice_get paths (length files) ≡ Some word.now =
    subst (λ n. slice_get paths n ≡ Some word.now) (sym c.loop-index.invariant.count) (word_at (written c.args.request.now) c.loop-index.index word (sym c.path_of.ensures ∙ c.in-Some.is)) in
    rw (p.1, p.2)
    (more (GaveFiles {F = g.row.F.Denot} paths files) (IsCreated {F = g.row.F.Denot} word.now (Err fault)) (AreOpened {F = g.row.F.Denot} paths count (Err fault)) _ _ _ c.loop-index.invariant.opened c.in_err-file.ensures
    (λ xs ys h q. stopped_opening paths count files xs h word.now there fault ys q))

pub returns-in_default-push-clause-opened : goal.returns-in_default-push-clause-opened
returns-in_default-push-clause-opened g c =
    let paths = words_of (written c.args.request.now) in
    let files = c.loop-index.files.items in
    let word = c.in-Some.word in
    let file = c.in_ok-file.file in
    let there : slice_get paths (length files) ≡ Some word.now =
    subst (λ n. slice_get paths n ≡ Some word.now) (sym c.loop-index.invariant.count) (word_at (written c.args.request.now) c.loop-index.index word (sym c.path_of.ensures ∙ c.in-Some.is)) in
    more (GaveFiles {F = g.row.F.Denot} paths files) (IsCreated {F = g.row.F.Denot} word.now (Ok file)) (AreOpened {F = g.row.F.Denot} paths (length c.args.outcome.now.files.items) (Err NoMemory)) _ _ _ c.loop-index.invariant.opened c.in_ok-file.ensures
    (λ xs ys h q. subst (λ l. OpensFront {F = g.row.F.Denot} paths (xs ++ l)) (sym q) (stopped_front paths files xs h (record { path = word.now; gave = Ok file }) there))

pub loop-index-preserved : goal.loop-index-preserved
loop-index-preserved g c =
    let paths = words_of (written c.args.request.now) in
    let files = c.loop-index.files.items in
    let word = c.in-Some.word in
    let file = c.in_ok-file.file in
    let there : slice_get paths (length files) ≡ Some word.now =
    subst (λ n. slice_get paths n ≡ Some word.now) (sym c.loop-index.invariant.count) (word_at (written c.args.request.now) c.loop-index.index word (sym c.path_of.ensures ∙ c.in-Some.is)) in
    let items : c.push.new.self.items ≡ files ++ unfailed file ∷ [] = c.in-Ok-push.ensures.items ∙ ap (λ d. files ++ d ∷ []) c.new.ensures in
    let count : length c.push.new.self.items ≡ c.loop-index.index + 1 = omega (arith, ap length items, length_push files (unfailed file), c.loop-index.invariant.count) in
    record {
      count = count;
      opened = subst (λ l. Asked (g.S.Opener.opened c.args.opener.now) (g.S.Opener.opened c.created.new.opener) (GaveFiles {F = g.row.F.Denot} paths l)) (sym items)
          (more (GaveFiles {F = g.row.F.Denot} paths files) (IsCreated {F = g.row.F.Denot} word.now (Ok file)) (GaveFiles {F = g.row.F.Denot} paths (files ++ unfailed file ∷ []))
          _ _ _ c.loop-index.invariant.opened c.in_ok-file.ensures
          (λ xs ys h q. subst (λ l. GaveFiles {F = g.row.F.Denot} paths (files ++ unfailed file ∷ []) (xs ++ l)) (sym q) (one_opened paths files xs h word.now file there)));
    }
