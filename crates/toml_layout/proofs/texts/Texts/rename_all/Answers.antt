use Rattle.std.proofs.Common.{◌≡◌, ◌∙◌, ◌+◌, ◌++◌, ◌<◌, ap, arith, drop, length, map, suc, take}
use Rattle.std.proofs.lemmas.List.{length-map}
use Rattle.std.proofs.lemmas.Option.{slice_get_read}
use Rattle.toml_layout.specs.OpenOutlines.{entry}
use Rattle.toml_layout.specs.RenamingIn.{pair_with}
use Rattle.toml_layout.proofs.KeysRenamed.{as_many, pair_written}
use Rattle.toml_layout.proofs.texts.Texts.rename_all.Goals as goal

pub loop-index-preserved : goal.loop-index-preserved
loop-index-preserved c =
    let steps = c.args.steps.now in
    let to = c.args.to.now in
    let os = map entry c.args.pairs.now.items in
    let i = c.loop-index.index in
    let v = c.loop-index.pairs in
    let e = c.index_mut.result.now in
    let so_far = c.loop-index.invariant in
    let all = length-map c.args.pairs.now.items entry in
    let size = c.args.pairs.now.ok.0 in
    let low : i < length os = omega (arith, c.loop-index-test.true, c.len-index-end.ensures, all, size) in
    let same = as_many steps to v.items os i so_far low in
    let own = v.ok.0 in
    let within : i < v.len = omega (arith, low, same, own) in
    let got = slice_get_read v.items v.len i e own within c.index_mut.ensures.value in
    pair_written steps to v.items i e c.rename_pair.new.pair os got c.in_ok-rename_pair.ensures so_far low
    ∙ ap (λ k. map (pair_with steps to) (take k os) ++ drop k os) (let step : suc i ≡ i + 1 = omega arith in step)
