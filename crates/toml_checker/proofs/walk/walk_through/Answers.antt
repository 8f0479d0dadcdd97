use Rattle.std.proofs.Common.{List, map, subst, sym}
use Rattle.std.proofs.lemmas.Result.{IfOk-weaker}
use Rattle.toml_text.specs.Limit.{IsText}
use Rattle.toml_edits.specs.Edits.{Change, change}
use Rattle.toml_checker.specs.Walking.{IsFound}
use Rattle.toml_checker.proofs.Found.{is_found}
use Rattle.toml_checker.proofs.walk.walk_through.Goals as goal

pub pair_all-requires : goal.pair_all-requires
pair_all-requires c = let cs : List Change = map change c.args.edits.now in (c.args.profile, cs, c.in_ok-walk.ensures.on)

pub finish-requires : goal.finish-requires
finish-requires c =
    let cs : List Change = map change c.args.edits.now in
    let t = c.in_ok-fits.ensures c.args.profile cs c.in_ok-walk.ensures.on in
    (c.args.profile, cs, t.ms, t.ns, t.on)

pub returns : goal.returns
returns c =
    let p = c.args.profile in
    let cs : List Change = map change c.args.edits.now in
    let ps = c.args.pairs.now in
    let start = c.in_ok-walk.walk in
    let begun = c.in_ok-walk.ensures in
    let t = c.in_ok-fits.ensures p cs begun.on in
    let also : IsText c.args.after.now = subst IsText c.requires.after c.args.other.is_text in
    IfOk-weaker c.finish.result _ _ (λ found f.
    subst (λ b. IsFound p b cs c.args.after.now ps found) begun.first_text
    (subst (λ a. IsFound p start.one.text.now cs a ps found) begun.second_text (is_found p cs ps start c.pair_all.new.self c.in_ok-fits.fits t found f (subst IsText (sym begun.first_text) c.requires.fits) (subst IsText (sym begun.second_text) also)))) (c.finish.ensures p cs t.ms t.ns t.on)
