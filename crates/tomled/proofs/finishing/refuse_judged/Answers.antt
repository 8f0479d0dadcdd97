use Rattle.std.proofs.Common.{◌++◌}
use Rattle.std.proofs.lemmas.Result.{err_from_is_err_and}
use Rattle.tomled.specs.Finishing.{compared}
use Rattle.tomled.proofs.Settled.{front_refused, rest_asked}
use Rattle.tomled.proofs.finishing.refuse_judged.Goals as goal

pub returns-in_err-refuse_word : goal.returns-in_err-refuse_word
returns-in_err-refuse_word g c =
    let p = err_from_is_err_and c.from_residual.result c.from_residual.ensures.1 in
    let path = c.args.path.now in
    rw (p.1, p.2)
    (front_refused (compared path c.args.before.now) (compared path c.args.edits.now ++ compared path c.args.after.now) p.0 _ _ c.in_err-refuse_word.ensures)

pub returns : goal.returns
returns g c =
    let path = c.args.path.now in
    rest_asked (compared path c.args.before.now) (compared path c.args.edits.now ++ compared path c.args.after.now) c.refuse_words.result _ _ _
    c.in_ok-refuse_word.ensures c.refuse_words.ensures
