use Rattle.std.proofs.lemmas.Result.{err_from_is_err_and}
use Rattle.tomled.proofs.Settled.{first_refused, second_given}
use Rattle.tomled.proofs.finishing.refuse_words.Goals as goal

pub returns-in_err-refuse_word : goal.returns-in_err-refuse_word
returns-in_err-refuse_word g c =
    let p = err_from_is_err_and c.from_residual.result c.from_residual.ensures.1 in
    rw (p.1, p.2) (first_refused c.args.path.now c.args.file.now c.args.list p.0 _ _ c.in_err-refuse_word.ensures)

pub returns-in-Some : goal.returns-in-Some
returns-in-Some g c =
    second_given c.args.path.now c.args.file.now c.args.list c.in-Some.list c.in-Some.is c.refuse_word-in-Some.result _ _ _ c.in_ok-refuse_word.ensures c.refuse_word-in-Some.ensures
