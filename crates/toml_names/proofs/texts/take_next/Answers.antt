use Rattle.toml_names.proofs.Common.{[], ◌∷◌, ◌++◌, err_from_is_err_and, line as tree_line}
use Rattle.toml_tree.specs.HandedOut.{left}
use Rattle.toml_names.proofs.lemmas.reader.Passed.{less_is_left}
use Rattle.toml_names.proofs.texts.take_next.Goals as goal

pub refuse_names-requires : goal.refuse_names-requires
refuse_names-requires c =
    let taken = c.requires.taken in
    let passed = less_is_left taken.0 taken.1 taken.2.front (left c.args.reader) c.in_ok-line.line c.in_ok-line.more
    (c.in_ok-line.ensures.hands taken.0 taken.1 taken.2.front taken.2.are) in
    (taken.0, taken.1, taken.2.front ++ tree_line c.in_ok-line.line ∷ [], passed.0)

pub returns-in_err-line : goal.returns-in_err-line
returns-in_err-line c = λ profile text taken.
    let p = err_from_is_err_and c.from_residual.result c.from_residual.ensures.1 in
    rw (p.1, p.2) (c.in_err-line.ensures.hands profile text taken.front taken.are)

pub returns-in-Ok : goal.returns-in-Ok
returns-in-Ok c = λ profile text taken.
    let l = c.in_ok-line.line in
    let passed = less_is_left profile text taken.front (left c.args.reader) l c.in_ok-line.more
    (c.in_ok-line.ensures.hands profile text taken.front taken.are) in (
      record {
        front = taken.front ++ tree_line l ∷ [];
        are = passed.0;
        stand = c.in-Ok.ensures taken.front taken.stand;
      },
      passed.1,
    )

pub returns : goal.returns
returns c = λ profile text taken.
    let l = c.in_ok-line.line in
    let passed = less_is_left profile text taken.front (left c.args.reader) l c.in_ok-line.more
    (c.in_ok-line.ensures.hands profile text taken.front taken.are) in
    c.refuse_names.ensures profile text (taken.front ++ tree_line l ∷ []) passed.0 (c.in-Err.ensures taken.front taken.stand)
