use Rattle.std.proofs.Common.{rules}
use Rattle.toml_edits.specs.declared.moves.Moves.{the_lemmas}
use Rattle.toml_edits.proofs.Entering.{lose_at_told, drop_at_told}
use Rattle.toml_edits.proofs.moves.enter_last.Goals as goal

pub returns-in_ok-told-in-LoseAt : goal.returns-in_ok-told-in-LoseAt
returns-in_ok-told-in-LoseAt c = λ e.
    lose_at_told c.args.act c.in-LoseAt.index c.args.tree.now _ c.lose_at.new.self c.in-LoseAt.is
    (record { to = search (rules, the_lemmas); marks = search (rules, the_lemmas); cleared = search (rules, the_lemmas); names_are = search (rules, the_lemmas); runs_are = search (rules, the_lemmas); elements_are = search (rules, the_lemmas) }) (c.in_ok-told-in-LoseAt.ensures e)

pub returns-in_ok-drop_at-in-DropAt : goal.returns-in_ok-drop_at-in-DropAt
returns-in_ok-drop_at-in-DropAt c = λ e.
    drop_at_told c.args.act c.in-DropAt.index c.args.tree.now _ c.drop_at.new.self c.in-DropAt.is
    (record { to = search (rules, the_lemmas); marks = search (rules, the_lemmas); cleared = search (rules, the_lemmas); names_are = search (rules, the_lemmas); runs_are = search (rules, the_lemmas); elements_are = search (rules, the_lemmas) }) c.in_ok-drop_at-in-DropAt.ensures
