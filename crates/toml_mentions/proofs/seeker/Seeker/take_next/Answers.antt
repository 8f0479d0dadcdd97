use Rattle.std.proofs.Common.{inl, inr, refl}
use Rattle.toml_tree.specs.HandedOut.{left}
use Rattle.toml_tree.specs.Lines.{line as tree_line}
use Rattle.toml_names.proofs.Proved.{less_is_left}
use Rattle.toml_mentions.proofs.Judged.{none_spells}
use Rattle.toml_mentions.proofs.Taken.{sought_more}
use Rattle.toml_mentions.proofs.seeker.Seeker.take_next.Goals as goal

pub returns-in_ok-line-in-Ok : goal.returns-in_ok-line-in-Ok
returns-in_ok-line-in-Ok c = λ target profile text front so few.
    let l = c.in-Ok.line in
    let passed = less_is_left profile text front (left c.args.reader) l c.in-Ok.more (c.in-Ok.ensures.hands profile text front so.are) in
    inl (
      tree_line l,
      sought_more target profile text front (tree_line l) c.args.reader c.in-Ok.more c.args.self.now c.line.new.self so passed.0 c.in_ok-line-in-Ok.ensures few,
      passed.1,
    )

pub returns-in_ok-told-in-Err : goal.returns-in_ok-told-in-Err
returns-in_ok-told-in-Err c = λ target profile text front so few.
    inr (refl, none_spells profile text c.in-Err.fault c.in_ok-told-in-Err.ensures (c.in-Err.ensures.hands profile text front so.are))
