use Rattle.toml_names.proofs.Common.{Vec, Global, ◌<◌, length, slice_get-get_or, none-some, [], arith, ◌∙◌, ap}
use Rattle.toml_names.specs.reader.Parts.{plain_members}
use Rattle.toml_names.proofs.lemmas.tree.Parts.{Lent, pairs_more}
use Rattle.toml_names.proofs.tree.parts.pairs.Goals as goal
use Rattle.toml_names.proofs.tree.parts.pairs.Goals.{in-Some+in_ok-push, in_default}

pub loop-place-preserved : goal.loop-place-preserved
loop-place-preserved c =
    let names = c.args.names.now in
    let place = c.loop-place.place in
    let low : place < length names = omega (arith, c.loop-place-test.true, c.len-place-end.ensures, c.loop-place.auto.place-end) in
    elim c.match-nth.branch [
      | in-Some+in_ok-push w ↦
          ap (λ (v : Vec Lent Global). plain_members v.items) w.members-is
          ∙ pairs_more names place c.loop-place.members.items w.push.new.self.items w.in-Some.pair c.loop-place.invariant w.in-Some.ensures.pair w.in_ok-push.ensures.items
      | in_default w ↦ absurd (none-some _ (w.in_default.ensures.pair ∙ slice_get-get_or names place ([], 0) low))
    ]
