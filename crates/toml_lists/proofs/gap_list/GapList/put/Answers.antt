use Rattle.std.proofs.Common.{arith, ap, sym, ◌∙◌, ◌++◌, ◌-◌, reverse}
use Rattle.toml_lists.proofs.Sides.{count, far_put}
use Rattle.toml_lists.proofs.gap_list.GapList.put.Goals as goal

pub returns-in_ok-insert-2-clause-ok : goal.returns-in_ok-insert-2-clause-ok
returns-in_ok-insert-2-clause-ok g c =
    let l = c.args.self.now in
    let xs = l.before.items in
    let b = l.behind.items in
    let len = sym l.before.ok.0 in
    let size = sym l.behind.ok.0 in
    let all = count xs b l.before.len l.behind.len len size in
    ap (λ r. xs ++ reverse r) c.in_ok-insert-2.ensures.items
    ∙ far_put xs b l.before.len l.behind.len c.args.index (c.len.result - (c.args.index - c.len-front.result)) c.args.item len size
    (omega (arith, c.if-index-front.false, c.len-front.ensures)) (omega (arith, c.requires, all)) (omega (arith, c.len.ensures, c.len-front.ensures))
