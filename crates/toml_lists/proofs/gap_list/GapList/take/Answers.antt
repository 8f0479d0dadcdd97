use Rattle.std.proofs.Common.{arith, ap, sym, ◌∙◌, ◌++◌, reverse}
use Rattle.toml_lists.proofs.Sides.{count, far_taken}
use Rattle.toml_lists.proofs.gap_list.GapList.take.Goals as goal

pub returns-clause-left : goal.returns-clause-left
returns-clause-left g c =
    let l = c.args.self.now in
    let xs = l.before.items in
    let b = l.behind.items in
    let len = sym l.before.ok.0 in
    let size = sym l.behind.ok.0 in
    let all = count xs b l.before.len l.behind.len len size in
    ap (λ r. xs ++ reverse r) c.remove-2.ensures.items
    ∙ far_taken xs b l.before.len l.behind.len c.args.index _ len size (omega (arith, c.if-index-front.false, c.len-front.ensures))
    (omega (arith, c.requires, all, c.if-index-front.false, c.len-front.ensures)) (omega (arith, c.len.ensures, c.len-front.ensures))
