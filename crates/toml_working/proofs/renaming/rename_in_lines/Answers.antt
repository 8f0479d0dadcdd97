use Rattle.std.proofs.Common.{arith, ◌+◌, sym, subst}
use Rattle.std.specs.declared.alloc.Global.{Global}
use Rattle.std.specs.declared.vec.Vec.{Vec}
use Rattle.toml_layout.specs.KnownLines.{lines_known}
use Rattle.toml_working.specs.declared.lines.Line.{Line}
use Rattle.toml_working.specs.Becoming.{LineBecomes, renamed_below}
use Rattle.toml_working.proofs.OneByOne.{SoFar, all_done, none_there, one_more}
use Rattle.toml_working.proofs.renaming.rename_in_lines.Goals as goal
use Rattle.toml_working.proofs.renaming.rename_in_lines.Goals.{in-Some+in_ok-rename_below, in_default}

pub loop-index-preserved : goal.loop-index-preserved
loop-index-preserved c =
    let R = LineBecomes c.args.texts (lines_known c.args.known.now) (renamed_below c.args.renaming) in
    let old = c.args.lines.now.items in
    let now = c.loop-index.lines in
    let i = c.loop-index.index in
    let so_far = c.loop-index.invariant in
    elim c.match-get_mut.branch [
      | in-Some+in_ok-rename_below w ↦
          subst (λ (lines : Vec Line Global). SoFar R (i + 1) old lines.items) (sym w.lines-is)
          (one_more R i old now.items w.in-Some.line.now w.rename_below.new.self so_far w.in-Some.ensures.item.3.0 w.in-Some.ensures.value
          w.in_ok-rename_below.ensures)
      | in_default w ↦
          subst (λ (lines : Vec Line Global). SoFar R (i + 1) old lines.items) (sym w.lines-is)
          (none_there R i old now so_far w.in_default.ensures.variant.1)
    ]

pub returns : goal.returns
returns c =
    all_done (LineBecomes c.args.texts (lines_known c.args.known.now) (renamed_below c.args.renaming)) c.loop-index.index
    c.args.lines.now.items c.loop-index.lines.items c.loop-index.invariant
    (omega (arith, c.loop-index-test.false, c.len-index-end.ensures, c.args.lines.now.ok.0))
