use Rattle.std.proofs.Common.{arith, ◌+◌, sym, subst}
use Rattle.std.specs.declared.alloc.Global.{Global}
use Rattle.std.specs.declared.vec.Vec.{Vec}
use Rattle.toml_working.specs.Starting.{read_of}
use Rattle.toml_working.specs.declared.lines.Slot.{Slot}
use Rattle.toml_working.specs.Becoming.{SlotBecomes, renamed_below}
use Rattle.toml_working.proofs.OneByOne.{SoFar, all_done, none_there, one_more}
use Rattle.toml_working.proofs.renaming.rename_in_slots.Goals as goal
use Rattle.toml_working.proofs.renaming.rename_in_slots.Goals.{in-Some+in_ok-rename, in_default}

pub loop-index-preserved : goal.loop-index-preserved
loop-index-preserved c =
    let R = SlotBecomes c.args.texts (read_of c.args.before) (renamed_below c.args.renaming) in
    let old = c.args.slots.now.items in
    let now = c.loop-index.slots in
    let i = c.loop-index.index in
    let so_far = c.loop-index.invariant in
    elim c.match-get_mut.branch [
      | in-Some+in_ok-rename w ↦
          subst (λ (slots : Vec Slot Global). SoFar R (i + 1) old slots.items) (sym w.slots-is)
          (one_more R i old now.items w.in-Some.slot.now w.rename.new.self so_far w.in-Some.ensures.item.3.0 w.in-Some.ensures.value
          w.in_ok-rename.ensures)
      | in_default w ↦
          subst (λ (slots : Vec Slot Global). SoFar R (i + 1) old slots.items) (sym w.slots-is)
          (none_there R i old now so_far w.in_default.ensures.variant.1)
    ]

pub returns : goal.returns
returns c =
    all_done (SlotBecomes c.args.texts (read_of c.args.before) (renamed_below c.args.renaming)) c.loop-index.index c.args.slots.now.items
    c.loop-index.slots.items c.loop-index.invariant
    (omega (arith, c.loop-index-test.false, c.len-index-end.ensures, c.args.slots.now.ok.0))
