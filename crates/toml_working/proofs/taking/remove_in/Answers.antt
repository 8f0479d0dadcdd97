use Rattle.std.proofs.Common.{refl}
use Rattle.std.proofs.lemmas.Result.{on_ok_weaker}
use Rattle.toml_working.proofs.Turned.{none_turns, one_turns}
use Rattle.toml_working.proofs.taking.remove_in.Goals as goal

pub returns-in-Some : goal.returns-in-Some
returns-in-Some c =
    on_ok_weaker c.remove.result
    (λ leaves.
    one_turns _ c.args.slot c.args.slots.now.items _ c.in-Some.lines.now c.remove.new.self
    c.in-Some.ensures.item.3.0 c.in-Some.ensures.value refl leaves)
    c.remove.ensures.slot

pub returns-in-None : goal.returns-in-None
returns-in-None c = none_turns _ c.args.slot c.args.slots.now.items c.in-None.ensures.item.3
