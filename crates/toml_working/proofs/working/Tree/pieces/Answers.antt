use Rattle.std.proofs.Common.{◌≡◌, ◌++◌, ◌∙◌, ap, arith, subst, sym, rules}
use Rattle.toml_text.specs.Source.{text_of}
use Rattle.toml_tree.specs.Spells.{EachIs}
use Rattle.toml_working.proofs.Out.{spelled_on, spelled_all}
use Rattle.toml_working.proofs.StandingOut.{all_outlined, slots_spell}
use Rattle.toml_working.specs.Standing.{slots_standing}
use Rattle.toml_working.specs.Stands.{SlotKept}
use Rattle.toml_working.specs.Writing.{SpellAll, SpellsSlot}
use Rattle.toml_working.proofs.working.Tree.pieces.Goals as goal

pub loop-slot-preserved : goal.loop-slot-preserved
loop-slot-preserved c =
    let start = c.place.new.self in (
      c.slot.ensures.before ∙ c.loop-slot.invariant.0,
      λ text spelled.
          spelled_on (SpellsSlot start.before) start.out c.deref-slot-items.result.now c.loop-slot.slot-index c.slot-item.result c.loop-slot.pieces.out c.slot.new.self.out text c.loop-slot-test.true c.slot-item.is
          (λ t h. search rules) (c.loop-slot.invariant.1 text spelled),
    )

pub returns-clause-written : goal.returns-clause-written
returns-clause-written c read ss stands =
    let start = c.place.new.self in
    let text = text_of c.args.source in
    let slots = c.deref-slot-items.result.now in
    let all = all_outlined (slots_standing read slots) in
    let before : start.before ≡ text = search rules in
    let out : start.out ≡ c.args.mark.text.now = search rules in
    let kept = subst (EachIs (SlotKept text read)) (sym c.deref-slot-items.ensures.value) stands.kept in
    let spelled = subst (λ b. SpellAll (SpellsSlot b) slots all) (sym before) (slots_spell text read slots kept) in
    let written = spelled_all (SpellsSlot start.before) start.out slots c.loop-slot.slot-index c.loop-slot.pieces.out all (omega (arith, c.loop-slot-test.false)) (c.loop-slot.invariant.1 all spelled) in
    written ∙ ap (λ r. r ++ all) out
    ∙ ap (λ s. c.args.mark.text.now ++ all_outlined s) (ap (slots_standing read) c.deref-slot-items.ensures.value ∙ stands.are)
