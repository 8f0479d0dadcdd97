use Rattle.std.proofs.Common.{◌≡◌, ◌+◌, ◌-◌, ◌∷◌, List, length, drop, map, refl, sym, ap, subst, ◌∙◌, arith}
use Rattle.toml_edits.specs.declared.edit.Edit.{Edit}
use Rattle.toml_edits.specs.Edits.{change}
use Rattle.toml_checker.proofs.Owing.{owed_more}
use Rattle.toml_checker.proofs.SoFar.{IsSoFar, from_on, one_more, parted}
use Rattle.toml_checker.proofs.asking.asked_by.Goals as goal

pub with_front-requires : goal.with_front-requires
with_front-requires c =
    let es : List Edit = c.args.edits.now in
    let i = length es - 1 - c.loop-count.count in
    (c.index-left-0.result, parted es _ c.loop-count.later.edits.now c.loop-count.count i c.index-left-0.result (omega (arith, c.loop-count-test.true)) refl (from_on es i) c.index-left-0.is c.loop-count.invariant.later)

pub loop-count-preserved : goal.loop-count-preserved
loop-count-preserved c =
    let es : List Edit = c.args.edits.now in
    let later : List Edit = c.loop-count.later.edits.now in
    let i = length es - 1 - c.loop-count.count in
    let e = c.index-left-0.result in
    let found = c.loop-count.invariant.found in
    let split : c.in_ok-later.later.edits.now ≡ e ∷ later = c.in_ok-later.ensures ∙ parted es _ later c.loop-count.count i e (omega (arith, c.loop-count-test.true)) refl (from_on es i) c.index-left-0.is c.loop-count.invariant.later in
    let next : i ≡ length es - (c.loop-count.count + 1) = omega arith in
    record {
      later = c.in_ok-later.ensures ∙ from_on es i ∙ ap (λ k. drop k es) next;
      found = subst (λ (ds : List Edit). IsSoFar c.args.profile (map change ds) c.in_ok-debts.debts c.push.new.self.items) (sym split)
          (one_more c.args.profile (change e) (map change later) c.loop-count.debts c.in_ok-debts.debts c.loop-count.written.items c.push.new.self.items c.in_ok-written_by.field-0 found
          (λ a. owed_more (change e) (map change later) c.in_ok-owed_by.field-0 c.loop-count.debts c.in_ok-debts.debts a (c.in_ok-owed_by.ensures a) (found.debts a) (c.in_ok-debts.ensures a)) c.in_ok-written_by.ensures c.in_ok-push.ensures.items);
    }
