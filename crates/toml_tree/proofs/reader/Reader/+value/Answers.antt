use Rattle.std.proofs.Common.{Some, map, refl, sym, ap, ◌∙◌}
use Rattle.std.proofs.lemmas.Bool.{cond-true}
use Rattle.std.proofs.lemmas.Result.{err_from_is_err_and}
use Rattle.toml_tree.specs.ReadingValues.{before_end, items_at, item_step, pairs_before_end, pairs_at, pair_step, may_end, value_at}
use Rattle.toml_tree.specs.Reads.{cursor}
use Rattle.toml_tree.specs.View.{element, array_items, member, table_pairs}
use Rattle.toml_tree.proofs.Aheads.{array_ahead, inline_ahead}
use Rattle.toml_tree.proofs.Many.{behind_pushed, behind_ended, behind_failed}
use Rattle.toml_tree.proofs.reader.Reader.+value.Goals as goal

pub items-returns-in_err-item_step : goal.items-returns-in_err-item_step
unfolding items_at
items-returns-in_err-item_step t c =
    let p = err_from_is_err_and c.from_residual.result c.from_residual.ensures.1 in
    rw (p.1, p.2) (behind_failed before_end (item_step (value_at c.args.profile c.args.deep)) _ _ _ _ _ c.loop-items.invariant c.in_err-item_step.ensures.reads (λ e. rw e refl))

pub items-loop-items-preserved : goal.items-loop-items-preserved
items-loop-items-preserved t c = behind_pushed before_end (item_step (value_at c.args.profile c.args.deep)) (array_items (map element c.item_step.new.items.items)) _ _ _ _ _ _ _ c.loop-items.invariant c.in_ok-item_step.ensures.reads c.in_ok-item_step.ensures.moves c.in-Next.is

pub items-returns-in-Done : goal.items-returns-in-Done
unfolding items_at
items-returns-in-Done t c =
    let all = behind_ended before_end (item_step (value_at c.args.profile c.args.deep)) (array_items (map element c.item_step.new.items.items)) _ (map element c.item_step.new.items.items) _ _ _ _ _ c.loop-items.invariant c.in_ok-item_step.ensures.reads c.in-Done.is in
    (all.0 ∙ ap (λ is. Some (array_items (map element is) c.in-Done.end, cursor c.item_step.new.self)) (sym c.shrink_to_fit.ensures.items), all.1)

pub pairs-returns-in_err-pair_step : goal.pairs-returns-in_err-pair_step
unfolding pairs_at
pairs-returns-in_err-pair_step t c =
    let p = err_from_is_err_and c.from_residual.result c.from_residual.ensures.1 in
    rw (p.1, p.2) (behind_failed pairs_before_end (pair_step c.args.profile (value_at c.args.profile c.args.deep)) _ _ _ _ _ c.loop-pairs.invariant c.in_err-pair_step.ensures.reads (λ e. rw e refl))

pub pairs-loop-pairs-preserved : goal.pairs-loop-pairs-preserved
pairs-loop-pairs-preserved t c = behind_pushed pairs_before_end (pair_step c.args.profile (value_at c.args.profile c.args.deep)) (table_pairs (map member c.pair_step.new.pairs.items)) _ _ _ _ _ _ _ c.loop-pairs.invariant c.in_ok-pair_step.ensures.reads c.in_ok-pair_step.ensures.moves c.in-Next.is

pub pairs-returns-in-Done : goal.pairs-returns-in-Done
unfolding pairs_at
pairs-returns-in-Done t c =
    let all = behind_ended pairs_before_end (pair_step c.args.profile (value_at c.args.profile c.args.deep)) (table_pairs (map member c.pair_step.new.pairs.items)) _ (map member c.pair_step.new.pairs.items) _ _ _ _ _ c.loop-pairs.invariant c.in_ok-pair_step.ensures.reads c.in-Done.is in
    (all.0 ∙ ap (λ ps. Some (table_pairs (map member ps) c.in-Done.end, cursor c.pair_step.new.self)) (sym c.shrink_to_fit.ensures.items), all.1)

pub array-up_to-whole-requires : goal.array-up_to-whole-requires
array-up_to-whole-requires t c =
    let opened = sym c.eat.ensures.value ∙ c.if-not-eat.false in
    array_ahead c.args.profile c.args.deep (cursor c.args.self.now) (cursor c.eat.new.self) (cursor c.items.new.self) _ opened (c.eat.ensures.after ∙ cond-true _ _ _ opened) c.in_ok-items.ensures.0

pub inline_table-up_to-whole-requires : goal.inline_table-up_to-whole-requires
inline_table-up_to-whole-requires t c =
    let opened = sym c.eat.ensures.value ∙ c.if-not-eat.false in
    inline_ahead c.args.profile c.args.deep (cursor c.args.self.now) (cursor c.eat.new.self) (cursor c.pairs.new.self) _ opened (c.eat.ensures.after ∙ cond-true _ _ _ opened) c.in_ok-pairs.ensures.0 (ap (λ ps. may_end c.args.profile (table_pairs (map member ps) c.in_ok-pairs.end)) (sym c.deref.ensures.value) ∙ sym c.may_end.ensures ∙ c.if-not-may_end.false)
