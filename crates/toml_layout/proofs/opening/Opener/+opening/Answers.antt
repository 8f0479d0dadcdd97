use Rattle.std.proofs.Common.{◌≡◌, ◌∙◌, ap, sym, subst, map, arith}
use Rattle.std.specs.Prelude.{option_map}
use Rattle.toml_lists.specs.Gaps.{items}
use Rattle.toml_text.specs.Source.{text_of}
use Rattle.toml_tree.specs.Spells.{EachIs}
use Rattle.toml_tree.specs.View.{piece, gap, element, member}
use Rattle.toml_tree.specs.declared.tree.Value.TheViews.{out-Array, out-InlineTable}
use Rattle.toml_layout.specs.OpenOutlines.{gap_read, leaf_text}
use Rattle.toml_layout.specs.Outlines as outline
use Rattle.toml_layout.specs.TreeOutlines.{gap_outline}
use Rattle.toml_layout.proofs.Outlined.{entries_made}
use Rattle.toml_layout.proofs.Opened.{ElementStands, MemberStands, EndStands, array_stands, inline_stands, element_outline, member_outline}
use Rattle.toml_layout.proofs.OpenedEach.{none_opened, one_opened, all_opened, element_opened, member_opened, end_opened, array_opened, inline_opened, keyval_opened}
use Rattle.toml_layout.proofs.opening.Opener.+opening.Goals as goal
use Rattle.toml_layout.proofs.opening.Opener.+opening.Goals.{array-in-Some+in_ok-gap-in-Some, array-in-None, inline-in-Some+in_ok-gap-in-Some, inline-in-None}

pub array-loop-item-init : goal.array-loop-item-init
array-loop-item-init t c lies =
    let a = out-Array c.args.array.now in
    let text = text_of c.args.self.texts.source in
    let inside = array_stands text (piece a.whole) (map element a.items.items) a.end lies in
    none_opened (ElementStands text) element_outline (map element c.deref-item-items.result.now) _ c.in_ok-list.ensures.items
    (subst (λ xs. EachIs (ElementStands text) (map element xs)) (sym c.deref-item-items.ensures.value) inside.0)

pub array-loop-item-preserved : goal.array-loop-item-preserved
array-loop-item-preserved t c lies =
    let item = c.item-item.result in
    let here = c.loop-item in
    let text = text_of c.args.self.texts.source in
    let opened = element_opened text item c.in_ok-before.before c.in_ok-after.after c.in_ok-value.value
    c.in_ok-before.ensures c.in_ok-value.ensures c.in_ok-after.ensures in
    one_opened (ElementStands text) element_outline element c.deref-item-items.result.now here.item-index item c.loop-item-test.true c.item-item.is here.list.items _ _
    c.in_ok-push.ensures.items opened (here.invariant lies)

pub array-returns : goal.array-returns
array-returns t c lies =
    let a = out-Array c.args.array.now in
    let text = text_of c.args.self.texts.source in
    let here = c.loop-item in
    let all = all_opened (ElementStands text) element_outline element c.deref-item-items.result.now _ here.item-index (omega (arith, c.loop-item-test.false))
    c.deref-item-items.ensures.value here.list.items _ c.of.ensures (here.invariant lies) in
    let end : EndStands text a.end → option_map gap_read c.match-array.end ≡ option_map (λ g. gap_outline (gap g)) a.end = elim c.match-array.branch [
      | array-in-Some+in_ok-gap-in-Some w ↦
          end_opened text a.end w.in-Some.gap c.match-array.end w.in_ok-gap-in-Some.field-0 w.in-Some.is w.end-is w.in_ok-gap-in-Some.ensures
      | array-in-None w ↦ λ e. ap (option_map gap_read) w.end-is ∙ ap (option_map (λ g. gap_outline (gap g))) (sym w.in-None.is)
    ] in
    ap (λ e. outline.Listed e.opening e.entries) (entries_made (record { opening = c.opening.result; list = c.of.result; end = c.match-array.end }))
    ∙ array_opened text (piece a.whole) (map element a.items.items) a.end (leaf_text c.opening.result) (items c.of.result) c.match-array.end
    c.opening.ensures all end lies

pub inline-loop-pair-init : goal.inline-loop-pair-init
inline-loop-pair-init t c lies =
    let a = out-InlineTable c.args.table.now in
    let text = text_of c.args.self.texts.source in
    let inside = inline_stands text (piece a.whole) (map member a.pairs.items) a.end lies in
    none_opened (MemberStands text) member_outline (map member c.deref-pair-items.result.now) _ c.in_ok-list.ensures.items
    (subst (λ xs. EachIs (MemberStands text) (map member xs)) (sym c.deref-pair-items.ensures.value) inside.0)

pub inline-loop-pair-preserved : goal.inline-loop-pair-preserved
inline-loop-pair-preserved t c lies =
    let item = c.pair-item.result in
    let here = c.loop-pair in
    let text = text_of c.args.self.texts.source in
    let opened = member_opened text item c.in_ok-before.before c.in_ok-after.after c.in_ok-keyval.keyval.assign c.in_ok-new.field-0 c.in_ok-keyval.keyval.value c.in_ok-new.ensures.ok
    c.in_ok-before.ensures c.in_ok-keyval.ensures c.in_ok-after.ensures in
    one_opened (MemberStands text) member_outline member c.deref-pair-items.result.now here.pair-index item c.loop-pair-test.true c.pair-item.is here.list.items _ _
    c.in_ok-push.ensures.items opened (here.invariant lies)

pub inline-returns : goal.inline-returns
inline-returns t c lies =
    let a = out-InlineTable c.args.table.now in
    let text = text_of c.args.self.texts.source in
    let here = c.loop-pair in
    let all = all_opened (MemberStands text) member_outline member c.deref-pair-items.result.now _ here.pair-index (omega (arith, c.loop-pair-test.false))
    c.deref-pair-items.ensures.value here.list.items _ c.of.ensures (here.invariant lies) in
    let end : EndStands text a.end → option_map gap_read c.match-table.end ≡ option_map (λ g. gap_outline (gap g)) a.end = elim c.match-table.branch [
      | inline-in-Some+in_ok-gap-in-Some w ↦
          end_opened text a.end w.in-Some.gap c.match-table.end w.in_ok-gap-in-Some.field-0 w.in-Some.is w.end-is w.in_ok-gap-in-Some.ensures
      | inline-in-None w ↦ λ e. ap (option_map gap_read) w.end-is ∙ ap (option_map (λ g. gap_outline (gap g))) (sym w.in-None.is)
    ] in
    ap (λ e. outline.Braced e.opening e.entries) (entries_made (record { opening = c.opening.result; list = c.of.result; end = c.match-table.end }))
    ∙ inline_opened text (piece a.whole) (map member a.pairs.items) a.end (leaf_text c.opening.result) (items c.of.result) c.match-table.end
    c.opening.ensures all end lies

pub keyval-returns : goal.keyval-returns
keyval-returns t c = keyval_opened (text_of c.args.self.texts.source) c.args.pair.now _ _ c.in_ok-assign.ensures c.in_ok-value.ensures
