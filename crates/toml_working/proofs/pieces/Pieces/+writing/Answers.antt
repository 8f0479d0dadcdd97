use Rattle.std.proofs.Common.{◌≡◌, ◌++◌, ◌∙◌, ◌∷◌, ◌+◌, ◌<◌, ◌≤◌, [], ap, arith, drop, length, sym, map, suc, Some, None, append-nil, refl}
use Rattle.std.proofs.lemmas.List.{drop_all}
use Rattle.std.proofs.lemmas.Option.{none-some}
use Rattle.std.specs.Prelude.{option_copied, option_map, slice_get}
use Rattle.toml_lists.specs.Gaps.{items}
use Rattle.toml_lists.proofs.Proved.{some_at}
use Rattle.toml_layout.specs.declared.tree.Value.TheViews.{out-Entries}
use Rattle.toml_layout.specs.OpenOutlines.{entry, gap_read}
use Rattle.toml_layout.specs.Outlines.{comma_if}
use Rattle.toml_working.proofs.EntriesOut.{drop_got, entry_passed, entries_ended, entries_closed, entries_whole, few}
use Rattle.toml_working.proofs.pieces.Pieces.+writing.Goals as goal
use Rattle.toml_working.proofs.pieces.Pieces.+writing.Goals.{entries-in-Some+in_ok-entry, entries-in_default, entries-then-is_behind+in_ok-symbol, entries-else-is_behind, entries-then-is_behind-2+in_ok-symbol-2, entries-else-is_behind-2}

pub entries-loop-index-preserved : goal.entries-loop-index-preserved
entries-loop-index-preserved t c =
    let so_far = c.loop-index.invariant in
    let all = items (out-Entries c.args.entries.now).list in
    let end = option_map gap_read (out-Entries c.args.entries.now).end in
    let i = c.loop-index.index in
    let low : i < length all = omega (arith, c.loop-index-test.true, c.len-index-end.ensures.within) in
    elim c.match-get.branch [
      | entries-in-Some+in_ok-entry w ↦
          let e = w.in-Some.entry.now in
          let comma : w.if-is_behind.self.out ≡ c.loop-index.self.out ++ comma_if c.loop-index.is_behind = elim w.if-is_behind.branch [
            | entries-then-is_behind+in_ok-symbol v ↦ rw (v.self-is, v.if-is_behind.true) v.in_ok-symbol.ensures.1
            | entries-else-is_behind v ↦ rw (v.self-is, v.if-is_behind.false) (sym (append-nil c.loop-index.self.out))
          ] in
          let before : w.if-is_behind.self.before ≡ c.args.self.now.before = elim w.if-is_behind.branch [
            | entries-then-is_behind+in_ok-symbol v ↦ rw v.self-is (v.in_ok-symbol.ensures.0 ∙ so_far.0)
            | entries-else-is_behind v ↦ rw v.self-is so_far.0
          ] in
          let got : slice_get all i ≡ Some e = sym c.get.ensures ∙ ap option_copied w.in-Some.is in
          let left : map entry (drop i all) ≡ entry e ∷ map entry (drop (i + 1) all) =
          ap (map entry) (drop_got all i e got ∙ ap (λ k. e ∷ drop k all) (let step : suc i ≡ i + 1 = omega arith in step)) in
          rw (w.self-is, w.is_behind-is) (
            w.in_ok-entry.ensures.0 ∙ before,
            entry_passed c.loop-index.is_behind (entry e) (map entry (drop (i + 1) all)) end c.loop-index.self.out w.if-is_behind.self.out
                w.entry.new.self.out _ (map entry (drop i all)) left comma w.in_ok-entry.ensures.1 so_far.1,
          )
      | entries-in_default w ↦
          let there = some_at all i low in
          let none : slice_get all i ≡ None = sym c.get.ensures ∙ ap option_copied w.in_default.is in
          absurd (none-some there.0 (sym none ∙ there.1))
    ]

pub entries-returns-in_ok-gap : goal.entries-returns-in_ok-gap
entries-returns-in_ok-gap t c =
    let so_far = c.loop-index.invariant in
    let all = items (out-Entries c.args.entries.now).list in
    let end = option_map gap_read (out-Entries c.args.entries.now).end in
    let i = c.loop-index.index in
    let comma : c.if-is_behind-2.self.out ≡ c.loop-index.self.out ++ comma_if c.loop-index.is_behind = elim c.if-is_behind-2.branch [
      | entries-then-is_behind-2+in_ok-symbol-2 w ↦ rw (w.self-is, w.if-is_behind-2.true) w.in_ok-symbol-2.ensures.1
      | entries-else-is_behind-2 w ↦ rw (w.self-is, w.if-is_behind-2.false) (sym (append-nil c.loop-index.self.out))
    ] in
    let before : c.if-is_behind-2.self.before ≡ c.args.self.now.before = elim c.if-is_behind-2.branch [
      | entries-then-is_behind-2+in_ok-symbol-2 w ↦ rw w.self-is (w.in_ok-symbol-2.ensures.0 ∙ so_far.0)
      | entries-else-is_behind-2 w ↦ rw w.self-is so_far.0
    ] in
    let past : length all ≤ i = omega (arith, c.loop-index-test.false, c.len-index-end.ensures.exact (few c.args.entries.now)) in
    let none : map entry (drop i all) ≡ [] = ap (map entry) (drop_all i all past) in
    let some = ap (option_map gap_read) c.in-Some-end.is in
    let written = entries_closed c.loop-index.is_behind (map entry (drop i all)) (map entry all) end (gap_read c.in-Some-end.end)
    c.args.self.now.out c.loop-index.self.out c.if-is_behind-2.self.out c.gap.new.self.out none some comma c.in_ok-gap.ensures.1 so_far.1 in
    (c.in_ok-gap.ensures.0 ∙ before, written ∙ entries_whole c.args.entries.now all c.args.self.now.out refl)

pub entries-returns-in_default-end : goal.entries-returns-in_default-end
entries-returns-in_default-end t c =
    let so_far = c.loop-index.invariant in
    let all = items (out-Entries c.args.entries.now).list in
    let end = option_map gap_read (out-Entries c.args.entries.now).end in
    let i = c.loop-index.index in
    let past : length all ≤ i = omega (arith, c.loop-index-test.false, c.len-index-end.ensures.exact (few c.args.entries.now)) in
    let none : map entry (drop i all) ≡ [] = ap (map entry) (drop_all i all past) in
    let bare : end ≡ None = ap (option_map gap_read) c.in_default-end.is in
    let written = entries_ended c.loop-index.is_behind (map entry (drop i all)) (map entry all) end c.args.self.now.out c.loop-index.self.out none bare so_far.1 in
    (so_far.0, written ∙ entries_whole c.args.entries.now all c.args.self.now.out refl)
