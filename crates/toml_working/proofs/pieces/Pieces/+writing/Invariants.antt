use Rattle.std.proofs.Common.{◌≡◌, ◌++◌, drop, map, false}
use Rattle.std.specs.Prelude.{option_map}
use Rattle.toml_lists.specs.Gaps.{items}
use Rattle.toml_layout.specs.declared.tree.Value.TheViews.{out-Entries}
use Rattle.toml_layout.specs.OpenOutlines.{entry, gap_read, entries_of}
use Rattle.toml_layout.specs.Outlines.{entries_outlined}
use Rattle.toml_working.proofs.pieces.Pieces.+writing.Given as goal

abbrev pub invariant-entries-loop-index : goal.invariant-entries-loop-index
invariant-entries-loop-index l =
    let all = items (out-Entries l.entries).list in
    let end = option_map gap_read (out-Entries l.entries).end in
    (l.self.before ≡ l.fn.self.before)
    × (l.self.out ++ entries_outlined l.is_behind (entries_of (map entry (drop l.index all)) end) ≡ l.fn.self.out ++ entries_outlined false (entries_of (map entry all) end))
