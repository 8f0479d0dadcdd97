-- Laws: the parts of a gap, as they read, spell its text; and what stands between the brackets of an array, or the braces of an inline table, has the outline of its entries, whatever made it.
use Rattle.std.specs.Prelude.{◌≡◌, List, map, option_map}
use Rattle.toml_lists.specs.Gaps.{items}
use Rattle.toml_layout.specs.declared.tree.Entries.{Entries}
use Rattle.toml_layout.specs.declared.tree.GapPart.{GapPart}
use Rattle.toml_layout.specs.declared.tree.Value.TheViews.{out-Entries}
use Rattle.toml_layout.specs.OpenOutlines.{entry, entries, entries_of, gap_parts_text, gap_read, leaf_text, parts_read}
use Rattle.toml_layout.specs.Parts.{parts_outlined}

abbrev pub GapsAreSpelled : Type 0
GapsAreSpelled = (gap : List GapPart) → parts_outlined (parts_read gap) ≡ gap_parts_text gap

abbrev pub EntriesAreOutlined : Type 0
EntriesAreOutlined = (e : Entries) → entries e ≡ record {
  opening = leaf_text (out-Entries e).opening;
  entries = entries_of (map entry (items (out-Entries e).list)) (option_map gap_read (out-Entries e).end);
}
