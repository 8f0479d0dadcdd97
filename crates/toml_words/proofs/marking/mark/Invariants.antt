use Rattle.std.proofs.Common.{◌≡◌, ◌≤◌, ◌++◌, false, map, drop, string_bytes}
use Rattle.toml_words.specs.Marking.{marked_behind}
use Rattle.toml_words.proofs.marking.mark.Given as goal

abbrev pub invariant-loop-i : goal.invariant-loop-i
invariant-loop-i l =
    (map string_bytes l.list.items ++ marked_behind l.command l.seen l.behind_default (map string_bytes (drop l.i l.words))
    ≡ map string_bytes l.initial.list.items ++ marked_behind l.command 0 false (map string_bytes l.words)) × (l.seen ≤ l.i)
