use Rattle.std.proofs.Common.{◌≡◌, map, take, string_bytes}
use Rattle.tomled.specs.Validating.{words_of}
use Rattle.tomled.proofs.serving.texts_of.Given as goal

abbrev pub invariant-loop-word : goal.invariant-loop-word
invariant-loop-word l = words_of l.list.items ≡ map string_bytes (take l.word-index l.words)
