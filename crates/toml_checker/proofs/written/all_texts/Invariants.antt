use Rattle.std.proofs.Common.{◌≡◌, ◌++◌, drop}
use Rattle.std.specs.List.{flat_map}
use Rattle.toml_checker.specs.declared.written.Written.{Written}
use Rattle.toml_checker.specs.Counts.{plain}
use Rattle.toml_checker.proofs.written.all_texts.Given as goal

abbrev pub invariant-loop-one : goal.invariant-loop-one
invariant-loop-one l = plain l.all.items ++ flat_map (λ (w : Written). plain w.texts.items) (drop l.one-index l.written) ≡ flat_map (λ (w : Written). plain w.texts.items) l.written
