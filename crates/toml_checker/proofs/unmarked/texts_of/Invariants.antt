use Rattle.std.proofs.Common.{◌≡◌, ◌++◌, Bor, map, drop}
use Rattle.toml_units.specs.declared.unit.Unit.{Unit as Made}
use Rattle.toml_units.specs.View.{all_units}
use Rattle.toml_checker.specs.Counts.{plain}
use Rattle.toml_checker.specs.UnmarkedComments.{text_at}
use Rattle.toml_checker.proofs.unmarked.texts_of.Given as goal

abbrev pub invariant-loop-comment : goal.invariant-loop-comment
invariant-loop-comment l = plain l.texts.items ++ map (text_at l.text) (all_units (map (λ (u : Bor Made). u.now) (drop l.comment-index l.comments))) ≡ map (text_at l.text) (all_units (map (λ (u : Bor Made). u.now) l.comments))
