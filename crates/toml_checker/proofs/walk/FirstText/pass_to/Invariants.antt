use Rattle.std.proofs.Common.{◌≡◌, List}
use Rattle.toml_units.specs.Cursors.{Goes, to_go}
use Rattle.toml_tree.specs.declared.profile.Profile.{Profile}
use Rattle.toml_checker.specs.EditLists.{changes}
use Rattle.toml_checker.specs.Traces.{Met}
use Rattle.toml_checker.specs.Walking.{HasPassed}
use Rattle.toml_checker.proofs.Going.{Gone}
use Rattle.toml_checker.proofs.walk.FirstText.pass_to.Given as goal

abbrev pub invariant-loop-self : goal.invariant-loop-self
invariant-loop-self l = record {
  goes : Goes l.self.cursor;
  text : l.self.text ≡ l.fn.self.text;
  passes : (profile : Profile) (ms : List Met) → HasPassed profile (changes l.list) l.fn.self ms → Gone (HasPassed profile (changes l.list) l.self) l.fn.self.cursor l.fn.self.passed ms l.fn.number l.self.cursor l.self.passed;
}

abbrev pub decreases-loop-self : goal.decreases-loop-self
decreases-loop-self l = to_go l.self.cursor
