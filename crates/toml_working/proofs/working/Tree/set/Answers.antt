use Rattle.std.proofs.Common.{subst}
use Rattle.std.proofs.lemmas.Result.{IfOk-weaker}
use Rattle.toml_text.specs.Source.{text_of}
use Rattle.toml_working.specs.Starting.{read_of}
use Rattle.toml_layout.specs.OpenOutlines.{value}
use Rattle.toml_working.specs.Seeing.{FindsHolder}
use Rattle.toml_working.proofs.SetStanding.{none_is_set, holder_is_set}
use Rattle.toml_working.proofs.working.Tree.set.Goals as goal

pub returns-in-Some-clause-set : goal.returns-in-Some-clause-set
returns-in-Some-clause-set c =
    let read = read_of c.args.before in
    let found = subst (FindsHolder c.args.at.now c.args.before.units.now c.args.self.now.slots.items) c.in-Some.is c.value_line.ensures.0 read.lines in
    IfOk-weaker c.change_value.result _ _ (λ done changed.
    holder_is_set c.args.at.now c.args.new c.args.self.now.texts read c.in-Some.place c.args.self.now.slots.items c.change_value.new.self.slots.items done found changed)
    c.change_value.ensures.slots

pub returns-in-None-clause-set : goal.returns-in-None-clause-set
returns-in-None-clause-set c =
    none_is_set c.args.at.now (value c.args.new) (text_of c.args.self.now.texts.source) (read_of c.args.before) c.args.self.now.slots.items (c.value_line.ensures.1 c.in-None.is)
