use Rattle.std.proofs.Common.{ap, ◌∙◌, subst}
use Rattle.std.proofs.lemmas.Result.{IfOk-weaker}
use Rattle.toml_tree.proofs.Proved.{one_value}
use Rattle.toml_text.specs.Source.{text_of}
use Rattle.toml_layout.specs.Opening.{OpensText}
use Rattle.toml_working.specs.Starting.{read_of}
use Rattle.toml_working.specs.Stands.{SetsLines}
use Rattle.toml_layout.specs.TreeOutlines.{value_outline}
use Rattle.toml_editor.proofs.making.write_set.Goals as goal

pub returns-in_ok-named-in-Some-clause-set : goal.returns-in_ok-named-in-Some-clause-set
returns-in_ok-named-in-Some-clause-set c =
    let old = c.args.tree.now in
    let (w, of_text, outlined) = subst (OpensText c.args.read.profile c.args.value.now) c.in-Some.is c.in_ok-new.ensures in
    IfOk-weaker c.set.result _ _
    (λ done sets within v is.
    subst (λ o. SetsLines c.args.at.now o (text_of old.texts.source) (read_of c.args.read.before) old.slots.items c.set.new.self.slots.items done)
    (outlined ∙ ap value_outline (one_value w v 0 c.args.value.now of_text.0 is.0)) sets)
    c.set.ensures.set

pub returns-in-None-clause-set : goal.returns-in-None-clause-set
returns-in-None-clause-set c within v is = absurd (subst (OpensText c.args.read.profile c.args.value.now) c.in-None.is c.in_ok-new.ensures within v is)
