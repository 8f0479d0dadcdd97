use Rattle.std.proofs.Common.{sym, ap, append-nil, subst, IsSome}
use Rattle.std.proofs.lemmas.Result.{on_ok_weaker}
use Rattle.toml_names.specs.model.Data.{kind_at}
use Rattle.toml_edits.specs.declared.fault.EditFault.TheVariants.{NoSuchPlace}
use Rattle.toml_edits.proofs.Found.{some_of}
use Rattle.toml_edits.proofs.Made.{sets}
use Rattle.toml_edits.proofs.applying.set.Goals as goal

pub alter-requires : goal.alter-requires
alter-requires c = subst IsSome (ap (kind_at c.args.root.now) (sym (append-nil c.args.at.now))) (some_of _ (λ empty. c.in_ok-value.ensures.0 NoSuchPlace empty))

pub returns-clause-ok : goal.returns-clause-ok
returns-clause-ok c =
    on_ok_weaker c.alter.result
    (λ made. (c.in_ok-value.ensures.0, sets c.args.profile c.args.root.now c.args.at.now c.args.text.now (kind_at c.in_ok-value.value) (kind_at c.alter.new.root) c.in_ok-value.ensures.1 made))
    c.alter.ensures.ok
