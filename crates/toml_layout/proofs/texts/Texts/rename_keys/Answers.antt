use Rattle.std.proofs.lemmas.Result.{on_ok_weaker}
use Rattle.toml_layout.proofs.KeysRenamed.{keys_written}
use Rattle.toml_layout.proofs.texts.Texts.rename_keys.Goals as goal

pub returns : goal.returns
returns c =
    on_ok_weaker c.rename_list.result
    (λ renamed. keys_written c.args.steps.now c.args.to.now c.args.pairs.now c.rename_list.new.pairs renamed.before renamed.behind) c.rename_list.ensures
