use Rattle.std.proofs.Common.{length, true≢false, sym, ap, ◌∙◌}
use Rattle.std.specs.Prelude.{◌==◌}
use Rattle.toml_names.specs.model.Addresses.{Address}
use Rattle.toml_edits.specs.Edits.{change}
use Rattle.toml_edits.proofs.Telling.{if_told}
use Rattle.toml_edits.proofs.WalkSeen.{one_told}
use Rattle.toml_edits.proofs.moves.Moves.add_front.Goals as goal

pub returns : goal.returns
returns c = λ cs tells. if_told c.front.result (λ f.
    one_told (change c.args.edit.now) cs c.args.self.now c.front.new.tree
    (λ e. true≢false (sym (sym c.if-is_empty.false ∙ c.is_empty.ensures ∙ ap (λ (p : Address). length p == 0) (c.steps.ensures ∙ c.place.ensures ∙ e)))) f tells) c.front.ensures
