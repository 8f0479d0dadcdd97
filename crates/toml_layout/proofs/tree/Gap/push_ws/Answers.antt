use Rattle.std.proofs.Common.{◌∙◌, ◌++◌, ap, sym}
use Rattle.std.proofs.lemmas.Bool.{false≢true}
use Rattle.toml_layout.specs.OpenOutlines.{gap_read, leaf_text, parts_read}
use Rattle.toml_layout.specs.declared.tree.GapPart.TheVariants.{Ws}
use Rattle.toml_layout.proofs.OpenedGap.{read_more, ws_some}
use Rattle.toml_layout.proofs.tree.Gap.push_ws.Goals as goal

pub returns-in_ok-push : goal.returns-in_ok-push
returns-in_ok-push c =
    ap parts_read c.in_ok-push.ensures.items ∙ read_more c.args.self.now.parts.items (Ws c.args.ws)
    ∙ ap (λ t. gap_read c.args.self.now ++ t) (sym (ws_some (leaf_text c.args.ws)
    (λ none. false≢true (sym c.if-not-is_empty.true ∙ c.is_empty.ensures.1 none))))
