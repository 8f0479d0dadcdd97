use Rattle.std.proofs.Common.{Some, cond, bytes_eq, string_bytes, ap, ◌∙◌}
use Rattle.std.specs.BTreeMap.{get_by_text}
use Rattle.std.proofs.lemmas.Map.Text.{btree_map_updates_text}
use Rattle.toml_edits.proofs.moves.lose.Goals as goal

pub returns : goal.returns
returns c = (
  c.of.result,
  λ m. btree_map_updates_text (string_bytes c.in_ok-key.key) c.args.names.now c.insert.new.self (Some c.of.result) c.in_ok-insert.ensures.updates m ∙ ap (λ k. cond (bytes_eq k m) (Some c.of.result) (get_by_text c.args.names.now m)) c.in_ok-key.ensures.ok,
  c.of.ensures.0,
)
