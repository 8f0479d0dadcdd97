use Rattle.toml_names.proofs.Common.{Some, cond, bytes_eq, string_bytes, ap, ◌∙◌, btree_map_updates_text, get_by_text}
use Rattle.toml_names.proofs.model.address_set.put_name.Goals as goal

pub returns : goal.returns
returns c =
    λ m. btree_map_updates_text (string_bytes c.in_ok-key.key) c.args.names.now c.insert.new.self (Some c.args.below) c.in_ok-insert.ensures.updates m
    ∙ ap (λ k. cond (bytes_eq k m) (Some c.args.below) (get_by_text c.args.names.now m)) c.in_ok-key.ensures.ok
