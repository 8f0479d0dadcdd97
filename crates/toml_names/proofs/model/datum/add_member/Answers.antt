use Rattle.toml_names.proofs.Common.{Some, string_bytes, cond, bytes_eq, ap, ◌∙◌, btree_map_updates_text, get_by_text}
use Rattle.toml_names.proofs.model.datum.add_member.Goals as goal

pub returns : goal.returns
returns c = λ n.
    btree_map_updates_text (string_bytes c.in_ok-key.key) c.args.members.now c.insert.new.self (Some c.args.member) c.in_ok-insert.ensures.updates n
    ∙ ap (λ k. cond (bytes_eq k n) (Some c.args.member) (get_by_text c.args.members.now n)) c.in_ok-key.ensures.ok
