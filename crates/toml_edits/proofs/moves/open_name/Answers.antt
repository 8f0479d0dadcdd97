use Rattle.std.proofs.Common.{Some, cond, bytes_eq, string_bytes, ap, refl, ◌∙◌, subst}
use Rattle.std.specs.BTreeMap.{get_by_text}
use Rattle.std.proofs.lemmas.Map.Text.{btree_map_updates_text}
use Rattle.toml_edits.proofs.Entering.{name_opened, name_put}
use Rattle.toml_edits.specs.Moves.{IsFresh}
use Rattle.toml_edits.proofs.moves.open_name.Goals as goal

pub returns-then-contains_key : goal.returns-then-contains_key
returns-then-contains_key c = name_opened c.args.name.now c.args.names.now c.args.names.now c.contains_key.result refl c.contains_key.ensures c.if-contains_key.true

pub returns : goal.returns
returns c = name_put c.args.name.now c.of.result c.args.names.now c.insert.new.self c.contains_key.result c.contains_key.ensures c.if-contains_key.false
    (λ m. btree_map_updates_text (string_bytes c.in_ok-key.key) c.args.names.now c.insert.new.self (Some c.of.result) c.in_ok-insert.ensures.updates m ∙ ap (λ k. cond (bytes_eq k m) (Some c.of.result) (get_by_text c.args.names.now m)) c.in_ok-key.ensures.ok)
    (subst (λ n. IsFresh (Some (Some n)) c.of.result) c.in_ok-to.ensures c.of.ensures)
