use Rattle.std.proofs.Common.{◌≡◌, Option, Some, None, Bool, true, false, cond, bytes_eq, string_bytes, refl, ap, ◌∙◌, subst}
use Rattle.std.specs.BTreeMap.{get_by_text}
use Rattle.std.proofs.lemmas.Map.Text.{btree_map_updates_text}
use Rattle.toml_edits.specs.declared.moves.Moves.{Moves}
use Rattle.toml_edits.specs.Moves.{IsRenamedTree}
use Rattle.toml_edits.proofs.moves.take.Goals as goal

put_over : (b : Bool) (u x : Option Moves) → cond b u (cond b None x) ≡ cond b u x
put_over true u x = refl
put_over false u x = refl

pub returns : goal.returns
returns c = (
  c.in_ok-tree.tree,
  c.of.result,
  λ m. btree_map_updates_text (string_bytes c.in_ok-key.key) c.insert.new.self c.insert-2.new.self (Some c.in_ok-tree.tree) c.in_ok-insert-2.ensures.updates m
      ∙ ap (λ k. cond (bytes_eq k m) (Some c.in_ok-tree.tree) (get_by_text c.insert.new.self m)) c.in_ok-key.ensures.ok
      ∙ ap (λ o. cond (bytes_eq c.args.name.now m) (Some c.in_ok-tree.tree) o)
      (btree_map_updates_text (string_bytes c.in_ok-taken.taken) c.remove-kept.new.self c.insert.new.self (Some c.of.result) c.in_ok-insert.ensures.updates m
      ∙ ap (λ k. cond (bytes_eq k m) (Some c.of.result) (get_by_text c.remove-kept.new.self m)) c.in_ok-taken.ensures.ok
      ∙ ap (λ o. cond (bytes_eq c.args.to.now m) (Some c.of.result) o) (btree_map_updates_text c.args.to.now c.args.names.now c.remove-kept.new.self None c.remove-kept.ensures.updates m)
      ∙ put_over (bytes_eq c.args.to.now m) (Some c.of.result) (get_by_text c.args.names.now m)),
  subst (λ o. IsRenamedTree c.args.to.now o c.in_ok-tree.tree) c.remove-kept.ensures.value c.in_ok-tree.ensures c.args.name.now,
  c.of.ensures.0,
)
