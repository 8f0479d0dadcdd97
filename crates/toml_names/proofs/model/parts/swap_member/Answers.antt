use Rattle.toml_names.proofs.Common.{rules, cond, Some, ap, ◌∙◌, btree_map_updates_text, get_by_text, bytes_eq, Datum}
use Rattle.toml_names.proofs.model.parts.swap_member.Goals as goal

pub returns-in-Some-clause-after : goal.returns-in-Some-clause-after
returns-in-Some-clause-after c = λ some n.
    let h = btree_map_updates_text c.args.name.now c.args.members.now (c.get_mut.follows.lender c.replace.new.dest) (Some c.replace.new.dest) ((c.get_mut.follows.holds c.replace.new.dest).3 (search rules)) n in
    h ∙ ap (λ (v : Datum). cond (bytes_eq c.args.name.now n) (Some v) (get_by_text c.args.members.now n)) c.replace.ensures.after
