use Rattle.std.proofs.Common.{map, sym, ap₂, ◌∙◌}
use Rattle.toml_tree.specs.ReadingValues.{may_end}
use Rattle.toml_tree.specs.View.{member, table_pairs}
use Rattle.toml_tree.proofs.Ends.{closed_so, lasts_so}
use Rattle.toml_tree.proofs.values.may_end.Goals as goal

pub returns-in-Some : goal.returns-in-Some
returns-in-Some c =
    let ps = c.args.pairs.now in
    c.is_empty.ensures ∙ sym (closed_so ps c.in-Some.field-0) ∙ sym (ap₂ (λ p end. may_end p (table_pairs (map member ps) end)) c.in-One.is c.in-Some.is)

pub returns-in-None : goal.returns-in-None
returns-in-None c =
    let ps = c.args.pairs.now in
    sym (ap₂ (λ p end. may_end p (table_pairs (map member ps) end)) c.in-One.is c.in-None.is ∙ lasts_so ps)
