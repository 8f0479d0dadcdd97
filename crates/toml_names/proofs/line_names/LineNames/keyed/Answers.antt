use Rattle.toml_names.proofs.Common.{[], refl, rules, IsReader}
use Rattle.toml_names.proofs.line_names.LineNames.keyed.Goals as goal

pub returns-clause-stand : goal.returns-clause-stand
returns-clause-stand c =
    let reads : IsReader c.in_ok-new.field-0.nodes.items [] [] 0 = search rules in
    record { own = []; keeps = record { reads = reads; counted = refl; settled = c.in_ok-new.ensures.changes } }
