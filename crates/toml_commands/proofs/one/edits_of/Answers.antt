use Rattle.toml_commands.proofs.one.edits_of.Goals as goal

pub returns-clause-wished : goal.returns-clause-wished
returns-clause-wished c =
    let names = c.in_ok-names.ensures.names in
    let kept = c.in_ok-edits.ensures names.it.lines names.names in
    record { all = kept.all; are = record { it = names.it; kinds = _; facts = names.kinds; edits = kept.are }; kept = kept.kept }
