use Rattle.toml_edits.proofs.applying.apply.Goals as goal

pub returns-clause-fault : goal.returns-clause-fault
returns-clause-fault c = c.apply_in.ensures.fault

pub returns-clause-ok : goal.returns-clause-ok
returns-clause-ok c = c.apply_in.ensures.ok
