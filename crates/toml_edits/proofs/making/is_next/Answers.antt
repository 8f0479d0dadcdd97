use Rattle.toml_edits.proofs.making.is_next.Goals as goal

pub returns-in-Some : goal.returns-in-Some
returns-in-Some c = rw c.in-Some.is c.has_length.ensures
