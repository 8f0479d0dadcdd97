use Rattle.toml_names.proofs.line_names.LineNames.place.Goals as goal

pub place-requires : goal.place-requires
place-requires c = record { tree = c.requires.stand.1.keeps.reads.stands.tree }

pub returns : goal.returns
returns c = λ lines h. c.place.ensures lines h.keeps.reads.stands
