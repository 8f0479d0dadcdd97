use Rattle.toml_names.proofs.Common.{arith, kind_at}
use Rattle.toml_names.proofs.lemmas.reader.RootData.{near_data, is_sound}
use Rattle.toml_names.proofs.line_names.LineNames.data_near.Goals as goal

pub datum_near-requires : goal.datum_near-requires
datum_near-requires c =
    let r = c.args.self.now in
    let stand = c.requires.stand in
    let reads = stand.1.keeps.reads in
    record { within = omega (arith, reads.stands.tree.root, r.tree.nodes.ok); sound = is_sound r.tree.nodes.items stand.0 stand.1.own r.section reads }

pub returns : goal.returns
returns c = λ lines h kinds are.
    let r = c.args.self.now in
    let d = c.in_ok-datum_near.field-0 in
    near_data r.tree.nodes.items lines h.own r.section h.keeps.reads c.args.set.now kinds (kind_at d) are c.in_ok-datum_near.ensures
