use Rattle.toml_names.proofs.lemmas.reader.OneMoreLine.{reader_good}
use Rattle.toml_names.proofs.lemmas.reader.RootData.{root_data}
use Rattle.toml_names.proofs.parts_of_text.names_of_text.Goals as goal

pub invariant_of-result : goal.invariant_of-result
invariant_of-result c = c.in_ok-tree.ensures.stand.reads.stands.tree

pub returns-clause-good : goal.returns-clause-good
returns-clause-good c =
    let s = c.in_ok-tree.ensures.stand in
    (record { lines = s.lines; are = s.are; good = reader_good s.reads }, root_data c.in_ok-tree.tree.nodes.items s.lines s.own s.at s.reads)

pub returns-clause-stand : goal.returns-clause-stand
returns-clause-stand c =
    let s = c.in_ok-tree.ensures.stand in
    record {
      it = record { lines = s.lines; are = s.are; good = reader_good s.reads };
      kinds = root_data c.in_ok-tree.tree.nodes.items s.lines s.own s.at s.reads;
      names = s.reads.stands;
    }
