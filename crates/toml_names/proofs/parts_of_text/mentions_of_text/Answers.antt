use Rattle.toml_names.proofs.Common.{named}
use Rattle.toml_names.proofs.lemmas.reader.OneMoreLine.{reader_good}
use Rattle.toml_names.proofs.lemmas.tree.LineRanks.{joined}
use Rattle.toml_names.proofs.lemmas.reader.RootData.{root_data}
use Rattle.toml_names.proofs.parts_of_text.mentions_of_text.Goals as goal

pub returns-clause-good : goal.returns-clause-good
returns-clause-good c =
    let nodes = c.in_ok-tree.tree.nodes.items in
    let s = c.in_ok-tree.ensures.stand in
    record {
      it = record { lines = s.lines; are = s.are; good = reader_good s.reads };
      mentions = c.in_ok-list.ensures (named s.lines) s.reads.stands (joined nodes s.lines s.own s.at s.reads);
      kinds = root_data nodes s.lines s.own s.at s.reads;
    }
