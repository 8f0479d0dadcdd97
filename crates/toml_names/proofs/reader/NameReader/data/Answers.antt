use Rattle.toml_names.proofs.Common.{Bor, map, subst, line as tree_line, IsDataOf, kind_at, named, ReaderState, lines_of}
use Rattle.toml_tree.specs.declared.line.Line.{Line as TreeLine}
use Rattle.toml_names.proofs.lemmas.tree.LineRanks.{joined, root_facts}
use Rattle.toml_names.proofs.reader.NameReader.data.Goals as goal

pub returns : goal.returns
returns c =
    let r = c.self.inside in
    let nodes = r.names.tree.nodes.items in
    let lines = map tree_line (map (λ (l : Bor TreeLine). l.now) r.taken.items) in
    let reads = c.self.invariant.reads in
    subst (λ (s : ReaderState). IsDataOf (named (lines_of s)) (kind_at c.in_ok-datum.field-0)) c.self.view_is
    (root_facts nodes lines r.own.items r.names.section reads (kind_at c.in_ok-datum.field-0) (c.in_ok-datum.ensures (named lines) reads.stands (joined nodes lines r.own.items r.names.section reads)))
