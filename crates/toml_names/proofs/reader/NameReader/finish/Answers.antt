use Rattle.toml_names.proofs.Common.{◌∙◌, List, Option, Bor, ℕ, map, sym, ap, subst, arith, line as tree_line, IsDataOf, kind_at, named, AreGood, ReaderState, lines_of, rank_in}
use Rattle.toml_tree.specs.declared.line.Line.{Line as TreeLine}
use Rattle.toml_names.proofs.lemmas.reader.OneMoreLine.{reader_good}
use Rattle.toml_names.proofs.lemmas.tree.LineRanks.{joined, finished}
use Rattle.toml_names.proofs.reader.NameReader.finish.Goals as goal

pub invariant_of-result : goal.invariant_of-result
invariant_of-result c =
    let r = c.self.inside in
    let nodes = r.names.tree.nodes.items in
    let lines = map tree_line (map (λ (l : Bor TreeLine). l.now) r.taken.items) in
    let reads = c.self.invariant.reads in
    let all = joined nodes lines r.own.items r.names.section reads in
    finished nodes lines r.own.items r.names.section reads (kind_at c.in_ok-data.«data».root) c.in_ok-first.first.items c.in_ok-ranks.ranks.items c.in_ok-own.own.items
    (subst (λ (s : ReaderState). IsDataOf (named (lines_of s)) (kind_at c.in_ok-data.«data».root)) (sym c.self.view_is) c.in_ok-data.ensures) (c.in_ok-first.ensures (named lines) reads.stands all) (omega (arith, c.in_ok-ranks.ensures.all))
    (λ k d low mention. c.in_ok-ranks.ensures.places (named lines) k d reads.stands all (omega (arith, low)) mention)
    (c.in_ok-own.ensures ∙ ap (λ ranks. map (rank_in ranks) c.deref.result.now) c.deref-2.ensures.value ∙ ap (λ (own : List (Option ℕ)). map (rank_in c.in_ok-ranks.ranks.items) own) c.deref.ensures.value)

pub returns-clause-named : goal.returns-clause-named
returns-clause-named c = ap (λ (r : ReaderState). named (lines_of r)) c.self.view_is

pub returns-clause-good : goal.returns-clause-good
returns-clause-good c = subst (λ (r : ReaderState). AreGood (lines_of r)) c.self.view_is (reader_good c.self.invariant.reads)
