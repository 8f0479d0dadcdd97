use Rattle.toml_names.proofs.Common.{◌≡◌, ◌∙◌, List, Bor, option_map, slice_get, ap, map, line as tree_line, Address, kind_at, line_address, Known}
use Rattle.toml_tree.specs.declared.line.Line.{Line as TreeLine}
use Rattle.toml_names.proofs.lemmas.reader.WholeDocument.{told, no_rank, some_rank}
use Rattle.toml_names.proofs.lemmas.model.Levels.{item_got}
use Rattle.toml_names.proofs.names.Names.address_of.Goals as goal

pub returns-in_err-rank : goal.returns-in_err-rank
returns-in_err-rank c =
    let r = c.self.inside in
    let lines = map tree_line (map (λ (l : Bor TreeLine). l.now) r.lines.items) in
    ap (option_map (λ (a : Bor Address). a.now)) c.from_residual.ensures
    ∙ no_rank r.first.items c.deref.result.now r.own.items c.args.line c.deref.ensures.value c.in_err-rank.ensures
    ∙ told r.tree.nodes.items lines (kind_at r.«data».root) r.first.items r.own.items c.self.invariant c.args.line
    ∙ ap (λ (k : Known). line_address k.named c.args.line) c.self.view_is

pub returns : goal.returns
returns c =
    let r = c.self.inside in
    let lines = map tree_line (map (λ (l : Bor TreeLine). l.now) r.lines.items) in
    let got : option_map (λ (a : Bor Address). a.now) c.get.result ≡ slice_get r.first.items c.in_ok-rank.rank =
    item_got _ _ _ c.get.ensures.lookup ∙ ap (λ (list : List Address). slice_get list c.in_ok-rank.rank) c.deref-2.ensures.value in
    got ∙ some_rank r.first.items c.deref.result.now r.own.items c.args.line c.in_ok-rank.rank c.deref.ensures.value c.in_ok-rank.ensures
    ∙ told r.tree.nodes.items lines (kind_at r.«data».root) r.first.items r.own.items c.self.invariant c.args.line
    ∙ ap (λ (k : Known). line_address k.named c.args.line) c.self.view_is
