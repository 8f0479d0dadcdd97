use Rattle.std.proofs.Common.{◌<◌, ◌≤◌, Bor, length, map, option_map, sym, ap, subst, ◌∙◌, arith}
use Rattle.std.proofs.lemmas.List.{length-map}
use Rattle.std.proofs.Math.ListN.{get_or-map}
use Rattle.toml_tree.specs.Document.{document}
use Rattle.toml_tree.specs.Lines.{line}
use Rattle.toml_tree.specs.View.{expr}
use Rattle.toml_names.specs.model.Addresses.{Address}
use Rattle.toml_names.specs.mentions.Mentions.{named}
use Rattle.toml_names.specs.reader.Names.{line_address}
use Rattle.toml_units.specs.View.{all_units}
use Rattle.toml_units.proofs.AllLines.{IsTaken, took_line, took_all}
use Rattle.toml_units.proofs.lines.units.Goals as goal

pub loop-number-preserved : goal.loop-number-preserved
loop-number-preserved c =
    let xs = c.lines-line-items.result.now in
    let i = c.loop-number.number in
    let low : i < length (map line xs) = omega (arith, length-map xs line, c.loop-number-test.true) in
    let is = get_or-map line xs i c.line-item.result ∙ ap line (sym c.line-item.is) in
    let own = c.address_of.ensures ∙ ap (λ ms. line_address ms i) (c.requires ∙ ap named (sym c.lines-line-items.ensures)) in
    took_line (map line xs) i (line c.line-item.result) low is (all_units c.loop-number.units.items) (all_units c.push_line.new.units.items)
    (option_map (λ (a : Bor Address). a.now) c.address_of.result) (expr c.expr.result.now) own c.expr.ensures c.in_ok-push_line.ensures c.loop-number.invariant

pub returns : goal.returns
returns c =
    let d = document c.args.doc.now in
    let xs = c.lines-line-items.result.now in
    let lines = c.lines-line-items.ensures in
    let past : length d.lines ≤ c.loop-number.number = omega (arith, length-map xs line, ap length lines, c.loop-number-test.false) in
    took_all d c.loop-number.number (all_units c.loop-number.units.items) c.args.doc.now.spelled past
    (subst (λ ls. IsTaken ls c.loop-number.number (all_units c.loop-number.units.items)) lines c.loop-number.invariant)
