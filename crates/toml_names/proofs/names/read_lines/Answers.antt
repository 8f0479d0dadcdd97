use Rattle.toml_names.proofs.Common.{◌∙◌, ◌∷◌, [], ◌<◌, length, map, sym, ap, subst, arith, length-map, map-append, err_from_is_err_and, line, RefusesNames}
use Rattle.std.proofs.Math.ListN.{get_or-map}
use Rattle.toml_names.proofs.lemmas.reader.WholeDocument.{refused-at, took-one}
use Rattle.toml_names.proofs.names.read_lines.Goals as goal

pub returns-in_err-line-clause-refused : goal.returns-in_err-line-clause-refused
returns-in_err-line-clause-refused c =
    let p = err_from_is_err_and c.from_residual-in_err-line.result c.from_residual-in_err-line.ensures.1 in
    let xs = c.lines-line-items.result.now in
    let i = c.loop-line.line-index in
    let low : i < length (map line xs) = omega (arith, length-map xs line, c.loop-line-test.true) in
    let is = get_or-map line xs i c.line-item.result ∙ ap line (sym c.line-item.is) in
    rw (p.1, p.2)
    (subst (λ ls. RefusesNames ls c.in_err-line.field-0.0) c.lines-line-items.ensures
    (refused-at (map line xs) i (line c.line-item.result) (line c.line-item.result) low is c.in_err-line.field-0.0 c.loop-line.reader c.loop-line.invariant.taken c.in_err-line.ensures.refused))

pub loop-line-preserved : goal.loop-line-preserved
loop-line-preserved c =
    let xs = c.lines-line-items.result.now in
    let i = c.loop-line.line-index in
    let low : i < length (map line xs) = omega (arith, length-map xs line, c.loop-line-test.true) in
    let is = get_or-map line xs i c.line-item.result ∙ ap line (sym c.line-item.is) in
    took-one (map line xs) i (line c.line-item.result) (line c.line-item.result) low is c.loop-line.reader c.line.new.self c.loop-line.invariant
    (ap (map line) c.in_ok-line.ensures.taken ∙ map-append line c.loop-line.reader.taken (c.line-item.result ∷ [])) c.in_ok-line.ensures.good c.line.ensures.lookups.most
