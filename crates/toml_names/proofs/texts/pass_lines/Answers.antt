use Rattle.toml_names.proofs.Common.{◌<◌, ◌∷◌, ◌++◌, [], List, Option, sym, subst, append_assoc, err_from_is_err_and, Line}
use Rattle.toml_tree.specs.declared.line_reader.LineReader.{LineReader}
use Rattle.toml_tree.specs.HandedOut.{HandsOut}
use Rattle.toml_names.specs.reader.Texts.{AreLeft, more_left}
use Rattle.toml_names.proofs.texts.pass_lines.Goals as goal

pub loop-left-smaller : goal.loop-left-smaller
loop-left-smaller c =
    let asked = c.requires in
    let all = c.loop-left.invariant asked.0 asked.1 asked.2 asked.3 in
    let stands : HandsOut asked.0 asked.1 (asked.2 ++ all.0) c.in-Some.reader =
    subst (λ (o : Option LineReader). AreLeft asked.0 asked.1 (asked.2 ++ all.0) o) c.in-Some.is all.1 in
    subst (λ (o : Option LineReader). more_left c.in_ok-left.left < more_left o) (sym c.in-Some.is)
    (c.in_ok-left.ensures asked.0 asked.1 (asked.2 ++ all.0) stands).1

pub loop-left-preserved : goal.loop-left-preserved
loop-left-preserved c = λ profile text front are.
    let all = c.loop-left.invariant profile text front are in
    let stands : HandsOut profile text (front ++ all.0) c.in-Some.reader =
    subst (λ (o : Option LineReader). AreLeft profile text (front ++ all.0) o) c.in-Some.is all.1 in
    let passed = (c.in_ok-left.ensures profile text (front ++ all.0) stands).0 in
    (all.0 ++ passed.0 ∷ [], subst (λ (ls : List Line). AreLeft profile text ls c.in_ok-left.left) (append_assoc front all.0 (passed.0 ∷ [])) passed.1)

pub returns-in_err-left : goal.returns-in_err-left
returns-in_err-left c = λ profile text front are.
    let p = err_from_is_err_and c.from_residual.result c.from_residual.ensures.1 in
    let all = c.loop-left.invariant profile text front are in
    let stands : HandsOut profile text (front ++ all.0) c.in-Some.reader =
    subst (λ (o : Option LineReader). AreLeft profile text (front ++ all.0) o) c.in-Some.is all.1 in
    rw (p.1, p.2) (c.in_err-left.ensures profile text (front ++ all.0) stands)

pub returns : goal.returns
returns c = λ profile text front are.
    let all = c.loop-left.invariant profile text front are in
    (all.0, subst (λ (o : Option LineReader). AreLeft profile text (front ++ all.0) o) c.in_default.is all.1)
