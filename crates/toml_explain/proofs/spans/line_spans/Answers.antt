use Rattle.std.proofs.Common.{◌≡◌, ◌<◌, ◌∷◌, ◌++◌, [], List, Option, Some, length, length-append, refl, sym, subst, arith}
use Rattle.std.proofs.lemmas.Option.{none-some}
use Rattle.std.specs.Prelude.{slice_get}
use Rattle.toml_text.specs.Source.{text_of}
use Rattle.toml_tree.specs.HandedOut.{HandsOut, tree_of}
use Rattle.toml_tree.specs.Tree.{Line}
use Rattle.toml_tree.specs.declared.line_reader.LineReader.{LineReader}
use Rattle.toml_names.specs.reader.Texts.{AreLeft, more_left}
use Rattle.toml_explain.specs.Documents.{ReadsSpans}
use Rattle.toml_explain.proofs.Lines.{found_more, same_lines}
use Rattle.toml_explain.proofs.spans.line_spans.Goals as goal

pub loop-left-init : goal.loop-left-init
loop-left-init c = ([], c.new.ensures, refl, λ l is. absurd (none-some l is))

pub loop-left-smaller : goal.loop-left-smaller
loop-left-smaller c =
    let text = text_of c.args.source in
    let inv = c.loop-left.invariant in
    let reader = c.in-Some.reader in
    let stands : HandsOut c.args.profile text inv.0 reader = subst (λ (o : Option LineReader). AreLeft c.args.profile text inv.0 o) c.in-Some.is inv.1 in
    let read = subst (ReadsSpans reader) c.in-Some-2.is c.in_ok-spans.ensures in
    let passed = read c.args.profile text inv.0 stands in
    subst (λ (o : Option LineReader). more_left c.in-Some-2.more < more_left o) (sym c.in-Some.is) passed.3

pub loop-left-preserved : goal.loop-left-preserved
loop-left-preserved c =
    let text = text_of c.args.source in
    let inv = c.loop-left.invariant in
    let reader = c.in-Some.reader in
    let stands : HandsOut c.args.profile text inv.0 reader = subst (λ (o : Option LineReader). AreLeft c.args.profile text inv.0 o) c.in-Some.is inv.1 in
    let read = subst (ReadsSpans reader) c.in-Some-2.is c.in_ok-spans.ensures in
    let passed = read c.args.profile text inv.0 stands in
    let counted : c.loop-left.count ≡ length inv.0 = inv.2 in (
      inv.0 ++ passed.0 ∷ [],
      passed.2,
      omega (arith, counted, length-append inv.0 (passed.0 ∷ [])),
      found_more inv.0 passed.0 c.loop-left.count c.args.number c.in-Some-2.spans c.loop-left.found c.at_number-found.result counted passed.1 inv.3 c.at_number-found.ensures.here c.at_number-found.ensures.other,
    )

pub returns-in_default-2 : goal.returns-in_default-2
returns-in_default-2 c = λ lines are l is.
    let text = text_of c.args.source in
    let inv = c.loop-left.invariant in
    let reader = c.in-Some.reader in
    let stands : HandsOut c.args.profile text inv.0 reader = subst (λ (o : Option LineReader). AreLeft c.args.profile text inv.0 o) c.in-Some.is inv.1 in
    let none = subst (ReadsSpans reader) c.in_default-2.is c.in_ok-spans.ensures in
    absurd (none c.args.profile text inv.0 stands (tree_of text lines) are.spelled)

pub returns : goal.returns
returns c = λ lines are l is.
    let text = text_of c.args.source in
    let inv = c.loop-left.invariant in
    let all = subst (λ (o : Option LineReader). AreLeft c.args.profile text inv.0 o) c.in_default.is inv.1 in
    inv.3 l (subst (λ (ls : List Line). slice_get ls c.args.number ≡ Some l) (same_lines c.args.profile text lines inv.0 are all) is)
