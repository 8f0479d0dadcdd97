use Rattle.std.proofs.Common.{◌<◌, Option, sym, subst, ◌∙◌}
use Rattle.toml_text.specs.Source.{text_of}
use Rattle.toml_tree.specs.HandedOut.{left}
use Rattle.toml_tree.specs.declared.line_reader.LineReader.{LineReader}
use Rattle.toml_names.specs.reader.Texts.{more_left}
use Rattle.toml_print.specs.Searching.{ArePassed}
use Rattle.toml_print.proofs.FoundLines.{passed_start, goes_on, ends_found, none_in_text}
use Rattle.toml_print.proofs.value_at.find_in_text.Goals as goal

pub loop-left-init : goal.loop-left-init
loop-left-init c = passed_start c.args.profile (text_of c.args.source) c.args.at.now c.in_ok-names.names c.new-2.result c.in_ok-names.ensures c.new-2.ensures

pub returns-then-is_some : goal.returns-then-is_some
returns-then-is_some c =
    let profile = c.args.profile in
    let text = text_of c.args.source in
    let passed = subst (λ (o : Option LineReader). ArePassed profile text c.args.at.now c.loop-left.names o) c.in-Some.is c.loop-left.invariant in
    ends_found profile text c.args.at.now (left c.in-Some.reader) c.look_at_line.new.names c.in_ok-found.found c.in_ok-found.more (sym c.is_some.ensures ∙ c.if-is_some.true) (c.in_ok-found.ensures profile text passed)

pub loop-left-smaller : goal.loop-left-smaller
loop-left-smaller c =
    let profile = c.args.profile in
    let text = text_of c.args.source in
    let passed = subst (λ (o : Option LineReader). ArePassed profile text c.args.at.now c.loop-left.names o) c.in-Some.is c.loop-left.invariant in
    let on =
    goes_on profile text c.args.at.now (left c.in-Some.reader) c.look_at_line.new.names c.in_ok-found.found c.in_ok-found.more (sym c.is_some.ensures ∙ c.if-is_some.false) (c.in_ok-found.ensures profile text passed) in
    subst (λ (o : Option LineReader). more_left c.in_ok-found.more < more_left o) (sym c.in-Some.is) on.1

pub loop-left-preserved : goal.loop-left-preserved
loop-left-preserved c =
    let profile = c.args.profile in
    let text = text_of c.args.source in
    let passed = subst (λ (o : Option LineReader). ArePassed profile text c.args.at.now c.loop-left.names o) c.in-Some.is c.loop-left.invariant in
    (goes_on profile text c.args.at.now (left c.in-Some.reader) c.look_at_line.new.names c.in_ok-found.found c.in_ok-found.more (sym c.is_some.ensures ∙ c.if-is_some.false) (c.in_ok-found.ensures profile text passed)).0

pub returns : goal.returns
returns c = λ lines are.
    let profile = c.args.profile in
    let text = text_of c.args.source in
    let passed = subst (λ (o : Option LineReader). ArePassed profile text c.args.at.now c.loop-left.names o) c.in_default.is c.loop-left.invariant in
    none_in_text profile text c.args.at.now lines c.loop-left.names are passed
