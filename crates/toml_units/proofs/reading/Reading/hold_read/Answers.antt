use Rattle.std.proofs.Common.{Option, [], ◌∷◌, ◌++◌, refl, sym, ap, subst, ◌∙◌}
use Rattle.toml_tree.specs.HandedOut.{HandsNext, left}
use Rattle.toml_tree.specs.Lines.{line as tree_line}
use Rattle.toml_tree.specs.Tree.{Expr}
use Rattle.toml_tree.specs.View.{expr}
use Rattle.toml_units.specs.Arrays.{IsOwn}
use Rattle.toml_units.specs.Opened.{AddsFirst, opened_units}
use Rattle.toml_units.specs.Plain.{line_spans}
use Rattle.toml_units.specs.Reading.{IsArrayRead, IsOpened, with_left}
use Rattle.toml_units.specs.declared.opened.Opened.{Opened}
use Rattle.toml_units.specs.declared.reading.Left.TheVariants.{Lines}
use Rattle.toml_names.specs.declared.fault.ReadFault.TheVariants.{Syntax}
use Rattle.toml_names.proofs.Proved.{refused_text}
use Rattle.toml_units.proofs.ReadLines.{all_held, begun, begun_behind, is_over, own_held, passes, read_one}
use Rattle.toml_units.proofs.reading.Reading.hold_read.Goals as goal

pub refuse_names-requires : goal.refuse_names-requires
refuse_names-requires c =
    let went = c.requires.goes in
    let by = went.3 in
    let at = went.4 in
    let passed = passes went.0 went.1 went.2 (left by) c.in-Ok.read.0 c.in-Ok.read.1 (subst (HandsNext by) c.in-Ok.is at.2 went.0 went.1 went.2 at.1) in
    (went.0, went.1, went.2 ++ tree_line c.in-Ok.read.0 ∷ [], passed.0)

pub push_behind-requires : goal.push_behind-requires
push_behind-requires c =
    let went = c.requires.goes in
    let first = c.in-Ok-enter_first.ensures.names went.2 (begun went.0 went.1 went.2 c.args.self.now went.4.0) in
    (first.0, subst (λ (e : Expr). IsOwn first.0 e c.enter_first.new.units.items) (sym c.expr.ensures) first.2)

pub open-requires : goal.open-requires
open-requires c =
    let went = c.requires.goes in
    let first = c.in-Ok-enter_first.ensures.names went.2 (begun went.0 went.1 went.2 c.args.self.now went.4.0) in
    let added = begun_behind c.enter_first.new.units.items c.push_behind.new.units.items first.0 _ (expr c.in-Ok.read.0.expr) _ _ c.expr.ensures c.in-Some.is first.2 c.in_ok-array-in-Ok-enter_first.ensures in
    subst IsArrayRead (sym c.in-Ok.is) added.1.1

pub returns-in_default : goal.returns-in_default
returns-in_default c = λ profile text lines by at.
    let l = c.in-Ok.read.0 in
    let mid = c.enter_first.new.self in
    let held = c.push_behind.new.units.items in
    let first = c.in-Ok-enter_first.ensures.names lines (begun profile text lines c.args.self.now at.0) in
    let added = begun_behind c.enter_first.new.units.items held first.0 _ (expr l.expr) _ _ c.expr.ensures c.in_default.is first.2 c.in_ok-array-in-Ok-enter_first.ensures in
    read_one profile text lines c.args.self.now by c.args.handed at l c.in-Ok.read.1 c.in-Ok.is mid _ held first.0 _ first.1
    (all_held held first.0 (expr l.expr) mid.opened added.0 (c.in-Ok-enter_first.ensures.opened ∙ c.requires.closed)) (ap (λ p. p.text) c.newline.ensures) refl refl c.left_of-self.ensures

pub returns : goal.returns
returns c = λ profile text lines by at.
    let l = c.in-Ok.read.0 in
    let units = c.push_behind.new.units.items in
    let first = c.in-Ok-enter_first.ensures.names lines (begun profile text lines c.args.self.now at.0) in
    let added = begun_behind c.enter_first.new.units.items units first.0 _ (expr l.expr) _ _ c.expr.ensures c.in-Some.is first.2 c.in_ok-array-in-Ok-enter_first.ensures in
    let opened = subst (λ h. IsOpened h c.in-Some.at c.open.new.self.opened) c.in-Ok.is c.open.ensures.opened in
    read_one profile text lines c.args.self.now by c.args.handed at l c.in-Ok.read.1 c.in-Ok.is c.enter_first.new.self _ units first.0 _ first.1
    (subst (λ (o : Option Opened). AddsFirst [] units (line_spans first.0 (expr l.expr)) (opened_units o)) (sym opened.1) (own_held units first.0 (expr l.expr) c.in-Some.at _ added.0 added.1.0 opened.2))
    (ap (λ p. p.text) c.newline.ensures) c.open.ensures.names c.open.ensures.section (c.open.ensures.left ∙ c.left_of-self.ensures)

pub returns-in-Err-enter_first : goal.returns-in-Err-enter_first
returns-in-Err-enter_first c = λ profile text lines by at.
    let before = with_left c.args.self.now (Lines by) in
    let l = tree_line c.in-Ok.read.0 in
    let refused = c.in-Err-enter_first.ensures.names lines (begun profile text lines c.args.self.now at.0) in
    let passed = passes profile text lines (left by) c.in-Ok.read.0 c.in-Ok.read.1 (subst (HandsNext by) c.in-Ok.is at.2 profile text lines at.1) in
    is_over profile text lines before c.enter_first.new.self (c.in-Err-enter_first.ensures.left ∙ c.requires.refused)
    (refused_text profile text c.refuse_names.result c.in_ok-told-in-Err-enter_first.ensures.says (c.refuse_names.ensures profile text (lines ++ l ∷ []) passed.0 refused))
    (c.in-Err-enter_first.ensures.opened ∙ c.requires.closed)

pub returns-in-Err : goal.returns-in-Err
returns-in-Err c = λ profile text lines by at.
    let before = with_left c.args.self.now (Lines by) in
    is_over profile text lines before c.args.self.now c.requires.refused
    (refused_text profile text (Syntax c.in-Err.fault) c.in_ok-told-in-Err.ensures.says (subst (HandsNext by) c.in-Err.is at.2 profile text lines at.1)) c.requires.closed
