use Rattle.std.proofs.Common.{subst, arith}
use Rattle.toml_tree.specs.Tree.{Expr}
use Rattle.toml_tree.specs.View.{expr}
use Rattle.toml_tree.specs.declared.tree.Value.TheViews.{out-Array}
use Rattle.toml_units.specs.Arrays.{IsArrayLine}
use Rattle.toml_units.proofs.OpenedLines.{adds_item, adds_last, items_few, items_long}
use Rattle.toml_units.proofs.opened.Opened.next.Goals as goal

pub index-requires : goal.index-requires
index-requires c =
    let o = c.args.self.now in
    let a = c.in-Some.array.now in
    let tail = c.in-Some.tail.now in
    let line = subst (λ (e : Expr). IsArrayLine e a tail) c.expr.ensures c.in-Some.ensures in
    let many = items_long (expr o.line.expr) a tail line in
    omega (arith, o.more, many)

pub overflow_add-self : goal.overflow_add-self
overflow_add-self c =
    let o = c.args.self.now in
    let a = c.in-Some.array.now in
    let tail = c.in-Some.tail.now in
    let line = subst (λ (e : Expr). IsArrayLine e a tail) c.expr.ensures c.in-Some.ensures in
    let few = items_few (expr o.line.expr) a tail line in
    omega (arith, o.more, few)

pub invariant_of-self-then-self-len : goal.invariant_of-self-then-self-len
invariant_of-self-then-self-len c =
    let o = c.args.self.now in
    let a = c.in-Some.array.now in
    let tail = c.in-Some.tail.now in
    let line = subst (λ (e : Expr). IsArrayLine e a tail) c.expr.ensures c.in-Some.ensures in
    let many = items_long (expr o.line.expr) a tail line in
    let long = c.len.ensures in
    record { more = omega (arith, c.if-self-len.true, many, long); few = o.few }

pub returns-then-self-len : goal.returns-then-self-len
returns-then-self-len c =
    let o = c.args.self.now in
    let a = c.in-Some.array.now in
    let tail = c.in-Some.tail.now in
    let line = subst (λ (e : Expr). IsArrayLine e a tail) c.expr.ensures c.in-Some.ensures in
    let out = (out-Array a).items in
    let many = items_long (expr o.line.expr) a tail line in
    let long = c.len.ensures in (
      adds_item (expr o.line.expr) a tail line o.at o.item c.index.result.now c.set_to_element.new.self c.args.units.now.items c.push_element.new.units.items
          (omega (arith, c.if-self-len.true, long, out.ok.0)) c.index.ensures c.in_ok-set_to_element.ensures c.in_ok-push_element.ensures,
      omega (arith, c.if-self-len.true, many, long),
    )

pub returns : goal.returns
returns c =
    let o = c.args.self.now in
    let a = c.in-Some.array.now in
    let tail = c.in-Some.tail.now in
    let line = subst (λ (e : Expr). IsArrayLine e a tail) c.expr.ensures c.in-Some.ensures in
    let out = (out-Array a).items in
    let many = items_long (expr o.line.expr) a tail line in
    let long = c.len.ensures in
    adds_last (expr o.line.expr) a tail line o.at o.item c.index.result.now c.set_to_element.new.self c.args.units.now.items c.push_element.new.units.items c.push_end.new.units.items c.push_comment.new.units.items
    (omega (arith, o.more, many, out.ok.0)) (omega (arith, c.if-self-len.false, long, out.ok.0)) c.index.ensures c.in_ok-set_to_element.ensures c.in_ok-push_element.ensures c.in_ok-push_end.ensures c.in_ok-push_comment.ensures
