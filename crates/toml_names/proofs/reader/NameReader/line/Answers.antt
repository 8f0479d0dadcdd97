use Rattle.toml_names.proofs.Common.{◌≡◌, ◌++◌, ◌∷◌, [], List, Bor, length, map, ap, ◌∙◌, arith, err_from_is_err_and, line as tree_line, rules}
use Rattle.toml_tree.specs.declared.line.Line.{Line as TreeLine}
use Rattle.toml_names.proofs.lemmas.reader.OneMoreLine.{took, took_good, refuses-line, lines-push, count-lines}
use Rattle.toml_names.proofs.reader.NameReader.line.Goals as goal

pub returns-in_err-entered-clause-refused : goal.returns-in_err-entered-clause-refused
returns-in_err-entered-clause-refused c = search (rules, err_from_is_err_and, count-lines, refuses-line)

pub invariant_of-self-2 : goal.invariant_of-self-2
invariant_of-self-2 c =
    let r = c.self.inside in
    let lines = map tree_line (map (λ (l : Bor TreeLine). l.now) r.taken.items) in
    let counted : c.len-number.result ≡ length lines = omega (arith, c.len-number.ensures, ap length c.in_ok-reserve.ensures.items, count-lines r.taken.items) in
    let taken : c.push-2.new.self.items ≡ r.taken.items ++ c.args.line ∷ [] = c.in_ok-push-2.ensures.items ∙ ap (λ (xs : List (Bor TreeLine)). xs ++ c.args.line ∷ []) c.in_ok-reserve.ensures.items in
    record {
      reads = took r.names.tree.nodes.items c.take_line.new.self.nodes.items lines _ r.own.items _ r.names.section c.len-number.result (tree_line c.args.line.now) c.in_ok-entered.entered
          c.self.invariant.reads counted c.in_ok-entered.ensures.taken.enters c.in_ok-entered.ensures.taken.short (lines-push r.taken.items c.push-2.new.self.items c.args.line taken)
          (c.in_ok-push.ensures.items ∙ ap (λ xs. xs ++ c.in_ok-entered.entered.own ∷ []) c.in_ok-reserve-2.ensures.items);
      counted = omega (arith, c.len-self-inside.ensures, count-lines c.push-2.new.self.items);
      settled = c.in_ok-entered.ensures.settled;
    }

pub returns-clause-good : goal.returns-clause-good
returns-clause-good c =
    let r = c.self.inside in
    let lines = map tree_line (map (λ (l : Bor TreeLine). l.now) r.taken.items) in
    let counted : c.len-number.result ≡ length lines = omega (arith, c.len-number.ensures, ap length c.in_ok-reserve.ensures.items, count-lines r.taken.items) in
    let taken : c.push-2.new.self.items ≡ r.taken.items ++ c.args.line ∷ [] = c.in_ok-push-2.ensures.items ∙ ap (λ (xs : List (Bor TreeLine)). xs ++ c.args.line ∷ []) c.in_ok-reserve.ensures.items in
    took_good r.names.tree.nodes.items c.take_line.new.self.nodes.items lines _ r.own.items r.own.items r.names.section c.len-number.result (tree_line c.args.line.now) c.in_ok-entered.entered
    c.self.invariant.reads counted c.in_ok-entered.ensures.taken.enters c.in_ok-entered.ensures.taken.short (lines-push r.taken.items c.push-2.new.self.items c.args.line taken)
