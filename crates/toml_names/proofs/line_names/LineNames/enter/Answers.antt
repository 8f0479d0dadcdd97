use Rattle.toml_names.proofs.Common.{ℕ, [], ◌∷◌, ◌++◌, refl, subst, arith, length_push, err_from_is_err_and, line as tree_line, named, RefusesEntry}
use Rattle.toml_names.proofs.lemmas.reader.OneMoreLine.{took, refuses-line}
use Rattle.toml_names.proofs.lemmas.reader.WholeText.{refused_with}
use Rattle.toml_names.proofs.line_names.LineNames.enter.Goals as goal

pub returns-in_err-entered : goal.returns-in_err-entered
returns-in_err-entered c = λ lines h.
    let r = c.args.self.now in
    let l = tree_line c.args.line.now in
    let p = err_from_is_err_and c.from_residual.result c.from_residual.ensures.1 in
    let refused = subst (λ (n : ℕ). RefusesEntry r.tree.nodes.items r.section n l.expr c.in_err-entered.field-0.0) h.keeps.counted c.in_err-entered.ensures.taken.0 in
    rw (p.1, p.2) (refused_with lines l _ (refuses-line r.tree.nodes.items lines h.own r.section l _ h.keeps.reads refused))

pub returns : goal.returns
returns c = λ lines h.
    let r = c.args.self.now in
    let l = tree_line c.args.line.now in
    let e = c.in_ok-entered.entered in
    let entry = c.in_ok-entered.ensures.taken in
    record {
      stands = record {
        own = h.own ++ e.own ∷ [];
        keeps = record {
          reads = took r.tree.nodes.items c.take_line.new.self.nodes.items lines (lines ++ l ∷ []) h.own (h.own ++ e.own ∷ []) r.section r.count l e h.keeps.reads h.keeps.counted entry.enters entry.short refl refl;
          counted = omega (arith, h.keeps.counted, length_push lines l);
          settled = c.in_ok-entered.ensures.settled;
        };
      };
      within = entry.enters.own_within;
      own = entry.enters.own (named lines) h.keeps.reads.stands h.keeps.reads.table;
    }
