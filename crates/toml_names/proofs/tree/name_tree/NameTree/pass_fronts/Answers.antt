use Rattle.toml_names.proofs.Common.{◌≡◌, ◌+◌, [], ◌∷◌, ◌∙◌, Some, sym, ap, subst, take, drop, length, true, arith, err_from_is_err_and, piece, PassedFronts, header_fronts, part_name, CanEnterHeaders, IsAbsent, nowhere, misfit, rules}
use Rattle.toml_names.proofs.lemmas.tree.FreshHeaders.{passed-fresh}
use Rattle.toml_names.proofs.lemmas.mentions.Along.{names_left}
use Rattle.toml_names.proofs.lemmas.tree.EnterFronts.{all-named, one_more, all_names}
use Rattle.toml_names.proofs.lemmas.tree.PassedFronts.{PassedFronts-first, PassedFronts-more, fronts_clash}
use Rattle.toml_names.proofs.lemmas.tree.Steps.{GoesOn-same, GoesOn-within, GoesOn-then, refuses}
use Rattle.toml_names.proofs.tree.name_tree.NameTree.pass_fronts.Goals as goal

pub loop-dotted-init : goal.loop-dotted-init
loop-dotted-init c = search (rules, PassedFronts-first, GoesOn-same)

pub pass-requires : goal.pass-requires
pass-requires c = record { there = record { tree = c.loop-dotted.invariant.passed.tree; within = c.loop-dotted.invariant.passed.within } }

pub returns-in_err-id : goal.returns-in_err-id
returns-in_err-id c =
    let first = part_name (piece c.args.key.now.first) in
    let rest = c.deref-dotted-items.result.now in
    let i = c.loop-dotted.dotted-index in
    let d = c.dotted-item.result in
    let old = c.args.self.now.nodes.items in
    let items : length rest ≡ length c.args.key.now.rest.items = ap length c.deref-dotted-items.ensures.value in
    refuses c.loop-dotted.invariant.goes_on c.in_err-id.ensures (err_from_is_err_and c.from_residual.result c.from_residual.ensures.1) (omega (arith, items, c.loop-dotted-test.true))
    (λ a clash ms stands. subst (λ ds. misfit ms (header_fronts c.args.line ms [] (first ∷ names_left ds)) ≡ Some a) c.deref-dotted-items.ensures.value
    (ap (λ key. misfit ms (header_fronts c.args.line ms [] key)) (all_names first rest i d c.loop-dotted-test.true c.dotted-item.is)
    ∙ fronts_clash old c.loop-dotted.self.nodes.items c.args.line c.loop-dotted.here (part_name (piece c.loop-dotted.part)) first (names_left (take i rest)) c.loop-dotted.invariant.passed
    (part_name (piece d.part)) (names_left (drop (i + 1) rest)) a clash ms stands))

pub returns-in-None : goal.returns-in-None
returns-in-None c =
    let first = part_name (piece c.args.key.now.first) in
    let old = c.args.self.now.nodes.items in
    let items : length c.deref-dotted-items.result.now ≡ length c.args.key.now.rest.items = ap length c.deref-dotted-items.ensures.value in
    let none : (c.is_long-long.result ≡ true) × IsAbsent c.loop-dotted.self.nodes.items c.loop-dotted.here (part_name (piece c.loop-dotted.part)) = rw c.in-None.is at c.in_ok-id.ensures.made in
    record {
      made = (
        subst (λ ds. CanEnterHeaders old c.args.line (first ∷ names_left ds)) c.deref-dotted-items.ensures.value
            (passed-fresh first c.deref-dotted-items.result.now c.loop-dotted.dotted-index c.dotted-item.result c.loop-dotted-test.true c.dotted-item.is
            old c.loop-dotted.self.nodes.items c.args.line c.loop-dotted.here (part_name (piece c.loop-dotted.part)) c.loop-dotted.invariant.passed none.1 nowhere),
        c.is_long-long.ensures none.0,
      );
      clash = tt;
      goes_on = GoesOn-then c.loop-dotted.invariant.goes_on c.pass.ensures.goes_on (length c.args.key.now.rest.items) (omega (arith, items, c.loop-dotted-test.true));
    }

pub loop-dotted-preserved : goal.loop-dotted-preserved
loop-dotted-preserved c =
    let first = part_name (piece c.args.key.now.first) in
    let rest = c.deref-dotted-items.result.now in
    let i = c.loop-dotted.dotted-index in
    let d = c.dotted-item.result in
    let old = c.args.self.now.nodes.items in
    let then = c.pass.new.self.nodes.items in
    record {
      passed = subst (PassedFronts old then c.args.line c.in-Some.id (part_name (piece d.part))) (sym (one_more first rest i d c.loop-dotted-test.true c.dotted-item.is))
          (PassedFronts-more old c.loop-dotted.self.nodes.items c.args.line c.loop-dotted.here (part_name (piece c.loop-dotted.part)) first (names_left (take i rest)) c.loop-dotted.invariant.passed
          (part_name (piece d.part)) then c.in-Some.id (rw c.in-Some.is at c.in_ok-id.ensures.made));
      goes_on = GoesOn-then c.loop-dotted.invariant.goes_on c.pass.ensures.goes_on (i + 1) (omega arith);
    }

pub returns : goal.returns
returns c =
    let items : length c.deref-dotted-items.result.now ≡ length c.args.key.now.rest.items = ap length c.deref-dotted-items.ensures.value in
    record {
      made = all-named (PassedFronts c.args.self.now.nodes.items c.loop-dotted.self.nodes.items c.args.line c.loop-dotted.here (part_name (piece c.loop-dotted.part)))
          c.args.key.now c.deref-dotted-items.result.now c.loop-dotted.dotted-index c.deref-dotted-items.ensures.value c.loop-dotted-test.false c.loop-dotted.invariant.passed;
      clash = tt;
      goes_on = GoesOn-within c.loop-dotted.invariant.goes_on (length c.args.key.now.rest.items) (omega (arith, items, c.loop-dotted.auto.dotted-index-end));
    }
