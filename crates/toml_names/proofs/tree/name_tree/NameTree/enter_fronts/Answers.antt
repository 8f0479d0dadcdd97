use Rattle.toml_names.proofs.Common.{◌≡◌, ◌+◌, ◌∷◌, ap, subst, length, true, arith, err_from_is_err_and, piece, part_name, CanEnter, FollowedFronts, key_named, fronts, Clashes, IsAbsent, nowhere, address_at, rules}
use Rattle.toml_names.proofs.lemmas.mentions.Along.{names_left}
use Rattle.toml_names.proofs.lemmas.tree.EnterFronts.{all-named, FollowedFronts-first, FollowedFronts-more, Clashes-fronts}
use Rattle.toml_names.proofs.lemmas.tree.FreshKeys.{followed-fresh}
use Rattle.toml_names.proofs.lemmas.tree.Steps.{GoesOn-same, GoesOn-within, GoesOn-then, refuses}
use Rattle.toml_names.proofs.tree.name_tree.NameTree.enter_fronts.Goals as goal

pub loop-dotted-init : goal.loop-dotted-init
loop-dotted-init c = search (rules, FollowedFronts-first, GoesOn-same)

pub enter-requires-clause-there : goal.enter-requires-clause-there
enter-requires-clause-there c = record { tree = c.loop-dotted.invariant.followed.entered.tree; within = c.loop-dotted.invariant.followed.within }

pub returns-in_err-id : goal.returns-in_err-id
returns-in_err-id c =
    let first = part_name (piece c.args.key.now.first) in
    let old = c.args.self.now.nodes.items in
    let at = address_at old c.args.at in
    let items : length c.deref-dotted-items.result.now ≡ length c.args.key.now.rest.items = ap length c.deref-dotted-items.ensures.value in
    refuses c.loop-dotted.invariant.goes_on c.in_err-id.ensures (err_from_is_err_and c.from_residual.result c.from_residual.ensures.1) (omega (arith, items, c.loop-dotted-test.true))
    (λ a clash. subst (λ ds. Clashes old (fronts c.args.line at (first ∷ names_left ds)) a) c.deref-dotted-items.ensures.value
    (Clashes-fronts first c.deref-dotted-items.result.now c.loop-dotted.dotted-index c.dotted-item.result c.loop-dotted-test.true c.dotted-item.is
    old c.loop-dotted.self.nodes.items c.args.line at c.loop-dotted.here (part_name (piece c.loop-dotted.part)) c.loop-dotted.invariant.followed a clash))

pub returns-in-None : goal.returns-in-None
returns-in-None c =
    let first = part_name (piece c.args.key.now.first) in
    let old = c.args.self.now.nodes.items in
    let at = address_at old c.args.at in
    let items : length c.deref-dotted-items.result.now ≡ length c.args.key.now.rest.items = ap length c.deref-dotted-items.ensures.value in
    let none : (c.args.known ≡ true) × IsAbsent c.loop-dotted.self.nodes.items c.loop-dotted.here (part_name (piece c.loop-dotted.part)) = rw c.in-None.is at c.in_ok-id.ensures.made in
    record {
      made = (
        none.0,
        λ k. subst (λ ds. CanEnter old (key_named c.args.line at (first ∷ names_left ds) k)) c.deref-dotted-items.ensures.value
            (followed-fresh first c.deref-dotted-items.result.now c.loop-dotted.dotted-index c.dotted-item.result c.loop-dotted-test.true c.dotted-item.is
            old c.loop-dotted.self.nodes.items c.args.line at c.loop-dotted.here (part_name (piece c.loop-dotted.part)) c.loop-dotted.invariant.followed none.1 nowhere k),
      );
      clash = tt;
      goes_on = GoesOn-then c.loop-dotted.invariant.goes_on c.enter.ensures.goes_on (length c.args.key.now.rest.items) (omega (arith, items, c.loop-dotted-test.true));
    }

pub loop-dotted-preserved : goal.loop-dotted-preserved
loop-dotted-preserved c =
    let old = c.args.self.now.nodes.items in
    record {
      followed = FollowedFronts-more (part_name (piece c.args.key.now.first)) c.deref-dotted-items.result.now c.loop-dotted.dotted-index c.dotted-item.result c.loop-dotted-test.true c.dotted-item.is
          old c.loop-dotted.self.nodes.items c.args.line (address_at old c.args.at) c.loop-dotted.here (part_name (piece c.loop-dotted.part)) c.loop-dotted.invariant.followed
          c.enter.new.self.nodes.items c.in-Some.id (rw c.in-Some.is at c.in_ok-id.ensures.made);
      goes_on = GoesOn-then c.loop-dotted.invariant.goes_on c.enter.ensures.goes_on (c.loop-dotted.dotted-index + 1) (omega arith);
    }

pub returns : goal.returns
returns c =
    let items : length c.deref-dotted-items.result.now ≡ length c.args.key.now.rest.items = ap length c.deref-dotted-items.ensures.value in
    record {
      made = all-named (FollowedFronts c.args.self.now.nodes.items c.loop-dotted.self.nodes.items c.args.line (address_at c.args.self.now.nodes.items c.args.at) c.loop-dotted.here (part_name (piece c.loop-dotted.part)))
          c.args.key.now c.deref-dotted-items.result.now c.loop-dotted.dotted-index c.deref-dotted-items.ensures.value c.loop-dotted-test.false c.loop-dotted.invariant.followed;
      clash = tt;
      goes_on = GoesOn-within c.loop-dotted.invariant.goes_on (length c.args.key.now.rest.items) (omega (arith, items, c.loop-dotted.auto.dotted-index-end));
    }
