use Rattle.toml_names.proofs.Common.{◌++◌, ◌-◌, length, subst, false≢true, children_of, children_behind, AreDistinct, rules}
use Rattle.toml_names.proofs.lemmas.tree.Distinct.{AreDistinct-front, dropped_behind, dropped_few, children_of-front}
use Rattle.toml_names.proofs.tree.name_map.NameMap.drop_last.Goals as goal

pub returns-then-drop_last_behind : goal.returns-then-drop_last_behind
returns-then-drop_last_behind c =
    dropped_behind (children_of c.self.inside.few.items) (children_behind c.self.inside.rest) c.args.self.now c.self.view_is (children_behind c.drop_last_behind.new.rest)
    (c.drop_last_behind.ensures.some.0 c.if-drop_last_behind.true) c.drop_last_behind.ensures.front

pub invariant_of-self : goal.invariant_of-self
invariant_of-self c =
    AreDistinct-front (length c.args.self.now - 1) c.args.self.now (children_of c.self.inside.few.items ++ children_behind c.drop_last_behind.new.rest) (subst AreDistinct c.self.view_is c.self.invariant)
    (returns-then-drop_last_behind c)

pub returns : goal.returns
returns c = search (rules, dropped_few, false≢true, children_of-front)

pub invariant_of-self-2 : goal.invariant_of-self-2
invariant_of-self-2 c =
    AreDistinct-front (length c.args.self.now - 1) c.args.self.now (children_of c.truncate.new.self.items ++ children_behind c.drop_last_behind.new.rest) (subst AreDistinct c.self.view_is c.self.invariant)
    (returns c)
