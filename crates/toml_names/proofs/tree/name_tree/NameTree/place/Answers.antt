use Rattle.toml_names.proofs.Common.{Some, None, sym, ◌∙◌, arith, nowhere}
use Rattle.toml_names.proofs.lemmas.tree.OnWay.{place_told, some_steps}
use Rattle.toml_names.proofs.lemmas.tree.NodePlaces.{leads_to}
use Rattle.toml_names.proofs.tree.name_tree.NameTree.place.Goals as goal

pub returns-in_err-here : goal.returns-in_err-here
returns-in_err-here c lines stands =
    let some = some_steps c.args.at.now c.steps.result.now c.is_empty.result c.steps.ensures c.is_empty.ensures c.if-is_empty.false in
    c.from_residual.ensures ∙ place_told c.args.self.now.nodes.items c.args.at.now c.steps-2.result.now None some c.steps-2.ensures c.in_err-here.ensures lines stands

pub own_place-requires : goal.own_place-requires
own_place-requires c =
    let leads = leads_to c.args.self.now.nodes.items c.requires.tree c.steps-2.result.now c.in_ok-here.here c.in_ok-here.ensures.0 in
    let within = leads.within in
    record { within = omega (arith, within, c.args.self.now.nodes.ok) }

pub returns-in-Some : goal.returns-in-Some
returns-in-Some c lines stands =
    let some = some_steps c.args.at.now c.steps.result.now c.is_empty.result c.steps.ensures c.is_empty.ensures c.if-is_empty.false in
    place_told c.args.self.now.nodes.items c.args.at.now c.steps-2.result.now (Some (c.in_ok-here.here, Some c.in-Some.line)) some c.steps-2.ensures
    (c.in_ok-here.ensures.0, sym c.in-Some.is ∙ c.in_ok-here.ensures.1) lines stands

pub returns-in-None : goal.returns-in-None
returns-in-None c lines stands =
    let some = some_steps c.args.at.now c.steps.result.now c.is_empty.result c.steps.ensures c.is_empty.ensures c.if-is_empty.false in
    c.own_place.ensures nowhere
    ∙ place_told c.args.self.now.nodes.items c.args.at.now c.steps-2.result.now (Some (c.in_ok-here.here, None)) some c.steps-2.ensures
    (c.in_ok-here.ensures.0, sym c.in-None.is ∙ c.in_ok-here.ensures.1) lines stands
