use Rattle.std.proofs.Common.{◌++◌, [], ◌∷◌, sym, ap, ◌∙◌}
use Rattle.std.proofs.lemmas.List.{append-nil, nil_from_length}
use Rattle.std.proofs.lemmas.Result.{IfOk-weaker}
use Rattle.std.specs.Prelude.{option_copied}
use Rattle.toml_edits.specs.Walks.{next_by, step_by}
use Rattle.toml_edits.proofs.WalkShown.{leads_here, leads_none, leads_on}
use Rattle.toml_edits.proofs.walking.+follow_on.Goals as goal

pub returns-in_default : goal.returns-in_default
returns-in_default t c = λ e. leads_none (option_copied c.args.tree) c.args.way.now c.args.to.now.items c.push_copies.new.to.items (ap option_copied c.in_default.is) c.in_ok-push_copies.ensures

pub returns-in_default-split_first : goal.returns-in_default-split_first
returns-in_default-split_first t c = λ e.
    leads_here (option_copied c.args.tree) c.in-Some.tree.now c.args.way.now c.args.to.now.items c.args.to.now.items (ap option_copied c.in-Some.is) (nil_from_length c.args.way.now c.in_default-split_first.ensures.cases) (sym (append-nil c.args.to.now.items))

pub returns-in_ok-push-in-On : goal.returns-in_ok-push-in-On
returns-in_ok-push-in-On t c =
    let s = c.in-Some-split_first.step.now in
    let pushed = c.in_ok-push-in-On.ensures.items ∙ ap (λ u. c.args.to.now.items ++ u ∷ []) c.in_ok-step-in-On.ensures in
    IfOk-weaker c.follow_on.result _ _ (λ told h e.
    leads_on (option_copied c.args.tree) c.in-Some.tree.now s (step_by c.in-On.next s) (option_copied c.in-On.below) c.in-Some-split_first.rest.now c.args.way.now c.args.to.now.items c.push.new.self.items c.follow_on.new.to.items (ap option_copied c.in-Some.is) c.in-Some-split_first.ensures.cases.0
    (sym c.next.ensures ∙ ap (next_by s) c.in-On.is) pushed (h e)) c.follow_on.ensures
