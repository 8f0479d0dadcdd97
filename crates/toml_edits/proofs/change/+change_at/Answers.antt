use Rattle.std.proofs.Common.{rules, ◌≡◌, [], ◌∷◌, IsSome, ◌++◌, sym, ap, ◌∙◌, subst}
use Rattle.std.proofs.lemmas.Result.{on_ok_weaker, on_err_weaker}
use mathlib.Core.Path.{fun_ext}
use Rattle.toml_names.specs.model.Addresses.{Address}
use Rattle.toml_names.specs.model.Data.{kind_at}
use Rattle.toml_names.proofs.Proved.{hole_there}
use Rattle.toml_edits.specs.Changed.{IsApplicable, changed, below}
use Rattle.toml_edits.proofs.TakenOut.{put_back, put_back_same, no_steps, first_there}
use Rattle.toml_edits.proofs.change.+change_at.Goals as goal

pub change_here-requires : goal.change_here-requires
change_here-requires t c = subst (λ (p : Address). IsApplicable c.args.change (λ at. kind_at c.args.datum (p ++ at))) (no_steps c.args.steps.now c.in_default.ensures.cases) c.requires

pub change_at-part-requires : goal.change_at-part-requires
change_at-part-requires t c = let first = first_there c.args.change c.args.datum c.in-Some.step.now c.in-Some.rest.now (subst (λ (p : Address). IsApplicable c.args.change (λ at. kind_at c.args.datum (p ++ at))) c.in-Some.ensures.cases.0 c.requires) in (
  search rules,
  subst (IsApplicable c.args.change)
      (fun_ext (λ at. ap (λ (p : Address). kind_at c.args.datum (p ++ at)) c.in-Some.ensures.cases.0 ∙ sym (c.swap_child-hollow.ensures.before first (c.in-Some.rest.now ++ at))))
      c.requires,
)

pub returns-clause-ok : goal.returns-clause-ok
returns-clause-ok t c =
    let first = first_there c.args.change c.args.datum c.in-Some.step.now c.in-Some.rest.now (subst (λ (p : Address). IsApplicable c.args.change (λ at. kind_at c.args.datum (p ++ at))) c.in-Some.ensures.cases.0 c.requires) in
    let left = c.swap_child-hollow.ensures.after first in
    let there = subst IsSome (sym (left (c.in-Some.step.now ∷ []))) (hole_there c.in-Some.step.now (kind_at c.hole.result) (kind_at c.args.datum) c.hole.ensures) in
    on_ok_weaker c.change_at-part.result.1 (λ done.
    subst (λ (p : Address). (at : Address) → kind_at c.swap_child-whole.result.0 at ≡ below p (changed c.args.change) (kind_at c.args.datum) at) (sym c.in-Some.ensures.cases.0)
    (put_back c.in-Some.step.now c.in-Some.rest.now (changed c.args.change) (kind_at c.args.datum) (kind_at c.swap_child-hollow.result.0) (kind_at c.swap_child-whole.result.0) (kind_at c.hole.result) (kind_at c.swap_child-hollow.result.1) (kind_at c.change_at-part.result.0)
    (c.swap_child-hollow.ensures.before first) left done (c.swap_child-whole.ensures.after there))) c.change_at-part.ensures.ok

pub returns-clause-err : goal.returns-clause-err
returns-clause-err t c =
    let first = first_there c.args.change c.args.datum c.in-Some.step.now c.in-Some.rest.now (subst (λ (p : Address). IsApplicable c.args.change (λ at. kind_at c.args.datum (p ++ at))) c.in-Some.ensures.cases.0 c.requires) in
    let left = c.swap_child-hollow.ensures.after first in
    let there = subst IsSome (sym (left (c.in-Some.step.now ∷ []))) (hole_there c.in-Some.step.now (kind_at c.hole.result) (kind_at c.args.datum) c.hole.ensures) in
    on_err_weaker c.change_at-part.result.1 (λ same.
    put_back_same c.in-Some.step.now (kind_at c.args.datum) (kind_at c.swap_child-hollow.result.0) (kind_at c.swap_child-whole.result.0) (kind_at c.hole.result) (kind_at c.swap_child-hollow.result.1) (kind_at c.change_at-part.result.0)
    (c.swap_child-hollow.ensures.before first) left same (c.swap_child-whole.ensures.after there)) c.change_at-part.ensures.err
