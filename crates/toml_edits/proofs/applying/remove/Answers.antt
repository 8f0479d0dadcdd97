use Rattle.std.proofs.Common.{◌≡◌, ◌++◌, ◌∷◌, [], sym, ap, ◌∙◌}
use Rattle.std.proofs.lemmas.Result.{on_ok_weaker}
use Rattle.toml_names.specs.declared.model.address.Step.{Step}
use Rattle.toml_names.specs.declared.model.address.Step.TheVariants.{Name}
use Rattle.toml_names.specs.model.Data.{kind_at}
use Rattle.toml_edits.proofs.FirstRows.{remove_free}
use Rattle.toml_edits.proofs.Found.{found_there}
use Rattle.toml_edits.proofs.Made.{removes_member, removes_element}
use Rattle.toml_edits.proofs.applying.remove.Goals as goal

pub returns-in-Name-clause-ok : goal.returns-in-Name-clause-ok
returns-in-Name-clause-ok c = λ profile.
    let q = c.in-Some.parent.now in
    let n = c.as_str.result.now in
    let is : c.args.at.now ≡ q ++ Name n ∷ [] = c.in-Some.ensures.cases.0 ∙ ap (λ (s : Step). q ++ s ∷ []) (c.in-Name.is ∙ ap Name (sym c.as_str.ensures)) in
    let some = found_there c.part.result (kind_at c.args.root.now c.args.at.now) c.is_none.result c.part.ensures.found c.is_none.ensures c.if-is_none.false in
    on_ok_weaker c.alter.result
    (λ made. (remove_free profile c.args.at.now q (Name n) (kind_at c.args.root.now) is some, removes_member c.args.root.now c.args.at.now q n (kind_at c.alter.new.root) is made))
    c.alter.ensures.ok

pub returns-in-Index-clause-ok : goal.returns-in-Index-clause-ok
returns-in-Index-clause-ok c = λ profile.
    let q = c.in-Some.parent.now in
    let is = c.in-Some.ensures.cases.0 ∙ ap (λ (s : Step). q ++ s ∷ []) c.in-Index.is in
    let some = found_there c.part.result (kind_at c.args.root.now c.args.at.now) c.is_none.result c.part.ensures.found c.is_none.ensures c.if-is_none.false in
    on_ok_weaker c.alter-in-Index.result
    (λ made. (remove_free profile c.args.at.now q _ (kind_at c.args.root.now) is some, removes_element c.args.root.now c.args.at.now q c.in-Index.index (kind_at c.alter-in-Index.new.root) is made))
    c.alter-in-Index.ensures.ok
