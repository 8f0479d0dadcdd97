use Rattle.std.proofs.Common.{◌≡◌, ◌++◌, ◌∷◌, [], sym, ap, ◌∙◌}
use Rattle.std.proofs.lemmas.Result.{on_ok_weaker}
use Rattle.toml_names.specs.declared.model.address.Step.{Step}
use Rattle.toml_names.specs.declared.model.address.Step.TheVariants.{Name}
use Rattle.toml_names.specs.model.Data.{kind_at}
use Rattle.toml_edits.proofs.Made.{table_there, array_there, inserts_member, inserts_element}
use Rattle.toml_edits.proofs.applying.insert.Goals as goal

pub alter-requires : goal.alter-requires
alter-requires c =
    let q = c.in-Some.parent.now in
    let n = c.as_str.result.now in
    let is : c.args.at.now ≡ q ++ Name n ∷ [] = c.in-Some.ensures.cases.0 ∙ ap (λ (s : Step). q ++ s ∷ []) (c.in-Name.is ∙ ap Name (sym c.as_str.ensures)) in
    table_there c.args.profile c.args.root.now c.args.at.now q c.args.text.now (kind_at c.in_ok-value.value) (kind_at c.args.root.now) c.in_ok-value.ensures.0 n is

pub alter-requires-in-Index : goal.alter-requires-in-Index
alter-requires-in-Index c =
    let q = c.in-Some.parent.now in
    let is = c.in-Some.ensures.cases.0 ∙ ap (λ (s : Step). q ++ s ∷ []) c.in-Index.is in
    array_there c.args.profile c.args.root.now c.args.at.now q c.args.text.now (kind_at c.in_ok-value.value) (kind_at c.args.root.now) c.in_ok-value.ensures.0 c.in-Index.index is

pub returns-in-Name-clause-ok : goal.returns-in-Name-clause-ok
returns-in-Name-clause-ok c =
    let q = c.in-Some.parent.now in
    let n = c.as_str.result.now in
    let is : c.args.at.now ≡ q ++ Name n ∷ [] = c.in-Some.ensures.cases.0 ∙ ap (λ (s : Step). q ++ s ∷ []) (c.in-Name.is ∙ ap Name (sym c.as_str.ensures)) in
    on_ok_weaker c.alter.result
    (λ made. (c.in_ok-value.ensures.0, inserts_member c.args.profile c.args.root.now c.args.at.now q c.args.text.now (kind_at c.in_ok-value.value) (kind_at c.alter.new.root) c.in_ok-value.ensures.0 n is c.in_ok-value.ensures.1 made))
    c.alter.ensures.ok

pub returns-in-Index-clause-ok : goal.returns-in-Index-clause-ok
returns-in-Index-clause-ok c =
    let q = c.in-Some.parent.now in
    let is = c.in-Some.ensures.cases.0 ∙ ap (λ (s : Step). q ++ s ∷ []) c.in-Index.is in
    on_ok_weaker c.alter-in-Index.result
    (λ made. (c.in_ok-value.ensures.0, inserts_element c.args.profile c.args.root.now c.args.at.now q c.args.text.now (kind_at c.in_ok-value.value) (kind_at c.alter-in-Index.new.root) c.in_ok-value.ensures.0 c.in-Index.index is c.in_ok-value.ensures.1 made))
    c.alter-in-Index.ensures.ok
