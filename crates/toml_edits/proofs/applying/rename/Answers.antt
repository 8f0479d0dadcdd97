use Rattle.std.proofs.Common.{◌≡◌, ◌++◌, ◌∷◌, [], sym, ap, ◌∙◌}
use Rattle.std.proofs.lemmas.Result.{on_ok_weaker}
use Rattle.toml_names.specs.declared.model.address.Step.{Step}
use Rattle.toml_names.specs.declared.model.address.Step.TheVariants.{Name}
use Rattle.toml_names.specs.model.Data.{kind_at}
use Rattle.toml_edits.proofs.FirstRows.{rename_free}
use Rattle.toml_edits.proofs.Found.{found_there}
use Rattle.toml_edits.proofs.Made.{may_rename, renames_member}
use Rattle.toml_edits.proofs.Reaching.{refuted}
use Rattle.toml_edits.proofs.applying.rename.Goals as goal

pub alter-requires : goal.alter-requires
alter-requires c =
    let q = c.in-Some.parent.now in
    let n = c.as_str.result.now in
    let is : c.args.at.now ≡ q ++ Name n ∷ [] = c.in-Some.ensures.cases.0 ∙ ap (λ (s : Step). q ++ s ∷ []) (c.in-Name.is ∙ ap Name (sym c.as_str.ensures)) in
    let some = found_there c.part.result (kind_at c.args.root.now c.args.at.now) c.is_none.result c.part.ensures.found c.is_none.ensures c.if-is_none.false in
    may_rename c.args.root.now c.args.at.now q n c.args.to.now is some (refuted c.has_member.ensures c.if-has_member.false)

pub returns-clause-ok : goal.returns-clause-ok
returns-clause-ok c = λ profile.
    let q = c.in-Some.parent.now in
    let n = c.as_str.result.now in
    let is : c.args.at.now ≡ q ++ Name n ∷ [] = c.in-Some.ensures.cases.0 ∙ ap (λ (s : Step). q ++ s ∷ []) (c.in-Name.is ∙ ap Name (sym c.as_str.ensures)) in
    let some = found_there c.part.result (kind_at c.args.root.now c.args.at.now) c.is_none.result c.part.ensures.found c.is_none.ensures c.if-is_none.false in
    let free = refuted c.has_member.ensures c.if-has_member.false in
    on_ok_weaker c.alter.result
    (λ made. (rename_free profile c.args.at.now q n c.args.to.now (kind_at c.args.root.now) is some free, renames_member c.args.root.now c.args.at.now q n c.args.to.now (kind_at c.alter.new.root) is free made))
    c.alter.ensures.ok
