use Rattle.std.proofs.Common.{◌≡◌, ap, IfErr, MatchOption, OnOk, Some, subst, subst₂, sym, true}
use Rattle.toml_names.specs.model.Data.{kind_at}
use Rattle.toml_edits.specs.Applied.{IsApplied, IsRefused}
use Rattle.toml_edits.specs.Drafts.{is_array, with_open}
use Rattle.toml_edits.proofs.OpenDrafts.{stands, stands_again}
use Rattle.toml_edits.proofs.draft.Draft.apply_turned.Goals as goal

pub returns-in-Some-clause-fault : goal.returns-in-Some-clause-fault
returns-in-Some-clause-fault c =
    let root = kind_at c.args.self.now.«data».root in
    let a = c.in-Some.array in
    let turned = subst (λ o. MatchOption o (Unit {0}) (λ b. (b.at ≡ c.args.element.array.now) × (is_array (root b.at) ≡ true))) c.in-Some.is c.requires.turned in
    subst₂ (λ d f. IfErr c.apply.result (IsRefused c.args.profile d f)) (sym c.requires.edit.0) (ap (λ o. with_open o root) (sym c.in-Some.is))
    (c.apply.ensures.made.fault (with_open (Some a) root) (stands a root turned.1))

pub returns-in-Some-clause-ok : goal.returns-in-Some-clause-ok
returns-in-Some-clause-ok c =
    let root = kind_at c.args.self.now.«data».root in
    let a = c.in-Some.array in
    let new = with_open (Some c.apply.new.self) root in
    let turned = subst (λ o. MatchOption o (Unit {0}) (λ b. (b.at ≡ c.args.element.array.now) × (is_array (root b.at) ≡ true))) c.in-Some.is c.requires.turned in
    subst₂ (λ d f. OnOk c.apply.result (IsApplied c.args.profile d f new)) (sym c.requires.edit.0) (ap (λ o. with_open o root) (sym c.in-Some.is))
    (c.apply.ensures.made.ok (with_open (Some a) root) new (stands a root turned.1) (stands_again a c.apply.new.self root c.apply.ensures.at turned.1))
