use Rattle.std.proofs.Common.{sym, subst}
use Rattle.toml_names.specs.model.Data.{kind_at}
use Rattle.toml_edits.specs.Drafts.{IsOnlyElement, with_open}
use Rattle.toml_edits.proofs.OpenDrafts.{only_open, open_only, ready_open}
use Rattle.toml_edits.proofs.draft.Draft.has_one.Goals as goal

pub returns-then-is_open_for-clause-yes : goal.returns-then-is_open_for-clause-yes
returns-then-is_open_for-clause-yes c = λ one.
    let root = kind_at c.args.self.now.«data».root in
    subst (λ o. IsOnlyElement (with_open o root) c.args.at.now) (sym c.in-Some.is)
    (only_open c.in-Some.array root c.args.at.now c.args.above.now c.requires (c.is_open_for.ensures.0 c.if-is_open_for.true) (c.has_one.ensures.0 one))

pub returns-then-is_open_for-clause-seen : goal.returns-then-is_open_for-clause-seen
returns-then-is_open_for-clause-seen c = λ ready only.
    let root = kind_at c.args.self.now.«data».root in
    c.has_one.ensures.1 (open_only c.in-Some.array root c.args.at.now (ready_open c.args.self.now c.args.at.now c.in-Some.array c.in-Some.is ready)
    (subst (λ o. IsOnlyElement (with_open o root) c.args.at.now) c.in-Some.is only))
