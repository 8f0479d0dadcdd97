use Rattle.std.proofs.Common.{◌≡◌, ◌++◌, subst, sym}
use Rattle.std.specs.Prelude.{option_copied}
use Rattle.toml_names.specs.model.Data.{kind_at, kind_in}
use Rattle.toml_edits.specs.Drafts.{with_open}
use Rattle.toml_edits.proofs.OpenDrafts.{ready_open}
use Rattle.toml_edits.proofs.draft.Draft.found.Goals as goal

pub returns-in-Some-clause-part : goal.returns-in-Some-clause-part
returns-in-Some-clause-part c = λ ready rest.
    let root = kind_at c.args.self.now.«data».root in
    subst (λ o. kind_in (option_copied c.found.result) rest ≡ with_open o root (c.args.at.now ++ rest)) (sym c.in-Some.is)
    (c.found.ensures.part (ready_open c.args.self.now c.args.at.now c.in-Some.array c.in-Some.is ready) rest)
