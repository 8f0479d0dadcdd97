use Rattle.std.proofs.lemmas.Result.{on_ok_weaker}
use Rattle.toml_names.specs.model.Data.{kind_at}
use Rattle.toml_edits.specs.Applied.{IsApplied}
use Rattle.toml_edits.specs.Drafts.{drafted}
use Rattle.toml_edits.specs.Edits.{change}
use Rattle.toml_edits.proofs.OpenDrafts.{as_closed}
use Rattle.toml_edits.proofs.draft.Draft.apply_closed.Goals as goal

pub returns-clause-ok : goal.returns-clause-ok
returns-clause-ok c =
    on_ok_weaker c.apply_in.result
    (λ applied. as_closed (IsApplied c.args.profile (change c.args.edit.now)) c.close.new.self.array (kind_at c.close.new.self.«data».root) (kind_at c.apply_in.new.«data».root) (drafted c.args.self.now)
    c.in_ok-close.ensures.closed c.in_ok-close.ensures.same applied)
    c.apply_in.ensures.ok
