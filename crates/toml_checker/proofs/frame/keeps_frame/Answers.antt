use Rattle.std.proofs.Common.{sym, ◌∙◌}
use Rattle.std.proofs.lemmas.Slice.Eq.{bytes_eq-Decides}
use Rattle.toml_checker.proofs.EditedLists.{no_edits}
use Rattle.toml_checker.proofs.frame.keeps_frame.Goals as goal

pub returns-else-not-is_empty : goal.returns-else-not-is_empty
returns-else-not-is_empty c =
    let equal = bytes_eq-Decides c.args.before.now c.args.after.now in
    let none = no_edits c.args.edits.now (sym c.is_empty.ensures ∙ c.if-not-is_empty.false) in (
      (λ same. (c.have_one_mark.ensures.0 c.if-not-have_one_mark.false, (λ nothing. equal.0 (sym c.eq.ensures ∙ same)))),
      (λ kept. c.eq.ensures ∙ equal.1 (kept.1 none)),
    )
