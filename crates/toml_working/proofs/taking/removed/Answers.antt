use Rattle.std.proofs.Common.{◌≡◌, ◌∙◌, ◌||◌, true, ap, sym}
use Rattle.std.specs.Prelude.{not}
use Rattle.toml_layout.specs.KnownLines.{lines_known}
use Rattle.toml_working.specs.RemoveStanding.{makes}
use Rattle.toml_working.specs.Seeing.{Found}
use Rattle.toml_working.proofs.Removed.{goes_by_line, last_leaves, other_leaves, stood_for}
use Rattle.toml_working.proofs.taking.removed.Goals as goal
use Rattle.toml_working.proofs.taking.removed.Goals.{else-not-parent-via-then-not-parent+else-makes, else-not-parent-via-else-not-parent}

pub returns-then-makes-clause-left : goal.returns-then-makes-clause-left
returns-then-makes-clause-left c =
    let made = ap (λ (f : Found). makes c.args.parent.now.address f.base f.address) (sym c.seen.ensures) ∙ sym c.makes.ensures ∙ c.if-makes.true in
    stood_for c.args.texts (lines_known c.args.known.now) c.args.parent.now.address c.args.parent.now.stays c.args.line c.stand_for.new.self
    c.if-not-parent.true made c.in_ok-stand_for.ensures.base c.in_ok-stand_for.ensures.address
    c.in_ok-stand_for.ensures.body

pub returns-then-is_last-clause-left : goal.returns-then-is_last-clause-left
returns-then-is_last-clause-left c =
    let q = c.args.parent.now.address in
    let goes : (c.args.parent.now.stays || not (makes q c.args.line.base c.args.line.address)) ≡ true = elim c.else-not-parent.branch [
      | else-not-parent-via-then-not-parent+else-makes w ↦ goes_by_line c.args.parent.now.stays _
          (ap (λ (f : Found). makes q f.base f.address) (sym w.seen.ensures) ∙ sym w.makes.ensures ∙ w.if-makes.false)
      | else-not-parent-via-else-not-parent w ↦ ap (λ b. b || not (makes q c.args.line.base c.args.line.address)) w.if-not-parent.false
    ] in
    let (address, base, outline) = c.in_ok-empty.ensures in
    last_leaves c.args.texts (lines_known c.args.known.now) q c.args.parent.now.stays c.args.line c.in_ok-empty.field-0 c.is_last.result goes
    c.is_last.ensures c.if-is_last.true address base outline

pub returns-clause-left : goal.returns-clause-left
returns-clause-left c =
    let q = c.args.parent.now.address in
    let goes : (c.args.parent.now.stays || not (makes q c.args.line.base c.args.line.address)) ≡ true = elim c.else-not-parent.branch [
      | else-not-parent-via-then-not-parent+else-makes w ↦ goes_by_line c.args.parent.now.stays _
          (ap (λ (f : Found). makes q f.base f.address) (sym w.seen.ensures) ∙ sym w.makes.ensures ∙ w.if-makes.false)
      | else-not-parent-via-else-not-parent w ↦ ap (λ b. b || not (makes q c.args.line.base c.args.line.address)) w.if-not-parent.false
    ] in
    other_leaves c.args.texts (lines_known c.args.known.now) q c.args.parent.now.stays c.args.line c.is_last.result goes c.is_last.ensures c.if-is_last.false
