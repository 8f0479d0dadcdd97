use Rattle.std.proofs.Common.{◌≡◌, ◌∙◌, Some, true, true≢false, ap, refl, sym}
use Rattle.std.specs.Option.{option_copied}
use Rattle.std.specs.Prelude.{slice_get}
use Rattle.toml_units.specs.Places.{is_line}
use Rattle.toml_working.specs.declared.lines.Kept.{Kept}
use Rattle.toml_working.proofs.FactsKept.{fact_got, fact_kept}
use Rattle.toml_working.proofs.OpenedBody.{item_got}
use Rattle.toml_working.proofs.starting.kept_of.Goals as goal
use Rattle.toml_working.proofs.starting.kept_of.Goals.{in-Line, in_default}

pub returns : goal.returns
returns c = λ lines are.
    let found : slice_get c.args.facts.now c.args.number ≡ Some c.in_ok-facts.facts.now =
    sym (item_got c.args.facts.now c.args.number c.get.result c.get.ensures.lookup) ∙ ap option_copied (c.in_ok-facts.was {u = tt}) in
    let got = fact_got c.args.facts.now lines c.args.number c.in_ok-facts.facts.now are found in
    let f = c.in_ok-facts.facts.now in
    let kept : Kept = record { line = c.args.number; span = f.span; is_last = f.is_last; first = c.args.first } in
    let own : is_line c.args.unit.now.kind ≡ true = elim c.match-matches.branch [
      | in-Line w ↦ ap is_line w.in-Line.is
      | in_default w ↦ absurd (true≢false (sym c.if-not-matches.false ∙ w.matches-is))
    ] in
    record { own = own; begins = refl; counts = refl; line = got.0; is = got.1; says = fact_kept got.0 f kept got.2 refl refl }
