use Rattle.std.proofs.Common.{◌≤◌, ◌+◌, ◌++◌, None, length, map, drop, ap, ◌∙◌, sym, refl, arith}
use Rattle.toml_edits.specs.Edits.{change}
use Rattle.toml_checker.specs.Plain.{made_site, flags, flags_from, home_with, is_kept_by, next_line}
use Rattle.toml_checker.proofs.Homes.{home_next, kept_before}
use Rattle.toml_checker.proofs.Walked.{all_told, one_told}
use Rattle.toml_checker.proofs.protection.protected.Goals as goal

pub loop-unit-init : goal.loop-unit-init
loop-unit-init c = record { line = None; home_is = refl; told = ap (λ fs. fs ++ flags (map change c.args.edits.now) (map made_site c.args.units.now)) c.in_ok-flags.ensures.items }

pub loop-unit-preserved : goal.loop-unit-preserved
loop-unit-preserved c =
    let cs = map change c.args.edits.now in
    let ms = c.args.units.now in
    let i = c.loop-unit.unit-index in
    let u = c.unit-item.result in
    let inv = c.loop-unit.invariant in
    let next = next_line inv.line (made_site u) in
    let changed = ap (map change) c.in_ok-list.ensures in
    let kept = c.in_ok-protected.ensures ∙ ap (λ ds. is_kept_by u.kind ds c.loop-unit.home (made_site u)) changed in
    let home = c.in_ok-home.ensures ∙ ap (λ ds. home_with ds c.loop-unit.home (made_site u)) changed ∙ ap (λ b. home_with cs b (made_site u)) inv.home_is ∙ home_next cs inv.line (made_site u) in
    record {
      line = next;
      home_is = home;
      told = ap (λ fs. fs ++ flags_from cs next (map made_site (drop (i + 1) ms))) c.in_ok-push.ensures.items
          ∙ one_told cs cs ms i u c.loop-unit.flags.items c.in_ok-protected.protected inv.line next refl c.loop-unit-test.true c.unit-item.is refl
          (kept ∙ sym (kept_before cs c.loop-unit.home (made_site u)) ∙ ap (λ b. is_kept_by u.kind cs (home_with cs b (made_site u)) (made_site u)) inv.home_is ∙ ap (λ b. is_kept_by u.kind cs b (made_site u)) (home_next cs inv.line (made_site u))) inv.told;
    }

pub returns : goal.returns
returns c = λ us are.
    let past : length c.args.units.now ≤ c.loop-unit.unit-index = omega (arith, c.loop-unit-test.false) in
    all_told (map change c.args.edits.now) c.args.units.now us c.loop-unit.flags.items c.loop-unit.unit-index c.loop-unit.invariant.line are past c.loop-unit.invariant.told
