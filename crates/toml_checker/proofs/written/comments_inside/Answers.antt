use Rattle.std.proofs.Common.{◌≡◌, List, [], Bool, length, map, Bor, ap, ◌∙◌, arith}
use Rattle.std.proofs.lemmas.List.{length-map}
use Rattle.toml_tree.specs.View.{value as tree_value}
use Rattle.toml_units.specs.declared.unit.Unit.{Unit as Made}
use Rattle.toml_units.specs.Plain.{spanned}
use Rattle.toml_units.specs.Units.{inside}
use Rattle.toml_units.specs.View.{unit, all_units}
use Rattle.toml_checker.specs.Counts.{plain}
use Rattle.toml_checker.specs.UnmarkedComments.{text_at, unmarked}
use Rattle.toml_checker.proofs.NewComments.{comments_are}
use Rattle.toml_checker.proofs.written.comments_inside.Goals as goal

pub returns : goal.returns
returns c =
    let text = c.args.text.now in
    let v = tree_value c.args.tree.now in
    let us = c.in_ok-units.units.items in
    let marks = c.in_ok-marks.marks.items in
    let is = c.in_ok-units.ensures 0 text c.requires in
    let long : length (all_units us) ≡ length us = length-map us unit in
    let more : length (map spanned (inside [] v)) ≡ length (inside [] v) = length-map (inside [] v) spanned in
    let alike : length (all_units us) ≡ length (map spanned (inside [] v)) = ap length is in
    let found : all_units (map (λ (u : Bor Made). u.now) c.in_ok-comments.comments.items) ≡ unmarked marks (all_units us) =
    c.in_ok-comments.ensures ∙ ap (λ (xs : List Bool). unmarked xs (all_units c.deref.result.now)) c.deref-2.ensures.value ∙ ap (λ (xs : List Made). unmarked marks (all_units xs)) c.deref.ensures.value in
    comments_are text v c.requires (all_units us) is marks (omega (arith, long, more, alike, c.in_ok-marks.ensures.len, c.len.ensures)) c.in_ok-marks.ensures.none
    (all_units (map (λ (u : Bor Made). u.now) c.in_ok-comments.comments.items)) found (plain c.in_ok-texts.texts.items)
    (c.in_ok-texts.ensures ∙ ap (λ (xs : List (Bor Made)). map (text_at text) (all_units (map (λ (u : Bor Made). u.now) xs))) c.deref-3.ensures.value)
