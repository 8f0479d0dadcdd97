use Rattle.std.proofs.Common.{◌≡◌, ◌∙◌, [], ap, append-nil, drop, false, length, rules, sym, true}
use Rattle.std.proofs.lemmas.Bool.{false≢true}
use Rattle.toml_lists.specs.Gaps.{items}
use Rattle.toml_names.specs.model.Data.{Kinds, kind_at}
use Rattle.toml_names.proofs.Proved.{above_is_above}
use Rattle.toml_edits.specs.Drafts.{filled, is_array}
use Rattle.toml_edits.proofs.OpenDrafts.{found_behind, not_below, some_behind}
use Rattle.toml_edits.proofs.OpenElements.{beside_array, not_filled}
use Rattle.toml_edits.proofs.open_array.OpenArray.found.Goals as goal

pub returns-then-not-has_array : goal.returns-then-not-has_array
returns-then-not-has_array c =
    let a = c.args.self.now in
    let root = kind_at c.args.root.now in
    let none : is_array (root a.at) ≡ false = ap (λ q. is_array (root q)) (sym c.steps.ensures) ∙ sym c.has_array.ensures ∙ c.if-not-has_array.true in
    record {
      kind = c.at.ensures.part [] ∙ ap root (append-nil c.args.at.now) ∙ sym (ap (λ (k : Kinds). k c.args.at.now) (not_filled a.at (items a.elements) root none));
      part = λ ready. absurd (false≢true (sym none ∙ ready.1));
    }

pub returns-then-not-is_above : goal.returns-then-not-is_above
returns-then-not-is_above c =
    let a = c.args.self.now in
    let root = kind_at c.args.root.now in
    let yes_array : c.has_array.result ≡ true = search rules in
    let other : c.is_above.result ≡ false = search rules in
    let there : is_array (root a.at) ≡ true = ap (λ q. is_array (root q)) (sym c.steps.ensures) ∙ sym c.has_array.ensures ∙ yes_array in
    let below = not_below a.at c.args.at.now c.is_above.result c.is_above.ensures other in
    record {
      kind = c.at-then-not-is_above.ensures.part [] ∙ ap root (append-nil c.args.at.now) ∙ sym (beside_array a.at c.args.at.now (items a.elements) root there below);
      part = λ ready. absurd (below ready.0.0 [] ready.0.1);
    }

pub part-requires : goal.part-requires
part-requires c =
    let a = c.args.self.now in
    let above : c.is_above.result ≡ true = search rules in
    some_behind a.at c.args.at.now c.behind.result.now ((above_is_above a.at c.args.at.now).0 (sym c.is_above.ensures ∙ above))
    (c.behind.ensures ∙ ap (drop (length c.steps-3.result.now)) c.steps-2.ensures ∙ ap (λ q. drop (length q) c.args.at.now) c.steps-3.ensures)

pub returns : goal.returns
returns c =
    let a = c.args.self.now in
    let root = kind_at c.args.root.now in
    let yes_array : c.has_array.result ≡ true = search rules in
    let above : c.is_above.result ≡ true = search rules in
    let there : is_array (root a.at) ≡ true = ap (λ q. is_array (root q)) (sym c.steps.ensures) ∙ sym c.has_array.ensures ∙ yes_array in
    let behind = found_behind a.at c.args.at.now c.behind.result.now (items a.elements) root there ((above_is_above a.at c.args.at.now).0 (sym c.is_above.ensures ∙ above))
    (c.behind.ensures ∙ ap (drop (length c.steps-3.result.now)) c.steps-2.ensures ∙ ap (λ q. drop (length q) c.args.at.now) c.steps-3.ensures) in
    record {
      kind = c.part.ensures [] ∙ behind [] ∙ ap (filled a.at (items a.elements) root) (append-nil c.args.at.now);
      part = λ ready rest. c.part.ensures rest ∙ behind rest;
    }
