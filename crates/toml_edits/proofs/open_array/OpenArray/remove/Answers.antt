use Rattle.std.proofs.Common.{◌∙◌, ◌≡◌, ◌≤◌, ap, false, inl, inr, length, rules, true}
use Rattle.std.proofs.lemmas.Bool.{cases_lt}
use Rattle.toml_lists.specs.Gaps.{items}
use Rattle.toml_names.specs.declared.model.address.Step.TheVariants.{Index}
use Rattle.toml_edits.specs.Changed.{below}
use Rattle.toml_edits.specs.Drafts.{elements_at}
use Rattle.toml_edits.proofs.FirstRows.{remove_free}
use Rattle.toml_edits.proofs.OpenEdits.{element_there, nothing_there, removes}
use Rattle.toml_edits.proofs.Reaching.{refuted}
use Rattle.toml_edits.proofs.open_array.OpenArray.remove.Goals as goal

pub returns-then-not-has-clause-made : goal.returns-then-not-has-clause-made
returns-then-not-has-clause-made c = λ profile.
    let a = c.args.self.now in
    let i = c.args.index in
    let other : c.has.result ≡ false = search rules in
    let past : length (items a.elements) ≤ i = elim (cases_lt i (length (items a.elements))) [
      | inl low ↦ absurd (refuted c.has.ensures other low)
      | inr high ↦ high
    ] in
    record { fault = λ f stand. inr (nothing_there a.elements a.at f stand profile c.args.at.now i c.requires past); ok = λ f g stand made. tt }

pub returns-clause-made : goal.returns-clause-made
returns-clause-made c = λ profile.
    let a = c.args.self.now in
    let at = c.args.at.now in
    let i = c.args.index in
    let there : c.has.result ≡ true = search rules in
    let low = c.has.ensures.0 there in
    record {
      fault = λ f stand. tt;
      ok = λ f g stand made. (
        remove_free profile at a.at (Index i) f c.requires (element_there a.elements a.at f stand at i c.requires low),
        removes a.elements a.at f stand at i g c.requires (λ p. made p ∙ ap (λ ds. below a.at (λ part. elements_at ds) f p) c.remove-element.ensures.left),
      );
    }
