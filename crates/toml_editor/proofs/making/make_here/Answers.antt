use Rattle.std.proofs.Common.{◌≡◌, ◌⊎◌, inl, inr, refl, true}
use Rattle.toml_edits.specs.Drafts.{drafted}
use Rattle.toml_edits.specs.Edits.{change}
use Rattle.toml_editor.specs.Edited.{MayBeRefused}
use Rattle.toml_editor.proofs.MakesExact.{holds_one, makes_one, not_last, not_spread, passes_one}
use Rattle.toml_editor.proofs.Shapes.{made_is, not_made_is}
use Rattle.toml_editor.proofs.making.make_here.Goals as goal

pub returns-clause-made : goal.returns-clause-made
returns-clause-made c =
    let near = drafted c.args.draft.now in
    let either : (c.in_ok-done.done ≡ true) ⊎ (¬ MayBeRefused (change c.args.edit.now) near) =
    elim (made_is c.in_ok-done.done _ _ c.not_made-is_spread.ensures c.if-is_spread.false) [
      | inl h ↦ inl h
      | inr h ↦ elim (made_is c.in_ok-done.done _ _ c.not_made-is_last.ensures c.if-is_last.false) [
        | inl g ↦ inl g
        | inr g ↦ inr (λ may. elim may [
          | inl s ↦ c.may_be_spread-spread.ensures.no h s
          | inr s ↦ c.is_only_element-only.ensures.no g s
        ])
      ]
    ] in
    record {
      applied = c.in_ok-applied.ensures.ok;
      done = record {
        makes = makes_one _ _ _ _ _ _ c.in_ok-done.done c.in_ok-done.ensures;
        holds = holds_one _ _ _ near _ _ _ c.in_ok-done.done c.in_ok-done.ensures c.removes_flat-flat.ensures either;
        passes = passes_one _ _ _ near _ _ _ c.in_ok-done.done c.in_ok-done.ensures either;
      };
    }

pub returns-then-is_spread-clause-told : goal.returns-then-is_spread-clause-told
returns-then-is_spread-clause-told c =
    let both = not_made_is c.in_ok-done.done _ _ c.not_made-is_spread.ensures c.if-is_spread.true in
    let may = c.may_be_spread-spread.ensures.yes both.1 in
    record {
      told = (refl, (c.in_ok-applied.ensures.ok.0, may));
      neither =
          not_spread _ _ _ (drafted c.args.draft.now) _ _ _ c.in_ok-done.done c.in_ok-done.ensures both.0 may;
    }

pub returns-then-is_last-clause-told : goal.returns-then-is_last-clause-told
returns-then-is_last-clause-told c =
    let both = not_made_is c.in_ok-done.done _ _ c.not_made-is_last.ensures c.if-is_last.true in
    let takes = c.is_only_element-only.ensures.yes both.1 in
    record {
      told = (refl, (c.in_ok-applied.ensures.ok.0, takes));
      neither = not_last _ _ _ (drafted c.args.draft.now) _ _ _ c.in_ok-done.done c.in_ok-done.ensures both.0 takes;
    }
