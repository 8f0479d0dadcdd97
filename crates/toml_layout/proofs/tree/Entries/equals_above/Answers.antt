use Rattle.std.proofs.Common.{◌∙◌, Some, ap, ap₂, sym}
use Rattle.std.specs.Prelude.{option_map}
use Rattle.toml_layout.specs.declared.tree.Assign.{Assign}
use Rattle.toml_layout.specs.Looks.{around}
use Rattle.toml_layout.specs.OpenOutlines.{leaf_text}
use Rattle.toml_layout.proofs.PairParts.{equals_is, no_equals}
use Rattle.toml_layout.proofs.tree.Entries.equals_above.Goals as goal

pub returns-in_default : goal.returns-in_default
returns-in_default c = sym (no_equals c.args.self.now c.args.index c.if-index-eq0.false (sym c.in_default.ensures))

pub returns-in_err-assign : goal.returns-in_err-assign
returns-in_err-assign c =
    ap around c.from_residual.ensures ∙ ap (option_map (λ a. (leaf_text a.value.before_equals, leaf_text a.value.after_equals))) c.in_err-assign.ensures.value
    ∙ sym (equals_is c.args.self.now c.args.index c.in-Some.entry.now c.if-index-eq0.false (sym c.in-Some.ensures))

pub returns : goal.returns
returns c =
    ap₂ (λ (x : Assign) (y : Assign). Some (leaf_text x.before_equals, leaf_text y.after_equals)) c.deref.ensures c.deref-2.ensures
    ∙ ap (option_map (λ a. (leaf_text a.value.before_equals, leaf_text a.value.after_equals))) c.in_ok-assign.ensures.value
    ∙ sym (equals_is c.args.self.now c.args.index c.in-Some.entry.now c.if-index-eq0.false (sym c.in-Some.ensures))
