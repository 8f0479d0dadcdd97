use Rattle.std.proofs.Common.{[], ◌∷◌, ◌++◌, inl, inr, Some, ap, subst, sym, ◌∙◌}
use Rattle.std.proofs.lemmas.Option.{same_Some}
use Rattle.std.proofs.lemmas.Result.{err_from_is_err_and}
use Rattle.toml_tree.specs.Lines.{line as tree_line}
use Rattle.toml_tree.specs.View.{expr, key as tree_key}
use Rattle.toml_names.specs.mentions.Keys.{key_names}
use Rattle.toml_tree.specs.Tree.{KeyVal}
use Rattle.toml_tree.proofs.Proved.{keyval_is}
use Rattle.toml_names.specs.mentions.Mentions.{named, section}
use Rattle.toml_names.specs.model.Addresses.{below}
use Rattle.toml_names.specs.mentions.OwnAddresses.{IsHeaderLine}
use Rattle.toml_names.specs.reader.Names.{own_address}
use Rattle.toml_names.proofs.Proved.{header_is_section}
use Rattle.toml_units.proofs.ReadLines.{blank_stays, pair_stays, told_some}
use Rattle.toml_units.proofs.reading.Reading.enter.Goals as goal

pub returns-in_err-take-in-Blank-clause-names : goal.returns-in_err-take-in-Blank-clause-names
returns-in_err-take-in-Blank-clause-names c = λ lines h.
    let p = err_from_is_err_and c.from_residual.result c.from_residual.ensures.1 in
    rw (p.1, p.2) (c.in_err-take-in-Blank.ensures lines h.names)

pub returns-in_err-take-in-KeyVal-clause-names : goal.returns-in_err-take-in-KeyVal-clause-names
returns-in_err-take-in-KeyVal-clause-names c = λ lines h.
    let p = err_from_is_err_and c.from_residual-in_err-take-in-KeyVal.result c.from_residual-in_err-take-in-KeyVal.ensures.1 in
    rw (p.1, p.2) (c.in_err-take-in-KeyVal.ensures lines h.names)

pub returns-in_ok-take-in-Blank-clause-names : goal.returns-in_ok-take-in-Blank-clause-names
returns-in_ok-take-in-Blank-clause-names c = λ lines h.
    let l = tree_line c.args.line.now in
    let is = sym c.expr.ensures ∙ ap expr c.in-Blank.is in
    record {
      names = c.in_ok-take-in-Blank.ensures lines h.names;
      section_is = h.section_is ∙ sym (blank_stays lines l _ is);
      own_is = sym (ap (own_address (named lines)) is);
    }

pub returns-in_ok-go_to_key-in-KeyVal-clause-names : goal.returns-in_ok-go_to_key-in-KeyVal-clause-names
returns-in_ok-go_to_key-in-KeyVal-clause-names c = λ lines h.
    let l = tree_line c.args.line.now in
    let is = sym c.expr.ensures ∙ ap expr c.in-KeyVal.is in
    record {
      names = c.in_ok-take-in-KeyVal.ensures lines h.names;
      section_is = h.section_is ∙ sym (pair_stays lines l _ _ _ is);
      own_is = c.in_ok-go_to_key-in-KeyVal.ensures ∙ ap Some (ap (λ at. below at (key_names (tree_key c.in-KeyVal.keyval.assign.key))) h.section_is ∙ ap (λ (k : KeyVal). below (section (named lines)) (key_names k.assign.key)) (sym (keyval_is c.in-KeyVal.keyval))) ∙ sym (ap (own_address (named lines)) is);
    }

pub returns-in_err-take_at-in-Std-clause-names : goal.returns-in_err-take_at-in-Std-clause-names
returns-in_err-take_at-in-Std-clause-names c = λ lines h.
    let p = err_from_is_err_and c.from_residual-in_err-take_at-in-Std.result c.from_residual-in_err-take_at-in-Std.ensures.1 in
    rw (p.1, p.2) (c.in_err-take_at-in-Std.ensures lines h.names)

pub returns-in_ok-go_to-in-Std-clause-names : goal.returns-in_ok-go_to-in-Std-clause-names
returns-in_ok-go_to-in-Std-clause-names c = λ lines h.
    let l = tree_line c.args.line.now in
    let taken = c.in_ok-take_at-in-Std.ensures lines h.names in
    let header : IsHeaderLine l.expr = elim c.in-Std.is [
      | inl v ↦ subst IsHeaderLine (sym (sym c.expr.ensures ∙ ap expr v.3)) tt
      | inr v ↦ subst IsHeaderLine (sym (sym c.expr.ensures ∙ ap expr v.3)) tt
    ] in
    let is = told_some (own_address (named lines) l.expr) _ c.take_at.new.here (section (named (lines ++ l ∷ []))) _ taken.1 (header_is_section lines l header) in
    record {
      names = taken.0;
      section_is = same_Some c.take_at.new.here (section (named (lines ++ l ∷ []))) (sym is ∙ header_is_section lines l header);
      own_is = c.in_ok-go_to-in-Std.ensures ∙ sym is;
    }
