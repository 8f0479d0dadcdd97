use Rattle.std.proofs.Common.{refl, sym, ap, ◌∙◌, length, ◌==◌}
use Rattle.std.proofs.lemmas.Bool.{eqb-true, true≢false}
use Rattle.std.proofs.lemmas.Result.{err_from_is_err_and}
use Rattle.std.proofs.lemmas.Str.{IsCharBoundary-start, IsUtf8-from_is_utf8}
use Rattle.toml_text.specs.Source.{text_of}
use Rattle.toml_tree.specs.Profiles.{IsValueOfProfile}
use Rattle.toml_tree.specs.Reads.{cursor}
use Rattle.toml_tree.specs.Spells.{SpellsValue}
use Rattle.toml_tree.specs.View.{value}
use Rattle.std.proofs.lemmas.List.{nil_from_length}
use Rattle.toml_tree.proofs.Exact.{start}
use Rattle.toml_tree.proofs.ExactValues.{value_found, value_refused, value_left}
use Rattle.toml_tree.proofs.parsing.parse_value_in.Goals as goal

pub invariant_of-reader : goal.invariant_of-reader
invariant_of-reader c = record { bound = IsCharBoundary-start (text_of c.args.source) (IsUtf8-from_is_utf8 (text_of c.args.source) c.args.source.is_text.utf8) }

pub returns-in_err-value-clause-refused : goal.returns-in_err-value-clause-refused
returns-in_err-value-clause-refused c =
    let p = err_from_is_err_and c.from_residual.result c.from_residual.ensures.1 in
    rw (p.1, p.2) (value_refused c.args.profile (text_of c.args.source) _ (start (text_of c.args.source)) refl c.in_err-value.ensures)

pub returns-then-not-is_empty-clause-refused : goal.returns-then-not-is_empty-clause-refused
returns-then-not-is_empty-clause-refused c =
    value_left c.args.profile (text_of c.args.source) _ (start (text_of c.args.source)) (cursor c.value.new.self) (value c.in_ok-value.value) refl c.in_ok-value.ensures.0 c.in_ok-value.ensures.1.total (λ none. true≢false (sym (c.is_empty.ensures ∙ ap (λ l. length l == 0) (c.rest.ensures ∙ none)) ∙ c.if-not-is_empty.true)) c.refuse.ensures

-- what was read up to the end is the value
was_found : (c : goal.Else-not-is_empty) → SpellsValue (value c.in_ok-value.value) 0 (text_of c.args.source) × IsValueOfProfile c.args.profile (value c.in_ok-value.value)
was_found c =
    value_found c.args.profile (value c.in_ok-value.value) (start (text_of c.args.source)) (cursor c.value.new.self) c.in_ok-value.ensures.0
    (sym c.rest.ensures ∙ nil_from_length _ (eqb-true _ _ (sym c.is_empty.ensures ∙ c.if-not-is_empty.false)))

pub returns-clause-spelled : goal.returns-clause-spelled
returns-clause-spelled c = (was_found c).0

pub returns-clause-of_profile : goal.returns-clause-of_profile
returns-clause-of_profile c = (was_found c).1
