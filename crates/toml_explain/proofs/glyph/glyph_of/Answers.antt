use Rattle.std.proofs.Common.{◌≡◌, true, sym, ◌∙◌}
use Rattle.toml_explain.specs.Shown.{is_genuine}
use Rattle.toml_explain.proofs.Glyphs.{none_shown, unknown_columns, wide_shown}
use Rattle.toml_explain.proofs.OneLine.{wide_no_newline}
use Rattle.toml_explain.proofs.glyph.glyph_of.Goals as goal

pub returns-then-character-eq-MARK-clause-columns : goal.returns-then-character-eq-MARK-clause-columns
returns-then-character-eq-MARK-clause-columns c = sym (unknown_columns c.args.column)

pub returns-then-not-is_genuine-clause-columns : goal.returns-then-not-is_genuine-clause-columns
returns-then-not-is_genuine-clause-columns c = sym (unknown_columns c.args.column)

pub returns-in-Some-clause-shown : goal.returns-in-Some-clause-shown
returns-in-Some-clause-shown c =
    let genuine : is_genuine c.args.line.now c.args.start c.args.end c.args.character ≡ true = sym c.is_genuine.ensures ∙ c.if-not-is_genuine.false in
    sym (wide_shown c.args.line.now c.args.start c.args.end c.args.character genuine c.if-character-eq-MARK.false c.in-Some.columns (sym c.width.ensures.value ∙ c.in-Some.is))

pub returns-in-Some-clause-other : goal.returns-in-Some-clause-other
returns-in-Some-clause-other c = wide_no_newline c.args.character c.in-Some.columns (sym c.width.ensures.value ∙ c.in-Some.is)

pub returns-in-None-clause-shown : goal.returns-in-None-clause-shown
returns-in-None-clause-shown c =
    let genuine : is_genuine c.args.line.now c.args.start c.args.end c.args.character ≡ true = sym c.is_genuine.ensures ∙ c.if-not-is_genuine.false in
    sym (none_shown c.args.line.now c.args.start c.args.end c.args.character genuine c.if-character-eq9.false (sym c.width.ensures.value ∙ c.in-None.is))

pub returns-in-None-clause-columns : goal.returns-in-None-clause-columns
returns-in-None-clause-columns c = sym (unknown_columns c.args.column)
