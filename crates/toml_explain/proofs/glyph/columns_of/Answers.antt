use Rattle.std.proofs.Common.{◌≡◌, ◌+◌, ◌-◌, ◌^◌, ℕ, arith}
use Rattle.std.specs.Prelude.{min}
use Rattle.toml_explain.specs.Shown.{column_behind, shown_line}
use Rattle.toml_explain.proofs.Glyphs.{columns_end, columns_more}
use Rattle.toml_explain.proofs.glyph.columns_of.Goals as goal

pub loop-start-preserved : goal.loop-start-preserved
loop-start-preserved c =
    let line = c.args.line.now in
    let s : ℕ × ℕ × ℕ = (c.in-Some.start, c.in-Some.end, c.in-Some.character) in
    let glyph = c.glyph_of in
    record {
      few = omega arith;
      left = columns_more line s c.loop-start.start-iterator c.next.new.self c.in-Some.ensures.steps c.loop-start.all c.saturating_add-all.result glyph.result.columns glyph.result.shown (2 ^ 64 - 1)
          (min (column_behind 0 (shown_line line)) (2 ^ 64 - 1)) glyph.ensures.shown glyph.ensures.columns (omega arith) c.loop-start.invariant.left;
    }

pub returns-then-line-at : goal.returns-then-line-at
returns-then-line-at c =
    let line = c.args.line.now in
    columns_end line c.loop-start.start-iterator c.in-None.ensures.steps.0 c.loop-start.all (2 ^ 64 - 1) (min (column_behind 0 (shown_line line)) (2 ^ 64 - 1)) c.loop-start.invariant.few c.loop-start.invariant.left

pub returns-else-line-at : goal.returns-else-line-at
returns-else-line-at c =
    let line = c.args.line.now in
    columns_end line c.loop-start.start-iterator c.in-None.ensures.steps.0 c.loop-start.all (2 ^ 64 - 1) (min (column_behind 0 (shown_line line)) (2 ^ 64 - 1)) c.loop-start.invariant.few c.loop-start.invariant.left
