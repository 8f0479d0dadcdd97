use Rattle.std.proofs.Common.{◌≡◌, ◌++◌, ℕ, refl, sym, ◌∙◌}
use Rattle.std.specs.Prelude.{string_bytes, encode_utf8_all}
use Rattle.toml_explain.specs.Shown.{shown_line}
use Rattle.toml_explain.proofs.Glyphs.{shown_end, shown_more}
use Rattle.toml_explain.proofs.drawing.Drawing.push_run.Goals as goal

pub loop-start-preserved : goal.loop-start-preserved
loop-start-preserved c =
    let run = c.args.run.now in
    let inv = c.loop-start.invariant in
    let s : ℕ × ℕ × ℕ = (c.in-Some.start, c.in-Some.end, c.in-Some.character) in
    let whole = string_bytes c.args.self.now.text ++ encode_utf8_all (shown_line run) in
    record {
      drawn = λ old. c.in_ok-push.ensures.drawn c.glyph_of-glyph.ensures.other (inv.drawn old);
      text = shown_more run s c.loop-start.start-iterator c.next.new.self c.in-Some.ensures.steps (string_bytes c.loop-start.self.text) (string_bytes c.push.new.self.text) whole
          c.glyph_of-glyph.result.shown c.glyph_of-glyph.ensures.shown c.in_ok-push.ensures.text inv.text;
    }

pub returns : goal.returns
returns c =
    let run = c.args.run.now in
    let inv = c.loop-start.invariant in
    record {
      drawn = inv.drawn;
      text = shown_end run c.loop-start.start-iterator c.in-None.ensures.steps.0 (string_bytes c.loop-start.self.text) (string_bytes c.args.self.now.text ++ encode_utf8_all (shown_line run)) inv.text;
    }
