use Rattle.std.proofs.Common.{refl}
use Rattle.std.specs.Prelude.{string_bytes}
use Rattle.toml_explain.proofs.Glyphs.{is_run}
use Rattle.toml_explain.proofs.drawing.draw.Goals as goal

pub returns : goal.returns
returns c =
    let run = c.run_of-run in
    record {
      drawn = c.in_ok-cut.ensures.drawn (c.in_ok-close.ensures.drawn (c.in_ok-push_run.ensures.drawn (c.in_ok-push_cut.ensures.drawn c.new-drawing.ensures.drawn)));
      run = is_run c.args.line.now _ _ _ _ _ run.result.from run.result.to run.ensures.order run.ensures.within run.ensures.whole _ _ refl refl c.new-drawing.ensures.text c.in_ok-push_cut.ensures.text
          _ refl c.in_ok-push_run.ensures.text c.in_ok-close.ensures.text c.in_ok-cut.ensures.text;
    }
