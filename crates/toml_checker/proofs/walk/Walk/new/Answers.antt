use Rattle.std.proofs.Common.{List, ap, map}
use Rattle.toml_edits.specs.Edits.{Change, change}
use Rattle.toml_checker.proofs.walk.Walk.new.Goals as goal

pub returns : goal.returns
returns c =
    let cs : List Change = map change c.args.edits.now in
    record {
      on = record { edits = ap (map change) c.in_ok-list.ensures.0; asks = c.in_ok-list.ensures.1; first = c.new.ensures.passed c.args.profile cs c.requires.before; second = c.in_ok-new.ensures.1 c.in_ok-list.asked };
      first_text = ap (λ t. t.now) c.new.ensures.text;
      second_text = ap (λ t. t.now) c.in_ok-new.ensures.0;
    }
