use Rattle.toml_text.specs.Source.{text_of}
use Rattle.toml_mentions.proofs.Taken.{all_sought, goes_on}
use Rattle.toml_mentions.proofs.seeking.seek.Goals as goal

pub loop-left-smaller : goal.loop-left-smaller
loop-left-smaller c =
    (goes_on c.args.target.now c.args.profile (text_of c.args.source) c.args.source.is_text c.loop-left.left c.in-Some.reader c.in-Some.is c.loop-left.seeker c.take_next.new.self c.in_ok-left.left
    c.loop-left.invariant c.in_ok-left.ensures).1

pub loop-left-preserved : goal.loop-left-preserved
loop-left-preserved c =
    (goes_on c.args.target.now c.args.profile (text_of c.args.source) c.args.source.is_text c.loop-left.left c.in-Some.reader c.in-Some.is c.loop-left.seeker c.take_next.new.self c.in_ok-left.left
    c.loop-left.invariant c.in_ok-left.ensures).0

pub returns : goal.returns
returns c = all_sought c.args.target.now c.args.profile (text_of c.args.source) c.loop-left.left c.loop-left.seeker c.in_default.is c.loop-left.invariant
