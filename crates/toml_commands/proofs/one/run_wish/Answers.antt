use Rattle.toml_one.specs.Wishes.{wished}
use Rattle.toml_commands.proofs.Wishing.{comes}
use Rattle.toml_commands.proofs.one.run_wish.Goals as goal

pub returns : goal.returns
returns c =
    comes c.args.layout c.args.profile c.args.file.now c.args.place.now (wished c.args.wish) c.made_at.result c.of.result c.made_at.ensures.good c.made_at.ensures.refused
    c.of.ensures
