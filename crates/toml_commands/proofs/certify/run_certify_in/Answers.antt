use Rattle.toml_commands.proofs.Certified.{comes, means}
use Rattle.toml_commands.proofs.certify.run_certify_in.Goals as goal

pub returns-clause-certifies : goal.returns-clause-certifies
returns-clause-certifies c = comes c.args.profile c.args.before.now c.args.edits.now c.args.after.now c.certified.result c.of.result c.certified.ensures.yes c.certified.ensures.no c.of.ensures

pub returns-clause-headline : goal.returns-clause-headline
returns-clause-headline c = means c.args.profile c.args.before.now c.args.edits.now c.args.after.now c.certified.result c.of.result c.certified.ensures.headline c.of.ensures
