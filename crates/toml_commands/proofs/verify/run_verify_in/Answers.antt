use Rattle.toml_commands.proofs.Verified.{comes, means}
use Rattle.toml_commands.proofs.verify.run_verify_in.Goals as goal

pub returns-clause-verifies : goal.returns-clause-verifies
returns-clause-verifies c = comes c.args.profile c.args.before.now c.args.edits.now c.args.after.now c.args.cert.now c.verified.result c.of_text.result c.verified.ensures.yes c.verified.ensures.no c.of_text.ensures

pub returns-clause-headline : goal.returns-clause-headline
returns-clause-headline c = means c.args.profile c.args.before.now c.args.edits.now c.args.after.now c.args.cert.now c.verified.result c.of_text.result c.verified.ensures.headline c.of_text.ensures
