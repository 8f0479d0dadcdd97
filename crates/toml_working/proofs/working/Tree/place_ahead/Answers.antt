use Rattle.toml_working.specs.Starting.{read_of}
use Rattle.toml_working.proofs.PutAhead.{ahead_following, ahead_plainly}
use Rattle.toml_working.proofs.working.Tree.place_ahead.Goals as goal

pub returns-in-Plain : goal.returns-in-Plain
returns-in-Plain c = ahead_plainly c.args.self.now.texts.layout (read_of c.args.before) c.args.self.now.slots.items c.args.next c.in-Plain.is

pub returns-in_ok-look_at-in-Follow : goal.returns-in_ok-look_at-in-Follow
returns-in_ok-look_at-in-Follow c =
    ahead_following c.args.self.now.texts.layout (read_of c.args.before) c.args.self.now.slots.items c.args.next c.in_ok-at-in-Follow.at
    c.in_ok-look_at-in-Follow.field-0 c.in-Follow.is c.in_ok-at-in-Follow.ensures c.in_ok-look_at-in-Follow.ensures
