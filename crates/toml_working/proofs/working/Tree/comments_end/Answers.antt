use Rattle.std.proofs.lemmas.Result.{IfOk-weaker}
use Rattle.toml_working.specs.OpeningComments.{FindsAbove, FindsComments}
use Rattle.toml_working.specs.Starting.{read_of}
use Rattle.toml_working.proofs.Commented.{follow_above, plain_above}
use Rattle.toml_working.proofs.working.Tree.comments_end.Goals as goal

pub returns-in-Plain : goal.returns-in-Plain
returns-in-Plain c = plain_above c.args.self.now.texts.layout (read_of c.args.before) c.args.self.now.slots.items c.in-Plain.is

pub returns-in-Follow : goal.returns-in-Follow
returns-in-Follow c =
    let tree = c.args.self.now in
    let read = read_of c.args.before in
    IfOk-weaker c.first_comments.result (FindsComments read tree.slots.items) (FindsAbove tree.texts.layout read tree.slots.items)
    (λ found. follow_above tree.texts.layout read tree.slots.items found c.in-Follow.is) c.first_comments.ensures
