use Rattle.std.proofs.Common.{ap, sym}
use Rattle.std.proofs.lemmas.Result.{IfOk-weaker}
use Rattle.toml_layout.specs.declared.layout.Layout.{Layout}
use Rattle.toml_working.specs.FirstKeys.{spacing_after}
use Rattle.toml_working.specs.Looking.{BeginsBehind, LaysOut}
use Rattle.toml_working.specs.Placing.{lines_before}
use Rattle.toml_layout.specs.Spacings.{laid_out}
use Rattle.toml_working.specs.Starting.{read_of}
use Rattle.toml_working.proofs.Looked.{follow_lays}
use Rattle.toml_working.proofs.working.Tree.laid_out.Goals as goal

pub returns-in-Plain : goal.returns-in-Plain
returns-in-Plain c s e =
    let front = lines_before (read_of c.args.before) c.args.self.now.slots.items c.args.behind.slot c.args.behind.index in
    sym (ap (λ (l : Layout). laid_out l (spacing_after front s.base s.address s.outline)) c.in-Plain.is)

pub returns-in-Follow : goal.returns-in-Follow
returns-in-Follow c =
    let tree = c.args.self.now in
    let read = read_of c.args.before in
    IfOk-weaker c.beginning.result (λ r. BeginsBehind read tree.slots.items c.args.behind r.0 r.1) (λ r. LaysOut tree.texts.layout read tree.slots.items c.args.behind r.0 r.1)
    (λ r. follow_lays tree.texts.layout read tree.slots.items c.args.behind r.0 r.1 c.in-Follow.is) c.beginning.ensures
