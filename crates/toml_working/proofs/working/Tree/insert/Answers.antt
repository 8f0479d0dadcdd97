use Rattle.std.proofs.Common.{◌∙◌, sym, true≢false}
use Rattle.toml_layout.specs.OpenOutlines.{value}
use Rattle.toml_working.specs.Starting.{read_of}
use Rattle.toml_working.proofs.Answered.{if_ok_always, on_ok_always}
use Rattle.toml_working.proofs.DottedPut.{root_puts}
use Rattle.toml_working.proofs.working.Tree.insert.Goals as goal

pub returns-then-is_at_root-clause-below : goal.returns-then-is_at_root-clause-below
returns-then-is_at_root-clause-below c =
    on_ok_always _ c.insert_at_root.result
    (root_puts c.args.parent.now c.args.at.now c.args.spelled.now (value c.args.new) (read_of c.args.before) c.args.self.now c.insert_at_root.new.self
    (c.is_at_root.ensures.yes c.if-is_at_root.true))

pub returns-then-is_at_root-clause-element : goal.returns-then-is_at_root-clause-element
returns-then-is_at_root-clause-element c =
    if_ok_always _ c.insert_at_root.result
    (λ done ss stands ordered none element. absurd (true≢false (sym element ∙ c.is_at_root.ensures.name c.if-is_at_root.true)))
