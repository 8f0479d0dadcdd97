use Rattle.std.proofs.Common.{◌∙◌, arith, rules}
use Rattle.toml_working.proofs.Out.{spelled_on, spelled_all}
use Rattle.toml_working.specs.Writing.{SpellsLine}
use Rattle.toml_working.proofs.pieces.Pieces.lines.Goals as goal

pub loop-line-preserved : goal.loop-line-preserved
loop-line-preserved c =
    let before = c.args.self.now.before in (
      c.line.ensures.before ∙ c.loop-line.invariant.0,
      λ text spelled.
          spelled_on (SpellsLine before) c.args.self.now.out c.args.lines.now c.loop-line.line-index c.line-item.result c.loop-line.self.out c.line.new.self.out text c.loop-line-test.true c.line-item.is
          (λ t h. search rules) (c.loop-line.invariant.1 text spelled),
    )

pub returns-clause-written : goal.returns-clause-written
returns-clause-written c text spelled =
    (c.loop-line.invariant.0, spelled_all (SpellsLine c.args.self.now.before) c.args.self.now.out c.args.lines.now c.loop-line.line-index c.loop-line.self.out text (omega (arith, c.loop-line-test.false)) (c.loop-line.invariant.1 text spelled))
