-- Of two units that begin together the outer one comes first.
use Rattle.std.proofs.Common.{List, [], ◌∷◌, sym, subst, arith}
use Rattle.toml_tree.specs.Spells.{EachIs}
use Rattle.toml_units.specs.Apart.{EachTwo}
use Rattle.toml_units.specs.Blocks.{LiesIn, StandsBehind, AreBlocks}
use Rattle.toml_units.specs.Order.{IsOuter, OuterComesFirst}
use Rattle.toml_units.specs.Units.{TextUnit, units}
use Rattle.toml_units.proofs.Each.{each_append, each_weaker}
use Rattle.toml_units.proofs.Full.{blocks_of_full}
use Rattle.toml_units.proofs.InLines.{units_full}

in_order : (us : List TextUnit) → AreBlocks us → EachTwo IsOuter us
in_order [] h = tt
in_order (u ∷ us) h =
    let b = h.0 in (
      subst (λ l. EachIs (IsOuter u) l) (sym b.is)
          (each_append (IsOuter u) b.inner b.outer
          (each_weaker (LiesIn u) (IsOuter u) (λ w lies same. lies) b.inner b.within)
          (each_weaker (StandsBehind u) (IsOuter u) (λ w behind same. absurd (omega (arith, behind.2, same))) b.outer b.behind)),
      in_order us h.1,
    )

pub outer_comes_first : OuterComesFirst
outer_comes_first d text h = in_order (units d.lines) (blocks_of_full (units d.lines) (units_full d text h))
