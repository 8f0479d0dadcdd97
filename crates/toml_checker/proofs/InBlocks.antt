-- What lies in a unit is in its block.
use Rattle.std.proofs.Common.{◌≡◌, ℕ, zero, suc, ◌<◌, List, [], ◌∷◌, ◌++◌, Some, sym, subst, arith}
use Rattle.std.specs.Prelude.{slice_get}
use Rattle.std.proofs.lemmas.Option.{same_Some}
use Rattle.toml_tree.specs.Spells.{EachIs}
use Rattle.toml_units.specs.declared.unit.UnitKind.TheVariants as kinds
use Rattle.toml_units.specs.Blocks.{LiesIn, StandsBehind, IsUnder, Block, AreBlocks}
use Rattle.toml_units.specs.Units.{TextUnit}
use Rattle.toml_checker.proofs.Each.{each_get}

behind_not : (u w : TextUnit) → StandsBehind u w → LiesIn u w → ⊥
behind_not u w h l = omega (arith, h.1, l.1)

in_inner : (u w : TextUnit) (inner outer : List TextUnit) (j : ℕ) → EachIs (StandsBehind u) outer → slice_get (inner ++ outer) j ≡ Some w → LiesIn u w → slice_get inner j ≡ Some w
in_inner u w [] outer j behind is lies = absurd (behind_not u w (each_get (StandsBehind u) outer j w behind is) lies)
in_inner u w (x ∷ inner) outer zero behind is lies = is
in_inner u w (x ∷ inner) outer (suc j) behind is lies = in_inner u w inner outer j behind is lies

-- so it is no line, and of the line of the unit, at or below its address
pub record InBlock (u w : TextUnit) : Type 0 where
  pub under : IsUnder u.address w
  pub no_line : ¬ (w.kind ≡ kinds.Line)

in_first : (u w : TextUnit) (us : List TextUnit) (b : Block u us) (j : ℕ) → slice_get us j ≡ Some w → LiesIn u w → InBlock u w
in_first u w us b j is lies =
    let there = in_inner u w b.inner b.outer j b.behind (subst (λ vs. slice_get vs j ≡ Some w) b.is is) lies in
    record { under = each_get (IsUnder u.address) b.inner j w b.under there; no_line = each_get (λ (x : TextUnit). ¬ (x.kind ≡ kinds.Line)) b.inner j w b.no_lines there }

pub in_block : (us : List TextUnit) → AreBlocks us → (i j : ℕ) (u w : TextUnit) → i < j → slice_get us i ≡ Some u → slice_get us j ≡ Some w → LiesIn u w → InBlock u w
in_block [] blocks i j u w lt is are lies = cc
in_block (x ∷ us) blocks i zero u w lt is are lies = absurd (omega arith)
in_block (x ∷ us) blocks zero (suc j) u w lt is are lies = subst (λ (y : TextUnit). InBlock y w) (same_Some x u is) (in_first x w us blocks.0 j are (subst (λ (y : TextUnit). LiesIn y w) (sym (same_Some x u is)) lies))
in_block (x ∷ us) blocks (suc i) (suc j) u w lt is are lies = in_block us blocks.1 i j u w (omega arith) is are lies
