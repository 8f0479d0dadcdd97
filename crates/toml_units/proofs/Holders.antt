-- Nothing lies in a comment.
use Rattle.std.proofs.Common.{◌≡◌, ◌⊎◌, inl, inr, ℕ, zero, suc, ◌<◌, List, [], ◌∷◌, ◌++◌, Some, refl, sym, subst, arith}
use Rattle.std.specs.Prelude.{slice_get}
use Rattle.std.proofs.lemmas.Option.{same_Some}
use Rattle.toml_tree.specs.Spells.{EachIs}
use Rattle.toml_units.specs.declared.unit.UnitKind.{UnitKind}
use Rattle.toml_units.specs.declared.unit.UnitKind.TheVariants as kinds
use Rattle.toml_units.specs.Blocks.{LiesIn, StandsBehind}
use Rattle.toml_units.specs.Holders.{HoldersAreNoComments}
use Rattle.toml_units.specs.Units.{TextUnit, units}
use Rattle.toml_units.proofs.Full.{Comes, Full, AreFull}
use Rattle.toml_units.proofs.InLines.{units_full}

abbrev Holds : UnitKind → Type 0
Holds k = (k ≡ kinds.Line) ⊎ (k ≡ kinds.Element) ⊎ (k ≡ kinds.Pair)

behind_not : (u w : TextUnit) → StandsBehind u w → LiesIn u w → ⊥
behind_not u w h l = omega (arith, h.1, l.1)

not_behind : (u w : TextUnit) (us : List TextUnit) (j : ℕ) → EachIs (StandsBehind u) us → slice_get us j ≡ Some w → LiesIn u w → ⊥
not_behind u w [] j behind is lies = cc
not_behind u w (x ∷ us) zero behind is lies = behind_not u w (subst (StandsBehind u) (same_Some x w is) behind.0) lies
not_behind u w (x ∷ us) (suc j) behind is lies = not_behind u w us j behind.1 is lies

holds : (k : UnitKind) (u w : TextUnit) (inner outer us : List TextUnit) (j : ℕ) → us ≡ inner ++ outer → Comes k u inner → EachIs (StandsBehind u) outer → slice_get us j ≡ Some w → LiesIn u w → Holds k
holds kinds.Line u w inner outer us j all comes behind is lies = inl refl
holds kinds.Element u w inner outer us j all comes behind is lies = inr (inl refl)
holds kinds.Pair u w inner outer us j all comes behind is lies = inr (inr refl)
holds kinds.TailComment u w inner outer us j all comes behind is lies = absurd (not_behind u w us j (subst (EachIs (StandsBehind u)) (sym (subst (λ xs. us ≡ xs ++ outer) comes all)) behind) is lies)
holds kinds.InnerComment u w inner outer us j all comes behind is lies = absurd (not_behind u w us j (subst (EachIs (StandsBehind u)) (sym (subst (λ xs. us ≡ xs ++ outer) comes all)) behind) is lies)

of_first : (u w : TextUnit) (us : List TextUnit) (f : Full u us) (j : ℕ) → slice_get us j ≡ Some w → LiesIn u w → Holds u.kind
of_first u w us f j is lies = holds u.kind u w f.block.inner f.block.outer us j f.block.is f.comes f.block.behind is lies

holder : (us : List TextUnit) → AreFull us → (i j : ℕ) (u w : TextUnit) → i < j → slice_get us i ≡ Some u → slice_get us j ≡ Some w → LiesIn u w → Holds u.kind
holder [] full i j u w lt is are lies = cc
holder (x ∷ us) full i zero u w lt is are lies = absurd (omega arith)
holder (x ∷ us) full zero (suc j) u w lt is are lies = subst (λ (y : TextUnit). Holds y.kind) (same_Some x u is) (of_first x w us full.0 j are (subst (λ (y : TextUnit). LiesIn y w) (sym (same_Some x u is)) lies))
holder (x ∷ us) full (suc i) (suc j) u w lt is are lies = holder us full.1 i j u w (omega arith) is are lies

pub holders_are_no_comments : HoldersAreNoComments
holders_are_no_comments d text h i j l = holder (units d.lines) (units_full d text h) i j l.outer l.inner l.later l.outer_is l.inner_is l.lies
