use Rattle.std.proofs.Common.{◌<◌, ◌^◌, List, length, map, sym, subst, arith}
use Rattle.toml_edits.specs.declared.edit.Edit.{Edit}
use Rattle.toml_edits.specs.Edits.{change}
use Rattle.toml_edits.specs.Told.{TellsOf}
use Rattle.toml_checker.proofs.edit_list.EditList.none.Goals as goal

pub invariant_of-result : goal.invariant_of-result
invariant_of-result c = record {
  few = subst (λ (es : List Edit). length (map change es) < 2 ^ 63) (sym c.requires) (omega arith);
  tells = ∣ subst (λ (es : List Edit). TellsOf (map change es) c.none.result) (sym c.requires) c.none.ensures ∣₁;
}
