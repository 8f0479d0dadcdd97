use Rattle.std.proofs.Common.{List, map, sym, subst, arith}
use Rattle.std.proofs.Math.Logic.{∥∥₁_map}
use Rattle.std.specs.Prelude.{IfSome}
use Rattle.toml_edits.specs.declared.edit.Edit.{Edit}
use Rattle.toml_edits.specs.Edits.{change}
use Rattle.toml_edits.specs.Told.{TellsOf}
use Rattle.toml_checker.proofs.SoFar.{few_are, front_is}
use Rattle.toml_checker.proofs.edit_list.EditList.with_front.Goals as goal

pub invariant_of-result : goal.invariant_of-result
invariant_of-result c =
    let es : List Edit = c.args.edits.now in
    let split = front_is es c.args.self.edits.now c.requires.0 c.index-edits-0.result c.requires.1 c.index-edits-0.is in
    record {
      few = few_are es (omega arith);
      tells = ∥∥₁_map c.args.self.tells (λ h. subst (λ (ds : List Edit). IfSome c.in_ok-moves.moves (TellsOf (map change ds))) (sym split) (c.in_ok-moves.ensures (map change c.args.self.edits.now) h));
    }
