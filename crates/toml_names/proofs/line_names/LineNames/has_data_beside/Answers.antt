use Rattle.toml_names.proofs.Common.{◌↔◌, Bool, IfOk, IsTrue, List, Result, Ok, Err, Some, Datum, Line, Kinds, IsDataOf, kind_at, named, arith}
use Rattle.toml_names.specs.declared.line_names.LineNames.{LineNames}
use Rattle.toml_names.specs.declared.model.address_set.AddressSet.{AddressSet}
use Rattle.toml_names.specs.model.AddressSets.{is_hidden}
use Rattle.toml_names.specs.model.Hidden.{beside}
use Rattle.toml_names.specs.reader.LineNames.{StandFor}
use Rattle.toml_names.specs.tree.HeldBeside.{HoldsBeside}
use Rattle.toml_names.proofs.lemmas.reader.RootData.{told_beside}
use Rattle.toml_names.proofs.line_names.LineNames.has_data_beside.Goals as goal

module _ {E : Type 0} (self other : LineNames) (set : AddressSet) (d : Datum) where
  told : (r : Result Bool E) → IfOk r (λ b. IsTrue b ↔ HoldsBeside self.tree.nodes.items 0 other.tree.nodes.items (Some 0) set d)
      → IfOk r (λ b. (lines others : List Line) → StandFor self lines → StandFor other others → (old : Kinds) → IsDataOf (named others) old
      → (IsTrue b ↔ IsDataOf (named lines) (beside (is_hidden set) old (kind_at d))))
  told (Ok b) holds = λ lines others s o. told_beside self.tree.nodes.items lines s.own self.section s.keeps.reads other.tree.nodes.items others o.own other.section o.keeps.reads {E = E} set d (Ok b) holds
  told (Err e) holds = holds

pub holds_beside-requires : goal.holds_beside-requires
holds_beside-requires c =
    let tree = c.requires.stand.1.keeps.reads.stands.tree in
    let other_tree = c.requires.other.1.keeps.reads.stands.tree in
    record { within = omega (arith, tree.root, c.args.self.now.tree.nodes.ok); tree = tree; other_within = other_tree.root; other_tree = other_tree }

pub returns : goal.returns
returns c = told c.args.self.now c.args.other.now c.args.set.now c.args.data.now.root c.holds_beside.result c.holds_beside.ensures
