use Rattle.std.proofs.Common.{arith, inl, inr, ◌-◌, ◌≤◌, refl}
use Rattle.std.proofs.lemmas.Bool.{cases_lt, false≢true}
use Rattle.std.proofs.lemmas.Option.{slice_get_read}
use Rattle.toml_layout.specs.OpenOutlines.{leaf_text}
use Rattle.toml_layout.proofs.KeysRenamed.{rest_past, rest_set}
use Rattle.toml_layout.proofs.tree.Key.set_part.Goals as goal

pub returns-in-Some-clause-rest : goal.returns-in-Some-clause-rest
returns-in-Some-clause-rest c =
    let list = c.args.self.now.rest in
    let got = slice_get_read list.items list.len (c.args.number - 1) c.in-Some.dotted.now list.ok.0 (c.in-Some.ensures.variant.0 refl) c.in-Some.ensures.value in
    rest_set list.items c.args.number c.in-Some.dotted.now _ (leaf_text c.args.part) (omega arith) got refl

pub returns-in_default-clause-rest : goal.returns-in_default-clause-rest
returns-in_default-clause-rest c =
    let list = c.args.self.now.rest in
    let past : list.len ≤ c.args.number - 1 = elim (cases_lt (c.args.number - 1) list.len) [
      | inl low ↦ absurd (false≢true (c.in_default.ensures.variant.1 low))
      | inr past ↦ past
    ] in
    rest_past list.items c.args.number (leaf_text c.args.part) (omega arith) (omega (arith, list.ok.0, past))
