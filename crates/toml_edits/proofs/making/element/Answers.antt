use Rattle.std.proofs.Common.{inr, ◌≡◌, ◌++◌, ◌∷◌, [], ℕ, List, ◌<◌, None, Some, IsSome, sym, ap, subst, ◌∙◌, true≢false}
use Rattle.std.proofs.lemmas.Result.{on_ok_weaker}
use Rattle.toml_tree.specs.declared.profile.Profile.TheVariants.{One}
use Rattle.toml_names.specs.declared.model.address.Step.TheVariants.{Name, Index}
use Rattle.toml_names.specs.model.Addresses.{Address, child}
use Rattle.toml_names.specs.model.Data.{kind_at}
use Rattle.toml_names.specs.mentions.Mentions.{an_array}
use Rattle.toml_edits.specs.Changed.{below, shifted_in}
use Rattle.toml_edits.proofs.Found.{none_of}
use Rattle.toml_edits.proofs.NewTables.{table_there, array_there, array_made, element_made}
use Rattle.toml_edits.proofs.Standing.{has}
use Rattle.toml_edits.proofs.making.element.Goals as goal

pub returns-in-Some-element_fault-clause-fault : goal.returns-in-Some-element_fault-clause-fault
returns-in-Some-element_fault-clause-fault c = λ profile. inr (c.in-Some-element_fault.ensures profile)

pub alter-requires : goal.alter-requires
alter-requires c =
    let root = c.args.root.now in
    let p = c.in-Some.place in
    let q = child p.above.now p.name.now in
    let array = c.in-Some.ensures.array in
    let there = has (kind_at root) q (subst (λ (a : Address). IsSome (kind_at root a)) array (c.part.ensures.found.0 (sym c.if-is_some.ensures))) in
    subst (λ (a : Address). (kind_at root (a ++ []) ≡ Some an_array) × ((j : ℕ) → j < p.index → IsSome (kind_at root (a ++ Index j ∷ [])))) (sym array)
    (array_there One root c.args.at.now p.above.now p.name.now p.index c.in-Some.ensures.whole (c.in_default-element_fault.ensures One) there.0 there.1)

pub returns-then-is_some-clause-ok : goal.returns-then-is_some-clause-ok
returns-then-is_some-clause-ok c = λ profile.
    let root = c.args.root.now in
    let p = c.in-Some.place in
    let q = child p.above.now p.name.now in
    let array = c.in-Some.ensures.array in
    let there = has (kind_at root) q (subst (λ (a : Address). IsSome (kind_at root a)) array (c.part.ensures.found.0 (sym c.if-is_some.ensures))) in
    let v = kind_at c.empty_table-table.result in
    on_ok_weaker c.alter.result
    (λ made. (
      (c.in_default-element_fault.ensures profile),
      element_made profile root c.args.at.now p.above.now p.name.now p.index c.in-Some.ensures.whole (c.in_default-element_fault.ensures profile) there.0 there.1 v (kind_at c.alter.new.root) c.empty_table-table.ensures
          (λ a. made a ∙ ap (λ (x : Address). below x (shifted_in p.index v) (kind_at root) a) array),
    ))
    c.alter.ensures.ok

pub alter-requires-2 : goal.alter-requires-2
alter-requires-2 c =
    let p = c.in-Some.place in
    table_there One c.args.root.now c.args.at.now p.above.now p.name.now p.index c.in-Some.ensures.whole (c.in_default-element_fault.ensures One)

pub returns-clause-ok : goal.returns-clause-ok
returns-clause-ok c = λ profile.
    let root = c.args.root.now in
    let p = c.in-Some.place in
    let array = c.in-Some.ensures.array in
    let q = child p.above.now p.name.now in
    let v = kind_at c.in_ok-array.array in
    let empty : kind_at root q ≡ None = none_of _ (λ some. true≢false (sym (c.part.ensures.found.1 (subst (λ (a : Address). IsSome (kind_at root a)) (sym array) some)) ∙ sym c.if-is_some.ensures)) in
    on_ok_weaker c.alter-2.result
    (λ made. (
      (c.in_default-element_fault.ensures profile),
      array_made profile root c.args.at.now p.above.now p.name.now p.index c.in-Some.ensures.whole (c.in_default-element_fault.ensures profile) v (kind_at c.alter-2.new.root) empty c.in_ok-array.ensures
          (λ a. made a ∙ ap (λ (n : List ℕ). below p.above.now (below (Name n ∷ []) (λ part. v)) (kind_at root) a) c.as_str.ensures),
    ))
    c.alter-2.ensures.ok
