use Rattle.std.proofs.Common.{◌≡◌, [], ◌∷◌, ◌++◌, inl, inr, refl, sym, ap, ap₂, ◌∙◌, subst, subst₂}
use Rattle.std.proofs.lemmas.Result.{IfOk-weaker}
use Rattle.toml_names.specs.declared.model.address.Step.{Step}
use Rattle.toml_names.specs.model.Addresses.{Address}
use Rattle.toml_tree.proofs.Proved.{one_value}
use Rattle.toml_text.specs.Source.{text_of}
use Rattle.toml_layout.specs.Opening.{OpensText}
use Rattle.toml_working.specs.HeldLines.{PutsInValue, PutsNoElement}
use Rattle.toml_working.specs.Parents.{IsParent}
use Rattle.toml_working.specs.Putting.{InsertsLines, manner}
use Rattle.toml_working.specs.InTables.{TreePutsIn}
use Rattle.toml_working.specs.Starting.{read_of}
use Rattle.toml_layout.specs.TreeOutlines.{value_outline}
use Rattle.toml_editor.proofs.Answered.{on_ok_two}
use Rattle.toml_editor.proofs.making.write_insert.Goals as goal

-- the address without its last step is one
last_is : (q r : Address) (x y : Step) → q ++ x ∷ [] ≡ r ++ y ∷ [] → q ≡ r
last_is [] [] x y e = refl
last_is [] (s ∷ []) x y e = cc
last_is [] (s ∷ t ∷ r) x y e = cc
last_is (s ∷ []) [] x y e = cc
last_is (s ∷ t ∷ q) [] x y e = cc
last_is (s ∷ q) (t ∷ r) x y e =
    let rest : q ++ x ∷ [] ≡ r ++ y ∷ [] = cc in
    let same : s ≡ t = cc in
    ap₂ (λ u v. u ∷ v) same (last_is q r x y rest)

parent_is : (p q r : Address) (last : Step) → IsParent p r → p ≡ q ++ last ∷ [] → r ≡ q
parent_is p q r last (inl none) is = absurd (no_steps q last (sym is ∙ none))
  where
    no_steps : (q : Address) (last : Step) → ¬ (q ++ last ∷ [] ≡ [])
    no_steps [] last e = cc
    no_steps (s ∷ q) last e = cc
parent_is p q r last (inr (s, split)) is = last_is r q s last (sym split ∙ is)

pub returns-in_ok-named-in-Some-clause-inside : goal.returns-in_ok-named-in-Some-clause-inside
returns-in_ok-named-in-Some-clause-inside c =
    let old = c.args.tree.now in
    let p = c.args.at.now in
    let read = read_of c.args.read.before in
    let new = c.in-Some.new in
    let (w, of_text, outlined) = subst (OpensText c.args.read.profile c.args.value.now) c.in-Some.is c.in_ok-new.ensures in
    IfOk-weaker c.insert.result _ _
    (λ done puts within v is. (
      new,
      outlined ∙ ap value_outline (one_value w v 0 c.args.value.now of_text.0 is.0),
      λ q last split. (subst (λ r. PutsInValue r p c.args.steps.now new read old c.insert.new.self done) (parent_is p q c.in_ok-parent-in-Some.parent last c.in_ok-parent-in-Some.ensures split) puts) last split,
    ))
    c.insert.ensures.value

pub returns-in-None-clause-inside : goal.returns-in-None-clause-inside
returns-in-None-clause-inside c within v is = absurd (subst (OpensText c.args.read.profile c.args.value.now) c.in-None.is c.in_ok-new.ensures within v is)

pub returns-in_ok-named-in-Some-clause-line : goal.returns-in_ok-named-in-Some-clause-line
returns-in_ok-named-in-Some-clause-line c =
    let old = c.args.tree.now in
    let p = c.args.at.now in
    let read = read_of c.args.read.before in
    let steps = c.args.steps.now in
    let new = c.insert.new.self in
    let (w, of_text, outlined) = subst (OpensText c.args.read.profile c.args.value.now) c.in-Some.is c.in_ok-new.ensures in
    on_ok_two _ _ _ c.insert.result
    (λ inserts puts. record {
      root = λ within v is.
          subst (λ o. InsertsLines p steps o (manner old) (text_of old.texts.source) read old.slots.items new.slots.items)
          (outlined ∙ ap value_outline (one_value w v 0 c.args.value.now of_text.0 is.0)) inserts;
      below = λ within v is q last split.
          subst₂ (λ r o. TreePutsIn r p steps o read old new)
          (parent_is p q c.in_ok-parent-in-Some.parent last c.in_ok-parent-in-Some.ensures split)
          (outlined ∙ ap value_outline (one_value w v 0 c.args.value.now of_text.0 is.0)) puts;
    })
    c.insert.ensures.root c.insert.ensures.below

pub returns-in-None-clause-line : goal.returns-in-None-clause-line
returns-in-None-clause-line c = record {
  root = λ within v is. absurd (subst (OpensText c.args.read.profile c.args.value.now) c.in-None.is c.in_ok-new.ensures within v is);
  below = λ within v is. absurd (subst (OpensText c.args.read.profile c.args.value.now) c.in-None.is c.in_ok-new.ensures within v is);
}

pub returns-in_ok-named-in-Some-clause-element : goal.returns-in_ok-named-in-Some-clause-element
returns-in_ok-named-in-Some-clause-element c =
    let p = c.args.at.now in
    IfOk-weaker c.insert.result _ _
    (λ done none within v is q last split.
    subst (λ r. PutsNoElement r p (read_of c.args.read.before) c.args.tree.now done)
    (parent_is p q c.in_ok-parent-in-Some.parent last c.in_ok-parent-in-Some.ensures split) none)
    c.insert.ensures.element

pub returns-in-None-clause-element : goal.returns-in-None-clause-element
returns-in-None-clause-element c within v is = absurd (subst (OpensText c.args.read.profile c.args.value.now) c.in-None.is c.in_ok-new.ensures within v is)
