-- An edit makes one thing of data.
use Rattle.std.proofs.Common.{◌≡◌, inl, inr, List, ℕ, Option, Some, None, refl, sym, ap, subst, ◌∙◌}
use Rattle.toml_tree.proofs.Proved.{one_value}
use Rattle.toml_tree.specs.Tree.{Value}
use Rattle.toml_tree.specs.declared.profile.Profile.{Profile}
use Rattle.toml_names.specs.declared.model.address.Step.TheVariants.{Index}
use Rattle.toml_names.specs.model.Addresses.{Address}
use Rattle.toml_names.specs.model.Data.{Kinds, IsDataOf}
use Rattle.toml_names.specs.mentions.Mentions.{Kind, Named, value_facts}
use Rattle.toml_edits.specs.After.{Comes, Moves, AddsElement, nothing, an_empty_table, one_empty_table}
use Rattle.toml_edits.specs.Carry.{Carrier, carry, carry_below, nowhere}
use Rattle.toml_edits.specs.Edits.{set, insert, rename, remove, new_section, new_element}
use Rattle.toml_edits.specs.Laws.{OneAfter}
use Rattle.toml_edits.specs.ValueTexts.{IsGoodValue}
use Rattle.toml_edits.proofs.LastStep.{same_parent}

-- maps that have the same facts are equal
same_facts : (f g : Kinds) → ((a : Address) (k : Kind) → f a ≡ Some k → g a ≡ Some k) → ((a : Address) (k : Kind) → g a ≡ Some k → f a ≡ Some k) → (a : Address) → f a ≡ g a
same_facts f g there back a = by (f a) refl (g a) refl
  where
    by : (x : Option Kind) → f a ≡ x → (y : Option Kind) → g a ≡ y → f a ≡ g a
    by (Some k) e y i = e ∙ sym (there a k e)
    by None e None i = e ∙ sym i
    by None e (Some k) i = back a k i ∙ sym i

data_once : (ms : List Named) (f g : Kinds) → IsDataOf ms f → IsDataOf ms g → (a : Address) → f a ≡ g a
data_once ms f g one two = same_facts f g (λ a k h. (two a k).1 ((one a k).0 h)) (λ a k h. (one a k).1 ((two a k).0 h))

-- a text is one value, and that has one map
good_once : (profile : Profile) (text : List ℕ) (f g : Kinds) → IsGoodValue profile text f → IsGoodValue profile text g → (a : Address) → f a ≡ g a
good_once profile text f g one two =
    let same : one.value.tree ≡ two.value.tree = one_value one.value.tree two.value.tree 0 text one.value.is_value.0 two.value.is_value.0 in
    data_once (value_facts two.value.tree) f g (subst (λ (v : Value). IsDataOf (value_facts v) f) same one.facts) two.facts

-- what comes from somewhere stands in each map that the same moves make
comes_there : (c : Carrier) (p : Address) (v w old new : Kinds) → ((a : Address) → v a ≡ w a) → Moves c p w old new → (a : Address) (k : Kind) → Comes c p v old a k → new a ≡ Some k
comes_there c p v w old new same m a k (inl x) = m.carried a x.0 k x.1 x.2
comes_there c p v w old new same m a k (inr x) = ap new x.1 ∙ m.placed x.0 k (sym (same x.0) ∙ x.2)

moves_once : (c : Carrier) (p : Address) (v w old one two : Kinds) → ((a : Address) → v a ≡ w a) → Moves c p v old one → Moves c p w old two → (a : Address) → one a ≡ two a
moves_once c p v w old one two same m n =
    same_facts one two (λ a k h. comes_there c p v w old two same n a k (m.no_other a k h)) (λ a k h. comes_there c p w v old one (λ b. sym (same b)) m a k (n.no_other a k h))

element_once : (q at : Address) (o : Option Kind) (old one two : Kinds) → AddsElement q at o old one → AddsElement q at o old two → (a : Address) → one a ≡ two a
element_once q at None old one two m n = moves_once Some q one_empty_table one_empty_table old one two (λ a. refl) m n
element_once q at (Some k) old one two m n = moves_once Some at an_empty_table an_empty_table old one two (λ a. refl) m n

pub one_after : OneAfter
one_after profile (set at value) old one two h i = moves_once (carry_below at nowhere) at h.0 i.0 old one two (good_once profile value h.0 i.0 h.1 i.1) h.2 i.2
one_after profile (insert at value) old one two h i = moves_once (carry (insert at value)) at h.0 i.0 old one two (good_once profile value h.0 i.0 h.1 i.1) h.2 i.2
one_after profile (rename at to) old one two h i = moves_once (carry (rename at to)) _ nothing nothing old one two (λ a. refl) h i
one_after profile (remove at) old one two h i = moves_once (carry (remove at)) _ nothing nothing old one two (λ a. refl) h i
one_after profile (new_section at) old one two h i = moves_once Some at an_empty_table an_empty_table old one two (λ a. refl) h i
one_after profile (new_element at) old one two h i =
    let same : i.0 ≡ h.0 = same_parent i.0 h.0 (Index i.1) (Index h.1) (sym i.2 ∙ h.2) in
    element_once h.0 at (old h.0) old one two h.3 (subst (λ q. AddsElement q at (old q) old two) same i.3)
