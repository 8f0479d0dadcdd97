-- What stands somewhere and is carried stands where it is carried.
use Rattle.std.proofs.Common.{◌≡◌, ℕ, zero, List, [], ◌∷◌, Option, Some, None, IsSome, is_some, Bool, true, false, refl, sym, ap, ◌∙◌, length, ◌==◌, arith}
use Rattle.std.proofs.lemmas.Bool.Decides.{nat_tests}
use Rattle.std.proofs.lemmas.List.{append-nil}
use Rattle.std.proofs.lemmas.Option.{same_Some}
use Rattle.toml_tree.specs.declared.profile.Profile.{Profile}
use Rattle.toml_names.specs.declared.model.address.Step.{Step}
use Rattle.toml_names.specs.model.Addresses.{Address, same_address}
use Rattle.toml_names.specs.model.Data.{Kinds}
use Rattle.toml_names.specs.mentions.Mentions.{Kind, kind_of, value_named}
use Rattle.toml_names.specs.declared.mentions.mention.Role.TheVariants.{Valued}
use Rattle.toml_names.proofs.Proved.{same_address-decides}
use Rattle.toml_edits.specs.After.{AddsElement, IsAfter}
use Rattle.toml_edits.specs.Carry.{carry}
use Rattle.toml_edits.specs.Edits.{Change, set, insert, rename, remove, new_section, new_element}
use Rattle.toml_edits.specs.Faults.{IsFault}
use Rattle.toml_edits.specs.declared.fault.EditFault.TheVariants.{RootNamed}
use Rattle.toml_edits.specs.ListLaws.{CarriedStands}
use Rattle.toml_edits.specs.ValueTexts.{IsGoodValue}
use Rattle.toml_edits.proofs.Emptied.{set_carries}
use Rattle.toml_edits.proofs.Ways.{set_here}

-- something of a kind stands at the address
abbrev pub Has : Kinds → Address → Type 0
Has kinds a = (k : Kind) × (kinds a ≡ Some k)

pub has : (kinds : Kinds) (a : Address) → IsSome (kinds a) → Has kinds a
has kinds a h = by (kinds a) refl h
  where
    by : (o : Option Kind) → kinds a ≡ o → IsSome o → Has kinds a
    by None e s = cc
    by (Some k) e s = (k, e)

pub some_of : (kinds : Kinds) (a : Address) → Has kinds a → IsSome (kinds a)
some_of kinds a h = ap is_some h.1

-- a value has something at its root
pub good_root : (profile : Profile) (text : List ℕ) (v : Kinds) → IsGoodValue profile text v → Has v []
good_root profile text v g = (kind_of g.value.tree, (g.facts [] (kind_of g.value.tree)).1 (zero, value_named 0 Valued [] g.value.tree, omega arith, refl, (refl, refl)))

not_zero : (s : Step) (p : Address) → (length (s ∷ p) == 0) ≡ false
not_zero s p = grind (arith, nat_tests)

differ : (x y : Address) → same_address x y ≡ false → ¬ (x ≡ y)
differ x y e is = let f : same_address x y ≡ true = ap (same_address x) (sym is) ∙ (same_address-decides x x).1 refl in cc

element_keeps : (q at : Address) (o : Option Kind) (old new : Kinds) → AddsElement q at o old new → (a b : Address) (k : Kind) → ◌≡◌ {A = Option Address} (Some a) (Some b) → old a ≡ Some k → new b ≡ Some k
element_keeps q at None old new m a b k is have = m.carried b a k have is
element_keeps q at (Some j) old new m a b k is have = m.carried b a k have is

pub stands : (profile : Profile) (c : Change) (old new : Kinds) → IsFault profile c old None → IsAfter profile c old new → (a b : Address) → carry c a ≡ Some b → Has old a → Has new b
stands profile (set [] value) old new fault after a b is h = absurd (fault RootNamed refl)
stands profile (set (s ∷ p) value) old new fault after a b is h = by (same_address a (s ∷ p)) refl
  where
    by : (t : Bool) → same_address a (s ∷ p) ≡ t → Has new b
    by false e = (h.0, after.2.carried b a h.0 h.1 (set_carries s p a value (differ a (s ∷ p) e) ∙ is))
    by true e =
        let same : a ≡ s ∷ p = (same_address-decides a (s ∷ p)).0 e in
        let root = good_root profile value after.0 after.1 in
        let here : a ≡ b = same_Some a b (sym (set_here (s ∷ p) a [] (not_zero s p) (same ∙ sym (append-nil (s ∷ p))) refl) ∙ is) in
        (root.0, ap new (sym here ∙ same ∙ sym (append-nil (s ∷ p))) ∙ after.2.placed [] root.0 root.1)
stands profile (insert at value) old new fault after a b is h = (h.0, after.2.carried b a h.0 h.1 is)
stands profile (rename at to) old new fault after a b is h = (h.0, after.carried b a h.0 h.1 is)
stands profile (remove at) old new fault after a b is h = (h.0, after.carried b a h.0 h.1 is)
stands profile (new_section at) old new fault after a b is h = (h.0, after.carried b a h.0 h.1 is)
stands profile (new_element at) old new fault after a b is h = (h.0, element_keeps after.0 at (old after.0) old new after.3 a b h.0 is h.1)

pub carried_stands : CarriedStands
carried_stands profile c old new fault after a to is some = some_of new to (stands profile c old new fault after a to is (has old a some))
