-- The line at a place of the working tree, and the slot in which it stands.
use Rattle.std.proofs.Common.{◌≡◌, ◌∙◌, ℕ, ◌<◌, true, List, length, get_or, set, Option, Some, None, refl, ap, sym, subst}
use Rattle.std.proofs.lemmas.Option.{none-some, same_Some, slice_get-get_or}
use Rattle.std.specs.Prelude.{option_and_then, option_map, slice_get}
use Rattle.toml_names.specs.model.Addresses.{Address}
use Rattle.toml_tree.specs.Spells.{EachIs}
use Rattle.toml_working.specs.declared.lines.Slot.{Slot}
use Rattle.toml_working.specs.declared.working.Position.{Position}
use Rattle.toml_working.specs.Seeing.{FindsHolder, line_at}
use Rattle.toml_working.specs.Standing.{Standing, Read, holds, slot_standing}
use Rattle.toml_working.proofs.Each.{each_get, each_set}

module _ (read : Read) (slots : List Slot) (at : Position) where
  -- it stands in a slot,
  pub slot_of : (s : Standing) → line_at read slots at ≡ Some s
      → (slot : Slot) × (slice_get slots at.slot ≡ Some slot) × (slice_get (slot_standing read slot) at.index ≡ Some s)
  slot_of s e = by (slice_get slots at.slot) refl e
    where
      by : (o : Option Slot) → slice_get slots at.slot ≡ o
          → option_and_then (λ (x : Slot). slice_get (slot_standing read x) at.index) o ≡ Some s
          → (slot : Slot) × (slice_get slots at.slot ≡ Some slot) × (slice_get (slot_standing read slot) at.index ≡ Some s)
      by None there e = absurd (none-some s e)
      by (Some slot) there e = (slot, there, e)

  -- so does one that holds what stands at an address,
  pub holder_at : (p : Address) → option_map (holds p) (line_at read slots at) ≡ Some true
      → (slot : Slot) × (s : Standing) × (slice_get slots at.slot ≡ Some slot) × (line_at read slots at ≡ Some s)
      × (slice_get (slot_standing read slot) at.index ≡ Some s) × (holds p s ≡ true)
  holder_at p found = by (line_at read slots at) refl found
    where
      by : (o : Option Standing) → line_at read slots at ≡ o → option_map (holds p) o ≡ Some true
          → (slot : Slot) × (s : Standing) × (slice_get slots at.slot ≡ Some slot) × (line_at read slots at ≡ Some s)
          × (slice_get (slot_standing read slot) at.index ≡ Some s) × (holds p s ≡ true)
      by None is h = absurd (none-some true h)
      by (Some s) is h = let (slot, there, own) = slot_of s is in (slot, s, there, is, own, same_Some (holds p s) true h)

  -- one that is found does,
  pub holder_found : (p : Address) (r : Option Position) → r ≡ Some at → FindsHolder p read.units slots r
      → option_map (holds p) (line_at read slots at) ≡ Some true
  holder_found p r is finds = subst (FindsHolder p read.units slots) is finds read.lines

  -- in this one,
  pub line_in : (slot : Slot) (s : Standing) → slice_get slots at.slot ≡ Some slot → line_at read slots at ≡ Some s
      → slice_get (slot_standing read slot) at.index ≡ Some s
  line_in slot s there e = sym (ap (option_and_then (λ (x : Slot). slice_get (slot_standing read x) at.index)) there) ∙ e

  -- and there is none where there is no slot
  pub no_line : (s : Standing) → slice_get slots at.slot ≡ None → line_at read slots at ≡ Some s → ⊥
  no_line s there e = none-some s (sym (ap (option_and_then (λ (x : Slot). slice_get (slot_standing read x) at.index)) there) ∙ e)

-- another slot is put in the place of one
pub slot_replaced : {B : Type 0} (P : Slot → Type 0) (i : ℕ) (old now : List Slot) (slot new : Slot) → i < length old
    → slot ≡ get_or old i slot
    → now ≡ set old i new → EachIs P old → (P slot → P new × B) → (slice_get old i ≡ Some slot) × EachIs P now × B
slot_replaced P i old now slot new low is put kept changes =
    let there : slice_get old i ≡ Some slot = slice_get-get_or old i slot low ∙ ap Some (sym is) in
    let (kept_new, more) = changes (each_get P old i slot kept there) in
    (there, subst (EachIs P) (sym put) (each_set P old i new kept kept_new), more)
