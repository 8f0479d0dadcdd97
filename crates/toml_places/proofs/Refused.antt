-- What is answered of a whole text.
use Rattle.std.proofs.Common.{◌≡◌, ℕ, List, Result, Ok, Err, sym, ap, ◌∙◌, arith, inl, inr, IsUtf8}
use Rattle.std.specs.Str.{IsValidUpTo}
use Rattle.std.proofs.lemmas.Str.{IsUtf8-from_is_utf8}
use Rattle.toml_text.specs.Limit.{IsText}
use Rattle.toml_places.specs.declared.fault.PlaceFault.{PlaceFault}
use Rattle.toml_places.specs.declared.fault.PlaceFault.TheVariants.{BadPlace, NoMemory}
use Rattle.toml_places.specs.declared.place.PlaceStep.{PlaceStep}
use Rattle.toml_places.specs.Reading.{Cursor, place_at, read_steps}
use Rattle.toml_places.specs.Reads.{Tells, IsPlace, IsNoPlace, RefusesPlace}
use Rattle.toml_places.proofs.Complete.{spelled_is_found}
use Rattle.toml_places.proofs.Sound.{found_is_spelled}
use Rattle.toml_places.proofs.Within.{refused_within}

not_both : (at : ℕ) (steps : List PlaceStep) → ◌≡◌ {A = Result (List PlaceStep) ℕ} (Err at) (Ok steps) → ⊥
not_both at steps e = cc

no_place : (bytes : List ℕ) (at : ℕ) → IsText bytes → read_steps bytes ≡ Err at → IsNoPlace bytes at
no_place bytes at is_text refused = record {
  none = λ steps is. not_both at steps (sym refused ∙ spelled_is_found bytes steps is.1);
  within = refused_within bytes at refused;
  refused = inr (inr (is_text, refused));
}

pub not_utf8 : (bytes : List ℕ) (at : ℕ) → ¬ IsUtf8 bytes → IsValidUpTo bytes at → IsNoPlace bytes at
not_utf8 bytes at no_text valid = record {
  none = λ steps is. no_text (IsUtf8-from_is_utf8 bytes is.0.utf8);
  within = omega (arith, valid);
  refused = inl (no_text, valid);
}

module _ (bytes text : List ℕ) (c : Cursor) (is_text : IsText bytes) (same : text ≡ bytes) (start : c ≡ record { at = 0; rest = text }) where
  whole : read_steps bytes ≡ place_at c
  unfolding read_steps
  whole = ap place_at (sym (start ∙ ap (λ rest. record { at = 0; rest = rest }) same))

  pub refuses : {X : Type 0} (view : X → List PlaceStep) (e : PlaceFault) → Tells view (Err e) (place_at c) → RefusesPlace bytes e
  refuses view (BadPlace at) told = no_place bytes at is_text (whole ∙ told)
  refuses view NoMemory told = tt

  pub is_place : (steps : List PlaceStep) → place_at c ≡ Ok steps → IsPlace bytes steps
  is_place steps read = (is_text, found_is_spelled bytes steps (whole ∙ read))
