-- Tagged JSON has no float, so its text is exact.
use Rattle.std.proofs.Common.{◌≡◌, ◌+◌, ℕ, Bool, false, ◌||◌, refl, ap, ◌∙◌, inl, inr}
use Rattle.serde_json.specs.Data.{Data, null, boolean, number, string, array, object, Items, no_items, item, Members, no_members, member}
use Rattle.serde_json.specs.Written.{has_float, items_have_float, members_have_float}
use Rattle.toml_names.specs.declared.model.address.Step.TheVariants.{Name, Index}
use Rattle.toml_names.specs.model.Data.{Kinds}
use Rattle.toml_print.specs.Tagged.{IsTagged, AreItems, AreMembers, part}

neither : (b c : Bool) → b ≡ false → c ≡ false → (b || c) ≡ false
neither b c e h = ap (λ b. b || c) e ∙ h

mutual
  pub no_float : (j : Data) (f : Kinds) → IsTagged f j → has_float j ≡ false
  no_float null f t = absurd t
  no_float (boolean b) f t = absurd t
  no_float (number n) f t = absurd t
  no_float (string s) f t = refl
  no_float (array ds) f t = no_float_items ds f 0 t.1
  no_float (object ms) f (inl t) = no_float_members ms f t.1
  no_float (object ms) f (inr t) = ap members_have_float t.2

  no_float_items : (ds : Items) (f : Kinds) (i : ℕ) → AreItems f i ds → items_have_float ds ≡ false
  no_float_items no_items f i t = refl
  no_float_items (item d ds) f i t = neither (has_float d) (items_have_float ds) (no_float d (part f (Index i)) t.0) (no_float_items ds f (i + 1) t.1)

  no_float_members : (ms : Members) (f : Kinds) → AreMembers f ms → members_have_float ms ≡ false
  no_float_members no_members f t = refl
  no_float_members (member k d ms) f t = neither (has_float d) (members_have_float ms) (no_float d (part f (Name k)) t.0) (no_float_members ms f t.1)
