-- What is hidden from an edit is left alone by its carrier, and nothing is carried there.
use Rattle.std.proofs.Common.{◌≡◌, ℕ, List, [], ◌∷◌, ◌++◌, Some, Bool, true, false, true≢false, cond, refl, sym, ap, ◌∙◌, append_assoc}
use Rattle.std.specs.Prelude.{option_map}
use Rattle.std.specs.Str.{bytes_eq}
use Rattle.std.proofs.lemmas.Option.{same_Some}
use Rattle.std.proofs.lemmas.Slice.Eq.{bytes_eq-Decides}
use Rattle.toml_names.specs.declared.model.address.Step.{Step}
use Rattle.toml_names.specs.declared.model.address.Step.TheVariants.{Name, Index}
use Rattle.toml_names.specs.model.Addresses.{Address, child, element, same_step}
use Rattle.toml_names.specs.model.Hidden.{Cover}
use Rattle.toml_names.proofs.Proved.{same_step-equal}
use Rattle.toml_edits.specs.Carry.{Carrier, carry_below, nowhere, up_from, down_above, to_name, inserting, renaming, removing}
use Rattle.toml_edits.proofs.Fronts.{onto}
use Rattle.toml_edits.proofs.HiddenFacts.{Leaves}

-- what is hidden below an address
abbrev pub under : Cover → Address → Cover
under h p a = h (p ++ a)

-- nothing is hidden at and below the address
abbrev pub IsOpen : Cover → Address → Type 0
IsOpen h p = (r : Address) → h (p ++ r) ≡ false

pub all_stay : (h : Cover) → Leaves h Some
all_stay h = record { stays = λ a is. refl; apart = λ a b is to. ap h (sym (same_Some b a to)) ∙ is }

-- where nothing is hidden any carrier leaves it
pub open_leaves : (h : Cover) (c : Carrier) → ((a : Address) → h a ≡ false) → Leaves h c
open_leaves h c seen = record { stays = λ a is. absurd (true≢false (sym is ∙ seen a)); apart = λ a b is to. seen a }

-- ---- below an address

stays_step : (h : Cover) (s t : Step) (p a : Address) (c : Carrier) → (h (s ∷ a) ≡ true → carry_below p c a ≡ Some a) → h (t ∷ a) ≡ true → (same : Bool) → same_step s t ≡ same
    → cond same (option_map (λ r. t ∷ r) (carry_below p c a)) (Some (t ∷ a)) ≡ Some (t ∷ a)
stays_step h s t p a c next is false differ = refl
stays_step h s t p a c next is true same = ap (option_map (λ r. t ∷ r)) (next (ap (λ u. h (u ∷ a)) (same_step-equal s t same) ∙ is))

apart_step : (h : Cover) (s t : Step) (p a b : Address) (c : Carrier) → ((r : Address) → h (s ∷ b) ≡ false → carry_below p c b ≡ Some r → h (s ∷ r) ≡ false) → h (t ∷ b) ≡ false → (same : Bool) → same_step s t ≡ same
    → cond same (option_map (λ r. t ∷ r) (carry_below p c b)) (Some (t ∷ b)) ≡ Some a → h a ≡ false
apart_step h s t p a b c next is false differ to = ap h (sym (same_Some (t ∷ b) a to)) ∙ is
apart_step h s t p a b c next is true same to =
    let one : s ≡ t = same_step-equal s t same in
    let w = onto t (carry_below p c b) a to in
    ap h w.2 ∙ ap (λ u. h (u ∷ w.0)) (sym one) ∙ next w.0 (ap (λ u. h (u ∷ b)) one ∙ is) w.1

step_leaves : (h : Cover) (s : Step) (p : Address) (c : Carrier) → Leaves (λ r. h (s ∷ r)) (carry_below p c) → Leaves h (carry_below (s ∷ p) c)
step_leaves h s p c next = record { stays = stay; apart = apart }
  where
    stay : (a : Address) → h a ≡ true → carry_below (s ∷ p) c a ≡ Some a
    stay [] is = refl
    stay (t ∷ a) is = stays_step h s t p a c (next.stays a) is (same_step s t) refl

    apart : (a b : Address) → h b ≡ false → carry_below (s ∷ p) c b ≡ Some a → h a ≡ false
    apart a [] is to = ap h (sym (same_Some [] a to)) ∙ is
    apart a (t ∷ b) is to = apart_step h s t p a b c (λ r. next.apart r b) is (same_step s t) refl to

-- a carrier that leaves what is hidden below an address does so when it carries there
pub below_leaves : (p : Address) (h : Cover) (c : Carrier) → Leaves (under h p) c → Leaves h (carry_below p c)
below_leaves [] h c l = record { stays = l.stays; apart = l.apart }
below_leaves (s ∷ p) h c l = step_leaves h s p c (below_leaves p (λ r. h (s ∷ r)) c l)

pub open_below : (p : Address) (h : Cover) (c : Carrier) → IsOpen h p → Leaves h (carry_below p c)
open_below p h c seen = below_leaves p h c (open_leaves (under h p) c seen)

-- ---- a name that gets another name

name_leaves : (h : Cover) (from to : List ℕ) → IsOpen h (Name from ∷ []) → IsOpen h (Name to ∷ []) → Leaves h (to_name from to)
name_leaves h from to old new = record { stays = stay; apart = apart }
  where
    keeps : (n : List ℕ) (a : Address) → h (Name n ∷ a) ≡ true → (same : Bool) → bytes_eq from n ≡ same → cond same (Some (Name to ∷ a)) (Some (Name n ∷ a)) ≡ Some (Name n ∷ a)
    keeps n a high false is = refl
    keeps n a high true is = absurd (true≢false (sym high ∙ ap (λ m. h (Name m ∷ a)) (sym ((bytes_eq-Decides from n).0 is)) ∙ old a))

    stay : (a : Address) → h a ≡ true → to_name from to a ≡ Some a
    stay [] high = refl
    stay (Index j ∷ a) high = refl
    stay (Name n ∷ a) high = keeps n a high (bytes_eq from n) refl

    by : (n : List ℕ) (a b : Address) (same : Bool) → h (Name n ∷ b) ≡ false → cond same (Some (Name to ∷ b)) (Some (Name n ∷ b)) ≡ Some a → h a ≡ false
    by n a b true low is = ap h (sym (same_Some (Name to ∷ b) a is)) ∙ new b
    by n a b false low is = ap h (sym (same_Some (Name n ∷ b) a is)) ∙ low

    apart : (a b : Address) → h b ≡ false → to_name from to b ≡ Some a → h a ≡ false
    apart a [] low is = ap h (sym (same_Some [] a is)) ∙ low
    apart a (Index j ∷ b) low is = ap h (sym (same_Some (Index j ∷ b) a is)) ∙ low
    apart a (Name n ∷ b) low is = by n a b (bytes_eq from n) low is

-- ---- the edits

-- at and below the address of a member is at and below its name, below the table
under_child : (h : Cover) (q : Address) (n : List ℕ) → IsOpen h (child q n) → IsOpen (under h q) (Name n ∷ [])
under_child h q n seen r = ap h (sym (append_assoc q (Name n ∷ []) r)) ∙ seen r

pub insert_leaves : (h : Cover) (q : Address) (s : Step) → ((i : ℕ) → q ++ s ∷ [] ≡ element q i → IsOpen h q) → Leaves h (inserting (Some (q, s)))
insert_leaves h q (Name n) array = all_stay h
insert_leaves h q (Index i) array = open_below q h (up_from i) (array i refl)

pub rename_leaves : (h : Cover) (to : List ℕ) (q : Address) (s : Step) → IsOpen h (q ++ s ∷ []) → ((n : List ℕ) → q ++ s ∷ [] ≡ child q n → IsOpen h (child q to)) → Leaves h (renaming (Some (q, s)) to)
rename_leaves h to q (Index i) seen new = all_stay h
rename_leaves h to q (Name n) seen new = below_leaves q h (to_name n to) (name_leaves (under h q) n to (under_child h q n seen) (under_child h q to (new n refl)))

pub remove_leaves : (h : Cover) (q : Address) (s : Step) → IsOpen h (q ++ s ∷ []) → ((i : ℕ) → q ++ s ∷ [] ≡ element q i → IsOpen h q) → Leaves h (removing (Some (q, s)))
remove_leaves h q (Index i) seen array = open_below q h (down_above i) (array i refl)
remove_leaves h q (Name n) seen array = below_leaves q h (carry_below (Name n ∷ []) nowhere) (open_below (Name n ∷ []) (under h q) nowhere (under_child h q n seen))
