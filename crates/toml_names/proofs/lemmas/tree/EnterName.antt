-- What a look-up at a node tells of what was named, and what entering a name leaves.
use Rattle.toml_names.proofs.Common.{common_steps, ◌≡◌, ℕ, ◌<◌, true, false, List, [], ◌∷◌, length, Option, Some, None, refl, sym, ap, subst, ◌∙◌, slice_index_or, arith, rules, same_from_push, length_push, lookup, bytes_eq, Step, Name, Index, Role, Valued, Bare, New, Address, child, Kind, is_tables, Spot, nowhere, addresses, address_at, address_under, place_of, grown, noted, IsTree, IsFound, Enters, EntersTo, Clashes, LeadsTo, KeepsElements, name_at, may_follow, IsBarred, IsNode, IsNoted}
use Rattle.toml_names.proofs.lemmas.tree.CountsKept.{IsTreeOf-grown, IsTreeOf-noted}
use Rattle.toml_names.proofs.lemmas.tree.Fitting.{but_counts, fits-at_node, fits-no_node}
use Rattle.toml_names.proofs.lemmas.mentions.Offences.{misfit-here, misfit-later}
use Rattle.toml_names.proofs.lemmas.tree.NodeAddresses.{length-addresses, address_at-under}
use Rattle.toml_names.proofs.lemmas.tree.NodePlaces.{place_of-at}
use Rattle.toml_names.proofs.lemmas.tree.TreeGrown.{length-grown, address-new, node-last, KeepsAddresses-grown, IsTree-grown, length-noted, address-noted, KeepsAddresses-noted, KeepsElements-noted, IsTree-noted}

-- nothing goes before a value
before_value : (q : Role) → (q ≡ Bare → ⊥) → may_follow q Valued ≡ false
before_value q h = search rules

module _ (nodes : List Spot) (tree : IsTree nodes) (at : ℕ) (low : at < length nodes) (n : List ℕ) (d : Spot) where
  -- a name that leads somewhere leads to the node of its address
  module _ (id : ℕ) (found : lookup (bytes_eq n) (slice_index_or nodes at d).children ≡ Some id) where
    place : place_of (child (address_at nodes at) n) (addresses nodes) ≡ Some id
    place = sym (tree.names at d n low) ∙ found

    pub found-within : id < length nodes
    found-within = let h = (place_of-at (addresses nodes) (child (address_at nodes at) n) [] id place).0 in let long = length-addresses nodes in omega arith

    pub found-address : address_at nodes id ≡ child (address_at nodes at) n
    found-address = (place_of-at (addresses nodes) (child (address_at nodes at) n) [] id place).1

    module _ (r : Role) (k : Kind) (line : ℕ) (e : Spot) where
      pub Clashes-found : may_follow (slice_index_or nodes id e).role r ≡ false → Clashes nodes (name_at nodes at n r k line ∷ []) (address_at nodes id)
      Clashes-found bad = search (rules, misfit-here, fits-at_node, but_counts, found-within, found-address)

      pub Enters-found : is_tables r ≡ false → may_follow (slice_index_or nodes id e).role r ≡ true → Enters nodes (noted nodes id (slice_index_or nodes id e) r line) (name_at nodes at n r k line ∷ [])
      Enters-found plain goes = record {
        tree = IsTree-noted nodes id e r line found-within tree;
        kept = KeepsAddresses-noted nodes id e r line found-within;
        stands = IsTreeOf-noted nodes id e found-within (name_at nodes at n r k line) plain goes (sym found-address);
        goes = λ ms stands. misfit-later ms [] (name_at nodes at n r k line) (fits-at_node nodes ms (but_counts nodes ms stands) id e (name_at nodes at n r k line) found-within (sym found-address) ∙ goes);
      }

      pub LeadsTo-found : LeadsTo (noted nodes id (slice_index_or nodes id e) r line) id (child (address_at nodes at) n)
      LeadsTo-found = record { within = rw (length-noted nodes id e r line found-within) found-within; address = address-noted nodes id e r line found-within id ∙ found-address }

      pub EntersTo-found : is_tables r ≡ false → may_follow (slice_index_or nodes id e).role r ≡ true
          → EntersTo nodes (noted nodes id (slice_index_or nodes id e) r line) (name_at nodes at n r k line ∷ []) (child (address_at nodes at) n) id
      EntersTo-found plain goes = record { enters = Enters-found plain goes; leads = LeadsTo-found; elements = KeepsElements-noted nodes id e r line found-within }

    -- a node that hangs by a name is named
    hangs_by : (e : Spot) (u : Option (ℕ × Step)) → (slice_index_or nodes id e).under ≡ u → (q : ℕ) × (u ≡ Some (q, Name n))
    hangs_by e u is = by u is (ap (address_under (addresses nodes)) (sym is) ∙ sym (address_at-under nodes id e found-within (λ q s. tree.rising id e q s found-within)) ∙ found-address)
      where
        by : (u : Option (ℕ × Step)) → (slice_index_or nodes id e).under ≡ u → address_under (addresses nodes) u ≡ child (address_at nodes at) n → (q : ℕ) × (u ≡ Some (q, Name n))
        by None is same = let h : 0 ≡ length (child (address_at nodes at) n) = ap length same in absurd (omega (arith, length_push (address_at nodes at) (Name n)))
        by (Some (q, s)) is same = (q, ap (λ t. Some (q, t)) (same_from_push (slice_index_or (addresses nodes) q []) (address_at nodes at) s (Name n) same).1)

    pub found-mentioned : (e : Spot) → (slice_index_or nodes id e).role ≡ Bare → ⊥
    found-mentioned e = let (q, under) = hangs_by e (slice_index_or nodes id e).under refl in tree.mentioned id e q n found-within under

    pub Clashes-value : (k : Kind) (line : ℕ) → Clashes nodes (name_at nodes at n Valued k line ∷ []) (address_at nodes id)
    Clashes-value k line = Clashes-found Valued k line d (before_value (slice_index_or nodes id d).role (found-mentioned d))

  -- a name that leads nowhere is new
  module _ (absent : lookup (bytes_eq n) (slice_index_or nodes at d).children ≡ None) (r : Role) (k : Kind) (line : ℕ) (e : Spot) where
    fresh : place_of (child (address_at nodes at) n) (addresses nodes) ≡ None
    fresh = sym (tree.names at d n low) ∙ absent

    no_index : (i : ℕ) → Name n ≡ Index i → i ≡ length (slice_index_or nodes at e).elements
    no_index i h = cc

    abbrev after : List Spot
    after = grown nodes at (slice_index_or nodes at e) (Name n) r k line

    pub Enters-new : is_tables r ≡ false → (r ≡ Bare → ⊥) → Enters nodes after (name_at nodes at n r k line ∷ [])
    Enters-new plain mention = search (rules, IsTree-grown, fresh, no_index, KeepsAddresses-grown, IsTreeOf-grown, misfit-later, fits-no_node, but_counts)

    pub LeadsTo-new : LeadsTo after (length nodes) (child (address_at nodes at) n)
    LeadsTo-new = record { within = let long = length-grown nodes at e (Name n) r k line low in omega arith; address = address-new nodes at e (Name n) r k line low (length nodes) refl }

    pub lone-new : (f : Spot) → (slice_index_or after (length nodes) f).elements ≡ []
    lone-new f = ap (λ (s : Spot). s.elements) (node-last nodes at e (Name n) r k line low (length nodes) f refl)

    pub KeepsElements-new : KeepsElements nodes after
    KeepsElements-new = grind (arith, common_steps)

-- what `IsFound` says where the name led to the node `id`, which was there
abbrev pub IsKnown : List Spot → List Spot → ℕ → List ℕ → ℕ → Type 0
IsKnown old new at n id = (new ≡ old) × ((d : Spot) → lookup (bytes_eq n) (slice_index_or old at d).children ≡ Some id)

module _ (old new : List Spot) (at : ℕ) (there : IsNode old at) (n : List ℕ) (id : ℕ) where
  -- to a node that was there
  module _ (known : IsKnown old new at n id) where
    pub IsNode-known : IsNode new id
    IsNode-known = record { tree = rw known.0 there.tree; within = rw known.0 (found-within old there.tree at there.within n nowhere id (known.1 nowhere)) }

    pub known-address : address_at new id ≡ child (address_at old at) n
    known-address = rw known.0 (found-address old there.tree at there.within n nowhere id (known.1 nowhere))

    pub known-mentioned : (e : Spot) → (slice_index_or new id e).role ≡ Bare → ⊥
    known-mentioned = rw known.0 (found-mentioned old there.tree at there.within n nowhere id (known.1 nowhere))

    pub Clashes-known_value : (k : Kind) (line : ℕ) (a : Address) → address_at new id ≡ a → Clashes old (name_at old at n Valued k line ∷ []) a
    Clashes-known_value k line a is =
        subst (Clashes old (name_at old at n Valued k line ∷ [])) (rw known.0 at is) (Clashes-value old there.tree at there.within n nowhere id (known.1 nowhere) k line)

    module _ (r : Role) (k : Kind) (line : ℕ) where
      pub Clashes-known : (a : Address) → IsBarred new id r a → Clashes old (name_at old at n r k line ∷ []) a
      Clashes-known a barred =
          subst (Clashes old (name_at old at n r k line ∷ [])) (rw known.0 at barred.address)
          (Clashes-found old there.tree at there.within n nowhere id (known.1 nowhere) r k line nowhere (rw known.0 at (barred.bad nowhere)))

      pub EntersTo-known : is_tables r ≡ false → (then : List Spot) → IsNoted new then id r line → EntersTo old then (name_at old at n r k line ∷ []) (child (address_at old at) n) id
      EntersTo-known plain then noted_is = rw (rw known.0 at (noted_is.nodes nowhere))
          (EntersTo-found old there.tree at there.within n nowhere id (known.1 nowhere) r k line nowhere plain (rw known.0 at (noted_is.goes nowhere)))

  -- to a new node
  module _ (r : Role) (k : Kind) (line : ℕ) (led : IsFound old new at n r k line (New id)) where
    pub EntersTo-new : is_tables r ≡ false → (r ≡ Bare → ⊥) → EntersTo old new (name_at old at n r k line ∷ []) (child (address_at old at) n) id
    EntersTo-new plain mention =
        rw (led.2 nowhere, led.0) (record {
          enters = Enters-new old there.tree at there.within n nowhere (led.1 nowhere) r k line nowhere plain mention;
          leads = LeadsTo-new old there.tree at there.within n nowhere (led.1 nowhere) r k line nowhere;
          elements = KeepsElements-new old there.tree at there.within n nowhere (led.1 nowhere) r k line nowhere;
        })

    pub lone-led : (e : Spot) → (slice_index_or new id e).elements ≡ []
    lone-led = rw (led.2 nowhere, led.0) (lone-new old there.tree at there.within n nowhere (led.1 nowhere) r k line nowhere)
