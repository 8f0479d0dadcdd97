-- A value's elements, or its pairs, entered one by one: what was entered of them, and what is left.
use Rattle.toml_names.proofs.Common.{common_steps, ◌≡◌, ℕ, ◌+◌, ◌<◌, false, List, [], ◌∷◌, ◌++◌, length, None, refl, sym, ap, subst, ◌∙◌, slice_index_or, arith, rules, append_assoc, Index, Bare, Address, element, Kind, Named, is_tables, count_tables, IsTree, IsTreeOf, KeepsOthers, Enters, Clashes, Spot, addresses, address_at, place_of, grown, misfit}
use Rattle.toml_names.proofs.lemmas.tree.CountsKept.{IsTreeOf-grown}
use Rattle.toml_names.proofs.lemmas.tree.ElementGrown.{index-next, index-no_name, tree-element, fresh_element, plain_from_count, count_from_lone}
use Rattle.toml_names.proofs.lemmas.tree.EnterSteps.{misfit-append, KeepsAddresses-then, KeepsOthers-same, Enters-none, Enters-append, Clashes-later, Clashes-front}
use Rattle.toml_names.proofs.lemmas.tree.Fitting.{but_counts, fits-no_node}
use Rattle.toml_names.proofs.lemmas.mentions.Offences.{misfit-later}
use Rattle.toml_names.proofs.lemmas.mentions.Within.{HasNoTables, count-append, no_tables-front}
use Rattle.toml_names.proofs.lemmas.tree.NodePlaces.{table_count-element}
use Rattle.toml_names.proofs.lemmas.tree.TreeGrown.{address-new, KeepsAddresses-grown}

-- something of the whole was entered, and the rest is left
pub record IsEntered (start now : List Spot) (whole left : List Named) : Type 0 where
  pub made : List Named
  pub enters : Enters start now made
  pub is : made ++ left ≡ whole

pub entered-none : (start : List Spot) (whole left : List Named) → IsTree start → left ≡ whole → IsEntered start start whole left
entered-none start whole left tree is = record { made = []; enters = Enters-none start tree; is = is }

pub entered-more : (start now next : List Spot) (whole xs left : List Named) → IsEntered start now whole (xs ++ left) → Enters now next xs → IsEntered start next whole left
entered-more start now next whole xs left entered more = record {
  made = entered.made ++ xs;
  enters = Enters-append entered.made xs entered.enters more;
  is = append_assoc entered.made xs left ∙ entered.is;
}

pub entered-clash : (start now : List Spot) (whole xs left : List Named) (at : Address) → IsEntered start now whole (xs ++ left) → Clashes now xs at → Clashes start whole at
entered-clash start now whole xs left at entered clash =
    subst (λ l. Clashes start l at) entered.is (Clashes-later entered.made (xs ++ left) at entered.enters (Clashes-front xs left at clash))

pub entered-all : (start now : List Spot) (whole left : List Named) → IsEntered start now whole left → left ≡ [] → Enters start now whole
entered-all start now whole left entered none = search rules

-- the array at the node `id` has its first elements
pub record HasElements (start now : List Spot) (id i : ℕ) : Type 0 where
  pub count : (d : Spot) → length (slice_index_or now id d).elements ≡ i
  pub others : KeepsOthers id start now

pub no_elements : (start : List Spot) (id : ℕ) → ((d : Spot) → (slice_index_or start id d).elements ≡ []) → HasElements start start id 0
no_elements start id lone = record { count = λ d. ap length (lone d); others = KeepsOthers-same id start }

module _ (start now : List Spot) (id i : ℕ) (whole : List Named) (low : id < length start) where
  pub still_within : (left : List Named) → IsEntered start now whole left → id < length now
  still_within left entered = let longer = entered.enters.kept.longer in omega arith

  module _ (tables : HasNoTables whole) (lone : (d : Spot) → (slice_index_or start id d).elements ≡ []) (has : HasElements start now id i)
      (d : Spot) (kind : Kind) (line : ℕ) (behind : List Named) where
    abbrev at : Address
    at = address_at start id

    abbrev m : Named
    m = record { address = element at i; role = Bare; kind = kind; line = line }

    abbrev parent : Spot
    parent = slice_index_or now id d

    abbrev after : List Spot
    after = grown now id parent (Index (length parent.elements)) Bare kind line

    module _ (entered : IsEntered start now whole (m ∷ behind)) where
      within : id < length now
      within = still_within (m ∷ behind) entered

      same_at : address_at now id ≡ at
      same_at = entered.enters.kept.same id low

      new_address : address_at now id ++ Index (length parent.elements) ∷ [] ≡ element at i
      new_address = ap (λ (a : Address). a ++ Index (length parent.elements) ∷ []) same_at ∙ ap (element at) (has.count d)

      -- the next index is free
      fresh : place_of (address_at now id ++ Index (length parent.elements) ∷ []) (addresses now) ≡ None
      fresh = fresh_element now id d entered.enters.tree within

      -- the node stands for no array of tables
      plain : (ms : List Named) → IsTreeOf start ms → is_tables parent.role ≡ false
      plain ms stands =
          let of_start = count_from_lone start ms id d stands low (lone d) in
          let of_made = no_tables-front entered.made (m ∷ behind) (subst HasNoTables (sym entered.is) tables) at in
          let counted : count_tables (ms ++ entered.made) at ≡ 0 = omega (arith, count-append ms entered.made at, of_start, of_made) in
          plain_from_count now (ms ++ entered.made) id d (entered.enters.stands ms stands) within (ap (count_tables (ms ++ entered.made)) same_at ∙ counted)

      after_stands : (ms : List Named) → IsTreeOf start ms → IsTreeOf after ((ms ++ entered.made) ++ m ∷ [])
      after_stands ms stands =
          subst (λ (a : Address). IsTreeOf after ((ms ++ entered.made) ++ record { address = a; role = Bare; kind = kind; line = line } ∷ [])) new_address
          (IsTreeOf-grown now id d (Index (length parent.elements)) Bare kind line within refl
          (table_count-element parent (Index (length parent.elements)) (length now) (plain ms stands)) fresh (index-next now id d kind line within entered.enters.tree) (index-no_name now id d kind line within entered.enters.tree) (ms ++ entered.made) (entered.enters.stands ms stands))

      after_goes : (ms : List Named) → IsTreeOf start ms → misfit (ms ++ entered.made) (m ∷ []) ≡ None
      after_goes ms stands = search (rules, misfit-later, fits-no_node, but_counts, new_address, fresh)

      -- the element was entered
      pub entered-element : IsEntered start after whole behind
      entered-element = record {
        made = entered.made ++ m ∷ [];
        enters = record {
          tree = tree-element now id d kind line within entered.enters.tree;
          kept = KeepsAddresses-then entered.enters.kept (KeepsAddresses-grown now id d (Index (length parent.elements)) Bare kind line within);
          stands = λ ms stands. subst (IsTreeOf after) (append_assoc ms entered.made (m ∷ [])) (after_stands ms stands);
          goes = λ ms stands. misfit-append entered.made ms (m ∷ []) (entered.enters.goes ms stands) ∙ after_goes ms stands;
        };
        is = append_assoc entered.made (m ∷ []) behind ∙ entered.is;
      }

      pub element-address : (k : ℕ) → k ≡ length now → address_at after k ≡ element at i
      element-address k is = address-new now id d (Index (length parent.elements)) Bare kind line within k is ∙ new_address

      -- what is entered in the element leaves the others their elements
      module _ (next : List Spot) (k : ℕ) (is : k ≡ length now) (kept : KeepsOthers k after next) where
        count_after : (e : Spot) → length (slice_index_or next id e).elements ≡ i + 1
        count_after e = grind (arith, common_steps)

        others_after : KeepsOthers id start next
        others_after = grind (arith, common_steps)

        pub has-element : HasElements start next id (i + 1)
        has-element = record { count = count_after; others = others_after }
