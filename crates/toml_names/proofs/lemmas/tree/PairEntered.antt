-- A pair entered: the fronts of its key, its value's own name, and what is in the value.
use Rattle.toml_names.proofs.Common.{◌≡◌, ℕ, ◌+◌, ◌<◌, List, [], ◌∷◌, ◌++◌, length, ap, subst, ◌∙◌, arith, append_assoc, Value, value, keyval, keyval_is, Valued, Address, child, below, keyval_key_parts, value_key_parts, Key, FollowedFronts, Kind, Named, fronts, kind_of, value_named, inside, Enters, EntersTo, EntersInside, Clashes, name_at, Spot, address_at}
use Rattle.toml_tree.specs.declared.tree.KeyVal.{KeyVal}
use Rattle.toml_tree.specs.Tree as tree
use Rattle.toml_names.proofs.lemmas.tree.EnterFronts.{key-length}
use Rattle.toml_names.proofs.lemmas.tree.EnterSteps.{Enters-append, Clashes-later, Clashes-front}

-- the key parts of a pair, as the code reads it
pub pair-parts : (p : KeyVal) → keyval_key_parts (keyval p).assign (keyval p).value ≡ (length p.assign.key.rest.items + 1) + value_key_parts (value p.value)
pair-parts p = ap (λ (k : tree.KeyVal). keyval_key_parts k.assign k.value) (keyval_is p) ∙ ap (λ n. n + value_key_parts (value p.value)) (key-length p.assign.key)

module _ (start mid next : List Spot) (here line : ℕ) (n : List ℕ) (kind : Kind) (v : Value) (at : Address) (key : Key)
    (before : FollowedFronts start mid line at here n key) (kind_is : kind ≡ kind_of v) where
  abbrev to : Address
  to = below at key

  abbrev own : Named
  own = value_named line Valued to v

  abbrev all : List Named
  all = fronts line at key ++ (own ∷ inside line to v)

  own_is : name_at mid here n Valued kind line ≡ own
  own_is = cc

  -- the value's own name clashes
  pub own-clash : (a : Address) → Clashes mid (name_at mid here n Valued kind line ∷ []) a → Clashes start all a
  own-clash a clash =
      Clashes-later (fronts line at key) (own ∷ inside line to v) a before.entered (Clashes-front (own ∷ []) (inside line to v) a (subst (λ m. Clashes mid (m ∷ []) a) own_is clash))

  module _ (id : ℕ) (named : EntersTo mid next (name_at mid here n Valued kind line ∷ []) (child (address_at mid here) n) id) where
    with_own : Enters start next (fronts line at key ++ own ∷ [])
    with_own = Enters-append (fronts line at key) (own ∷ []) before.entered (subst (λ m. Enters mid next (m ∷ [])) own_is named.enters)

    own_address : address_at next id ≡ to
    own_address = named.leads.address ∙ before.last

    -- what is in the value clashes
    pub within-clash : (a : Address) → Clashes next (inside line (address_at next id) v) a → Clashes start all a
    within-clash a clash =
        subst (λ l. Clashes start l a) (append_assoc (fronts line at key) (own ∷ []) (inside line to v))
        (Clashes-later (fronts line at key ++ own ∷ []) (inside line to v) a with_own (subst (λ (q : Address). Clashes next (inside line q v) a) own_address clash))

    -- all was entered: the value's node is new
    pub EntersTo-pair : (last : List Spot) → id ≡ length mid → EntersInside next last (inside line (address_at next id) v) id → EntersTo start last all to id
    EntersTo-pair last new within = record {
      enters = subst (Enters start last) (append_assoc (fronts line at key) (own ∷ []) (inside line to v))
          (Enters-append (fronts line at key ++ own ∷ []) (inside line to v) with_own (subst (λ (q : Address). Enters next last (inside line q v)) own_address within.enters));
      leads = record {
        within = omega (arith, named.leads.within, within.enters.kept.longer);
        address = within.enters.kept.same id named.leads.within ∙ own_address;
      };
      elements = λ k d low.
          let first : k < length mid = omega (arith, low, before.entered.kept.longer) in
          let then : k < length next = omega (arith, first, named.enters.kept.longer) in
          within.elements k d then (λ same. omega (arith, first, new, same)) ∙ named.elements k d first ∙ before.elements k d low;
    }
