-- A dotted key: its fronts that are there already, up to the first name that is new. All behind it is new too, so that nodes for it can be added.
use Rattle.toml_names.proofs.Common.{common_steps, ◌≡◌, ℕ, ◌<◌, List, [], ◌∷◌, length, refl, sym, ap, subst, ◌∙◌, slice_index_or, arith, Name, Role, Valued, Dotted, Address, child, Key, CanEnter, key_named, Kind, a_table, table_at, IsTree, IsAbsent, Enters, name_at, Spot, address_at, grown, ◌+◌, ◌++◌, take, drop, rules, append_assoc, map-append, piece, below, part_name, FollowedFronts, fronts}
use Rattle.toml_names.proofs.lemmas.tree.EnterName.{Enters-new, LeadsTo-new}
use Rattle.toml_names.proofs.lemmas.tree.EnterSteps.{Enters-append}
use Rattle.toml_tree.specs.declared.tree.Dotted.{Dotted as Part}
use Rattle.toml_names.proofs.lemmas.mentions.Along.{names_left}
use Rattle.toml_names.proofs.lemmas.tree.EnterFronts.{first_names, all_names, fronts-append}

-- from a node that was just made no name leads anywhere
pub absent-new : (nodes : List Spot) (at : ℕ) (e : Spot) (n m : List ℕ) (r : Role) (k : Kind) (line : ℕ) → at < length nodes
    → IsAbsent (grown nodes at (slice_index_or nodes at e) (Name n) r k line) (length nodes) m
absent-new nodes at e n m r k line low = grind (arith, common_steps)

module _ (line : ℕ) (k : Kind) where
  -- a key of more names, from the address of its first on
  pub named-more : (at : Address) (n m : List ℕ) (more : Key) → key_named line at (n ∷ m ∷ more) k ≡ table_at line Dotted (child at n) ∷ key_named line (child at n) (m ∷ more) k
  named-more at n m more = grind (arith, common_steps)

  pub fresh_key : (ns : Key) (nodes : List Spot) (at : ℕ) (n : List ℕ) (e : Spot) → IsTree nodes → at < length nodes → IsAbsent nodes at n
      → CanEnter nodes (key_named line (address_at nodes at) (n ∷ ns) k)
  fresh_key [] nodes at n e tree low absent =
      (grown nodes at (slice_index_or nodes at e) (Name n) Valued k line, Enters-new nodes tree at low n e (absent e) Valued k line e refl (λ h. cc))
  fresh_key (m ∷ more) nodes at n e tree low absent =
      let after = grown nodes at (slice_index_or nodes at e) (Name n) Dotted a_table line in
      let first = Enters-new nodes tree at low n e (absent e) Dotted a_table line e refl (λ h. cc) in
      let leads = LeadsTo-new nodes tree at low n e (absent e) Dotted a_table line e in
      let (new, rest) = fresh_key more after (length nodes) m e first.tree leads.within (absent-new nodes at e n m Dotted a_table line low) in (
        new,
        subst (Enters nodes new)
            (ap (λ a. name_at nodes at n Dotted a_table line ∷ key_named line a (m ∷ more) k) leads.address ∙ sym (named-more (address_at nodes at) n m more))
            (Enters-append (name_at nodes at n Dotted a_table line ∷ []) (key_named line (address_at after (length nodes)) (m ∷ more) k) first rest),
      )

-- a whole key, up to a name and from there on
named-append : (line : ℕ) (k : Kind) (at : Address) (n : List ℕ) (xs : Key) (y : List ℕ) (ys : Key)
    → key_named line at (n ∷ xs ++ y ∷ ys) k ≡ fronts line at (n ∷ xs) ++ (table_at line Dotted (below at (n ∷ xs)) ∷ key_named line (below at (n ∷ xs)) (y ∷ ys) k)
named-append line k at n xs y ys = search (rules, fronts-append, append_assoc, map-append)

module _ (first : List ℕ) (rest : List Part) (i : ℕ) (d : Part) (low : i < length rest) (is : d ≡ slice_index_or rest i d)
    (old now : List Spot) (line : ℕ) (at : Address) (here : ℕ) (part : List ℕ) (followed : FollowedFronts old now line at here part (first_names first rest i)) where
  abbrev n : List ℕ
  n = part_name (piece d.part)

  -- it leads nowhere
  pub followed-fresh : IsAbsent now here part → (e : Spot) (k : Kind) → CanEnter old (key_named line at (first ∷ names_left rest) k)
  followed-fresh absent e k =
      let behind = names_left (drop (i + 1) rest) in
      let before = first_names first rest i in
      let (new, enters) = fresh_key line k (n ∷ behind) now here part e followed.entered.tree followed.within absent in
      let made : key_named line at (first ∷ names_left rest) k ≡ fronts line at before ++ key_named line (address_at now here) (part ∷ n ∷ behind) k =
      ap (λ key. key_named line at key k) (all_names first rest i d low is)
      ∙ named-append line k at first (names_left (take i rest)) n behind
      ∙ ap (λ a. fronts line at before ++ (table_at line Dotted a ∷ key_named line a (n ∷ behind) k)) (sym followed.last)
      ∙ ap (λ l. fronts line at before ++ l) (sym (named-more line k (address_at now here) part n behind)) in
      (new, subst (Enters old new) (sym made) (Enters-append (fronts line at before) (key_named line (address_at now here) (part ∷ n ∷ behind) k) followed.entered enters))
