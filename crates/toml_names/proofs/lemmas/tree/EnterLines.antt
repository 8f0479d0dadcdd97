-- What entering a line leaves, by what stands on it, and a line whose own address is too long.
use Rattle.toml_names.proofs.Common.{ℕ, ◌<◌, List, [], length, Some, rules, Piece, Blank, KeyVal, KeyValLine, TableLine, ArrayTableLine, below, EntersHeader, table_names, tables_names, next_table, EntersLine, key_names, section, pair_named, header_end, EntersTo, Spot, address_at, common_steps, ◌≡◌, ◌+◌, ◌≤◌, ◌∷◌, map, None, refl, ap, subst, arith, All-head, length-map, length_push, Expr, Name, Index, Valued, Address, child, Key, CanEnter, CanEnterHeader, IsLongKey, IsLongEntry, Named, fronts, inside, value_named, entered, count_tables, own_address, max_steps, misfit}
use Rattle.toml_tree.specs.Tree.{Header}
use Rattle.std.proofs.lemmas.List.{length-append}
use Rattle.toml_names.proofs.lemmas.mentions.NextLine.{IsShort-behind, section_pair, section_table, section_tables}
use Rattle.toml_names.proofs.lemmas.tree.NodeAddresses.{OfShort, short_nodes}

module _ (old new : List Spot) (at line id : ℕ) where
  pub table_entered : (ws : Piece) (header : Header) (tail : Blank)
      → EntersHeader old new id (table_names line (key_names header.key)) (λ ms. header_end ms [] (key_names header.key))
      → EntersLine old new at line (TableLine ws header tail) (record { own = Some id; section = id })
  table_entered ws header tail enters = search (rules, section_table)

  pub tables_entered : (ws : Piece) (header : Header) (tail : Blank)
      → EntersHeader old new id (tables_names line (key_names header.key)) (λ ms. next_table ms (key_names header.key))
      → EntersLine old new at line (ArrayTableLine ws header tail) (record { own = Some id; section = id })
  tables_entered ws header tail enters = search (rules, section_tables)

  -- a pair leaves it
  pub pair_entered : (ws : Piece) (pair : KeyVal) (tail : Blank) → at < length old
      → EntersTo old new (pair_named line (address_at old at) pair.assign pair.value) (below (address_at old at) (key_names pair.assign.key)) id
      → EntersLine old new at line (KeyValLine ws pair tail) (record { own = Some id; section = at })
  pair_entered ws pair tail low made_is = search (rules, section_pair)

-- a header's end has as many steps as its key has names, and more
entered_longer : (ms : List Named) (at : Address) → length at ≤ length (entered ms at)
entered_longer ms at = grind (arith, common_steps)

end_longer : (ms : List Named) (key : Key) (at : Address) → length at + length key ≤ length (header_end ms at key)
end_longer ms [] at = omega arith
end_longer ms (n ∷ []) at = let long = length_push at (Name n) in omega (arith, long)
end_longer ms (n ∷ m ∷ more) at =
    omega (arith, length_push at (Name n), entered_longer ms (child at n), end_longer ms (m ∷ more) (entered ms (child at n)))

module _ (old new : List Spot) (at line id table : ℕ) (e : Expr) where
  long_entry : (own : List Named → Address) → EntersLine old new at line e (record { own = Some id; section = table })
      → ((ms : List Named) → own_address ms e ≡ Some (own ms)) → ((ms : List Named) → address_at old at ≡ section ms → max_steps < length (own ms)) → IsLongEntry old at line e
  long_entry own enters is long = search (rules, short_nodes)

module _ (old : List Spot) (at line : ℕ) (ws : Piece) (tail : Blank) where
  pub long_pair : (pair : KeyVal) → CanEnter old (pair_named line (address_at old at) pair.assign pair.value) × IsLongKey (address_at old at) (key_names pair.assign.key)
      → IsLongEntry old at line (KeyValLine ws pair tail)
  long_pair pair ((new, enters), long) ms stands here = (
    subst (λ from. misfit ms (pair_named line from pair.assign pair.value) ≡ None) here (enters.goes ms stands),
    λ short.
        let key = key_names pair.assign.key in
        let own = value_named line Valued (below (section ms) key) pair.value in
        let within = inside line (below (section ms) key) pair.value in
        let few = All-head OfShort own within (IsShort-behind (fronts line (section ms) key) (own ∷ within) (IsShort-behind ms (pair_named line (section ms) pair.assign pair.value) short)) in
        absurd (omega (arith, few, length-append (section ms) (map Name key), length-map key Name, ap length here, long)),
  )

  pub long_table : (header : Header)
      → CanEnterHeader old (table_names line (key_names header.key)) (λ ms. header_end ms [] (key_names header.key)) × IsLongKey [] (key_names header.key)
      → IsLongEntry old at line (TableLine ws header tail)
  long_table header ((new, id, enters), long) =
      long_entry old new at line id id (TableLine ws header tail) (λ ms. header_end ms [] (key_names header.key)) (table_entered old new at line id ws header tail enters) (λ ms. refl)
      (λ ms here. let more = end_longer ms (key_names header.key) [] in omega (arith, long, more))

  pub long_tables : (header : Header)
      → CanEnterHeader old (tables_names line (key_names header.key)) (λ ms. next_table ms (key_names header.key)) × IsLongKey [] (key_names header.key)
      → IsLongEntry old at line (ArrayTableLine ws header tail)
  long_tables header ((new, id, enters), long) =
      long_entry old new at line id id (ArrayTableLine ws header tail) _ (tables_entered old new at line id ws header tail enters) (λ ms. refl)
      (λ ms here.
      let end = header_end ms [] (key_names header.key) in
      omega (arith, long, end_longer ms (key_names header.key) [], length_push end (Index (count_tables ms end))))
