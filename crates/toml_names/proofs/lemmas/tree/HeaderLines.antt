-- A whole header: the fronts that it passes, and its end.
use Rattle.toml_names.proofs.Common.{◌≡◌, ℕ, List, [], ◌∷◌, ◌++◌, sym, ap, ◌∙◌, rules, append_assoc, Header, Tables, Element, Address, child, element, EntersHeader, AddsTable, PassedFronts, table_names, tables_names, next_table, header_fronts, Key, Named, a_table, an_array, table_at, count_tables, followed, ends_table, ends_tables, header_end, IsTreeOf, EntersTo, Clashes, ClashesAfter, name_at, Spot, address_at}
use Rattle.toml_names.proofs.lemmas.tree.EnterSteps.{misfit-append, misfit-front, KeepsAddresses-then}
use Rattle.toml_names.proofs.lemmas.tree.PassedFronts.{followed-is, fronts-count}

-- what clashes among the fronts clashes in the whole header
pub clash_in_fronts : (old : List Spot) (line : ℕ) (end : List Named → Address → List Named) (n : List ℕ) (xs : Key) (a : Address)
    → ClashesAfter old (λ ms. header_fronts line ms [] (n ∷ xs)) a → ClashesAfter old (λ ms. followed line ms (end ms) [] (n ∷ xs)) a
clash_in_fronts old line end n xs a clash = search (rules, followed-is, misfit-front)

module _ (old now : List Spot) (line here : ℕ) (part n : List ℕ) (xs : Key) (passed : PassedFronts old now line here part (n ∷ xs)) where
  abbrev fronts : List Named → List Named
  fronts ms = header_fronts line ms [] (n ∷ xs)

  abbrev at : Address
  at = child (address_at now here) part

  -- the end, after the fronts
  joined : (next : List Spot) (id : ℕ) (made names : List Named → List Named) (leads own : List Named → Address) → EntersHeader now next id made leads
      → ((ms : List Named) → IsTreeOf old ms → names ms ≡ fronts ms ++ made (ms ++ fronts ms)) → ((ms : List Named) → IsTreeOf old ms → leads (ms ++ fronts ms) ≡ own ms)
      → EntersHeader old next id names own
  joined next id made names leads own ends is to = search (rules, KeepsAddresses-then, append_assoc, misfit-append)

  -- what clashes at the end
  clash_joined : (made names : List Named → List Named) (a : Address) → ClashesAfter now made a
      → ((ms : List Named) → IsTreeOf old ms → names ms ≡ fronts ms ++ made (ms ++ fronts ms)) → ClashesAfter old names a
  clash_joined made names a clash is = search (rules, misfit-append)

  -- a table's header
  abbrev entry : List Named
  entry = name_at now here part Header a_table line ∷ []

  table_is : (ms : List Named) → IsTreeOf old ms → table_names line (n ∷ xs) ms ≡ fronts ms ++ entry
  table_is ms stands = followed-is line ms (ends_table line) xs [] n ∙ ap (λ a. fronts ms ++ ends_table line a) (sym (passed.last ms stands))

  pub table_line : (next : List Spot) (id : ℕ) → EntersTo now next entry at id → EntersHeader old next id (table_names line (n ∷ xs)) (λ ms. header_end ms [] (n ∷ xs))
  table_line next id made =
      let ends : EntersHeader now next id (λ ms. entry) (λ ms. at) = record {
        tree = made.enters.tree;
        kept = made.enters.kept;
        within = made.leads.within;
        stands = made.enters.stands;
        goes = made.enters.goes;
        leads = λ ms stands. made.leads.address;
      } in
      joined next id (λ ms. entry) _ (λ ms. at) _ ends table_is passed.last

  pub table_clash : (a : Address) → Clashes now entry a → ClashesAfter old (table_names line (n ∷ xs)) a
  table_clash a clash = clash_joined (λ ms. entry) (table_names line (n ∷ xs)) a clash table_is

  -- a header of an array of tables: the fronts are no tables of the array
  counted : (ms : List Named) → IsTreeOf old ms → element at (count_tables (ms ++ fronts ms) at) ≡ next_table ms (n ∷ xs)
  counted ms stands = ap (element at) (fronts-count line ms (n ∷ xs) at) ∙ ap (λ a. element a (count_tables ms a)) (passed.last ms stands)

  tables_is : (ms : List Named) → IsTreeOf old ms → tables_names line (n ∷ xs) ms ≡ fronts ms ++ ends_tables line (ms ++ fronts ms) at
  tables_is ms stands =
      followed-is line ms (ends_tables line ms) xs [] n
      ∙ ap (λ a. fronts ms ++ ends_tables line ms a) (sym (passed.last ms stands))
      ∙ ap (λ c. fronts ms ++ (record { address = at; role = Tables; kind = an_array; line = line } ∷ table_at line Element (element at c) ∷ [])) (sym (fronts-count line ms (n ∷ xs) at))

  pub tables_line : (next : List Spot) (id : ℕ) → AddsTable now next id line at → EntersHeader old next id (tables_names line (n ∷ xs)) (λ ms. next_table ms (n ∷ xs))
  tables_line next id adds = joined next id (λ ms. ends_tables line ms at) _ (λ ms. element at (count_tables ms at)) _ adds tables_is counted

  pub tables_clash : (a : Address) → ClashesAfter now (λ ms. ends_tables line ms at) a → ClashesAfter old (tables_names line (n ∷ xs)) a
  tables_clash a clash = clash_joined (λ ms. ends_tables line ms at) (tables_names line (n ∷ xs)) a clash tables_is
