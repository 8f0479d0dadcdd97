-- A header: its fronts that are there already, up to the first name that is new. All behind it is new too, so that nodes for it can be added.
use Rattle.toml_names.proofs.Common.{ℕ, List, [], ◌∷◌, ◌++◌, length, refl, sym, subst, ◌∙◌, slice_index_or, append_assoc, append-nil, Name, Index, Header, Passed, Tables, Element, PassedFronts, Key, CanEnterHeaders, a_table, an_array, IsAbsent, Spot, grown, ◌≡◌, ◌+◌, ◌<◌, take, drop, piece, part_name, arith}
use Rattle.toml_names.proofs.lemmas.tree.EnterName.{Enters-new, LeadsTo-new, KeepsElements-new}
use Rattle.toml_names.proofs.lemmas.tree.FreshKeys.{absent-new}
use Rattle.toml_names.proofs.lemmas.tree.HeaderLines.{table_line, tables_line}
use Rattle.toml_names.proofs.lemmas.tree.InnerNodes.{Passes-new}
use Rattle.toml_names.proofs.lemmas.tree.NextTables.{adds_first}
use Rattle.toml_names.proofs.lemmas.tree.PassedFronts.{PassedFronts-more}
use Rattle.toml_tree.specs.declared.tree.Dotted.{Dotted as Part}
use Rattle.toml_names.proofs.lemmas.mentions.Along.{names_left}
use Rattle.toml_names.proofs.lemmas.tree.EnterFronts.{first_names, all_names}

-- all fronts of a key can be passed, and its end is new
pub record FreshEnd (old : List Spot) (line : ℕ) (key : Key) : Type 0 where
  then : List Spot
  here : ℕ
  part : List ℕ
  passed : PassedFronts old then line here part key
  absent : IsAbsent then here part

module _ (old : List Spot) (line : ℕ) (e : Spot) where
  pub fresh_end : (ns xs : Key) (first : List ℕ) (now : List Spot) (here : ℕ) (part : List ℕ) → PassedFronts old now line here part (first ∷ xs) → IsAbsent now here part
      → FreshEnd old line (first ∷ xs ++ ns)
  fresh_end [] xs first now here part passed absent = grind (arith, append-nil)
  fresh_end (n ∷ ns) xs first now here part passed absent =
      let then = grown now here (slice_index_or now here e) (Name part) Passed a_table line in
      let passes = Passes-new now passed.tree here part line passed.within e (absent e) e in
      subst (λ l. FreshEnd old line (first ∷ l)) (append_assoc xs (n ∷ []) ns)
      (fresh_end ns (xs ++ n ∷ []) first then (length now) n
      (PassedFronts-more old now line here part first xs passed n then (length now) passes) (absent-new now here e part n Passed a_table line passed.within))

  module _ (first : List ℕ) (xs : Key) (fresh : FreshEnd old line (first ∷ xs)) where
    abbrev key : Key
    key = first ∷ xs

    abbrev then : List Spot
    then = fresh.then

    abbrev passed : PassedFronts old then line fresh.here fresh.part key
    passed = fresh.passed

    -- the end is a table, or an array of tables
    pub fresh_headers : CanEnterHeaders old line key
    fresh_headers =
        let table = grown then fresh.here (slice_index_or then fresh.here e) (Name fresh.part) Header a_table line in
        let array = grown then fresh.here (slice_index_or then fresh.here e) (Name fresh.part) Tables an_array line in
        let next = grown array (length then) (slice_index_or array (length then) e) (Index (length (slice_index_or array (length then) e).elements)) Element a_table line in
        let absent = sym (passed.tree.names fresh.here e fresh.part passed.within) ∙ fresh.absent e in
        record {
          table = (
            table,
            length then,
            table_line old then line fresh.here fresh.part first xs passed table (length then) (record {
              enters = Enters-new then passed.tree fresh.here passed.within fresh.part e (fresh.absent e) Header a_table line e refl (λ h. cc);
              leads = LeadsTo-new then passed.tree fresh.here passed.within fresh.part e (fresh.absent e) Header a_table line e;
              elements = KeepsElements-new then passed.tree fresh.here passed.within fresh.part e (fresh.absent e) Header a_table line e;
            }),
          );
          tables = (
            next,
            length array,
            tables_line old then line fresh.here fresh.part first xs passed next (length array) (adds_first then fresh.here e fresh.part line passed.within absent passed.tree e),
          );
        }

module _ (first : List ℕ) (rest : List Part) (i : ℕ) (d : Part) (low : i < length rest) (is : d ≡ slice_index_or rest i d)
    (old now : List Spot) (line here : ℕ) (part : List ℕ) (passed : PassedFronts old now line here part (first_names first rest i)) where
  abbrev n : List ℕ
  n = part_name (piece d.part)

  -- it leads nowhere
  pub passed-fresh : IsAbsent now here part → (e : Spot) → CanEnterHeaders old line (first ∷ names_left rest)
  passed-fresh absent e =
      fresh_headers old line e first (names_left rest)
      (subst (FreshEnd old line) (sym (all_names first rest i d low is))
      (fresh_end old line e (n ∷ names_left (drop (i + 1) rest)) (names_left (take i rest)) first now here part passed absent))
