-- A header's proper fronts, passed one by one from the root.
use Rattle.toml_names.proofs.Common.{◌≡◌, ℕ, List, [], ◌∷◌, ◌++◌, Some, None, refl, sym, ap, subst, ◌∙◌, rules, append_assoc, append-nil, Address, child, PassedFronts, header_fronts, Key, Named, count_tables, entered, followed, table_at, Passed, header_end, IsTree, IsTreeOf, Passes, Spot, address_at, misfit}
use Rattle.toml_names.proofs.lemmas.mentions.Counting.{count_plain}
use Rattle.toml_names.proofs.lemmas.tree.EnterSteps.{misfit-append, misfit-front, KeepsAddresses-same, KeepsAddresses-then}
use Rattle.toml_names.proofs.lemmas.tree.InnerNodes.{entered_counted}
use Rattle.toml_names.proofs.lemmas.tree.NodePlaces.{root_address}

module _ (line : ℕ) (ms : List Named) where
  -- the fronts of a key up to a name, and those from there on
  fronts-append : (xs : Key) (at : Address) (n y : List ℕ) (ys : Key)
      → header_fronts line ms at (n ∷ xs ++ y ∷ ys)
      ≡ header_fronts line ms at (n ∷ xs) ++ (table_at line Passed (entered ms (header_end ms at (n ∷ xs))) ∷ header_fronts line ms (entered ms (header_end ms at (n ∷ xs))) (y ∷ ys))
  fronts-append [] at n y ys = refl
  fronts-append (x ∷ xs) at n y ys = ap (λ l. table_at line Passed (entered ms (child at n)) ∷ l) (fronts-append xs (entered ms (child at n)) x y ys)

  end-push : (xs : Key) (at : Address) (n y : List ℕ) → header_end ms at (n ∷ xs ++ y ∷ []) ≡ child (entered ms (header_end ms at (n ∷ xs))) y
  end-push [] at n y = refl
  end-push (x ∷ xs) at n y = end-push xs (entered ms (child at n)) x y

  -- a whole key is its fronts and its end
  pub followed-is : (end : Address → List Named) (xs : Key) (at : Address) (n : List ℕ) → followed line ms end at (n ∷ xs) ≡ header_fronts line ms at (n ∷ xs) ++ end (header_end ms at (n ∷ xs))
  followed-is end [] at n = refl
  followed-is end (x ∷ xs) at n = ap (λ l. table_at line Passed (entered ms (child at n)) ∷ l) (followed-is end xs (entered ms (child at n)) x)

  -- what is passed is no array of tables
  fronts_counted : (key : Key) (earlier : List Named) (from at : Address) → count_tables (earlier ++ header_fronts line ms from key) at ≡ count_tables earlier at
  fronts_counted [] earlier from at = ap (λ l. count_tables l at) (append-nil earlier)
  fronts_counted (n ∷ []) earlier from at = ap (λ l. count_tables l at) (append-nil earlier)
  fronts_counted (n ∷ x ∷ xs) earlier from at =
      let here = entered ms (child from n) in
      let m = table_at line Passed here in
      ap (λ l. count_tables l at) (sym (append_assoc earlier (m ∷ []) (header_fronts line ms here (x ∷ xs))))
      ∙ fronts_counted (x ∷ xs) (earlier ++ m ∷ []) here at
      ∙ count_plain earlier m at refl

  pub fronts-count : (key : Key) (at : Address) → count_tables (ms ++ header_fronts line ms [] key) at ≡ count_tables ms at
  fronts-count key at = fronts_counted key ms [] at

  pub fronts-entered : (key : Key) (at : Address) → entered (ms ++ header_fronts line ms [] key) at ≡ entered ms at
  fronts-entered key at = entered_counted (ms ++ header_fronts line ms [] key) at (count_tables ms at) (fronts-count key at)

pub PassedFronts-first : (old : List Spot) (line : ℕ) (first : List ℕ) → IsTree old → PassedFronts old old line 0 first (first ∷ [])
PassedFronts-first old line first tree = search (rules, KeepsAddresses-same, append-nil, root_address)

module _ (old now : List Spot) (line here : ℕ) (part first : List ℕ) (xs : Key) (passed : PassedFronts old now line here part (first ∷ xs)) (n : List ℕ) where
  abbrev fronts : List Named → List Named
  fronts ms = header_fronts line ms [] (first ∷ xs)

  -- what is passed next
  abbrev next : List Named → Named
  next ms = table_at line Passed (entered ms (header_end ms [] (first ∷ xs)))

  next_is : (ms : List Named) → IsTreeOf old ms → table_at line Passed (entered (ms ++ fronts ms) (child (address_at now here) part)) ≡ next ms
  next_is ms stands = ap (table_at line Passed) (ap (entered (ms ++ fronts ms)) (passed.last ms stands) ∙ fronts-entered line ms (first ∷ xs) (header_end ms [] (first ∷ xs)))

  made : (ms : List Named) → header_fronts line ms [] (first ∷ xs ++ n ∷ []) ≡ fronts ms ++ next ms ∷ []
  made ms = fronts-append line ms xs [] first n []

  pub PassedFronts-more : (then : List Spot) (id : ℕ) → Passes now then id here line part → PassedFronts old then line id n (first ∷ xs ++ n ∷ [])
  PassedFronts-more then id passes = record {
    tree = passes.tree;
    kept = KeepsAddresses-then passed.kept passes.kept;
    within = passes.within;
    stands = λ ms stands.
        subst (IsTreeOf then) (append_assoc ms (fronts ms) (next ms ∷ []) ∙ ap (λ l. ms ++ l) (sym (made ms)))
        (subst (λ m. IsTreeOf then ((ms ++ fronts ms) ++ m ∷ [])) (next_is ms stands) (passes.stands (ms ++ fronts ms) (passed.stands ms stands)));
    goes = λ ms stands.
        ap (misfit ms) (made ms) ∙ misfit-append (fronts ms) ms (next ms ∷ []) (passed.goes ms stands)
        ∙ subst (λ m. misfit (ms ++ fronts ms) (m ∷ []) ≡ None) (next_is ms stands) (passes.goes (ms ++ fronts ms) (passed.stands ms stands));
    last = λ ms stands.
        ap (λ at. child at n) (passes.address (ms ++ fronts ms) (passed.stands ms stands) ∙ ap (λ (m : Named). m.address) (next_is ms stands))
        ∙ sym (end-push line ms xs [] first n);
  }

  -- what clashes there clashes in the whole key
  pub fronts_clash : (rest : Key) (a : Address)
      → ((ms : List Named) → IsTreeOf now ms → misfit ms (table_at line Passed (entered ms (child (address_at now here) part)) ∷ []) ≡ Some a)
      → (ms : List Named) → IsTreeOf old ms → misfit ms (header_fronts line ms [] (first ∷ xs ++ n ∷ rest)) ≡ Some a
  fronts_clash rest a clash ms stands = search (rules, fronts-append, misfit-append, misfit-front, next_is)
