-- Which files were opened, one behind the other.
use Rattle.std.proofs.Common.{◌≡◌, ℕ, zero, suc, List, [], ◌∷◌, ◌++◌, map, take, length, Some, Result, Ok, Err, Bor, inl, refl, sym, ap, ◌∙◌, arith}
use Rattle.std.specs.Prelude.{slice_get, option_map}
use Rattle.std.proofs.lemmas.List.{length_push, length-map, map-append}
use Rattle.std.proofs.lemmas.Option.{none-some}
use Rattle.std.specs.declared.io.Error.{Error}
use Rattle.toml_delivery.specs.Counts.{Counted}
use Rattle.tomled.specs.Opening.{AreUnopened, GaveFiles, IsCreated, Opening, OpensFront, unfailed}
use Rattle.tomled.specs.Validating.{words_of}
use Rattle.tomled.specs.declared.reading.FileFault.{FileFault}
use Rattle.tomled.specs.declared.reading.FileFault.TheVariants.{Failed, NoMemory}

take_next : {A : Type 0} (xs : List A) (n : ℕ) (x : A) → slice_get xs n ≡ Some x → take (suc n) xs ≡ take n xs ++ x ∷ []
take_next [] n x h = absurd (none-some x h)
take_next (y ∷ xs) zero x h = let same : y ≡ x = cc in ap (λ z. z ∷ []) same
take_next (y ∷ xs) (suc n) x h = ap (λ l. y ∷ l) (take_next xs n x h)

-- the word of a path
pub word_at : (paths : List (Bor (List ℕ))) (n : ℕ) (p : Bor (List ℕ)) → slice_get paths n ≡ Some p → slice_get (words_of paths) n ≡ Some p.now
word_at [] n p h = absurd (none-some p h)
word_at (q ∷ paths) zero p h = ap (option_map (λ (w : Bor (List ℕ)). w.now)) h
word_at (q ∷ paths) (suc n) p h = word_at paths n p h

module _ {F : Type 0} where
  abbrev gave_ok : F → Result F Error
  gave_ok d = Ok d

  pub none_opened : (paths : List (List ℕ)) → GaveFiles {F = F} paths [] []
  none_opened paths = record { order = refl; devices = []; are = refl; gave = refl }

  -- as many were opened as files were given
  same_count : (paths : List (List ℕ)) (files : List (Counted F)) (openings : List (Opening F)) → GaveFiles paths files openings → length openings ≡ length files
  same_count paths files openings h =
      let a : length (map (λ (o : Opening F). o.gave) openings) ≡ length h.devices = ap length h.gave ∙ length-map h.devices gave_ok in
      let b : length files ≡ length h.devices = ap length h.are ∙ length-map h.devices (unfailed {F = F}) in
      let c = length-map openings (λ (o : Opening F). o.gave) in
      omega (arith, a, b, c)

  -- one more
  next_order : (paths : List (List ℕ)) (files : List (Counted F)) (openings : List (Opening F)) → GaveFiles paths files openings → (x : Opening F) → slice_get paths (length files) ≡ Some x.path
      → map (λ (o : Opening F). o.path) (openings ++ x ∷ []) ≡ take (suc (length files)) paths
  next_order paths files openings h x there =
      map-append (λ (o : Opening F). o.path) openings (x ∷ []) ∙ (ap (λ l. l ++ x.path ∷ []) h.order ∙ sym (take_next paths (length files) x.path there))

  pub stopped_front : (paths : List (List ℕ)) (files : List (Counted F)) (openings : List (Opening F)) → GaveFiles paths files openings → (x : Opening F) → slice_get paths (length files) ≡ Some x.path
      → OpensFront paths (openings ++ x ∷ [])
  stopped_front paths files openings h x there =
      let count : suc (length files) ≡ length (openings ++ x ∷ []) = omega (arith, same_count paths files openings h, length_push openings x) in
      next_order paths files openings h x there ∙ ap (λ n. take n paths) count

  pub one_opened : (paths : List (List ℕ)) (files : List (Counted F)) (openings : List (Opening F)) → GaveFiles paths files openings → (path : List ℕ) (d : F) → slice_get paths (length files) ≡ Some path
      → GaveFiles paths (files ++ unfailed d ∷ []) (openings ++ record { path = path; gave = Ok d } ∷ [])
  one_opened paths files openings h path d there =
      let count : suc (length files) ≡ length (files ++ unfailed d ∷ []) = omega (arith, length_push files (unfailed d)) in
      record {
        order = next_order paths files openings h (record { path = path; gave = Ok d }) there ∙ ap (λ n. take n paths) count;
        devices = h.devices ++ d ∷ [];
        are = ap (λ l. l ++ unfailed d ∷ []) h.are ∙ sym (map-append (unfailed {F = F}) h.devices (d ∷ []));
        gave = map-append (λ (o : Opening F). o.gave) openings (record { path = path; gave = Ok d } ∷ [])
            ∙ (ap (λ l. l ++ Ok d ∷ []) h.gave ∙ sym (map-append gave_ok h.devices (d ∷ [])));
      }

  -- one could not be opened
  pub stopped_opening : (paths : List (List ℕ)) (count : ℕ) (files : List (Counted F)) (openings : List (Opening F)) → GaveFiles paths files openings → (path : List ℕ)
      → slice_get paths (length files) ≡ Some path → (fault : FileFault) (last : List (Opening F)) → IsCreated {F = F} path (Err fault) last → AreUnopened paths count fault (openings ++ last)
  stopped_opening paths count files openings h path there (Failed word e) last is = inl (record {
    files = files;
    good = openings;
    gave = h;
    next = there ∙ ap (λ p. Some p) (sym is.0);
    order = ap (λ l. openings ++ l) is.1;
  })
  stopped_opening paths count files openings h path there NoMemory last is = absurd is
