-- What was read, one source behind the other.
use Rattle.std.proofs.Common.{◌≡◌, ◌<◌, ◌+◌, ℕ, List, [], ◌∷◌, ◌++◌, take, drop, length, get_or, Ok, Err, Vec, refl, sym, ap, ◌∙◌}
use Rattle.std.proofs.lemmas.List.{drop_more, map-append, take_more, take-append-drop}
use Rattle.std.specs.declared.alloc.Global.{Global}
use Rattle.toml_commands.specs.declared.answering.Source.{Source}
use Rattle.toml_delivery.specs.Outcomes.{texts_of}
use Rattle.tomled.specs.Reads.{GaveAll, IsOfWord, Read, StoppedAt, all_good}
use Rattle.tomled.specs.declared.reading.FileFault.{FileFault}

module _ (sources : List Source) (i : ℕ) (low : i < length sources) (d : Source) where
  front_is : take (i + 1) sources ≡ take i sources ++ get_or sources i d ∷ []
  front_is = take_more sources i d low

  -- of one source more
  pub gave_more : (vs : List (Vec ℕ Global)) (v : Vec ℕ Global) (reads : List Read) → GaveAll (take i sources) (texts_of vs) reads
      → GaveAll (take (i + 1) sources) (texts_of (vs ++ v ∷ [])) (reads ++ record { source = get_or sources i d; gave = Ok v.items } ∷ [])
  gave_more vs v reads before = record {
    order = map-append (λ r. r.source) reads (record { source = get_or sources i d; gave = Ok v.items } ∷ []) ∙ (ap (λ l. l ++ get_or sources i d ∷ []) before.order ∙ sym front_is);
    gave = map-append (λ r. r.gave) reads (record { source = get_or sources i d; gave = Ok v.items } ∷ [])
        ∙ (ap (λ l. l ++ Ok v.items ∷ []) before.gave
        ∙ (sym (map-append (λ bytes. Ok bytes) (texts_of vs) (v.items ∷ [])) ∙ ap all_good (sym (map-append (λ (w : Vec ℕ Global). w.items) vs (v ∷ [])))));
  }

  -- of one that failed
  pub stopped : (vs : List (Vec ℕ Global)) (fault : FileFault) → IsOfWord (get_or sources i d).word.now fault → (reads : List Read) → GaveAll (take i sources) (texts_of vs) reads
      → StoppedAt sources fault (reads ++ record { source = get_or sources i d; gave = Err fault } ∷ [])
  stopped vs fault is reads before = record {
    first = take i sources;
    stop = get_or sources i d;
    word = is;
    left = drop (i + 1) sources;
    are = sym (take-append-drop i sources) ∙ ap (λ l. take i sources ++ l) (drop_more sources i d low);
    texts = texts_of vs;
    good = reads;
    gave = before;
    order = refl;
  }
