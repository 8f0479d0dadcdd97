-- Pieces that are read step by step: how one step goes on, and what all of them are.
use Rattle.std.proofs.Common.{◌≡◌, ℕ, zero, suc, ◌-◌, ◌<◌, List, [], ◌∷◌, ◌++◌, length, drop, Option, Some, None, sym, refl, ap, ◌∙◌, subst, arith, append_assoc, length-append}
use Rattle.std.specs.Prelude.{IfSome, option_map, option_and_then}
use Rattle.std.proofs.lemmas.List.{drop_at}
use Rattle.std.proofs.lemmas.Grind.{flat_map-append}
use Rattle.toml_scalar.specs.Strings.{StringPiece, piece_text, pieces_text}
use Rattle.toml_scalar.specs.StringRuns.{Step, Next, Last, go_on, pieces_from}

pub pieces_text-append : (ps qs : List StringPiece) → pieces_text (ps ++ qs) ≡ pieces_text ps ++ pieces_text qs
pieces_text-append ps qs = flat_map-append piece_text ps qs

-- pieces read in front of others
abbrev pub behind : List StringPiece → Option (List StringPiece) → Option (List StringPiece)
behind ps o = option_map (λ qs. ps ++ qs) o

-- behind pieces of one byte or more, the rest is what is left
skip_text : (ps : List StringPiece) (b : ℕ) (bs rest : List ℕ) → b ∷ bs ≡ pieces_text ps ++ rest → 0 < length (pieces_text ps) → drop (length (pieces_text ps) - 1) bs ≡ rest
skip_text ps b bs rest is more =
    let n : suc (length (pieces_text ps) - 1) ≡ length (pieces_text ps) = omega arith in
    ap (λ m. drop m (b ∷ bs)) n ∙ (ap (drop (length (pieces_text ps))) is ∙ drop_at (pieces_text ps) rest (length (pieces_text ps)) refl)

module _ (step : List ℕ → Option Step) where
  pub pieces_skip : (skip : ℕ) (bs : List ℕ) → pieces_from step skip bs ≡ pieces_from step 0 (drop skip bs)
  pieces_skip zero bs = refl
  pieces_skip (suc skip) [] = refl
  pieces_skip (suc skip) (b ∷ bs) = pieces_skip skip bs

  pub pieces_next : (ps : List StringPiece) (bs rest : List ℕ) → step bs ≡ Some (Next ps) → bs ≡ pieces_text ps ++ rest → 0 < length (pieces_text ps) → pieces_from step 0 bs ≡ behind ps (pieces_from step 0 rest)
  pieces_next ps [] rest e is more = absurd (omega (arith, ap length is, length-append (pieces_text ps) rest))
  pieces_next ps (b ∷ bs) rest e is more =
      rw e (ap (behind ps) (pieces_skip (length (pieces_text ps) - 1) bs ∙ ap (pieces_from step 0) (skip_text ps b bs rest is more)))

  pub pieces_last : (ps : List StringPiece) (bs : List ℕ) → step bs ≡ Some (Last ps) → 0 < length bs → pieces_from step 0 bs ≡ Some ps
  pieces_last ps [] e more = absurd (omega arith)
  pieces_last ps (b ∷ bs) e more = rw e refl

  pub pieces_none : (bs : List ℕ) → step bs ≡ None → pieces_from step 0 bs ≡ None
  pieces_none [] e = refl
  pieces_none (b ∷ bs) e = rw e refl

-- `G` holds of all pieces, if each step keeps it
module _ (G : List StringPiece → Type 0) (closing : List ℕ) where
  abbrev pub StepIs : List ℕ → Step → Type 0
  StepIs bs (Next ps) = (rest : List ℕ) × (bs ≡ pieces_text ps ++ rest) × (0 < length (pieces_text ps)) × ((qs : List StringPiece) (t : List ℕ) → rest ≡ pieces_text qs ++ (closing ++ t) → G qs → G (ps ++ qs))
  StepIs bs (Last ps) = (t : List ℕ) × (bs ≡ pieces_text ps ++ (closing ++ t)) × G ps

  -- what all the pieces are
  abbrev pub PiecesAre : List ℕ → List StringPiece → Type 0
  PiecesAre bs ps = (t : List ℕ) × (bs ≡ pieces_text ps ++ (closing ++ t)) × G ps

  longer : (ps qs : List StringPiece) (bs rest t : List ℕ) → bs ≡ pieces_text ps ++ rest → rest ≡ pieces_text qs ++ (closing ++ t) → bs ≡ pieces_text (ps ++ qs) ++ (closing ++ t)
  longer ps qs bs rest t is more =
      is ∙ (ap (λ r. pieces_text ps ++ r) more ∙ (sym (append_assoc (pieces_text ps) (pieces_text qs) (closing ++ t)) ∙ ap (λ r. r ++ (closing ++ t)) (sym (pieces_text-append ps qs))))

  next_are : (ps : List StringPiece) (bs rest : List ℕ) → bs ≡ pieces_text ps ++ rest → ((qs : List StringPiece) (t : List ℕ) → rest ≡ pieces_text qs ++ (closing ++ t) → G qs → G (ps ++ qs)) → (o : Option (List StringPiece)) → IfSome o (PiecesAre rest) → IfSome (behind ps o) (PiecesAre bs)
  next_are ps bs rest is keeps None h = tt
  next_are ps bs rest is keeps (Some qs) h = (h.0, longer ps qs bs rest h.0 is h.1, keeps qs h.0 h.1 h.2)

  module _ (step : List ℕ → Option Step) where
    step_are : (b : ℕ) (bs : List ℕ) (o : Option Step) → IfSome o (StepIs (b ∷ bs)) → ((skip : ℕ) → IfSome (pieces_from step skip bs) (PiecesAre (drop skip bs))) → IfSome (option_and_then (λ s. go_on s (λ skip. pieces_from step skip bs)) o) (PiecesAre (b ∷ bs))
    step_are b bs None h all = tt
    step_are b bs (Some (Last ps)) h all = h
    step_are b bs (Some (Next ps)) h all =
        next_are ps (b ∷ bs) h.0 h.1 h.3 (pieces_from step (length (pieces_text ps) - 1) bs)
        (subst (λ r. IfSome (pieces_from step (length (pieces_text ps) - 1) bs) (PiecesAre r)) (skip_text ps b bs h.0 h.1 h.2) (all (length (pieces_text ps) - 1)))

    pub pieces_sound : ((bs : List ℕ) → IfSome (step bs) (StepIs bs)) → (skip : ℕ) (bs : List ℕ) → IfSome (pieces_from step skip bs) (PiecesAre (drop skip bs))
    pieces_sound sound skip [] = tt
    pieces_sound sound (suc skip) (b ∷ bs) = pieces_sound sound skip bs
    pieces_sound sound zero (b ∷ bs) = step_are b bs (step (b ∷ bs)) (sound (b ∷ bs)) (λ skip. pieces_sound sound skip bs)
