-- The content of a string: the pieces that the steps read are content, and content is read whole.
use Rattle.std.proofs.Common.{◌≡◌, ℕ, zero, suc, ◌+◌, ◌-◌, ◌<◌, ◌≤◌, Bool, true, false, cond, List, [], ◌∷◌, ◌++◌, length, drop, replicate, min, Option, Some, None, sym, refl, ap, ◌∙◌, subst, arith, add-one, eqb, eq-eqb, append_assoc, length-append}
use Rattle.std.specs.Prelude.{IfSome, nat_le}
use Rattle.std.proofs.lemmas.Bool.{cond_both, eqb-true, cond-true, cond-false, leb-true, leb-false, le-leb, lt-leb, and_left}
use Rattle.std.proofs.lemmas.List.{append-nil, replicate-append-replicate}
use Rattle.toml_text.specs.Bytes.{is_ws}
use Rattle.toml_text.specs.Runs.{run_len, begins, is_byte, newline_len}
use Rattle.toml_text.proofs.Proved.{newline_found}
use Rattle.toml_scalar.specs.Strings.{StringPiece, Plain, Escape, UnicodeEscape, Newline, Dropped, piece_text, pieces_text, EachPiece, BeginsWithThree, NoThree, Stops, LongestDropped, three}
use Rattle.toml_scalar.specs.StringRuns.{Step, Next, Last, next_one, one_step, marks_step, three_step, pieces_from}
use Rattle.toml_scalar.proofs.StringSteps.{behind, StepIs, PiecesAre, pieces_next, pieces_last, pieces_sound}
use Rattle.toml_scalar.proofs.StringSpaces.{NoSpace}
use Rattle.toml_scalar.proofs.StringPieces.{is_mark, Ends, PieceIs, HasForm, IsQuote, form_more, form_begins}

-- marks

begins_is : (mark : ℕ) (bs : List ℕ) → begins (is_byte mark) bs ≡ true → (r : List ℕ) × (bs ≡ mark ∷ r)
begins_is mark [] e = absurd cc
begins_is mark (b ∷ bs) e = (bs, ap (λ x. x ∷ bs) (eqb-true b mark e))

mark_itself : (mark : ℕ) → eqb mark mark ≡ true
mark_itself mark = eq-eqb mark mark refl

pub marks_text : (mark n : ℕ) → pieces_text (replicate n (Plain mark)) ≡ replicate n mark
marks_text mark zero = refl
marks_text mark (suc n) = ap (λ l. mark ∷ l) (marks_text mark n)

run_first : (mark b : ℕ) (bs : List ℕ) (t : Bool) (n : ℕ) → eqb b mark ≡ t → 0 < n → n ≤ cond t (run_len (is_byte mark) bs + 1) 0 → (b ≡ mark) × (n ≤ run_len (is_byte mark) bs + 1)
run_first mark b bs true n e h k = (eqb-true b mark e, k)
run_first mark b bs false n e h k = absurd (omega arith)

pub marks_front : (mark n : ℕ) (bs : List ℕ) → n ≤ run_len (is_byte mark) bs → bs ≡ replicate n mark ++ drop n bs
marks_front mark zero bs h = refl
marks_front mark (suc n) [] h = absurd (omega arith)
marks_front mark (suc n) (b ∷ bs) h =
    let p = run_first mark b bs (eqb b mark) (suc n) refl (omega arith) h in
    (λ i. p.0 i ∷ marks_front mark n bs (omega (arith, p.1)) i)

run_ends : (p : ℕ → Bool) (bs : List ℕ) → begins p (drop (run_len p bs) bs) ≡ false
run_ends p [] = refl
run_ends p (b ∷ bs) = elim (p b) as (λ t. p b ≡ t → begins p (drop (cond t (run_len p bs + 1) 0) (b ∷ bs)) ≡ false) [
  | true ↦ λ e. rw add-one (run_ends p bs)
  | false ↦ λ e. e
] refl

pub run_some : (mark : ℕ) (bs : List ℕ) → begins (is_byte mark) bs ≡ true → 0 < run_len (is_byte mark) bs
run_some mark [] e = absurd cc
run_some mark (b ∷ bs) e = omega (arith, cond-true (eqb b mark) (run_len (is_byte mark) bs + 1) 0 e)

pub run_no : (mark : ℕ) (bs : List ℕ) → begins (is_byte mark) bs ≡ false → run_len (is_byte mark) bs ≡ 0
run_no mark [] e = refl
run_no mark (b ∷ bs) e = cond-false _ _ _ e

run_marks : (mark n : ℕ) (bs : List ℕ) → run_len (is_byte mark) (replicate n mark ++ bs) ≡ n + run_len (is_byte mark) bs
run_marks mark zero bs = omega arith
run_marks mark (suc n) bs =
    let first : run_len (is_byte mark) (replicate (suc n) mark ++ bs) ≡ run_len (is_byte mark) (replicate n mark ++ bs) + 1 = cond-true _ _ _ (mark_itself mark) in
    omega (arith, first, run_marks mark n bs)

begins_marks : (mark n : ℕ) (bs : List ℕ) → 0 < n → begins (is_byte mark) (replicate n mark ++ bs) ≡ true
begins_marks mark zero bs h = absurd (omega arith)
begins_marks mark (suc n) bs h = mark_itself mark

replicate_shift : {X : Type 0} (x : X) (n : ℕ) (ys : List X) → replicate n x ++ (x ∷ ys) ≡ x ∷ (replicate n x ++ ys)
replicate_shift x zero ys = refl
replicate_shift x (suc n) ys = ap (λ l. x ∷ l) (replicate_shift x n ys)

-- three marks in a row

abbrev pub BeginsMark : ℕ → List StringPiece → Type 0
BeginsMark mark (Plain b ∷ ps) = b ≡ mark
BeginsMark mark _ = ⊥

three_two : (mark : ℕ) (p : StringPiece) (qs : List StringPiece) → BeginsWithThree mark (p ∷ qs) → BeginsMark mark (p ∷ []) × BeginsMark mark qs
three_two mark (Plain a) (Plain b ∷ Plain c ∷ ps) h = (h.0, h.1)
three_two mark _ _ h = absurd h

three_third : (mark a b : ℕ) (qs : List StringPiece) → BeginsWithThree mark (Plain a ∷ Plain b ∷ qs) → BeginsMark mark qs
three_third mark a b (Plain c ∷ ps) h = h.2
three_third mark a b _ h = absurd h

no_mark : (mark : ℕ) (rest more : List ℕ) (qs : List StringPiece) → rest ≡ pieces_text qs ++ more → begins (is_byte mark) rest ≡ false → BeginsMark mark qs → ⊥
no_mark mark rest more (Plain b ∷ qs) is e h = let f : eqb b mark ≡ false = ap (begins (is_byte mark)) (sym is) ∙ e in absurd (let t : eqb b mark ≡ true = eq-eqb b mark h in cc)
no_mark mark rest more _ is e h = absurd h

not_mark_first : (mark : ℕ) (q : StringPiece) → is_mark mark q ≡ false → BeginsMark mark (q ∷ []) → ⊥
not_mark_first mark (Plain b) e h = let t : eqb b mark ≡ true = eq-eqb b mark h in cc
not_mark_first mark _ e h = h

no_three_next : (mark : ℕ) (q : StringPiece) (qs : List StringPiece) → is_mark mark q ≡ false → NoThree mark qs → NoThree mark (q ∷ qs)
no_three_next mark q qs e h = (λ t. not_mark_first mark q e (three_two mark q qs t).0, h)

no_three_one : (mark : ℕ) (qs : List StringPiece) → (BeginsMark mark qs → ⊥) → NoThree mark qs → NoThree mark (Plain mark ∷ qs)
no_three_one mark qs e h = (λ t. e (three_two mark (Plain mark) qs t).1, h)

no_three_two : (mark : ℕ) (qs : List StringPiece) → (BeginsMark mark qs → ⊥) → NoThree mark qs → NoThree mark (Plain mark ∷ Plain mark ∷ qs)
no_three_two mark qs e h = (λ t. e (three_third mark mark mark qs t), no_three_one mark qs e h)

-- dropped stretches

no_space_stops : (rest more : List ℕ) (qs : List StringPiece) → rest ≡ pieces_text qs ++ more → EachPiece HasForm qs → NoSpace rest → Stops qs
no_space_stops rest more [] is h stop = tt
no_space_stops rest more (Plain b ∷ qs) is h stop = ap (begins is_ws) (sym is) ∙ stop.0
no_space_stops rest more (Newline line ∷ qs) is h stop =
    let found : newline_len (line ++ (pieces_text qs ++ more)) ≡ length line = newline_found line (pieces_text qs ++ more) h.0 in
    let same : newline_len rest ≡ newline_len (line ++ (pieces_text qs ++ more)) = ap newline_len (is ∙ append_assoc line (pieces_text qs) more) in
    absurd (omega (arith, found, same, stop.1, form_more (Newline line) h.0))
no_space_stops rest more (Escape x ∷ qs) is h stop = tt
no_space_stops rest more (UnicodeEscape u digits ∷ qs) is h stop = tt
no_space_stops rest more (Dropped ws line spaces ∷ qs) is h stop = tt

dropped_next : (rest more : List ℕ) (q : StringPiece) (qs : List StringPiece) → Ends q rest → rest ≡ pieces_text qs ++ more → EachPiece HasForm qs → LongestDropped qs → LongestDropped (q ∷ qs)
dropped_next rest more (Dropped ws line spaces) qs ends is h l = (no_space_stops rest more qs is h ends, l)
dropped_next rest more (Plain b) qs ends is h l = l
dropped_next rest more (Escape x) qs ends is h l = l
dropped_next rest more (UnicodeEscape u digits) qs ends is h l = l
dropped_next rest more (Newline line) qs ends is h l = l

pub byte_no_space : (b : ℕ) (bs : List ℕ) → is_ws b ≡ false → eqb b 0x0A ≡ false → eqb b 0x0D ≡ false → NoSpace (b ∷ bs)
byte_no_space b bs ws lf cr = (ws, cond-false _ _ _ lf ∙ cond-false _ _ _ (and_left _ _ cr))

stops_no_space : (mark : ℕ) (more : List ℕ) (qs : List StringPiece) → IsQuote mark → EachPiece HasForm qs → Stops qs → NoSpace (pieces_text qs ++ (mark ∷ more))
stops_no_space mark more [] m h s = byte_no_space mark more m.ws m.mark_lf m.mark_cr
stops_no_space mark more (Plain b ∷ qs) m h s = byte_no_space b (pieces_text qs ++ (mark ∷ more)) s h.0.0 h.0.1
stops_no_space mark more (Newline line ∷ qs) m h s = absurd s
stops_no_space mark more (Escape x ∷ qs) m h s = (refl, refl)
stops_no_space mark more (UnicodeEscape u digits ∷ qs) m h s = (refl, refl)
stops_no_space mark more (Dropped ws line spaces ∷ qs) m h s = (refl, refl)

dropped_ends : (mark : ℕ) (more : List ℕ) (q : StringPiece) (qs : List StringPiece) → IsQuote mark → EachPiece HasForm qs → LongestDropped (q ∷ qs) → Ends q (pieces_text qs ++ (mark ∷ more))
dropped_ends mark more (Dropped ws line spaces) qs m h l = stops_no_space mark more qs m h l.0
dropped_ends mark more (Plain b) qs m h l = tt
dropped_ends mark more (Escape x) qs m h l = tt
dropped_ends mark more (UnicodeEscape u digits) qs m h l = tt
dropped_ends mark more (Newline line) qs m h l = tt

pub dropped_tail : (q : StringPiece) (qs : List StringPiece) → LongestDropped (q ∷ qs) → LongestDropped qs
dropped_tail (Dropped ws line spaces) qs l = l.1
dropped_tail (Plain b) qs l = l
dropped_tail (Escape x) qs l = l
dropped_tail (UnicodeEscape u digits) qs l = l
dropped_tail (Newline line) qs l = l

-- the steps of a one-line string

next_is : (P : StringPiece → Type 0) (mark : ℕ) (G : List StringPiece → Type 0) (closing bs : List ℕ) (o : Option StringPiece) → ((q : StringPiece) (rest : List ℕ) → P q → is_mark mark q ≡ false → Ends q rest → (qs : List StringPiece) (t : List ℕ) → rest ≡ pieces_text qs ++ (closing ++ t) → G qs → G (q ∷ qs)) → IfSome o (PieceIs P mark bs) → IfSome (next_one o) (StepIs G closing bs)
next_is P mark G closing bs None keeps h = tt
next_is P mark G closing bs (Some q) keeps h = (
  h.rest,
  h.text ∙ ap (λ l. l ++ h.rest) (sym (append-nil (piece_text q))),
  subst (λ l. 0 < length l) (sym (append-nil (piece_text q))) h.more,
  keeps q h.rest h.is h.other h.ends,
)

module _ (P : StringPiece → Type 0) (mark : ℕ) (piece : List ℕ → Option StringPiece) (sound : (bs : List ℕ) → begins (is_byte mark) bs ≡ false → IfSome (piece bs) (PieceIs P mark bs)) where
  one_step_is : (bs : List ℕ) → IfSome (one_step mark piece bs) (StepIs (EachPiece P) (mark ∷ []) bs)
  unfolding one_step
  one_step_is bs = cond_both (begins (is_byte mark) bs) (Some (Last [])) (next_one (piece bs)) (λ o. IfSome o (StepIs (EachPiece P) (mark ∷ []) bs))
      (λ e. let r = begins_is mark bs e in (r.0, r.1, tt))
      (λ e. next_is P mark (EachPiece P) (mark ∷ []) bs (piece bs) (λ q rest is other ends qs t text each. (is, each)) (sound bs e))

  pub one_sound : (bs : List ℕ) → IfSome (pieces_from (one_step mark piece) 0 bs) (PiecesAre (EachPiece P) (mark ∷ []) bs)
  one_sound bs = pieces_sound (EachPiece P) (mark ∷ []) (one_step mark piece) one_step_is 0 bs

  -- the steps of a multi-line string
  module _ (form : (q : StringPiece) → P q → HasForm q) (is_plain : P (Plain mark)) where
    abbrev pub IsWhole : List StringPiece → Type 0
    IsWhole ps = EachPiece P ps × NoThree mark ps × LongestDropped ps

    forms : (qs : List StringPiece) → EachPiece P qs → EachPiece HasForm qs
    forms [] h = tt
    forms (q ∷ qs) h = (form q h.0, forms qs h.1)

    whole_next : (q : StringPiece) (rest : List ℕ) → P q → is_mark mark q ≡ false → Ends q rest → (qs : List StringPiece) (t : List ℕ) → rest ≡ pieces_text qs ++ (three mark ++ t) → IsWhole qs → IsWhole (q ∷ qs)
    whole_next q rest is other ends qs t text h = ((is, h.0), no_three_next mark q qs other h.1, dropped_next rest (three mark ++ t) q qs ends text (forms qs h.0) h.2)

    marks_text_is : (n : ℕ) (bs : List ℕ) → n ≡ run_len (is_byte mark) bs → bs ≡ pieces_text (replicate n (Plain mark)) ++ drop n bs
    marks_text_is n bs e = marks_front mark n bs (omega arith) ∙ ap (λ l. l ++ drop n bs) (sym (marks_text mark n))

    stops_at : (n : ℕ) (bs : List ℕ) → n ≡ run_len (is_byte mark) bs → begins (is_byte mark) (drop n bs) ≡ false
    stops_at n bs e = rw e (run_ends (is_byte mark) bs)

    -- a run of one or two marks
    few_is : (n : ℕ) (bs : List ℕ) → n ≡ run_len (is_byte mark) bs → 0 < n → n ≤ 2 → StepIs IsWhole (three mark) bs (Next (replicate n (Plain mark)))
    few_is zero bs e some few = absurd (omega arith)
    few_is (suc zero) bs e some few = (drop 1 bs, marks_text_is 1 bs e, omega arith, λ qs t text h. ((is_plain, h.0), no_three_one mark qs (no_mark mark (drop 1 bs) (three mark ++ t) qs text (stops_at 1 bs e)) h.1, h.2))
    few_is (suc (suc zero)) bs e some few = (drop 2 bs, marks_text_is 2 bs e, omega arith, λ qs t text h. ((is_plain, (is_plain, h.0)), no_three_two mark qs (no_mark mark (drop 2 bs) (three mark ++ t) qs text (stops_at 2 bs e)) h.1, h.2))
    few_is (suc (suc (suc n))) bs e some few = absurd (omega arith)

    -- up to two marks in front of the three that close the string
    extra_whole : (n : ℕ) → n ≤ 2 → IsWhole (replicate n (Plain mark))
    extra_whole zero h = (tt, tt, tt)
    extra_whole (suc zero) h = ((is_plain, tt), (λ t. t, tt), tt)
    extra_whole (suc (suc zero)) h = ((is_plain, (is_plain, tt)), (λ t. t, (λ t. t, tt)), tt)
    extra_whole (suc (suc (suc n))) h = absurd (omega arith)

    extra_is : (n : ℕ) (bs : List ℕ) → n ≤ 2 → n + 3 ≤ run_len (is_byte mark) bs → StepIs IsWhole (three mark) bs (Last (replicate n (Plain mark)))
    extra_is n bs few enough = (
      drop (n + 3) bs,
      marks_front mark (n + 3) bs enough
          ∙ (ap (λ l. l ++ drop (n + 3) bs) (sym (replicate-append-replicate n 3 mark) ∙ ap (λ l. l ++ three mark) (sym (marks_text mark n)))
          ∙ append_assoc (pieces_text (replicate n (Plain mark))) (three mark) (drop (n + 3) bs)),
      extra_whole n few,
    )

    marks_step_is : (bs : List ℕ) → 0 < run_len (is_byte mark) bs → StepIs IsWhole (three mark) bs (marks_step mark (run_len (is_byte mark) bs))
    marks_step_is bs some = cond_both _ _ _ (StepIs IsWhole (three mark) bs)
        (λ e. few_is (run_len (is_byte mark) bs) bs refl some (leb-true _ 2 e))
        (λ e. let more : 2 < run_len (is_byte mark) bs = leb-false _ 2 e in extra_is (min (run_len (is_byte mark) bs) 5 - 3) bs (omega arith) (omega arith))

    three_step_is : (bs : List ℕ) → IfSome (three_step mark piece bs) (StepIs IsWhole (three mark) bs)
    unfolding three_step
    three_step_is bs = cond_both (begins (is_byte mark) bs) _ _ (λ o. IfSome o (StepIs IsWhole (three mark) bs))
        (λ e. marks_step_is bs (run_some mark bs e))
        (λ e. next_is P mark IsWhole (three mark) bs (piece bs) whole_next (sound bs e))

    pub three_sound : (bs : List ℕ) → IfSome (pieces_from (three_step mark piece) 0 bs) (PiecesAre IsWhole (three mark) bs)
    three_sound bs = pieces_sound IsWhole (three mark) (three_step mark piece) three_step_is 0 bs

-- content is read whole

module _ (P : StringPiece → Type 0) (mark : ℕ) (quote : IsQuote mark) (piece : List ℕ → Option StringPiece) (form : (q : StringPiece) → P q → HasForm q) (found : (q : StringPiece) (rest : List ℕ) → P q → is_mark mark q ≡ false → Ends q rest → piece (piece_text q ++ rest) ≡ Some q) where
  one_piece : (q : StringPiece) (rest : List ℕ) → P q → is_mark mark q ≡ false → Ends q rest → one_step mark piece (piece_text q ++ rest) ≡ Some (Next (q ∷ []))
  unfolding one_step
  one_piece q rest is other ends = cond-false _ _ _ (form_begins mark quote q rest (form q is) other) ∙ ap next_one (found q rest is other ends)

  three_piece : (q : StringPiece) (rest : List ℕ) → P q → is_mark mark q ≡ false → Ends q rest → three_step mark piece (piece_text q ++ rest) ≡ Some (Next (q ∷ []))
  unfolding three_step
  three_piece q rest is other ends = cond-false _ _ _ (form_begins mark quote q rest (form q is) other) ∙ ap next_one (found q rest is other ends)

  -- one piece, and the others behind it
  piece_then : (step : List ℕ → Option Step) (q : StringPiece) (rest : List ℕ) (qs : List StringPiece) → P q → step (piece_text q ++ rest) ≡ Some (Next (q ∷ [])) → pieces_from step 0 rest ≡ Some qs → pieces_from step 0 (piece_text q ++ rest) ≡ Some (q ∷ qs)
  piece_then step q rest qs is e more =
      pieces_next step (q ∷ []) (piece_text q ++ rest) rest e (ap (λ l. l ++ rest) (sym (append-nil (piece_text q)))) (subst (λ l. 0 < length l) (sym (append-nil (piece_text q))) (form_more q (form q is)))
      ∙ ap (behind (q ∷ [])) more

  one_end : (rest : List ℕ) → pieces_from (one_step mark piece) 0 (mark ∷ rest) ≡ Some []
  unfolding one_step
  one_end rest = pieces_last (one_step mark piece) [] (mark ∷ rest) (cond-true _ _ _ (mark_itself mark)) (omega arith)

  pub one_found : ((q : StringPiece) → P q → is_mark mark q ≡ false) → ((q : StringPiece) (rest : List ℕ) → P q → Ends q rest) → (qs : List StringPiece) (rest : List ℕ) → EachPiece P qs → pieces_from (one_step mark piece) 0 (pieces_text qs ++ (mark ∷ rest)) ≡ Some qs
  one_found other ends [] rest each = one_end rest
  one_found other ends (q ∷ qs) rest each =
      let more : List ℕ = pieces_text qs ++ (mark ∷ rest) in
      ap (pieces_from (one_step mark piece) 0) (append_assoc (piece_text q) (pieces_text qs) (mark ∷ rest))
      ∙ piece_then (one_step mark piece) q more qs each.0 (one_piece q more each.0 (other q each.0) (ends q more each.0)) (one_found other ends qs rest each.1)

  -- Marks of which `k` are read and do not close the string, before other pieces.
  marks_next : (k : ℕ) (rest : List ℕ) → 0 < k → k ≤ 2 → begins (is_byte mark) rest ≡ false → three_step mark piece (replicate k mark ++ rest) ≡ Some (Next (replicate k (Plain mark)))
  unfolding three_step
  marks_next k rest some few stop =
      let run : run_len (is_byte mark) (replicate k mark ++ rest) ≡ k = omega (arith, run_marks mark k rest, run_no mark rest stop) in
      cond-true _ _ _ (begins_marks mark k rest some) ∙ ap Some (ap (marks_step mark) run ∙ cond-true _ _ _ (le-leb k 2 few))

  marks_then : (k : ℕ) (rest : List ℕ) (qs : List StringPiece) → k ≤ 2 → begins (is_byte mark) rest ≡ false → pieces_from (three_step mark piece) 0 rest ≡ Some qs → pieces_from (three_step mark piece) 0 (replicate k mark ++ rest) ≡ Some (replicate k (Plain mark) ++ qs)
  marks_then zero rest qs few stop more = more
  marks_then (suc k) rest qs few stop more =
      pieces_next (three_step mark piece) (replicate (suc k) (Plain mark)) (replicate (suc k) mark ++ rest) rest (marks_next (suc k) rest (omega arith) few stop) (ap (λ l. l ++ rest) (sym (marks_text mark (suc k)))) (omega arith)
      ∙ ap (behind (replicate (suc k) (Plain mark))) more

  -- how many marks behind the string it takes too
  abbrev extra : ℕ → List ℕ → ℕ
  extra k rest = min (k + (3 + run_len (is_byte mark) rest)) 5 - 3 - k

  marks_end : (k : ℕ) (rest : List ℕ) → k ≤ 2 → pieces_from (three_step mark piece) 0 (replicate k mark ++ (three mark ++ rest)) ≡ Some (replicate k (Plain mark) ++ replicate (extra k rest) (Plain mark))
  unfolding three_step
  marks_end k rest few =
      let bs : List ℕ = replicate k mark ++ (three mark ++ rest) in
      let three_run : run_len (is_byte mark) (three mark ++ rest) ≡ 3 + run_len (is_byte mark) rest = run_marks mark 3 rest in
      let run : run_len (is_byte mark) bs ≡ k + (3 + run_len (is_byte mark) rest) = run_marks mark k (three mark ++ rest) ∙ ap (λ n. k + n) three_run in
      let front : begins (is_byte mark) bs ≡ true = begins_three_marks k rest in
      let long : nat_le (k + (3 + run_len (is_byte mark) rest)) 2 ≡ false = lt-leb _ 2 (omega arith) in
      let count : min (k + (3 + run_len (is_byte mark) rest)) 5 - 3 ≡ k + extra k rest = omega arith in
      pieces_last (three_step mark piece) (replicate k (Plain mark) ++ replicate (extra k rest) (Plain mark)) bs
      (cond-true _ _ _ front ∙ ap Some (ap (marks_step mark) run ∙ (cond-false _ _ _ long ∙ ap Last (ap (λ n. replicate n (Plain mark)) count ∙ sym (replicate-append-replicate k (extra k rest) (Plain mark))))))
      (omega (arith, length-append (replicate k mark) (three mark ++ rest)))
    where
      begins_three_marks : (k : ℕ) (rest : List ℕ) → begins (is_byte mark) (replicate k mark ++ (three mark ++ rest)) ≡ true
      begins_three_marks zero rest = mark_itself mark
      begins_three_marks (suc k) rest = mark_itself mark

  no_three_tail : (k : ℕ) (q : StringPiece) (qs : List StringPiece) → NoThree mark (replicate k (Plain mark) ++ (q ∷ qs)) → NoThree mark qs
  no_three_tail zero q qs h = h.1
  no_three_tail (suc k) q qs h = no_three_tail k q qs h.1

  mark_is : (q : StringPiece) → is_mark mark q ≡ true → q ≡ Plain mark
  mark_is (Plain b) e = ap Plain (eqb-true b mark e)
  mark_is (Escape x) e = absurd cc
  mark_is (UnicodeEscape u digits) e = absurd cc
  mark_is (Newline line) e = absurd cc
  mark_is (Dropped ws line rest) e = absurd cc

  not_third : (k : ℕ) (qs : List StringPiece) → k ≤ 2 → NoThree mark (replicate k (Plain mark) ++ (Plain mark ∷ qs)) → k < 2
  not_third zero qs few h = omega arith
  not_third (suc zero) qs few h = omega arith
  not_third (suc (suc zero)) qs few h = absurd (h.0 (refl, refl, refl))
  not_third (suc (suc (suc k))) qs few h = absurd (omega arith)

  forms_of : (qs : List StringPiece) → EachPiece P qs → EachPiece HasForm qs
  forms_of [] h = tt
  forms_of (q ∷ qs) h = (form q h.0, forms_of qs h.1)

  -- what is read of a content, behind `k` marks of it, and of the marks behind the string
  abbrev pub Reads : ℕ → List StringPiece → List ℕ → Type 0
  Reads k qs rest =
      (e : ℕ) ×
      (pieces_from (three_step mark piece) 0 (replicate k mark ++ (pieces_text qs ++ (three mark ++ rest))) ≡ Some (replicate k (Plain mark) ++ (qs ++ replicate e (Plain mark)))) ×
      (begins (is_byte mark) rest ≡ false → e ≡ 0)

  mark_reads : (k : ℕ) (q : StringPiece) (qs : List StringPiece) (rest : List ℕ) → q ≡ Plain mark → Reads (suc k) qs rest → Reads k (q ∷ qs) rest
  mark_reads k q qs rest is r = (
    r.0,
    ap (pieces_from (three_step mark piece) 0) (ap (λ p. replicate k mark ++ (pieces_text (p ∷ qs) ++ (three mark ++ rest))) is ∙ replicate_shift mark k (pieces_text qs ++ (three mark ++ rest)))
        ∙ (r.1 ∙ ap Some (sym (ap (λ p. replicate k (Plain mark) ++ (p ∷ (qs ++ replicate r.0 (Plain mark)))) is ∙ replicate_shift (Plain mark) k (qs ++ replicate r.0 (Plain mark))))),
    r.2,
  )

  other_reads : (k : ℕ) (q : StringPiece) (qs : List StringPiece) (rest : List ℕ) → k ≤ 2 → P q → is_mark mark q ≡ false → EachPiece P qs → LongestDropped (q ∷ qs) → Reads 0 qs rest → Reads k (q ∷ qs) rest
  other_reads k q qs rest few is other each longest r =
      let more : List ℕ = pieces_text qs ++ (three mark ++ rest) in
      let ends : Ends q more = dropped_ends mark (mark ∷ mark ∷ rest) q qs quote (forms_of qs each) longest in (
        r.0,
        ap (λ l. pieces_from (three_step mark piece) 0 (replicate k mark ++ l)) (append_assoc (piece_text q) (pieces_text qs) (three mark ++ rest))
            ∙ marks_then k (piece_text q ++ more) (q ∷ (qs ++ replicate r.0 (Plain mark))) few (form_begins mark quote q more (form q is) other)
            (piece_then (three_step mark piece) q more (qs ++ replicate r.0 (Plain mark)) is (three_piece q more is other ends) r.1),
        r.2,
      )

  pub three_found : (k : ℕ) (qs : List StringPiece) (rest : List ℕ) → k ≤ 2 → EachPiece P qs → NoThree mark (replicate k (Plain mark) ++ qs) → LongestDropped qs → Reads k qs rest
  three_found k [] rest few each none longest = (extra k rest, marks_end k rest few, λ stop. omega (arith, run_no mark rest stop))
  three_found k (q ∷ qs) rest few each none longest = elim (is_mark mark q) as (λ t. is_mark mark q ≡ t → Reads k (q ∷ qs) rest) [
    | true ↦ λ e.
        let is : q ≡ Plain mark = mark_is q e in
        let again : NoThree mark (replicate k (Plain mark) ++ (Plain mark ∷ qs)) = subst (λ p. NoThree mark (replicate k (Plain mark) ++ (p ∷ qs))) is none in
        mark_reads k q qs rest is (three_found (suc k) qs rest (omega (arith, not_third k qs few again)) each.1 (subst (NoThree mark) (replicate_shift (Plain mark) k qs) again) (dropped_tail q qs longest))
    | false ↦ λ e. other_reads k q qs rest few each.0 e each.1 longest (three_found 0 qs rest (omega arith) each.1 (no_three_tail k q qs none) (dropped_tail q qs longest))
  ] refl
