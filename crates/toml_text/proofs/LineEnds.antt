-- Where a line begins and ends.
use Rattle.std.proofs.Common.{◌≡◌, ℕ, zero, suc, ◌+◌, ◌-◌, ◌<◌, ◌≤◌, ◌==◌, ◌&&◌, ◌⊎◌, true, false, List, [], ◌∷◌, Some, None, length, take, drop, inl, inr, refl, sym, ap, ◌∙◌, arith, slice_index, nat_lt, length-drop, length-take}
use Rattle.std.proofs.lemmas.Bool.{and_parts, cases_lt, ltb-true, ne_eqb, cond-true, cond-false, eq-eqb, eqb-true}
use Rattle.std.proofs.lemmas.List.{get_or-drop, get_or-take, take_all}
use Rattle.memchr.specs.Find.{IsFirstByte, is_byte}
use Rattle.toml_text.specs.Positions.{BeginsLine, EndsLine, line_start, mark_len, newline_begin}

-- the newline begins at its LF, or before that, at a CR
newline_cases : (bs : List ℕ) (lf : ℕ) → (newline_begin bs lf ≡ lf) ⊎ ((0 < lf) × (slice_index bs (lf - 1) ≡ 0x0D) × (newline_begin bs lf ≡ lf - 1))
newline_cases bs lf =
    let test = nat_lt 0 lf && slice_index bs (lf - 1) == 0x0D in
    elim test as (λ t. test ≡ t → (newline_begin bs lf ≡ lf) ⊎ ((0 < lf) × (slice_index bs (lf - 1) ≡ 0x0D) × (newline_begin bs lf ≡ lf - 1))) [
      | true ↦ λ e. let p = and_parts _ _ e in inr (ltb-true 0 lf p.0, eqb-true _ _ p.1, cond-true _ _ _ e)
      | false ↦ λ e. inl (cond-false _ _ _ e)
    ] refl

-- the mark is there, or it is not
record IsMarked (bs : List ℕ) : Type 0 where
  long : 3 ≤ length bs
  first : slice_index bs 0 ≡ 0xEF
  second : slice_index bs 1 ≡ 0xBB
  third : slice_index bs 2 ≡ 0xBF
  len : mark_len bs ≡ 3

marked : (bs : List ℕ) → (mark_len bs ≡ 0) ⊎ IsMarked bs
marked [] = inl refl
marked (a ∷ []) = inl refl
marked (a ∷ b ∷ []) = inl refl
marked (a ∷ b ∷ c ∷ bs) =
    let test = a == 0xEF && (b == 0xBB && c == 0xBF) in
    elim test as (λ t. test ≡ t → (mark_len (a ∷ b ∷ c ∷ bs) ≡ 0) ⊎ IsMarked (a ∷ b ∷ c ∷ bs)) [
      | true ↦ λ e. (
          let p = and_parts _ _ e in
          let q = and_parts _ _ p.1 in
          inr (record { long = omega arith; first = eqb-true _ _ p.0; second = eqb-true _ _ q.0; third = eqb-true _ _ q.1; len = cond-true _ _ _ e })
          )
      | false ↦ λ e. inl (cond-false _ _ _ e)
    ] refl

far : (n : ℕ) → ¬ (n ≡ 0) → ¬ (n ≡ 1) → ¬ (n ≡ 2) → 3 ≤ n
far zero a b c = absurd (a refl)
far (suc zero) a b c = absurd (b refl)
far (suc (suc zero)) a b c = absurd (c refl)
far (suc (suc (suc n))) a b c = omega arith

module _ (bs : List ℕ) (at : ℕ) (room : at ≤ length bs) where
  -- the bytes from the place on, as a slice has them
  pub rest : take (length bs - at) (drop at bs) ≡ drop at bs
  rest = take_all (length bs - at) (drop at bs) (omega (arith, length-drop at bs))

  pub ends_at_lf : (k end : ℕ) → IsFirstByte (is_byte 0x0A) (drop at bs) (Some k) → end ≡ newline_begin bs (at + k) → EndsLine bs at end
  ends_at_lf k end found is = record {
    stop = at + k;
    low = omega arith;
    next = λ j low high lf. found.0.before (j - at) (omega arith) (omega arith) (eq-eqb _ _ (get_or-drop at bs (j - at) 0 ∙ ap (λ n. slice_index bs n) (omega arith) ∙ lf));
    ends = inr (omega (arith, found.0.high, length-drop at bs), sym (get_or-drop at bs k 0) ∙ eqb-true _ _ found.1, is);
  }

  pub ends_with_text : IsFirstByte (is_byte 0x0A) (drop at bs) None → EndsLine bs at (length bs)
  ends_with_text none = record {
    stop = length bs;
    low = room;
    next = λ j low high lf. none (j - at) (omega arith) (omega (arith, length-drop at bs)) (eq-eqb _ _ (get_or-drop at bs (j - at) 0 ∙ ap (λ n. slice_index bs n) (omega arith) ∙ lf));
    ends = inl (refl, refl);
  }

  pub ends_within : (end : ℕ) → EndsLine bs at end → end ≤ length bs
  ends_within end h = elim h.ends [
    | inl e ↦ omega (arith, e.0, e.1)
    | inr e ↦ (elim (newline_cases bs h.stop) [ inl is ↦ omega (arith, e.0, e.2, is) | inr is ↦ omega (arith, e.0, e.2, is.2) ])
  ]

  -- two places with other bytes
  apart : (i k a b : ℕ) → slice_index bs i ≡ a → slice_index bs k ≡ b → ¬ (a ≡ b) → ¬ (i ≡ k)
  apart i k a b at_i at_k other same = other (sym at_i ∙ ap (λ n. slice_index bs n) same ∙ at_k)

  -- a CR there is not that LF
  behind_lf : (begin end : ℕ) → begin ≤ at → 0 < begin → slice_index bs (begin - 1) ≡ 0x0A → (stop : ℕ) → at ≤ stop → slice_index bs (stop - 1) ≡ 0x0D → end ≡ stop - 1 → begin ≤ end
  behind_lf begin end low some lf stop high cr is =
      let other : ¬ (stop - 1 ≡ begin - 1) = apart (stop - 1) (begin - 1) 0x0D 0x0A cr lf (λ is. omega arith) in
      elim (cases_lt end begin) [
        | inl lt ↦ absurd (other (omega arith))
        | inr le ↦ le
      ]

  -- behind an LF before the place
  begins_before : (begin end : ℕ) → 0 < begin → BeginsLine (take at bs) begin → EndsLine bs at end → begin ≤ end
  begins_before begin end some b h =
      let low : begin ≤ at = omega (arith, b.within, length-take at bs) in
      elim h.ends [
        | inl e ↦ omega (arith, low, e.0, e.1, room)
        | inr e ↦ (elim (newline_cases bs h.stop) [
          | inl is ↦ omega (arith, low, h.low, e.2, is)
          | inr is ↦ (elim b.behind [
            | inl none ↦ absurd (omega (arith, some, none))
            | inr lf ↦ behind_lf begin end low lf.0 (sym (get_or-take at bs (begin - 1) 0 (omega (arith, low, lf.0))) ∙ lf.1) h.stop h.low is.1 (e.2 ∙ is.2)
          ])
        ])
      ]

  -- behind the mark
  begins_marked : (end : ℕ) → IsMarked bs → EndsLine bs at end → 3 ≤ end
  begins_marked end m h = elim h.ends [
    | inl e ↦ omega (arith, e.0, e.1, m.long)
    | inr e ↦ (
        let stop : 3 ≤ h.stop = far h.stop (apart h.stop 0 0x0A 0xEF e.1 m.first (λ is. omega arith)) (apart h.stop 1 0x0A 0xBB e.1 m.second (λ is. omega arith)) (apart h.stop 2 0x0A 0xBF e.1 m.third (λ is. omega arith)) in
        elim (newline_cases bs h.stop) [
          | inl is ↦ omega (arith, stop, e.2, is)
          | inr is ↦ (let cr : ¬ (h.stop - 1 ≡ 2) = apart (h.stop - 1) 2 0x0D 0xBF is.1 m.third (λ is. omega arith) in far end (λ z. omega (arith, z, stop, e.2, is.2)) (λ z. omega (arith, z, stop, e.2, is.2)) (λ z. cr (sym (e.2 ∙ is.2) ∙ z)))
        ]
        )
  ]

  pub start_first : (begin end start : ℕ) → BeginsLine (take at bs) begin → EndsLine bs at end → start ≡ line_start bs begin → start ≤ end
  start_first zero end start b h is = elim (marked bs) [
    | inl none ↦ omega (arith, is, none)
    | inr m ↦ omega (arith, is, m.len, begins_marked end m h)
  ]
  start_first (suc n) end start b h is =
      let begun : line_start bs (suc n) ≡ suc n = cond-false _ _ _ (ne_eqb (suc n) 0 (λ z. omega (arith, z))) in
      omega (arith, is, begun, begins_before (suc n) end (omega arith) b h)
