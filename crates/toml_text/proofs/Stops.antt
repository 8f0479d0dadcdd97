-- The bytes that end a run of plain bytes, as the lanes of a block tell them.
use Rattle.std.proofs.Common.{◌≡◌, ℕ, ◌+◌, ◌%◌, ◌^◌, ◌<◌, ◌≤◌, drop, Bool, true, false, not, cond, ◌||◌, ◌&&◌, eqb, ltb, List, [], ◌∷◌, map, length, bit_and, bit_or, refl, sym, ap, ap₂, ◌∙◌, arith}
use Rattle.std.proofs.lemmas.Bool.Decides.{nat_tests}
use Rattle.std.proofs.lemmas.List.{length-map}
use Rattle.std.proofs.lemmas.Simd.{map-map, mask_l-mod}
use lib.Count.{count_trailing_zeros}
use lib.Lanes.{chunk, mask_l, top}
use Rattle.toml_text.specs.Bytes.{is_comment, is_unmarked, is_stop}
use Rattle.toml_text.specs.Runs.{run_len}
use Rattle.toml_text.proofs.Blocks.{not-not, run_through, run_ends}

-- a lane of a mask: all bits, or none
abbrev pub lane : Bool → ℕ
lane t = cond t 255 0

pub either : (s t : Bool) → bit_or (lane s) (lane t) ≡ lane (s || t)
either true true = refl
either true false = refl
either false true = refl
either false false = refl

pub both : (s t : Bool) → bit_and (lane s) (lane t) ≡ lane (s && t)
both true true = refl
both true false = refl
both false true = refl
both false false = refl

pub top_lane : (t : Bool) → top 7 (lane t) ≡ t
top_lane true = refl
top_lane false = refl

not_plain : (s t : Bool) → s || t ≡ not (not s && not t)
not_plain true t = refl
not_plain false true = refl
not_plain false false = refl

no_comment : (x : ℕ) → not ((ltb x 0x20 && not (eqb x 0x09)) || eqb x 0x7F) ≡ is_comment x
no_comment x = grind (arith, nat_tests)

abbrev pub stop_lane : ℕ → ℕ → ℕ → ℕ
stop_lane mark other x = bit_or (bit_or (bit_and (lane (ltb x 0x20)) (lane (not (eqb x 0x09)))) (lane (eqb x 0x7F))) (bit_or (lane (eqb x mark)) (lane (eqb x other)))

pub lane_stops : (mark other x : ℕ) → top 7 (stop_lane mark other x) ≡ is_stop mark other x
lane_stops mark other x =
    let control = ltb x 0x20 && not (eqb x 0x09) in
    ap (λ n. top 7 (bit_or (bit_or n (lane (eqb x 0x7F))) (bit_or (lane (eqb x mark)) (lane (eqb x other))))) (both (ltb x 0x20) (not (eqb x 0x09)))
    ∙ ap₂ (λ m n. top 7 (bit_or m n)) (either control (eqb x 0x7F)) (either (eqb x mark) (eqb x other))
    ∙ ap (top 7) (either (control || eqb x 0x7F) (eqb x mark || eqb x other))
    ∙ top_lane _
    ∙ not_plain (control || eqb x 0x7F) (eqb x mark || eqb x other)
    ∙ ap (λ t. not (t && not (eqb x mark || eqb x other))) (no_comment x)

each_stops : (mark other : ℕ) (xs : List ℕ) → map (λ x. top 7 (stop_lane mark other x)) xs ≡ map (is_stop mark other) xs
each_stops mark other [] = refl
each_stops mark other (x ∷ xs) = ap₂ (λ b bs. b ∷ bs) (lane_stops mark other x) (each_stops mark other xs)

pub mask_stops : (mark other : ℕ) (v z : List ℕ) → length v ≤ 64 → z ≡ map (stop_lane mark other) v → mask_l (map (top 7) z) % 2 ^ 64 ≡ mask_l (map (is_stop mark other) v)
mask_stops mark other v z short lanes =
    ap (λ l. mask_l l % 2 ^ 64) (ap (map (top 7)) lanes ∙ map-map (top 7) (stop_lane mark other) v ∙ each_stops mark other v)
    ∙ mask_l-mod (map (is_stop mark other) v) 64 (omega (arith, length-map v (is_stop mark other)))

-- What the bits of a block of bytes say of the run that goes through it.
module _ (mark other : ℕ) (bs : List ℕ) (at found : ℕ) (room : at + 16 ≤ length bs) (is : found ≡ mask_l (map (is_stop mark other) (chunk at 16 bs))) where
  pub block_through : found ≡ 0 → run_len (is_unmarked mark other) (drop at bs) ≡ 16 + run_len (is_unmarked mark other) (drop (at + 16) bs)
  block_through none = run_through (is_unmarked mark other) (is_stop mark other) (λ x. not-not _) bs at 16 room (sym is ∙ none)

  pub block_ends : 0 < found → run_len (is_unmarked mark other) (drop at bs) ≡ count_trailing_zeros 64 found
  block_ends some =
      run_ends (is_unmarked mark other) (is_stop mark other) (λ x. not-not _) bs at 16 room (omega arith) (omega (arith, is, some)) ∙ ap (count_trailing_zeros 64) (sym is)
