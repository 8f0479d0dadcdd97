-- Where a text may be cut: behind a run of ASCII bytes, behind one ASCII byte, behind the mark.
use Rattle.std.proofs.Common.{◌≡◌, ℕ, ◌+◌, ◌<◌, true, false, ◌&&◌, List, [], ◌∷◌, ◌++◌, length, drop, IsUtf8, IsCharBoundary, refl, ap, ◌∙◌, arith}
use Rattle.std.specs.Prelude.{◌==◌, if◌then◌else◌}
use Rattle.std.specs.Char.{encode_utf8}
use Rattle.std.proofs.lemmas.Bool.{and_parts, eqb-true}
use Rattle.std.proofs.lemmas.Str.{IsCharBoundary-start, IsCharBoundary-at_seam, IsCharBoundary-from_rest, IsCharBoundary-past_char, IsUtf8-drop, IsUtf8-from_is_utf8}
use Rattle.std.proofs.iter.AsciiBoundary.{after_IsAscii}
use Rattle.toml_text.specs.Limit.{IsText}
use Rattle.toml_text.specs.Runs.{begins, is_byte}
use Rattle.toml_tree.specs.Spells.{mark_of}
use Rattle.toml_tree.proofs.Sound.{begins_some}

encoded : (rest : List ℕ) → 0xEF ∷ 0xBB ∷ 0xBF ∷ rest ≡ encode_utf8 0xFEFF ++ rest
unfolding encode_utf8
encoded rest = refl

pub mark_cut : (bs : List ℕ) → IsUtf8 bs → IsCharBoundary bs (length (mark_of bs))
mark_cut [] u = IsCharBoundary-start [] u
mark_cut (a ∷ []) u = IsCharBoundary-start (a ∷ []) u
mark_cut (a ∷ b ∷ []) u = IsCharBoundary-start (a ∷ b ∷ []) u
mark_cut (a ∷ b ∷ c ∷ bs) u = elim (a == 0xEF && b == 0xBB && c == 0xBF) as (λ t. (a == 0xEF && b == 0xBB && c == 0xBF) ≡ t → IsCharBoundary (a ∷ b ∷ c ∷ bs) (length (if t then a ∷ b ∷ c ∷ [] else []))) [
  | true ↦ λ e.
      let k = and_parts (a == 0xEF && b == 0xBB) (c == 0xBF) e in
      let j = and_parts (a == 0xEF) (b == 0xBB) k.0 in
      let is : a ∷ b ∷ c ∷ bs ≡ 0xEF ∷ 0xBB ∷ 0xBF ∷ bs = rw (eqb-true a 0xEF j.0, eqb-true b 0xBB j.1, eqb-true c 0xBF k.1) refl in
      IsCharBoundary-past_char (a ∷ b ∷ c ∷ bs) bs 0 0xFEFF (omega arith) u (is ∙ encoded bs)
  | false ↦ λ e. IsCharBoundary-start (a ∷ b ∷ c ∷ bs) u
] refl

module _ (text : List ℕ) (at : ℕ) (is_text : IsText text) (bound : IsCharBoundary text at) where
  utf8 : IsUtf8 (drop at text)
  utf8 = IsUtf8-drop text at (IsUtf8-from_is_utf8 text is_text.utf8) bound

  pub behind_byte : (x : ℕ) → x < 128 → begins (is_byte x) (drop at text) ≡ true → IsCharBoundary text (at + 1)
  behind_byte x ascii here =
      let k = begins_some x (drop at text) here in
      IsCharBoundary-from_rest text at 1 bound.0 (after_IsAscii (drop at text) 1 utf8 (omega (arith, ap length k.1)) (λ _. rw k.1 ascii))

  pub behind_mark : IsCharBoundary text (at + length (mark_of (drop at text)))
  behind_mark = IsCharBoundary-from_rest text at _ bound.0 (mark_cut (drop at text) utf8)

  -- a place that a reader of some text has reached, over these bytes
  pub behind_bytes : (other : List ℕ) (last : ℕ) (bytes : List ℕ) → IsText other → IsCharBoundary other last → drop at text ≡ bytes ++ drop last other → IsCharBoundary text (at + length bytes)
  behind_bytes other last bytes other_text other_bound is =
      IsCharBoundary-from_rest text at (length bytes) bound.0
      (IsCharBoundary-at_seam (drop at text) bytes (drop last other) is (IsUtf8-drop other last (IsUtf8-from_is_utf8 other other_text.utf8) other_bound))
