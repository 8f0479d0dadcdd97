-- The comment at the front, by its length.
use Rattle.std.proofs.Common.{◌≡◌, ℕ, zero, suc, ◌+◌, ◌<◌, ◌≤◌, true, false, cond, List, [], ◌∷◌, length, take, eqb, refl, arith, add-one}
use Rattle.std.proofs.Common.{eq-eqb}
use Rattle.std.proofs.lemmas.Bool.{eqb-true, cond-true}
use Rattle.toml_text.specs.Bytes.{is_comment}
use Rattle.toml_text.specs.Forms.{IsComment}
use Rattle.toml_text.specs.Runs.{run_len, comment_len}
use Rattle.toml_text.proofs.Runs.{LongestFront, run_len-le, run_each, run_most}

pub comment_len-le : (bs : List ℕ) → comment_len bs ≤ length bs
comment_len-le [] = omega arith
comment_len-le (b ∷ bs) = elim (eqb b 0x23) as (λ t. cond t (run_len is_comment bs + 1) 0 ≤ suc (length bs)) [ true ↦ omega (arith, run_len-le is_comment bs) | false ↦ omega arith ]

pub comment_piece : (bs : List ℕ) → 0 < comment_len bs → IsComment (take (comment_len bs) bs)
comment_piece [] h = absurd (omega arith)
comment_piece (b ∷ bs) h = elim (eqb b 0x23) as (λ t. eqb b 0x23 ≡ t → 0 < cond t (run_len is_comment bs + 1) 0 → IsComment (take (cond t (run_len is_comment bs + 1) 0) (b ∷ bs))) [
  | true ↦ λ e h. rw add-one (eqb-true b 0x23 e, run_each is_comment bs)
  | false ↦ λ e h. absurd (omega arith)
] refl h

-- a front that is a comment is no longer than the longest
comment_front : (bs : List ℕ) (m : ℕ) → m ≤ length bs → IsComment (take m bs) → (m ≤ comment_len bs) × (0 < comment_len bs)
comment_front bs zero h c = absurd c
comment_front [] (suc m) h c = absurd c
comment_front (b ∷ bs) (suc m) h c =
    let first : cond (eqb b 0x23) (run_len is_comment bs + 1) 0 ≡ run_len is_comment bs + 1 = cond-true _ _ _ (eq-eqb b 0x23 c.0) in
    let most : m ≤ run_len is_comment bs = run_most is_comment bs m (omega arith) c.1 in
    (omega arith, omega arith)

pub comment_longest : (bs : List ℕ) → 0 < comment_len bs → LongestFront IsComment bs (comment_len bs)
comment_longest bs some = record {
  within = comment_len-le bs;
  piece = comment_piece bs some;
  longest = λ m after within comment. absurd (omega (arith, comment_front bs m within comment));
}

pub comment_none : (bs : List ℕ) → comment_len bs ≡ 0 → (m : ℕ) → m ≤ length bs → ¬ IsComment (take m bs)
comment_none bs none m within comment = absurd (omega (arith, comment_front bs m within comment))
