-- Runs of bytes that pass a test, and where the longest piece of a form ends.
use Rattle.std.proofs.Common.{◌≡◌, ℕ, zero, suc, ◌+◌, ◌-◌, ◌<◌, ◌≤◌, Bool, true, false, cond, List, [], ◌∷◌, length, get_or, take, drop, ◌⊎◌, sym, refl, subst, arith, add-one, length-drop, ⊎_elim, inl, inr}
use Rattle.std.proofs.lemmas.Bool.{cond-true}
use Rattle.toml_text.specs.Forms.{Each}
use Rattle.toml_text.specs.Laws.{RunIsLongest, RunStops}
use Rattle.toml_text.specs.Longest.{IsLongest, BeginsNone}
use Rattle.toml_text.specs.Runs.{run_len}

-- the longest piece of the form at the front has `n` bytes
pub record LongestFront (Form : List ℕ → Type 0) (bs : List ℕ) (n : ℕ) : Type 0 where
  pub within : n ≤ length bs
  pub piece : Form (take n bs)
  pub longest : (m : ℕ) → n < m → m ≤ length bs → ¬ Form (take m bs)

pub longest_at : (Form : List ℕ → Type 0) (text : List ℕ) (at n : ℕ) → at ≤ length text → LongestFront Form (drop at text) n → IsLongest Form text at (at + n)
longest_at Form text at n low front =
    let rest : length (drop at text) ≡ length text - at = length-drop at text in
    let count : at + n - at ≡ n = omega arith in
    record {
      from = omega arith;
      within = omega (arith, front.within);
      piece = rw count front.piece;
      longest = λ later after high. front.longest (later - at) (omega arith) (omega arith);
    }

pub none_at : (Form : List ℕ → Type 0) (text : List ℕ) (at : ℕ) → at ≤ length text → ((m : ℕ) → m ≤ length (drop at text) → ¬ Form (take m (drop at text))) → BeginsNone Form text at
none_at Form text at low none end from within =
    let rest : length (drop at text) ≡ length text - at = length-drop at text in
    none (end - at) (omega arith)

pub run_len-le : (p : ℕ → Bool) (bs : List ℕ) → run_len p bs ≤ length bs
run_len-le p [] = omega arith
run_len-le p (b ∷ bs) = elim (p b) as (λ t. cond t (run_len p bs + 1) 0 ≤ suc (length bs)) [ true ↦ omega (arith, run_len-le p bs) | false ↦ omega arith ]

pub run_each : (p : ℕ → Bool) (bs : List ℕ) → Each p (take (run_len p bs) bs)
run_each p [] = tt
run_each p (b ∷ bs) = elim (p b) as (λ t. p b ≡ t → Each p (take (cond t (run_len p bs + 1) 0) (b ∷ bs))) [
  | true ↦ λ e. rw add-one (e, run_each p bs)
  | false ↦ λ e. tt
] refl

pub run_most : RunIsLongest
run_most p bs zero h e = omega arith
run_most p [] (suc m) h e = absurd (omega arith)
run_most p (b ∷ bs) (suc m) h e =
    let first : cond (p b) (run_len p bs + 1) 0 ≡ run_len p bs + 1 = cond-true _ _ _ e.0 in
    omega (arith, first, run_most p bs m (omega arith) e.1)

pub run_longest : (p : ℕ → Bool) (bs : List ℕ) → LongestFront (Each p) bs (run_len p bs)
run_longest p bs = record {
  within = run_len-le p bs;
  piece = run_each p bs;
  longest = λ m after within each. absurd (omega (arith, run_most p bs m within each));
}

cond_pos : (t : Bool) (r i : ℕ) → i < cond t (r + 1) 0 → (t ≡ true) × (i < r + 1)
cond_pos true r i h = (refl, h)
cond_pos false r i h = absurd (omega arith)

-- each byte of a run passes
pub run_passes : (p : ℕ → Bool) (bs : List ℕ) (i : ℕ) → i < run_len p bs → p (get_or bs i 0) ≡ true
run_passes p [] i h = absurd (omega arith)
run_passes p (b ∷ bs) zero h = (cond_pos (p b) (run_len p bs) zero h).0
run_passes p (b ∷ bs) (suc i) h = let k = cond_pos (p b) (run_len p bs) (suc i) h in run_passes p bs i (omega (arith, k.1))

cond_stop : (t : Bool) (r n : ℕ) → cond t (r + 1) 0 < suc n → (t ≡ false) ⊎ ((t ≡ true) × (r < n))
cond_stop true r n h = inr (refl, omega arith)
cond_stop false r n h = inl refl

pub run_stop : RunStops
run_stop p [] h = absurd (omega arith)
run_stop p (b ∷ bs) h = ⊎_elim
    (λ (f : p b ≡ false). subst (λ t. p (get_or (b ∷ bs) (cond t (run_len p bs + 1) 0) 0) ≡ false) (sym f) f)
    (λ (k : (p b ≡ true) × (run_len p bs < length bs)). subst (λ t. p (get_or (b ∷ bs) (cond t (run_len p bs + 1) 0) 0) ≡ false) (sym k.0) (rw add-one (run_stop p bs k.1)))
    (cond_stop (p b) (run_len p bs) (length bs) h)
