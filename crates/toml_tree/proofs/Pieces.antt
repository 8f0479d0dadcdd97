-- What a scan found, as what the plain reader takes.
use Rattle.std.proofs.Common.{◌≡◌, ℕ, ◌+◌, ◌-◌, ◌<◌, Bool, Some, None, ap, ◌∙◌, sym, arith, eqb}
use Rattle.std.proofs.lemmas.Bool.{ne_eqb, cond-true, cond-false}
use Rattle.toml_text.specs.Runs.{run_len, comment_len}
use Rattle.toml_tree.specs.Reading.{Cursor, here, ahead, run_at, comment_at}

-- a run that ends at `end`
pub run_here : (p : ℕ → Bool) (c : Cursor) (end : ℕ) → end ≡ c.at + run_len p c.rest → here (end - c.at) c ≡ (run_at p c).0
unfolding run_at
run_here p c end is = ap (λ n. here n c) (let e : end - c.at ≡ run_len p c.rest = omega arith in e)

pub run_ahead : (p : ℕ → Bool) (c : Cursor) (end : ℕ) → end ≡ c.at + run_len p c.rest → ahead (end - c.at) c ≡ (run_at p c).1
unfolding run_at
run_ahead p c end is = ap (λ n. ahead n c) (let e : end - c.at ≡ run_len p c.rest = omega arith in e)

pub comment_here : (c : Cursor) (end : ℕ) → 0 < comment_len c.rest → end ≡ c.at + comment_len c.rest → comment_at c ≡ (Some (here (end - c.at) c), ahead (end - c.at) c)
unfolding comment_at
comment_here c end some is =
    let n : end - c.at ≡ comment_len c.rest = omega arith in
    cond-false _ _ _ (ne_eqb (comment_len c.rest) 0 (λ z. omega arith)) ∙ ap (λ n. (Some (here n c), ahead n c)) (sym n)

pub comment_absent : (c : Cursor) → comment_len c.rest ≡ 0 → comment_at c ≡ (None, c)
unfolding comment_at
comment_absent c none = cond-true _ _ _ (ap (λ n. eqb n 0) none)
