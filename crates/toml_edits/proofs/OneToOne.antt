-- No two elements stand at one index behind edits.
use Rattle.std.proofs.Common.{◌≡◌, ◌⊎◌, inl, inr, ℕ, ◌+◌, ◌-◌, ◌<◌, ◌≤◌, ◌^◌, List, [], ◌∷◌, Option, Some, None, Bool, true, false, cond, refl, sym, ap, ◌∙◌, arith}
use Rattle.std.proofs.lemmas.Option.{same_Some, none-some}
use Rattle.std.specs.Bool.{nat_lt}
use Rattle.toml_edits.specs.Runs.{fit, further, index_in, lost_in, rest_of, without, with_lost, AreApart}
use Rattle.toml_edits.specs.declared.shifts.Run.{Run}
use Rattle.toml_edits.proofs.Indices.{at_run, past_run, further_on, below_or_not, nowhere_on, without_low, lost_low, lost_here}

-- a number of 64 bits is itself
fit_some : (n f : ℕ) → fit n ≡ Some f → n ≡ f
fit_some n f = by (nat_lt n (2 ^ 64))
  where
    by : (b : Bool) → cond b (Some n) None ≡ Some f → n ≡ f
    by true e = same_Some n f e
    by false e = absurd (none-some f e)

fit_on : (n m f : ℕ) → further (fit n) m ≡ Some f → n + m ≡ f
fit_on n m f = by (nat_lt n (2 ^ 64))
  where
    by : (b : Bool) → further (cond b (Some n) None) m ≡ Some f → n + m ≡ f
    by true e = fit_some (n + m) f e
    by false e = absurd (none-some f e)

-- where an element stands that was behind an inserted one
without_back : (i : ℕ) (rs : List Run) (j f : ℕ) → i ≤ j → index_in (without i rs) j ≡ Some f → index_in rs (j + 1) ≡ Some f
without_back i [] j f h e =
    let g : further (fit (i + 1)) (j - i) ≡ Some f = sym (at_run (record { start = i; to = fit (i + 1) }) [] j h) ∙ e in
    let k : i + 1 + (j - i) ≡ j + 1 = omega (arith, h) in
    ap Some (sym k ∙ fit_on (i + 1) (j - i) f g)
without_back i (r ∷ rs) j f h e = below_or_not i r.start (front (without_back i rs j f h)) here
  where
    pick : Bool → List Run
    pick b = cond b (record { start = r.start - 1; to = r.to } ∷ without i rs) (record { start = i; to = further r.to (i - r.start + 1) } ∷ rest_of i r rs)

    front : (index_in (without i rs) j ≡ Some f → index_in rs (j + 1) ≡ Some f) → i < r.start → nat_lt i r.start ≡ true → index_in (r ∷ rs) (j + 1) ≡ Some f
    front next l x = below_or_not j (r.start - 1)
        (λ less y. past_run r rs (j + 1) (omega (arith, l, less)) ∙ next (sym (past_run (record { start = r.start - 1; to = r.to }) (without i rs) j less) ∙ sym (ap (λ (b : Bool). index_in (pick b) j) x) ∙ e))
        (λ more y. at_run r rs (j + 1) (omega (arith, l, more)) ∙ (let d : j + 1 - r.start ≡ j - (r.start - 1) = omega (arith, l, more) in ap (further r.to) d) ∙ sym (at_run (record { start = r.start - 1; to = r.to }) (without i rs) j more) ∙ sym (ap (λ (b : Bool). index_in (pick b) j) x) ∙ e)

    here : r.start ≤ i → nat_lt i r.start ≡ false → index_in (r ∷ rs) (j + 1) ≡ Some f
    here l x =
        at_run r rs (j + 1) (omega (arith, l, h)) ∙ sym (further_on r.to (i - r.start + 1) (j - i) (j + 1 - r.start) (omega (arith, l, h)))
        ∙ sym (at_run (record { start = i; to = further r.to (i - r.start + 1) }) (rest_of i r rs) j h) ∙ sym (ap (λ (b : Bool). index_in (pick b) j) x) ∙ e

lost_back : (i : ℕ) (rs : List Run) (j f : ℕ) → i < j → index_in (with_lost i rs) j ≡ Some f → index_in rs (j - 1) ≡ Some f
lost_back i [] j f h e =
    let k : i + (j - (i + 1)) ≡ j - 1 = omega (arith, h) in
    ap Some (sym k ∙ fit_some (i + (j - (i + 1))) f (sym (at_run (record { start = i + 1; to = Some i }) (record { start = i; to = None } ∷ []) j (omega (arith, h))) ∙ e))
lost_back i (r ∷ rs) j f h e = below_or_not i r.start (front (lost_back i rs j f h)) here
  where
    pick : Bool → List Run
    pick b = cond b (record { start = r.start + 1; to = r.to } ∷ with_lost i rs) (lost_in i r rs r.to)

    front : (index_in (with_lost i rs) j ≡ Some f → index_in rs (j - 1) ≡ Some f) → i < r.start → nat_lt i r.start ≡ true → index_in (r ∷ rs) (j - 1) ≡ Some f
    front next l x = below_or_not j (r.start + 1)
        (λ less y. past_run r rs (j - 1) (omega (arith, h, less)) ∙ next (sym (past_run (record { start = r.start + 1; to = r.to }) (with_lost i rs) j less) ∙ sym (ap (λ (b : Bool). index_in (pick b) j) x) ∙ e))
        (λ more y. at_run r rs (j - 1) (omega (arith, more)) ∙ (let d : j - 1 - r.start ≡ j - (r.start + 1) = omega (arith, more) in ap (further r.to) d) ∙ sym (at_run (record { start = r.start + 1; to = r.to }) (with_lost i rs) j more) ∙ sym (ap (λ (b : Bool). index_in (pick b) j) x) ∙ e)

    here : r.start ≤ i → nat_lt i r.start ≡ false → index_in (r ∷ rs) (j - 1) ≡ Some f
    here l x = by r.to refl (sym (ap (λ (b : Bool). index_in (pick b) j) x) ∙ e)
      where
        by : (o : Option ℕ) → r.to ≡ o → index_in (lost_in i r rs o) j ≡ Some f → index_in (r ∷ rs) (j - 1) ≡ Some f
        by None is y = absurd (none-some f (sym (nowhere_on r rs j is (omega (arith, l, h))) ∙ y))
        by (Some t) is y =
            at_run r rs (j - 1) (omega (arith, l, h)) ∙ ap (λ (o : Option ℕ). further o (j - 1 - r.start)) is ∙ sym (further_on (Some t) (i - r.start) (j - (i + 1)) (j - 1 - r.start) (omega (arith, l, h)))
            ∙ sym (at_run (record { start = i + 1; to = further (Some t) (i - r.start) }) (record { start = i; to = None } ∷ rest_of i r rs) j (omega (arith, h))) ∙ y

pub without_apart : (i : ℕ) (rs : List Run) → AreApart rs → AreApart (without i rs)
without_apart i rs apart j k f e g = below_or_not j i
    (λ jl x. below_or_not k i
    (λ kl y. apart j k f (sym (without_low i rs j jl) ∙ e) (sym (without_low i rs k kl) ∙ g))
    (λ kh y. let s : j ≡ k + 1 = apart j (k + 1) f (sym (without_low i rs j jl) ∙ e) (without_back i rs k f kh g) in absurd (omega (arith, jl, kh, s))))
    (λ jh x. below_or_not k i
    (λ kl y. let s : j + 1 ≡ k = apart (j + 1) k f (without_back i rs j f jh e) (sym (without_low i rs k kl) ∙ g) in absurd (omega (arith, jh, kl, s)))
    (λ kh y. let s : j + 1 ≡ k + 1 = apart (j + 1) (k + 1) f (without_back i rs j f jh e) (without_back i rs k f kh g) in omega (arith, s)))

-- an element that stands somewhere is not the lost one
sides : (i : ℕ) (rs : List Run) (j f : ℕ) → index_in (with_lost i rs) j ≡ Some f → (j < i) ⊎ (i < j)
sides i rs j f e = below_or_not j i (λ l x. inl l) (λ h x. below_or_not i j (λ l y. inr l) (λ l y. absurd (let s : j ≡ i = omega (arith, h, l) in none-some f (sym (lost_here i rs) ∙ ap (index_in (with_lost i rs)) (sym s) ∙ e))))

pub lost_apart : (i : ℕ) (rs : List Run) → AreApart rs → AreApart (with_lost i rs)
lost_apart i rs apart j k f e g = by (sides i rs j f e) (sides i rs k f g)
  where
    by : (j < i) ⊎ (i < j) → (k < i) ⊎ (i < k) → j ≡ k
    by (inl a) (inl b) = apart j k f (sym (lost_low i rs j a) ∙ e) (sym (lost_low i rs k b) ∙ g)
    by (inl a) (inr b) = let s : j ≡ k - 1 = apart j (k - 1) f (sym (lost_low i rs j a) ∙ e) (lost_back i rs k f b g) in absurd (omega (arith, a, b, s))
    by (inr a) (inl b) = let s : j - 1 ≡ k = apart (j - 1) k f (lost_back i rs j f a e) (sym (lost_low i rs k b) ∙ g) in absurd (omega (arith, a, b, s))
    by (inr a) (inr b) = let s : j - 1 ≡ k - 1 = apart (j - 1) (k - 1) f (lost_back i rs j f a e) (lost_back i rs k f b g) in omega (arith, a, b, s)
