use Rattle.std.proofs.Common.{◌≡◌, ◌+◌, ◌≤◌, ℕ, [], List, Bor, bytes_eq, cond, get_or, take, ap, ◌∙◌, refl, arith}
use Rattle.std.proofs.lemmas.Slice.Eq.{bytes_eq-Decides}
use Rattle.toml_checker.specs.Counts.{seen, count_of}
use Rattle.toml_checker.proofs.Counts.{seen-take, seen_within, moved_on, none_left, all_seen}
use Rattle.toml_checker.proofs.counting.no_more.Goals as goal

pub returns-then-not-take_one : goal.returns-then-not-take_one
returns-then-not-take_one c = (
  λ h. cc,
  λ f.
      let i = c.loop-text.text-index in
      let x : Bor (List ℕ) = get_or c.args.used.now i (record { ref_ptr = (0, 0); now = [] }) in
      let none = c.if-not-take_one.ensures.had in
      let here : seen x.now (take (i + 1) c.args.used.now) ≡ seen x.now (take i c.args.used.now) + 1 =
      seen-take c.args.used.now i (record { ref_ptr = (0, 0); now = [] }) x.now c.loop-text-test.true ∙ ap (λ b. cond b (seen x.now (take i c.args.used.now) + 1) (seen x.now (take i c.args.used.now))) ((bytes_eq-Decides x.now x.now).1 refl) in
      let within = seen_within c.args.used.now (i + 1) x.now in
      let inv = c.loop-text.invariant x.now in
      let most = f x.now in
      let zero : count_of c.loop-text.left x.now ≤ 0 = none_left _ none.1 in
      absurd (omega arith),
)

pub loop-text-preserved : goal.loop-text-preserved
loop-text-preserved c = λ t.
    let i = c.loop-text.text-index in
    ap (λ n. count_of c.take_one.new.counts t + n) (seen-take c.args.used.now i (record { ref_ptr = (0, 0); now = [] }) t c.loop-text-test.true)
    ∙ moved_on (bytes_eq (get_or c.args.used.now i (record { ref_ptr = (0, 0); now = [] })).now t) (count_of c.loop-text.left t) (count_of c.take_one.new.counts t) (seen t (take i c.args.used.now)) (seen t c.args.allowed.now) (c.if-not-take_one.ensures.left refl t) (c.loop-text.invariant t)

pub returns : goal.returns
returns c = (λ h t. let inv = c.loop-text.invariant t in let all = all_seen c.args.used.now c.loop-text.text-index t c.loop-text-test.false c.loop-text.auto.text-index-end in omega arith, λ f. refl)
